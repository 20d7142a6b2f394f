use Rattle.std.proofs.Common.{◌≡◌, ◌-◌, List, Some, [], ◌∷◌, ◌++◌, length, length-append, get_or, ap, ◌∙◌, arith}
use Rattle.history.specs.declared.row.Row.{Row}
use Rattle.history.specs.declared.row.RowReply.TheVariants.{Redid}
use Rattle.history.specs.Logs.{Log}
use Rattle.history.specs.Rows.{row_at, row_of_redo, redone}
use Rattle.history.proofs.Kept.{row_at_read, redo_seen, unmarked_read}
use Rattle.history.proofs.Indexed.{agrees_redo, agrees_redone}
use Rattle.history.proofs.Links.{linked_redone}
use Rattle.history.proofs.history.History.put_back.Goals as goal

pub make_again-requires-clause-from : goal.make_again-requires-clause-from
make_again-requires-clause-from g c =
    let row = c.index-again.result.now in
    let read = c.index-again.ensures ∙ ap (λ (rs : List (Row g.row.O.Denot)). get_or rs (c.args.n - 1) row) c.in_ok-reserve.ensures.rows in
    let may = redo_seen g.met.O.Operation.laws c.args.operator _ _ _ _ _ _ _ c.self.view_is c.requires.room c.requires.free c.self.invariant.0 read in
    rw c.as_slice.ensures may.2.from

pub index_mut-requires : goal.index_mut-requires
index_mut-requires g c =
    let row = c.index-again.result.now in
    let read = c.index-again.ensures ∙ ap (λ (rs : List (Row g.row.O.Denot)). get_or rs (c.args.n - 1) row) c.in_ok-reserve.ensures.rows in
    let may = redo_seen g.met.O.Operation.laws c.args.operator _ _ _ _ _ _ _ c.self.view_is c.requires.room c.requires.free c.self.invariant.0 read in
    omega (arith, may.0, may.1, ap length c.push_reserved.ensures.items, ap length c.in_ok-reserve.ensures.rows, length-append c.reserve.new.rows.items (c.bare-row.result ∷ []), c.push_reserved.new.self.ok.0)

pub relink-requires-clause-within : goal.relink-requires-clause-within
relink-requires-clause-within g c =
    let row = c.index-again.result.now in
    let read = c.index-again.ensures ∙ ap (λ (rs : List (Row g.row.O.Denot)). get_or rs (c.args.n - 1) row) c.in_ok-reserve.ensures.rows in
    let may = redo_seen g.met.O.Operation.laws c.args.operator _ _ _ _ _ _ _ c.self.view_is c.requires.room c.requires.free c.self.invariant.0 read in
    omega (arith, may.1, ap length c.in_ok-reserve.ensures.links, c.self.invariant.2.each)

pub invariant_of-self-2 : goal.invariant_of-self-2
invariant_of-self-2 g c =
    let asks = g.O.Operation.asks in
    let rows = c.self.inside.rows.items in
    let n = c.args.n in
    let row = c.index-again.result.now in
    let read = c.index-again.ensures ∙ ap (λ (rs : List (Row g.row.O.Denot)). get_or rs (n - 1) row) c.in_ok-reserve.ensures.rows in
    let may = redo_seen g.met.O.Operation.laws c.args.operator _ _ _ _ _ _ _ c.self.view_is c.requires.room c.requires.free c.self.invariant.0 read in
    let here : row_at rows n ≡ Some row = row_at_read rows n row may.0 may.1 read in
    let last = row_of_redo c.args.operator n (Redid n) in
    let pushed = c.push_reserved.ensures.items ∙ (λ i. c.in_ok-reserve.ensures.rows i ++ c.bare-row.ensures i ∷ []) in
    let unmarked = unmarked_read rows c.push_reserved.new.self.items n c.index_mut.result.now last pushed may.0 may.1 c.index_mut.ensures.value in
    let listed = agrees_redone asks c.self.inside.readers c.make_again.new.readers rows n may.2.by row may.2.command here may.2.undone may.2.is c.self.invariant.1 c.in_ok-make_again.ensures.listed in (
      rw (c.in_ok-make_again.ensures.after, c.as_slice.ensures) (rw unmarked may.2.kept),
      rw unmarked (agrees_redo asks c.make_again.new.readers (redone rows n) c.args.operator n (Redid n) listed),
      rw (c.relink.ensures, c.in_ok-reserve.ensures.links, unmarked)
          (linked_redone asks c.self.inside.links.items rows c.args.operator n c.len-by.result row may.2.command here may.2.is
          (c.len-by.ensures ∙ c.push_reserved.new.self.ok.0 ∙ omega (arith, ap length pushed, length-append rows (last ∷ []))) c.self.invariant.2),
    )

pub returns-clause-rows : goal.returns-clause-rows
returns-clause-rows g c =
    let rows = c.self.inside.rows.items in
    let n = c.args.n in
    let row = c.index-again.result.now in
    let read = c.index-again.ensures ∙ ap (λ (rs : List (Row g.row.O.Denot)). get_or rs (n - 1) row) c.in_ok-reserve.ensures.rows in
    let may = redo_seen g.met.O.Operation.laws c.args.operator _ _ _ _ _ _ _ c.self.view_is c.requires.room c.requires.free c.self.invariant.0 read in
    let last = row_of_redo c.args.operator n (Redid n) in
    let pushed = c.push_reserved.ensures.items ∙ (λ i. c.in_ok-reserve.ensures.rows i ++ c.bare-row.ensures i ∷ []) in
    let unmarked = unmarked_read rows c.push_reserved.new.self.items n c.index_mut.result.now last pushed may.0 may.1 c.index_mut.ensures.value in
    rw (← ap (λ (v : Log g.row.O.Denot). v.rows) c.self.view_is) unmarked
