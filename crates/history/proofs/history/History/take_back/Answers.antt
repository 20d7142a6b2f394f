use Rattle.std.proofs.Common.{◌≡◌, ◌+◌, ◌-◌, List, Some, [], ◌∷◌, ◌++◌, All, true, length, length-append, get_or, ap, ◌∙◌, arith}
use Rattle.unit_paths.specs.Slots.{is_slot}
use Rattle.link_tree.specs.declared.change.Change.{Change}
use Rattle.link_tree.proofs.Changed.{inverse_slots}
use Rattle.history.specs.declared.row.Row.{Row}
use Rattle.history.specs.declared.row.RowReply.TheVariants.{Undid}
use Rattle.history.specs.Logs.{Log}
use Rattle.history.specs.Rows.{row_at, row_of_undo, undone}
use Rattle.history.proofs.Kept.{row_at_read, undo_seen, marked_read}
use Rattle.history.proofs.Indexed.{agrees_undo, agrees_undone}
use Rattle.history.proofs.Links.{linked_undone}
use Rattle.history.proofs.history.History.take_back.Goals as goal

pub make_changes-requires-clause-slots : goal.make_changes-requires-clause-slots
make_changes-requires-clause-slots g c =
    let may = undo_seen g.met.O.Operation.laws c.args.operator _ _ _ _ _ _ _ c.self.view_is c.requires.room c.requires.free c.self.invariant.0 c.index.ensures in
    let slots : All (λ (change : Change). is_slot change.path ≡ true) c.as_slice.result.now = rw (c.as_slice.ensures, c.in_ok-back.ensures) (inverse_slots _ may.2.slots) in
    slots

pub make_changes-requires-clause-from : goal.make_changes-requires-clause-from
make_changes-requires-clause-from g c =
    let may = undo_seen g.met.O.Operation.laws c.args.operator _ _ _ _ _ _ _ c.self.view_is c.requires.room c.requires.free c.self.invariant.0 c.index.ensures in
    rw (c.as_slice.ensures, c.in_ok-back.ensures) may.2.from

pub index-requires-2 : goal.index-requires-2
index-requires-2 g c =
    let may = undo_seen g.met.O.Operation.laws c.args.operator _ _ _ _ _ _ _ c.self.view_is c.requires.room c.requires.free c.self.invariant.0 c.index.ensures in
    omega (arith, may.0, may.1, ap length c.in_ok-reserve.ensures.rows, c.reserve.new.rows.ok.0)

pub index_mut-requires : goal.index_mut-requires
index_mut-requires g c =
    let rows = c.self.inside.rows.items in
    let may = undo_seen g.met.O.Operation.laws c.args.operator _ _ _ _ _ _ _ c.self.view_is c.requires.room c.requires.free c.self.invariant.0 c.index.ensures in
    omega (arith, may.0, may.1, ap length c.push_reserved.ensures.items, ap length c.in_ok-reserve.ensures.rows, length-append c.reserve.new.rows.items (c.bare-row.result ∷ []), c.push_reserved.new.self.ok.0)

pub relink-requires-clause-within : goal.relink-requires-clause-within
relink-requires-clause-within g c =
    let may = undo_seen g.met.O.Operation.laws c.args.operator _ _ _ _ _ _ _ c.self.view_is c.requires.room c.requires.free c.self.invariant.0 c.index.ensures in
    omega (arith, may.1, ap length c.in_ok-reserve.ensures.links, c.self.invariant.2.each)

pub invariant_of-self-2 : goal.invariant_of-self-2
invariant_of-self-2 g c =
    let rows = c.self.inside.rows.items in
    let may = undo_seen g.met.O.Operation.laws c.args.operator _ _ _ _ _ _ _ c.self.view_is c.requires.room c.requires.free c.self.invariant.0 c.index.ensures in
    let pushed = c.push_reserved.ensures.items ∙ (λ i. c.in_ok-reserve.ensures.rows i ++ c.bare-row.ensures i ∷ []) in
    let marked = marked_read rows c.push_reserved.new.self.items c.args.n c.index_mut.result.now (row_of_undo c.args.operator c.args.n (Undid c.args.n)) pushed may.0 may.1 c.index_mut.ensures.value c.len-by.result (c.len-by.ensures ∙ c.push_reserved.new.self.ok.0) in
    let asks = g.O.Operation.asks in
    let row = c.index-2.result.now in
    let here : row_at rows c.args.n ≡ Some row = row_at_read rows c.args.n row may.0 may.1 (c.index-2.ensures ∙ ap (λ (rs : List (Row g.row.O.Denot)). get_or rs (c.args.n - 1) row) c.in_ok-reserve.ensures.rows) in
    let gone = agrees_undone asks c.self.inside.readers c.remove.new.self rows c.args.n (length rows + 1) row here c.self.invariant.1 c.remove.ensures in (
      rw (c.in_ok-make_changes.ensures.ok, c.as_slice.ensures, c.in_ok-back.ensures) (rw marked may.2.kept),
      rw marked (agrees_undo asks c.remove.new.self (undone rows c.args.n (length rows + 1)) c.args.operator c.args.n (Undid c.args.n) gone),
      rw (c.relink.ensures, c.in_ok-reserve.ensures.links, marked)
          (linked_undone asks c.self.inside.links.items rows c.args.operator c.args.n c.len-by.result c.index.result.now (row_at_read rows c.args.n c.index.result.now may.0 may.1 c.index.ensures) may.2.stands
          (c.len-by.ensures ∙ c.push_reserved.new.self.ok.0 ∙ omega (arith, ap length pushed, length-append rows (row_of_undo c.args.operator c.args.n (Undid c.args.n) ∷ []))) c.self.invariant.2),
    )

pub returns-clause-rows : goal.returns-clause-rows
returns-clause-rows g c =
    let rows = c.self.inside.rows.items in
    let may = undo_seen g.met.O.Operation.laws c.args.operator _ _ _ _ _ _ _ c.self.view_is c.requires.room c.requires.free c.self.invariant.0 c.index.ensures in
    let pushed = c.push_reserved.ensures.items ∙ (λ i. c.in_ok-reserve.ensures.rows i ++ c.bare-row.ensures i ∷ []) in
    let marked = marked_read rows c.push_reserved.new.self.items c.args.n c.index_mut.result.now (row_of_undo c.args.operator c.args.n (Undid c.args.n)) pushed may.0 may.1 c.index_mut.ensures.value c.len-by.result (c.len-by.ensures ∙ c.push_reserved.new.self.ok.0) in
    rw (← ap (λ (v : Log g.row.O.Denot). v.rows) c.self.view_is) marked
