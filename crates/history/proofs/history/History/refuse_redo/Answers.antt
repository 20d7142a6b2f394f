use Rattle.std.proofs.Common.{◌≡◌, ◌<◌, Some, length, refl, subst, sym}
use Rattle.history.specs.Logs.{Log}
use Rattle.history.specs.Rows.{redo_refusal, row_of_redo}
use Rattle.history.specs.declared.row.RowReply.TheVariants.{RedoRefused}
use Rattle.history.proofs.Links.{linked_push}
use Rattle.history.proofs.Kept.{kept-refuse_redo}
use Rattle.history.proofs.Indexed.{agrees_redo}
use Rattle.history.proofs.history.History.refuse_redo.Goals as goal

pub invariant_of-self-2 : goal.invariant_of-self-2
invariant_of-self-2 g c =
    let rows = c.self.inside.rows.items in
    let room : length rows < c.self.inside.limit = subst (λ (v : Log g.row.O.Denot). length v.rows < v.limit) (sym c.self.view_is) c.requires.room in
    let why = subst (λ (v : Log g.row.O.Denot). redo_refusal g.O.Operation.asks v.rows c.args.n ≡ Some c.args.refusal) (sym c.self.view_is) c.requires.why in (
      rw (c.push_reserved.ensures.items, c.in_ok-reserve.ensures.rows, c.bare-row.ensures)
          (kept-refuse_redo c.args.operator c.self.inside.first c.self.inside.tree rows c.self.inside.limit c.args.n c.args.refusal room why c.self.invariant.0),
      rw (c.push_reserved.ensures.items, c.in_ok-reserve.ensures.rows, c.bare-row.ensures)
          (agrees_redo g.O.Operation.asks c.self.inside.readers rows c.args.operator c.args.n (RedoRefused c.args.refusal) c.self.invariant.1),
      rw (c.push_reserved-2.ensures.items, c.in_ok-reserve.ensures.links, c.push_reserved.ensures.items, c.in_ok-reserve.ensures.rows, c.bare-row.ensures)
          (linked_push c.self.inside.links.items rows (row_of_redo c.args.operator c.args.n (RedoRefused c.args.refusal)) refl c.self.invariant.2),
    )
