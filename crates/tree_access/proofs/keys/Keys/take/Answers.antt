use Rattle.std.proofs.Common.{sym, ◌∙◌, ap}
use Rattle.tree_access.specs.Keys.{any_selects}
use Rattle.tree_access.proofs.LookedUp.{marked_no_cells}
use Rattle.tree_access.proofs.Parts.{any_selected_slot}
use Rattle.tree_access.proofs.keys.Keys.take.Goals as goal

pub share_in-requires : goal.share_in-requires
share_in-requires c =
    let keys = c.args.self.now in
    let placed = c.in-Some.placed.now in
    any_selected_slot keys placed.0 placed.1 (marked_no_cells keys c.requires)
    (ap (any_selects keys placed.0) (sym c.entry.ensures) ∙ ap (λ path. any_selects keys path c.entry.result.now) (sym c.path.ensures) ∙ sym c.any_selects.ensures ∙ c.if-any_selects.true)
