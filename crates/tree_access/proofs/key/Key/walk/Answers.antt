use Rattle.std.proofs.Common.{sym, ◌∙◌, ap}
use Rattle.tree_access.specs.Keys.{selects}
use Rattle.tree_access.proofs.Those.{gathered}
use Rattle.tree_access.proofs.Parts.{gathered_part, selected_slot}
use Rattle.tree_access.proofs.key.Key.walk.Goals as goal

pub share_in-requires : goal.share_in-requires
share_in-requires c =
    let key = c.args.self.now in
    let placed = c.in-Some.placed.now in
    selected_slot key placed.0 placed.1 c.requires
    (ap (selects key placed.0) (sym c.entry.ensures) ∙ ap (λ path. selects key path c.entry.result.now) (sym c.path.ensures) ∙ sym c.selects.ensures ∙ c.if-selects.true)

pub returns : goal.returns
returns c =
    ap (gathered (selects c.args.self.now) c.loop-placed.found) (sym c.in_default.ensures.0) ∙ c.loop-placed.invariant
    ∙ gathered_part c.args.self.now c.args.entries.now c.iter-left.result c.iter-left.ensures.entries
