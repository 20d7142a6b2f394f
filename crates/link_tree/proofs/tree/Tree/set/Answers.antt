use Rattle.std.proofs.Common.{◌≡◌, true, ap, ◌∙◌}
use Rattle.unit_paths.specs.Slots.{is_slot}
use Rattle.link_tree.proofs.Shapes.{fits_from}
use Rattle.unit_paths.proofs.Slots.{slot_shape}
use Rattle.link_tree.proofs.Free.{slot_free}
use Rattle.link_tree.proofs.tree.Tree.set.Goals as goal

pub insert-requires-clause-fits : goal.insert-requires-clause-fits
insert-requires-clause-fits c =
    let slot : is_slot c.in_ok-path-in-Some.path ≡ true = ap is_slot c.in_ok-path-in-Some.ensures ∙ c.requires in
    fits_from c.in_ok-path-in-Some.path c.in-Some.entry c.text-path.ensures.path c.bytes-valid.ensures.entry (slot_shape c.in_ok-path-in-Some.path slot)

pub insert-requires-clause-apart : goal.insert-requires-clause-apart
insert-requires-clause-apart c = slot_free c.args.self.now c.in_ok-path-in-Some.path c.shape.ensures (ap is_slot c.in_ok-path-in-Some.ensures ∙ c.requires)
