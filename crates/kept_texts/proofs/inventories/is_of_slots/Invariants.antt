use Rattle.std.proofs.Common.{◌≡◌, true}
use Rattle.unit_paths.specs.Slots.{is_slot}
use Rattle.tree_steps.proofs.Alike.{AreChecked}
use Rattle.kept_texts.proofs.inventories.is_of_slots.Given as goal

abbrev pub invariant-loop-path : goal.invariant-loop-path
invariant-loop-path l = AreChecked (λ x. is_slot x.0 ≡ true) l.path-iterator l.initial.path-iterator
