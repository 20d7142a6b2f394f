use Rattle.std.proofs.Common.{◌≡◌, Some}
use Rattle.std.specs.FinMap as map
use Rattle.tree_steps.proofs.Alike.{AreChecked}
use Rattle.tree_steps.proofs.same.all_stand_in.Given as goal

abbrev pub invariant-loop-path : goal.invariant-loop-path
invariant-loop-path l = AreChecked (λ x. map.get l.other x.0 ≡ Some x.1) l.path-iterator l.initial.path-iterator
