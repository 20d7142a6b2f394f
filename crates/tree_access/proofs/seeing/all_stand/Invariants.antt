use Rattle.std.proofs.Common.{◌≡◌, true, Some}
use Rattle.std.specs.FinMap as map
use Rattle.tree_access.specs.Keys.{selects}
use Rattle.tree_access.proofs.Parts.{AreChecked}
use Rattle.tree_access.proofs.seeing.all_stand.Given as goal

abbrev pub invariant-loop-path : goal.invariant-loop-path
invariant-loop-path l = AreChecked (λ x. selects l.key x.0 x.1 ≡ true → map.get l.other x.0 ≡ Some x.1) l.path-iterator l.initial.path-iterator
