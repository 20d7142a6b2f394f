use Rattle.std.proofs.Common.{◌≡◌, true}
use Rattle.tree_access.specs.Keys.{selects}
use Rattle.tree_access.proofs.Parts.{AreChecked}
use Rattle.tree_access.proofs.seeing.all_selected.Given as goal

-- the remaining entries are among all, and the others were selected
abbrev pub invariant-loop-path : goal.invariant-loop-path
invariant-loop-path l = AreChecked (λ x. selects l.key x.0 x.1 ≡ true) l.path-iterator l.initial.path-iterator
