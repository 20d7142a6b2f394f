use Rattle.std.proofs.Common.{◌≡◌, ◌++◌, drop}
use Rattle.unit_lists.specs.Chosen.{names_bare}
use Rattle.unit_lists.proofs.chosen.names_bare.Given as goal

-- the names so far, and those of what is left
abbrev pub invariant-loop-one : goal.invariant-loop-one
invariant-loop-one l = l.names ++ names_bare l.tree (drop l.one-index l.listed) ≡ names_bare l.tree l.listed
