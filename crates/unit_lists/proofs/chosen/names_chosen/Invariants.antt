use Rattle.std.proofs.Common.{◌≡◌, ◌++◌, drop}
use Rattle.unit_lists.specs.Chosen.{names_chosen}
use Rattle.unit_lists.proofs.chosen.names_chosen.Given as goal

-- the names so far, and those of what is left
abbrev pub invariant-loop-one : goal.invariant-loop-one
invariant-loop-one l = l.names ++ names_chosen (drop l.one-index l.listed) ≡ names_chosen l.listed
