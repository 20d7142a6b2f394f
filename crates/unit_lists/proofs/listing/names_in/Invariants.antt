use Rattle.std.proofs.Common.{◌≡◌, ◌++◌}
use Rattle.unit_lists.specs.UnitFiles.{names_of}
use Rattle.unit_lists.proofs.listing.names_in.Given as goal

-- the names so far, and those of the texts that are left
abbrev pub invariant-loop-text : goal.invariant-loop-text
invariant-loop-text l = l.names ++ names_of l.text-iterator ≡ names_of l.initial.text-iterator
