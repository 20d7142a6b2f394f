use Rattle.std.proofs.Common.{◌≡◌, ◌++◌, drop}
use Rattle.unit_lists.specs.Modes.{names_by}
use Rattle.unit_lists.proofs.mode.names_by.Given as goal

-- those so far, and those of the names that are left
abbrev pub invariant-loop-name : goal.invariant-loop-name
invariant-loop-name l = l.these ++ names_by l.mode l.policy.rules (drop l.name-index l.names) ≡ names_by l.mode l.policy.rules l.names
