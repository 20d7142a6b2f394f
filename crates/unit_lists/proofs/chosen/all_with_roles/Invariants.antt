use Rattle.std.proofs.Common.{◌≡◌, ◌++◌, drop}
use Rattle.unit_lists.specs.Chosen.{all_with_roles}
use Rattle.unit_lists.proofs.chosen.all_with_roles.Given as goal

-- the names so far, and those that are left
abbrev pub invariant-loop-name : goal.invariant-loop-name
invariant-loop-name l = l.listed.items ++ all_with_roles l.tree (drop l.name-index l.names) ≡ all_with_roles l.tree l.names
