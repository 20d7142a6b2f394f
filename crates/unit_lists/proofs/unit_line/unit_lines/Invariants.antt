use Rattle.std.proofs.Common.{◌≡◌, ◌++◌, drop, map}
use Rattle.unit_lists.specs.UnitLines.{line_by}
use Rattle.unit_lists.proofs.unit_line.unit_lines.Given as goal

-- the lines so far, and those of the names that are left
abbrev pub invariant-loop-name : goal.invariant-loop-name
invariant-loop-name l = l.lines.items ++ map (line_by l.tree l.policy.rules) (drop l.name-index l.names) ≡ map (line_by l.tree l.policy.rules) l.names
