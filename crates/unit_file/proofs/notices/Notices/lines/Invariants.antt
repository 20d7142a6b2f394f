use Rattle.std.proofs.Common.{◌≡◌, ◌++◌}
use Rattle.std.specs.List.{concat}
use Rattle.unit_file.proofs.notices.Notices.lines.Given as goal

-- the lines so far and those that are left make up all of them
abbrev pub invariant-loop-line : goal.invariant-loop-line
invariant-loop-line l = l.out.items ++ concat l.line-iterator ≡ concat l.initial.line-iterator
