use Rattle.std.proofs.Common.{◌≡◌, ◌++◌, ◌+◌, drop, map}
use Rattle.root_runs.specs.BadLines.{bad_lines_from}
use Rattle.root_runs.proofs.line_faults.push_bad.Given as goal

-- those so far, and those that are left
abbrev pub invariant-loop-line : goal.invariant-loop-line
invariant-loop-line l = (l.number ≡ 1 + l.line-index) × (l.bad.items ++ bad_lines_from l.number (map (λ line. line.now) (drop l.line-index l.lines)) ≡ l.fn.bad.items ++ bad_lines_from 1 (map (λ line. line.now) l.lines))
