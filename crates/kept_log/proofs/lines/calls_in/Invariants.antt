use Rattle.std.proofs.Common.{◌≡◌, ◌++◌, drop, map}
use Rattle.std.specs.List.{filter}
use Rattle.kept_texts.specs.Readings.{is_call}
use Rattle.kept_log.proofs.lines.calls_in.Given as goal

-- the calls so far, and those of the lines that are left
abbrev pub invariant-loop-line : goal.invariant-loop-line
invariant-loop-line l = map (λ line. line.now) l.calls.items ++ filter is_call (map (λ line. line.now) (drop l.line-index l.lines)) ≡ filter is_call (map (λ line. line.now) l.lines)
