use Rattle.std.proofs.Common.{◌≡◌, drop}
use Rattle.root_runs.specs.Script.{calls_after, calls_of}
use Rattle.root_runs.proofs.calls.calls_of.Given as goal

-- what is read so far, and then the rest, is the whole
abbrev pub invariant-loop-place : goal.invariant-loop-place
invariant-loop-place l = calls_after l.calls.items l.place l.operator (drop l.place l.script) ≡ calls_of l.operator l.script
