use Rattle.std.proofs.Common.{◌≡◌, ◌++◌, drop, map}
use Rattle.root_runs.specs.Script.{is_enabled_call}
use Rattle.root_runs.proofs.script.is_enabled_calls.Given as goal

-- what is there so far, and what is left
abbrev pub invariant-loop-word : goal.invariant-loop-word
invariant-loop-word l = l.calls.items ++ map is_enabled_call (map (λ word. word.now) (drop l.word-index l.words)) ≡ map is_enabled_call (map (λ word. word.now) l.words)
