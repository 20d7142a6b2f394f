use Rattle.std.proofs.Common.{◌≡◌, ◌++◌, drop, map}
use Rattle.root_runs.proofs.calls.call_of.Given as goal

-- what is there so far, and what is left
abbrev pub invariant-loop-word : goal.invariant-loop-word
invariant-loop-word l = map (λ text. text.now) l.texts.items ++ drop l.word-index l.word-items ≡ l.words
