use Rattle.std.proofs.Common.{◌≡◌, ◌++◌, drop, map}
use Rattle.root_runs.specs.Script.{formed}
use Rattle.root_runs.proofs.script.push_formed.Given as goal

-- what is there so far, and what is left
abbrev pub invariant-loop-word : goal.invariant-loop-word
invariant-loop-word l = l.call ++ map (formed l.form) (map (λ word. word.now) (drop l.word-index l.words)) ≡ l.fn.call ++ map (formed l.form) (map (λ word. word.now) l.words)
