use Rattle.std.proofs.Common.{◌≡◌, ◌++◌, drop, map}
use Rattle.std.specs.List.{filter}
use Rattle.root_runs.specs.Script.{is_linked}
use Rattle.root_runs.proofs.script.linked.Given as goal

-- what is there so far, and what is left
abbrev pub invariant-loop-word : goal.invariant-loop-word
invariant-loop-word l = map (λ path. path.now) l.paths.items ++ filter is_linked (map (λ word. word.now) (drop l.word-index l.words)) ≡ filter is_linked (map (λ word. word.now) l.words)
