use Rattle.std.proofs.Common.{◌≡◌, ◌++◌, drop, map}
use Rattle.std.specs.List.{list_all}
use Rattle.unit_paths.specs.Paths.{is_path}
use Rattle.unit_script.proofs.words.paths_of.Given as goal

-- the paths so far; the rest decides the result
abbrev pub invariant-loop-word : goal.invariant-loop-word
invariant-loop-word l =
    (l.paths ++ map (λ word. word.now) (drop l.word-index l.words) ≡ map (λ word. word.now) l.words)
    × (list_all is_path (map (λ word. word.now) (drop l.word-index l.words)) ≡ list_all is_path (map (λ word. word.now) l.words))
