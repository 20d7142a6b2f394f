use Rattle.std.proofs.Common.{◌≡◌, ◌++◌, drop, map}
use Rattle.std.specs.List.{list_all}
use Rattle.unit_name.specs.Name.{is_unit_name}
use Rattle.unit_script.proofs.words.names_of.Given as goal

-- the names so far; the rest decides the result
abbrev pub invariant-loop-word : goal.invariant-loop-word
invariant-loop-word l =
    (l.units ++ map (λ word. word.now) (drop l.word-index l.words) ≡ map (λ word. word.now) l.words)
    × (list_all is_unit_name (map (λ word. word.now) (drop l.word-index l.words)) ≡ list_all is_unit_name (map (λ word. word.now) l.words))
