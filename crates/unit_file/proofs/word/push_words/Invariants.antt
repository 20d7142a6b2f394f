use Rattle.std.proofs.Common.{◌≡◌, not, ◌++◌, map}
use Rattle.std.specs.List.{filter}
use Rattle.unit_file.specs.Install.{is_empty}
use Rattle.unit_file.proofs.word.push_words.Given as goal

-- the words among the parts so far
abbrev pub invariant-loop-word : goal.invariant-loop-word
invariant-loop-word l = l.items.items ≡ l.fn.items.items ++ filter (λ word. not (is_empty word)) (map (λ part. part.now) l.yielded)
