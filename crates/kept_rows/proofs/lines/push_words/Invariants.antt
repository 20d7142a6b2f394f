use Rattle.std.proofs.Common.{◌≡◌, ◌++◌, drop, map}
use Rattle.std.specs.List.{flat_map}
use Rattle.kept_rows.specs.Lines.{spaced}
use Rattle.kept_rows.proofs.lines.push_words.Given as goal

-- the line so far, and the words that are left
abbrev pub invariant-loop-word : goal.invariant-loop-word
invariant-loop-word l = l.line.items ++ flat_map spaced (map (λ word. word.now) (drop l.word-index l.words)) ≡ l.fn.line.items ++ flat_map spaced (map (λ word. word.now) l.words)
