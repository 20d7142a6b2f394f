use Rattle.std.proofs.Common.{◌≡◌, ◌++◌, drop}
use Rattle.root_runs.specs.Names.{escaped_word}
use Rattle.root_runs.proofs.names.push_escaped.Given as goal

-- the text so far, and that of what is left
abbrev pub invariant-loop-b : goal.invariant-loop-b
invariant-loop-b l = l.out.items ++ escaped_word (drop l.b-index l.word) ≡ l.fn.out.items ++ escaped_word l.word
