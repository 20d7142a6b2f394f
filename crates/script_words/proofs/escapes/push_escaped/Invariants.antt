use Rattle.std.proofs.Common.{◌≡◌, ◌++◌, drop}
use Rattle.script_words.specs.Escapes.{spelled}
use Rattle.script_words.proofs.escapes.push_escaped.Given as goal

-- the text so far, and the bytes that are left
abbrev pub invariant-loop-b : goal.invariant-loop-b
invariant-loop-b l = l.text.items ++ spelled (drop l.b-index l.bytes) ≡ l.fn.text.items ++ spelled l.bytes
