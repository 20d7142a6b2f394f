use Rattle.std.proofs.Common.{◌≡◌, drop, false}
use Rattle.script_words.specs.Escapes.{unescaped}
use Rattle.script_words.proofs.EscapedTexts.{after}
use Rattle.script_words.proofs.escapes.unescaped.Given as goal

-- the bytes so far; the rest decides the result
abbrev pub invariant-loop-b : goal.invariant-loop-b
invariant-loop-b l = after l.bytes.items (unescaped l.behind_backslash (drop l.b-index l.word)) ≡ unescaped false l.word
