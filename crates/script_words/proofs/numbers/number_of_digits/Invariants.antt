use Rattle.std.proofs.Common.{◌≡◌, drop}
use Rattle.script_words.specs.Numbers.{number_from}
use Rattle.script_words.proofs.numbers.number_of_digits.Given as goal

-- the number so far; the rest decides the result
abbrev pub invariant-loop-b : goal.invariant-loop-b
invariant-loop-b l = number_from l.number (drop l.b-index l.word) ≡ number_from 0 l.word
