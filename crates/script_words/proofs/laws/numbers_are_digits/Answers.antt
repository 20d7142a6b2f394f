use Rattle.script_words.proofs.NumberWords.{numbers_are_digits}
use Rattle.script_words.proofs.laws.numbers_are_digits.Goals as goal

pub returns : goal.returns
returns c = numbers_are_digits
