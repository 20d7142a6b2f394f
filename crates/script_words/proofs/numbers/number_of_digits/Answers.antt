use Rattle.script_words.proofs.Digits.{number_ends, number_stops, number_goes}
use Rattle.script_words.proofs.numbers.number_of_digits.Goals as goal

pub returns-in-None : goal.returns-in-None
returns-in-None c = number_stops _ _ _ c.loop-b.invariant c.loop-b-test.true _ c.with_digit.ensures c.in-None.is

pub loop-b-preserved : goal.loop-b-preserved
loop-b-preserved c = number_goes _ _ _ c.loop-b.invariant c.loop-b-test.true _ c.with_digit.ensures _ c.in-Some.is

pub returns : goal.returns
returns c = number_ends _ _ _ c.loop-b.invariant c.loop-b-test.false
