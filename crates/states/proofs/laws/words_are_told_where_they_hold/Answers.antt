use Rattle.states.proofs.Words.{words_are_told}
use Rattle.states.proofs.laws.words_are_told_where_they_hold.Goals as goal

pub returns : goal.returns
returns c = words_are_told
