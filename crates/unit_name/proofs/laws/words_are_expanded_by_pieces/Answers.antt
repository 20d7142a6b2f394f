use Rattle.unit_name.proofs.Pieces.{words_are_expanded}
use Rattle.unit_name.proofs.laws.words_are_expanded_by_pieces.Goals as goal

pub returns : goal.returns
returns c = words_are_expanded
