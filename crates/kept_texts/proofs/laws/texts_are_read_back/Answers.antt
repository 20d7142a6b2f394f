use Rattle.kept_texts.proofs.TextsBack.{texts_are_read}
use Rattle.kept_texts.proofs.laws.texts_are_read_back.Goals as goal

pub returns : goal.returns
returns c = texts_are_read
