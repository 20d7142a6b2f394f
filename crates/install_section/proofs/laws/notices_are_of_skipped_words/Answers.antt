use Rattle.install_section.proofs.Least.{tells_of_skipped}
use Rattle.install_section.proofs.laws.notices_are_of_skipped_words.Goals as goal

pub returns : goal.returns
returns c = tells_of_skipped
