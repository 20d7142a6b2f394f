use Rattle.install_section.proofs.WantedSets.{tells_of_skipped}
use Rattle.install_section.proofs.laws.notices_of_links_are_of_skipped_words.Goals as goal

pub returns : goal.returns
returns c = tells_of_skipped
