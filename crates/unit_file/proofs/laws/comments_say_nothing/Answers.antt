use Rattle.unit_file.proofs.Additions.{alike-comment}
use Rattle.unit_file.proofs.laws.comments_say_nothing.Goals as goal

pub returns : goal.returns
returns c = alike-comment
