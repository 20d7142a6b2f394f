use Rattle.footprint.proofs.Wishes.{refused_at_the_least, left_all_at_once}
use Rattle.footprint.proofs.laws.all_at_once_is_refused_at_the_least_path.Goals as goal

pub returns : goal.returns
returns c = record { refused = refused_at_the_least; left = left_all_at_once }
