use Rattle.load_path.proofs.Counts.{follow_is_short, find_is_short}
use Rattle.load_path.proofs.laws.look_ups_are_short.Goals as goal

pub returns-clause-follow : goal.returns-clause-follow
returns-clause-follow c = follow_is_short

pub returns-clause-find : goal.returns-clause-find
returns-clause-find c = find_is_short
