use Rattle.load_path.specs.Follow.{follow}
use Rattle.load_path.specs.Find.{find}
use Rattle.load_path.proofs.Once.{agrees}
use Rattle.load_path.proofs.laws.look_ups_agree.Goals as goal

pub returns-clause-follow : goal.returns-clause-follow
returns-clause-follow c = λ path. agrees (follow path)

pub returns-clause-find : goal.returns-clause-find
returns-clause-find c = λ name. agrees (find name)
