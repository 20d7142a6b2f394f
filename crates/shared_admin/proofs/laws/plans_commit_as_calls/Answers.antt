use Rattle.shared_admin.proofs.Committed.{commit_as_calls}
use Rattle.shared_admin.proofs.laws.plans_commit_as_calls.Goals as goal

pub returns : goal.returns
returns g c = commit_as_calls g.O.Operation.asks g.O.Operation.meaning
