use Rattle.std.proofs.Common.{◌≡◌, ◌++◌}
use Rattle.std.specs.Vec.Iter.{into_iter_items}
use Rattle.sessions.specs.Sessions.{requests_of}
use Rattle.sessions.proofs.run.serve_all.Given as goal

-- the served and the remaining requests together are all requests
abbrev pub invariant-loop-request : goal.invariant-loop-request
invariant-loop-request g l = (l.session.operator ≡ l.fn.operator) × (requests_of l.session.entries ++ into_iter_items l.request-iterator ≡ l.fn.requests)
