use Rattle.std.proofs.Common.{◌≡◌, true, drop}
use Rattle.shared_admin.specs.Sharing.{is_among}
use Rattle.sessions.proofs.names.place_of.Given as goal

-- it is one of those from this index on
abbrev pub invariant-loop-place : goal.invariant-loop-place
invariant-loop-place l = is_among (drop l.place l.operators) l.operator ≡ true
