use Rattle.byte_streams.proofs.Given.{front_set, one_given}
use Rattle.byte_streams.proofs.stream.Source.line_bytes.Goals as goal

pub returns-clause-given : goal.returns-clause-given
returns-clause-given g c = rw (front_set c.args.room.now c.in-Some.byte c.requires) (one_given _ _ _ (rw c.in-Some.is at c.in_ok-byte.ensures.next))
