use Rattle.byte_streams.proofs.Given.{front_set, none_given, one_given}
use Rattle.byte_streams.proofs.stream.Source.bytes.Goals as goal

pub returns-in-Some-clause-given : goal.returns-in-Some-clause-given
returns-in-Some-clause-given g c = rw (front_set c.args.room.now c.in-Some.byte c.requires) (one_given _ _ _ (rw c.in-Some.is at c.in_ok-byte.ensures.next))

pub returns-in-None-clause-given : goal.returns-in-None-clause-given
returns-in-None-clause-given g c =
    let ended = rw c.in-None.is at c.in_ok-byte.ensures.next in
    none_given _ _ ended.0 ended.1
