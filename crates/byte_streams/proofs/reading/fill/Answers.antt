use Rattle.std.proofs.Common.{rules, ◌<◌, length, take, arith}
use Rattle.std.proofs.lemmas.List.{length-take-le}
use Rattle.byte_streams.proofs.Blocks.{bytes_more, front_more, front_within}
use Rattle.byte_streams.proofs.Taken.{on_err, reached_kept}
use Rattle.byte_streams.proofs.reading.fill.Goals as goal

pub pieces-preserved : goal.pieces-preserved
pieces-preserved g c =
    let front = length-take-le c.pieces.filled c.pieces.room c.pieces.invariant.few in
    record {
      calm = search rules;
      few = front_within _ c.read_some.new.room _ c.pieces.filled c.in_ok-count.count front c.in_ok-count.ensures.count;
      bytes = bytes_more _ _ _ c.pieces.invariant.bytes _ _ c.in_ok-count.ensures.given _ (front_more _ c.read_some.new.room _ c.pieces.filled c.in_ok-count.count front c.in_ok-count.ensures.count);
    }

pub returns-in_err-count-clause-taken : goal.returns-in_err-count-clause-taken
returns-in_err-count-clause-taken g c =
    let few : length (take c.pieces.filled c.pieces.room) < length c.args.room.now = omega (arith, length-take-le c.pieces.filled c.pieces.room c.pieces.invariant.few, c.pieces-test.true, c.pieces.auto.room) in
    on_err _ _ (reached_kept _ _ _ _ (λ taken. length taken < length c.args.room.now) c.pieces.invariant.bytes c.in_err-count.ensures.kept few)
