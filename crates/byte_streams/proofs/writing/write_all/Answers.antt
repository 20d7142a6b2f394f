use Rattle.std.proofs.Common.{arith, length-drop}
use Rattle.std.proofs.lemmas.List.{take_rest}
use Rattle.std.proofs.KnownBytes.{Appends-trans}
use Rattle.byte_streams.proofs.Known.{calm_trans, take_on}
use Rattle.byte_streams.proofs.writing.write_all.Goals as goal

pub loop-sent-preserved : goal.loop-sent-preserved
loop-sent-preserved g c =
    let some = simp take_rest at c.in-Ok.ensures.bytes in
    record {
      bytes = rw (take_on c.args.bytes.now c.loop-sent.sent c.in-Ok.count) (Appends-trans _ _ _ _ _ c.loop-sent.invariant.bytes some.2);
      calm = calm_trans _ _ _ c.loop-sent.invariant.calm c.in-Ok.ensures.counters;
      within = omega (arith, some.1, length-drop c.loop-sent.sent c.args.bytes.now, c.loop-sent.invariant.within);
    }
