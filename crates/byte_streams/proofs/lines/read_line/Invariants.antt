use Rattle.std.proofs.Common.{◌≤◌, ◌-◌, vec_len}
use Rattle.byte_streams.specs.Streams.{HasNoLineEnd, IsCalm}
use Rattle.byte_streams.proofs.Blocks.{Reached}
use Rattle.byte_streams.proofs.lines.read_line.Given as goal

-- the line so far, without an end, was taken
abbrev pub invariant-loop-text : goal.invariant-loop-text
invariant-loop-text g l = record {
  calm : IsCalm (g.S.Source.counters l.fn.source) (g.S.Source.counters l.source);
  within : vec_len l.text ≤ l.limit;
  clean : HasNoLineEnd l.text.items;
  bytes : Reached (g.S.Source.left l.fn.source) (g.S.Source.left l.source) l.text.items;
}

abbrev pub decreases-loop-text : goal.decreases-loop-text
decreases-loop-text g l = l.limit - vec_len l.text
