use Rattle.std.proofs.Common.{◌≤◌, ◌-◌}
use Rattle.byte_streams.specs.Streams.{IsCalm}
use Rattle.unit_script.proofs.Calls.{Reached}
use Rattle.unit_script.proofs.script.read_calls.Given as goal

-- the result for the rest is that for the whole
abbrev pub invariant-lines : goal.invariant-lines
invariant-lines g l = record {
  calm : IsCalm (g.S.Source.counters l.fn.source) (g.S.Source.counters l.source);
  from_one : 1 ≤ l.number;
  within : l.number ≤ 2000001;
  calls : Reached (g.S.Source.left l.fn.source) (g.S.Source.left l.source) l.number l.calls.items;
}

abbrev pub decreases-lines : goal.decreases-lines
decreases-lines g l = 2000002 - l.number
