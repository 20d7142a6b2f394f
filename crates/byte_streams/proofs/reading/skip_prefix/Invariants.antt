use Rattle.std.proofs.Common.{◌≡◌, List, ℕ, Some, take, drop}
use Rattle.byte_streams.specs.Blocks.{after_prefix}
use Rattle.byte_streams.specs.Streams.{IsCalm}
use Rattle.byte_streams.proofs.Blocks.{Reached}
use Rattle.byte_streams.proofs.reading.skip_prefix.Given as goal

-- the rest of the prefix is expected at the front of the remaining bytes
abbrev pub invariant-loop-expected : goal.invariant-loop-expected
invariant-loop-expected g l = record {
  calm : IsCalm (g.S.Source.counters l.fn.source) (g.S.Source.counters l.source);
  taken : Reached (g.S.Source.left l.fn.source) (g.S.Source.left l.source) (take l.expected-index l.prefix);
  header : (bytes : List ℕ) → g.S.Source.left l.fn.source ≡ Some bytes → (rest : List ℕ) × (g.S.Source.left l.source ≡ Some rest) × (after_prefix (drop l.expected-index l.prefix) rest ≡ after_prefix l.prefix bytes);
}
