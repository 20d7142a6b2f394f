use Rattle.std.proofs.Common.{◌≡◌, drop}
use Rattle.link_tree.specs.Pending.{with_bytes}
use Rattle.link_tree.proofs.pending.with_bytes.Given as goal

-- the remaining bytes appended to the key so far give the key of all bytes
abbrev pub invariant-loop-byte : goal.invariant-loop-byte
invariant-loop-byte l = with_bytes l.key (drop l.byte-index l.bytes) ≡ with_bytes l.fn.key l.fn.bytes
