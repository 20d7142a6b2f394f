use Rattle.std.proofs.Common.{◌≡◌, drop}
use Rattle.name_lists.specs.Lists.{hash_from}
use Rattle.name_lists.proofs.place.hash_from.Given as goal

-- the hash so far, continued with the remaining bytes, is the hash of all bytes
abbrev pub invariant-loop-byte : goal.invariant-loop-byte
invariant-loop-byte l = hash_from l.hash (drop l.byte-index l.bytes) ≡ hash_from l.fn.hash l.fn.bytes
