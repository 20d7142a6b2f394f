-- The contents of files.
use Rattle.std.specs.Prelude.{ℕ, Bool, nat_le, List, length}

-- valid contents of a file: at most 1 MiB
unfoldable pub is_contents : List ℕ → Bool
is_contents bytes = nat_le (length bytes) 1048576
