-- A sum consists of bytes.
use Rattle.std.proofs.Common.{ℕ, zero, suc, ◌<◌, ◌%◌, ◌/◌, ◌^◌, List, [], ◌∷◌, ◌++◌, slice_index, arith}
use Rattle.std.specs.Int.{w32, byte_at, bytes_high_first, to_be_bytes}
use Rattle.hex.specs.Hex.{IsBytes}
use Rattle.sha2.specs.Sha256.{digest_bytes, final_hash, initial_hash_256, sha256}
use Rattle.sha2.proofs.Facts256.{length-sha256}
use Rattle.kept_texts.specs.Sums.{sum_of}
use Rattle.kept_texts.specs.Laws.{IsSum}

bytes_append : (xs ys : List ℕ) → IsBytes xs → IsBytes ys → IsBytes (xs ++ ys)
bytes_append [] ys these those i = those i
bytes_append (x ∷ xs) ys these those zero = these 0
bytes_append (x ∷ xs) ys these those (suc i) = bytes_append xs ys (λ j. these (suc j)) those i

below_256 : (m : ℕ) → m % 256 < 256
below_256 m = omega arith

byte_below : (k n : ℕ) → byte_at k n < 256
byte_below zero n = below_256 n
byte_below (suc k) n = below_256 (n / 256 ^ suc k)

high_bytes : (k n : ℕ) → IsBytes (bytes_high_first k n)
high_bytes zero n i = omega arith
high_bytes (suc k) n zero = byte_below k n
high_bytes (suc k) n (suc i) = high_bytes k n i

digest_is_bytes : (h : List ℕ) (n : ℕ) → IsBytes (digest_bytes h n)
unfolding digest_bytes
digest_is_bytes h zero i = omega arith
digest_is_bytes h (suc n) i = bytes_append (digest_bytes h n) (to_be_bytes w32 (slice_index h n)) (digest_is_bytes h n) (high_bytes 4 (slice_index h n)) i

sha256_is_bytes : (m : List ℕ) → IsBytes (sha256 m)
unfolding sha256
sha256_is_bytes m = digest_is_bytes (final_hash initial_hash_256 m) 8

pub sum_of_is_sum : (bytes : List ℕ) → IsSum (sum_of bytes)
sum_of_is_sum bytes = record { size = length-sha256 bytes; bytes = sha256_is_bytes bytes }
