-- The first byte that `memchr` finds is at std's `position`.
use Rattle.std.proofs.Common.{◌≡◌, ℕ, Bool, List, length, Option, None, Some, arith}
use Rattle.std.proofs.lemmas.Bool.Decides.{nat_tests}
use Rattle.std.proofs.lemmas.Bool.{false_from_ne_true}
use Rattle.std.specs.List.{position, position_or_len}
use Rattle.std.proofs.lemmas.List.Sums.{position_or_len_is}
use Rattle.memchr.specs.Find.{IsFirstByte}

pub first_place : (p : ℕ → Bool) (xs : List ℕ) (r : Option ℕ) → IsFirstByte p xs r → r ≡ position p xs
first_place p xs None none =
    let at : position_or_len p xs ≡ length xs = position_or_len_is p xs (length xs) 0 (omega arith) (λ k low. false_from_ne_true _ (none k (omega arith) low)) (λ low. absurd (omega (arith, low))) in
    rw at (grind (arith, nat_tests))
first_place p xs (Some k) (first, passes) =
    let at : position_or_len p xs ≡ k = position_or_len_is p xs k 0 (omega (arith, first.high)) (λ i low. false_from_ne_true _ (first.before i (omega arith) low)) (λ low. passes) in
    rw at (grind (arith, nat_tests, first.high))
