-- Reading many bytes at a time.
use Rattle.std.proofs.Common.{◌≡◌, ℕ, ◌+◌, ◌<◌, ◌≤◌, List, [], ◌++◌, length, take, drop, Option, Some, sym, ap, subst, ◌∙◌, arith, append_assoc, length-append}
use Rattle.std.proofs.Math.Seq.{take-append_seam, drop-append_seam, take-append-add}
use Rattle.std.proofs.lemmas.List.{length-take-le, take-append-le}
use Rattle.byte_streams.specs.Blocks.{IsBytes}
use Rattle.byte_streams.specs.Streams.{GivesSome}
use Rattle.byte_streams.proofs.Given.{gave_bytes, at_end}

-- what was read, followed by the remaining bytes
abbrev pub Reached : Option (List ℕ) → Option (List ℕ) → List ℕ → Type 0
Reached first now items = (bytes : List ℕ) → first ≡ Some bytes → (rest : List ℕ) × (now ≡ Some rest) × (items ++ rest ≡ bytes)

module _ (first mid : Option (List ℕ)) (items : List ℕ) (so_far : Reached first mid items) where
  pub bytes_all : (size : ℕ) → length items ≡ size → (bytes : List ℕ) → first ≡ Some bytes → IsBytes size bytes mid (Some items)
  bytes_all size all bytes e =
      let at = so_far bytes e in
      let long : length items ≤ length bytes = omega (arith, length-append items at.0, ap length at.2) in (
        subst (λ n. n ≤ length bytes) all long,
        sym (take-append_seam items at.0) ∙ (λ i. take (all i) (at.2 i)),
        at.1 ∙ ap (λ l. Some l) (sym (drop-append_seam items at.0) ∙ (λ i. drop (all i) (at.2 i))),
      )

  module _ (new : Option (List ℕ)) (chunk : List ℕ) (gives : GivesSome mid new chunk) where
    pub bytes_more : (items' : List ℕ) → items' ≡ items ++ chunk → Reached first new items'
    bytes_more items' pushed bytes e =
        let at = so_far bytes e in
        let gave = gave_bytes mid new chunk gives.0 at.0 at.1 in
        (gave.0, gave.1, ap (λ l. l ++ gave.0) pushed ∙ append_assoc items chunk gave.0 ∙ ap (λ l. items ++ l) (sym gave.2) ∙ at.2)

    pub bytes_end : (size : ℕ) → length items < size → chunk ≡ [] → (bytes : List ℕ) → first ≡ Some bytes → length bytes < size
    bytes_end size few none bytes e =
        let at = so_far bytes e in
        let left : at.0 ≡ [] = at_end mid (gives.1 none) at.0 at.1 in
        omega (arith, length-append items at.0, ap length at.2, ap length left, few)

-- some room after the front is written, and the first n of its bytes count
module _ (front written rest : List ℕ) (size n : ℕ) (long : length front ≡ size) (few : n ≤ length written) where
  pub front_within : size + n ≤ length (front ++ (written ++ rest))
  front_within = omega (arith, length-append front (written ++ rest), length-append written rest)

  pub front_more : take (size + n) (front ++ (written ++ rest)) ≡ front ++ take n written
  front_more =
      ap (λ m. take (m + n) (front ++ (written ++ rest))) (sym long) ∙ take-append-add front (written ++ rest) n
      ∙ ap (λ l. front ++ l) (take-append-le n written rest few)

pub front_size : (written rest : List ℕ) (n : ℕ) → n ≤ length written → length (take n (written ++ rest)) ≡ n
front_size written rest n few = length-take-le n (written ++ rest) (omega (arith, few, length-append written rest))

-- what was written into the front of some room
pub given_in_front : (old new : Option (List ℕ)) (written rest : List ℕ) (n : ℕ) → n ≤ length written → GivesSome old new (take n written) → GivesSome old new (take n (written ++ rest))
given_in_front old new written rest n few given = subst (GivesSome old new) (sym (take-append-le n written rest few)) given
