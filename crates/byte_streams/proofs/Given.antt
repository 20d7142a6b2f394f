-- What the calls of a source return, if the remaining bytes are known.
use Rattle.std.proofs.Common.{◌≡◌, ℕ, ◌<◌, List, [], ◌∷◌, ◌++◌, length, take, Option, None, Some, slice_set, refl, sym, ap, ◌∙◌, arith}
use Rattle.std.specs.Io.KnownBytes.{Keeps, Consumes, IsAtEnd}
use Rattle.byte_streams.specs.Streams.{GivesSome}

pub gave_byte : (old new : Option (List ℕ)) (b : ℕ) → Consumes old new (b ∷ []) → (bytes : List ℕ) → old ≡ Some bytes → (rest : List ℕ) × (new ≡ Some rest) × (bytes ≡ b ∷ rest)
gave_byte None new b h bytes e = cc
gave_byte (Some xs) None b h bytes e = absurd h
gave_byte (Some xs) (Some ys) b h bytes e = (ys, refl, cc)

pub gave_end : (old new : Option (List ℕ)) → IsAtEnd old → Keeps old new → (bytes : List ℕ) → old ≡ Some bytes → (new ≡ Some []) × (bytes ≡ [])
gave_end None new h k bytes e = cc
gave_end (Some xs) None h k bytes e = absurd k
gave_end (Some xs) (Some ys) h k bytes e = (cc, cc)

pub gave_bytes : (old new : Option (List ℕ)) (chunk : List ℕ) → Consumes old new chunk → (bytes : List ℕ) → old ≡ Some bytes → (rest : List ℕ) × (new ≡ Some rest) × (bytes ≡ chunk ++ rest)
gave_bytes None new chunk h bytes e = cc
gave_bytes (Some xs) None chunk h bytes e = absurd h
gave_bytes (Some xs) (Some ys) chunk h bytes e = (ys, refl, some_is bytes xs (sym e) ∙ h)
  where
    some_is : (a b : List ℕ) → Some a ≡ Some b → a ≡ b
    some_is a b i = cc

pub kept_bytes : (old new : Option (List ℕ)) → Keeps old new → (bytes : List ℕ) → old ≡ Some bytes → new ≡ Some bytes
kept_bytes None new k bytes e = cc
kept_bytes (Some xs) None k bytes e = absurd k
kept_bytes (Some xs) (Some ys) k bytes e = ap (λ l. Some l) k ∙ e

pub at_end : (left : Option (List ℕ)) → IsAtEnd left → (rest : List ℕ) → left ≡ Some rest → rest ≡ []
at_end None h rest e = cc
at_end (Some xs) h rest e = cc

-- one byte that is written into the front of some room
pub front_set : (room : List ℕ) (b : ℕ) → 0 < length room → take 1 (slice_set room 0 b) ≡ b ∷ []
front_set [] b some = absurd (omega arith)
front_set (x ∷ xs) b some = refl

pub none_given : (old new : Option (List ℕ)) → IsAtEnd old → Keeps old new → GivesSome old new []
none_given None new end kept = (tt, λ _. tt)
none_given (Some xs) None end kept = absurd kept
none_given (Some xs) (Some ys) end kept = (sym kept, λ _. end)

some_none : (b : ℕ) → b ∷ [] ≡ [] → ⊥
some_none b e = cc

pub one_given : (old new : Option (List ℕ)) (b : ℕ) → Consumes old new (b ∷ []) → GivesSome old new (b ∷ [])
one_given old new b given = (given, λ none. absurd (some_none b none))
