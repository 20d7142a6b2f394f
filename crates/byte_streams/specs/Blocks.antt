-- Reading many bytes at a time.
use Rattle.std.specs.Prelude.{◌≡◌, ℕ, ◌<◌, ◌≤◌, ◌==◌, if◌then◌else◌, List, [], ◌∷◌, ◌++◌, length, take, drop, Bool, MatchBool, Option, None, Some, IsSomeAnd}

-- Exactly N bytes were read, or the input ended before, and then all were consumed.
abbrev pub IsBytes : ℕ → List ℕ → Option (List ℕ) → Option (List ℕ) → Type 0
IsBytes size bytes left (Some read) = (size ≤ length bytes) × (read ≡ take size bytes) × (left ≡ Some (drop size bytes))
IsBytes size bytes left None = (length bytes < size) × (left ≡ Some [])

-- The bytes read are the start of the prefix, but not all of it.
abbrev pub IsCutPrefix : (prefix taken : List ℕ) → Type 0
IsCutPrefix prefix taken = (next : ℕ) × (more : List ℕ) × (prefix ≡ taken ++ next ∷ more)

-- what follows a prefix
unfoldable pub after_prefix : List ℕ → List ℕ → Option (List ℕ)
after_prefix [] bytes = Some bytes
after_prefix (x ∷ xs) [] = None
after_prefix (x ∷ xs) (b ∷ bs) = if b == x then after_prefix xs bs else None

-- The prefix was there, and what follows it remains, or it wasn't.
abbrev pub SkipsPrefix : Option (List ℕ) → Bool → Option (List ℕ) → Type 0
SkipsPrefix left found after = MatchBool found (IsSomeAnd after (λ rest. left ≡ Some rest)) (after ≡ None)
