-- Patterns, and which texts they match: systemd.preset(5), "Preset File Format", and glob(7),
-- "Wildcard matching".
use Rattle.std.specs.Prelude.{◌≡◌, ◌+◌, ℕ, zero, suc, Bool, true, false, not, ◌||◌, ◌&&◌, ◌==◌, nat_lt, if◌then◌else◌, List, [], ◌∷◌, ◌++◌, length, take, drop, Option, Some, None}
use Rattle.std.specs.List.{position}
use Rattle.std.specs.Option.{option_map}
use Prim.Native.Char.{code}

-- A set: whether it is negated, the bytes of its members, and what follows it.
pub record Set : Type 0 where
  pub turned : Bool
  pub members : List ℕ
  pub after : List ℕ

abbrev pub ends_set : ℕ → Bool
ends_set b = b == code "]"

-- a set ends at the first ] after at least one member
abbrev pub set_from : Bool → List ℕ → Option Set
set_from turned [] = None
set_from turned (member ∷ rest) = option_map (λ at. record { turned = turned; members = take (at + 1) (member ∷ rest); after = drop (at + 1) rest }) (position ends_set rest)

-- the set that a [ before this text opens; none if the set has no end
unfoldable pub set_behind : List ℕ → Option Set
set_behind [] = None
set_behind (first ∷ rest) = if first == code "!" then set_from true rest else set_from false (first ∷ rest)

-- Whether a byte is among the members: x-y means the bytes from x to y, any other byte means
-- itself. They are read from the left, so a - that is first or last means itself.
abbrev pub is_between : (from to b : ℕ) → Bool
is_between from to b = not (nat_lt b from) && not (nat_lt to b)

unfoldable pub is_member : List ℕ → ℕ → Bool
is_member [] b = false
is_member (x ∷ []) b = b == x
is_member (x ∷ (y ∷ [])) b = b == x || is_member (y ∷ []) b
is_member (x ∷ (dash ∷ (y ∷ rest))) b =
    if dash == code "-" then is_between x y b || is_member rest b
    else b == x || is_member (dash ∷ (y ∷ rest)) b

abbrev pub is_in : Set → ℕ → Bool
is_in set b = if set.turned then not (is_member set.members b) else is_member set.members b

-- a byte that matches only itself, anywhere in a pattern outside a set
abbrev pub is_plain : ℕ → Bool
is_plain b = not (b == code "*" || b == code "?" || b == code "[")

-- A pattern matches a whole text: * matches any bytes or none, ? one byte, a set one byte that is
-- in it, and a [ without an end and any other byte match themselves.
pub data Matches : (pattern text : List ℕ) → Type 0 where
  AtEnd : Matches [] []
  AnyBytes : (star : ℕ) (pattern bytes rest text : List ℕ) → star ≡ code "*" → text ≡ bytes ++ rest → Matches pattern rest → Matches (star ∷ pattern) text
  AnyByte : (mark : ℕ) (pattern : List ℕ) (b : ℕ) (text : List ℕ) → mark ≡ code "?" → Matches pattern text → Matches (mark ∷ pattern) (b ∷ text)
  OneOfSet : (bracket : ℕ) (rest : List ℕ) (set : Set) (b : ℕ) (text : List ℕ) → bracket ≡ code "[" → set_behind rest ≡ Some set → is_in set b ≡ true → Matches set.after text → Matches (bracket ∷ rest) (b ∷ text)
  OpenBracket : (bracket : ℕ) (rest text : List ℕ) → bracket ≡ code "[" → set_behind rest ≡ None → Matches rest text → Matches (bracket ∷ rest) (bracket ∷ text)
  Itself : (b : ℕ) (pattern text : List ℕ) → is_plain b ≡ true → Matches pattern text → Matches (b ∷ pattern) (b ∷ text)

-- What remains of a pattern after one byte of a text, if the pattern begins with something that
-- takes exactly one byte, and takes this one.
abbrev pub by_set : Option Set → (rest : List ℕ) (b : ℕ) → Option (List ℕ)
by_set None rest b = if b == code "[" then Some rest else None
by_set (Some set) rest b = if is_in set b then Some set.after else None

unfoldable pub after_byte : (pattern : List ℕ) (b : ℕ) → Option (List ℕ)
after_byte [] b = None
after_byte (first ∷ rest) b =
    if first == code "*" then None
    else if first == code "?" then Some rest
    else if first == code "[" then by_set (set_behind rest) rest b
    else if first == b then Some rest
    else None

-- Whether a pattern matches, if it is tried with this number of steps. That this agrees with the
-- relation above is a law.
abbrev pub goes_on : (List ℕ → Bool) → Option (List ℕ) → Bool
goes_on on None = false
goes_on on (Some pattern) = on pattern

abbrev pub is_star : ℕ → Bool
is_star b = b == code "*"

abbrev pub tried : (steps : ℕ) (pattern text : List ℕ) → Bool
tried zero pattern text = false
tried (suc steps) [] [] = true
tried (suc steps) [] (b ∷ text) = false
tried (suc steps) (first ∷ rest) [] = is_star first && tried steps rest []
tried (suc steps) (first ∷ rest) (b ∷ text) =
    if is_star first then tried steps rest (b ∷ text) || tried steps (first ∷ rest) text
    else goes_on (λ pattern. tried steps pattern text) (after_byte (first ∷ rest) b)

unfoldable pub is_matched : (pattern text : List ℕ) → Bool
is_matched pattern text = tried (length pattern + length text + 1) pattern text
