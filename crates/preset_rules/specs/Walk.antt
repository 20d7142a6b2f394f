-- How a text is walked along a pattern. Only contracts of the matcher's own functions use this; it
-- is proved that the result is what a pattern matches, so this need not be trusted.
use Rattle.std.specs.Prelude.{ℕ, Bool, ◌==◌, true, false, if◌then◌else◌, List, [], ◌∷◌, Option, Some, None}
use Rattle.std.specs.Option.{option_map}
use Rattle.preset_rules.specs.Patterns.{after_byte, is_star, is_between}

-- takes one byte after another, as long as each is taken; the result is the rest of the pattern and
-- of the text
abbrev pub further : (List ℕ → List ℕ × List ℕ) → List ℕ × List ℕ → Option (List ℕ) → List ℕ × List ℕ
further on here None = here
further on here (Some pattern) = on pattern

unfoldable pub along : (text pattern : List ℕ) → List ℕ × List ℕ
along [] pattern = (pattern, [])
along (b ∷ text) pattern = further (along text) (pattern, b ∷ text) (after_byte pattern b)

-- what follows a star
abbrev pub after_star : List ℕ → Option (List ℕ)
after_star [] = None
after_star (first ∷ rest) = if is_star first then Some rest else None

abbrev pub are_ended : List ℕ → List ℕ → Bool
are_ended [] [] = true
are_ended pattern text = false

-- the first byte, if it is taken
abbrev pub first_taken : (pattern text : List ℕ) → Option (List ℕ × List ℕ)
first_taken pattern [] = None
first_taken pattern (b ∷ text) = option_map (λ left. (left, text)) (after_byte pattern b)

-- the end of a range and the members after it, if these bytes continue a range
abbrev pub first_and_rest : List ℕ → Option (ℕ × List ℕ)
first_and_rest [] = None
first_and_rest (to ∷ rest) = Some (to, rest)

abbrev pub range_end : List ℕ → Option (ℕ × List ℕ)
range_end [] = None
range_end (dash ∷ rest) = if dash == 45 then first_and_rest rest else None

-- whether the first member is this byte, or is a range that contains it; and the members after it
abbrev pub first_member : (one b : ℕ) (more : List ℕ) → Option (ℕ × List ℕ) → Bool × List ℕ
first_member one b more None = (b == one, more)
first_member one b more (Some end) = (is_between one end.0 b, end.1)

abbrev pub without_first : List ℕ → Option (List ℕ)
without_first [] = None
without_first (b ∷ text) = Some text
