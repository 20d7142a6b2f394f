-- Specifiers in the words of [Install] lists: systemd.unit(5), "Specifiers".
use Rattle.std.specs.Prelude.{ℕ, Bool, ◌==◌, if◌then◌else◌, List, [], ◌∷◌, ◌++◌, Option, Some, None, unwrap_or, option_and_then, codes}
use Rattle.std.specs.List.{after_last}
use Rattle.std.specs.Option.{option_map}
use Rattle.unit_name.specs.Name.{stem_of, prefix_of, instance_of}
use Prim.Native.Char.{code}

abbrev pub is_percent : ℕ → Bool
is_percent b = b == code "%"

abbrev pub is_dash : ℕ → Bool
is_dash b = b == code "-"

-- the value of a specifier, by its letter
unfoldable pub specifier : List ℕ → ℕ → Option (List ℕ)
specifier name letter =
    if letter == code "i" then Some (unwrap_or (instance_of name) [])
    else if letter == code "n" then Some name
    else if letter == code "N" then Some (stem_of name)
    else if letter == code "p" then Some (prefix_of name)
    else if letter == code "j" then Some (after_last is_dash (prefix_of name))
    else if letter == code "%" then Some (codes "%")
    else None

-- a text before the expansion of the rest of a word
abbrev pub onto : List ℕ → Option (List ℕ) → Option (List ℕ)
onto text rest = option_map (λ more. text ++ more) rest

-- A word with each specifier replaced; none if a % doesn't begin a specifier.
unfoldable pub expansion : List ℕ → List ℕ → Option (List ℕ)
expansion name [] = Some []
expansion name (b ∷ []) = if is_percent b then None else Some (b ∷ [])
expansion name (b ∷ letter ∷ rest) =
    if is_percent b then option_and_then (λ text. onto text (expansion name rest)) (specifier name letter)
    else onto (b ∷ []) (expansion name (letter ∷ rest))
