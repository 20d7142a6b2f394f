-- What is known of a shared history while others may change it, and who may share it.
use Rattle.std.specs.Prelude.{◌≡◌, ℕ, ◌<◌, ◌≤◌, Bool, List, length, refl}
use Rattle.std.specs.List.{list_any, IsDistinct}
use Rattle.std.specs.Str.{bytes_eq}
use Rattle.link_tree.specs.Trees.{Entries}
use Rattle.shared_admin.specs.declared.shared.OpenError.{OpenError}
use Rattle.shared_admin.specs.declared.shared.OpenError.TheVariants.{TooManySessions, SameOperator, OutOfMemory}

-- whether an operator is one of these
abbrev pub is_among : List (List ℕ) → List ℕ → Bool
is_among operators operator = list_any (bytes_eq operator) operators

-- The tree that was given, and the operators. What the lock protects is known only by its type.
pub record Opening : Type 0 where
  pub first : Entries
  pub operators : List (List ℕ)

abbrev pub opening_parts : Opening → Entries × List (List ℕ)
opening_parts opening = (opening.first, opening.operators)

abbrev pub of_opening_parts : Entries × List (List ℕ) → Opening
of_opening_parts (first, operators) = record { first = first; operators = operators }

pub of_own_opening_parts : (opening : Opening) → of_opening_parts (opening_parts opening) ≡ opening
of_own_opening_parts opening = refl

-- Which operators may share a history: at most sixteen, each once.
abbrev pub MayShare : List (List ℕ) → Type 0
MayShare operators = (length operators ≤ 16) × IsDistinct bytes_eq operators

-- Why a history can't be shared, in the order in which the reasons are checked: out of memory comes
-- last.
abbrev pub IsUnshared : List (List ℕ) → OpenError → Type 0
IsUnshared operators TooManySessions = 16 < length operators
IsUnshared operators SameOperator = (length operators ≤ 16) × (¬ IsDistinct bytes_eq operators)
IsUnshared operators OutOfMemory = MayShare operators
