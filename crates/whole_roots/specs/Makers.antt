-- Which rows made what is at paths of a root, and what is said of them.
use Rattle.std.specs.Prelude.{◌≡◌, ℕ, List, ◌++◌, Option, Some, None, Result, Ok, Err, codes}
use Rattle.std.specs.Fmt.{decimal}
use Rattle.root_access.specs.declared.failure.Failure.{Failure}
use Rattle.root_access.specs.declared.failure.Failure.TheVariants as failures

-- ` (row N by OPERATOR)`
abbrev pub note_text : (row : ℕ) → (operator : List ℕ) → List ℕ
note_text row operator = codes " (row " ++ decimal row ++ codes " by " ++ operator ++ codes ")"

-- A history that can't be read is passed over, unless `--history` names it.
abbrev pub IsPassedOver : {S : Type 0} → Option S → Failure → Result (Unit {0}) Failure → Type 0
IsPassedOver (Some directory) failure result = result ≡ Err failure
IsPassedOver None failure (Ok done) = Unit {0}
IsPassedOver None failure (Err e) = e ≡ failures.OutOfMemory
