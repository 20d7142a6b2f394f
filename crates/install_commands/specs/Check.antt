-- Looking up the units that will be installed: systemctl(1), "enable".
use Rattle.std.specs.Prelude.{ℕ, if◌then◌else◌, List, [], ◌∷◌, Result, Ok, Err}
use Rattle.std.specs.Str.{bytes_eq}
use Rattle.load_path.specs.Find.{find}
use Rattle.tree_access.specs.declared.refusal.Refusal.{Refusal}
use Rattle.tree_access.specs.declared.refusal.Refusal.TheVariants.{IsAlias}
use Rattle.footprint.specs.Commands.{Command, silent, unless_refused, carried_out}
use Rattle.footprint.specs.Inquiry.{Inquiry, over, by_cells, giving, ◌>>=◌}
use Rattle.footprint.specs.Operations.{Effect}
use Rattle.footprint.specs.Steps.{nothing}
use Rattle.footprint.specs.Units.{found_unit}
use Rattle.install_commands.specs.declared.check.Check.{Check}

-- checks that a unit that was found has this name as its own
abbrev pub as_itself : (name : List ℕ) → Result (List ℕ × List ℕ) Refusal → Result (Unit {0}) Refusal
as_itself name (Ok unit) = if bytes_eq unit.0 name then Ok tt else Err (IsAlias name unit.0)
as_itself name (Err refusal) = Err refusal

-- what is looked up next, unless there was a refusal
abbrev pub going_on : {X Y : Type 0} → (X → Inquiry (Result Y Refusal)) → Result X Refusal → Inquiry (Result Y Refusal)
going_on next (Ok x) = next x
going_on next (Err refusal) = over (Err refusal)

-- checks that one unit is found, and is no alias
abbrev pub one_checked : (name : List ℕ) → Inquiry (Result (Unit {0}) Refusal)
one_checked name = giving (by_cells (find name)) (λ found. as_itself name (found_unit name found))

-- checks each of these, in order, up to the first that is refused
abbrev pub checked : List (List ℕ) → Inquiry (Result (Unit {0}) Refusal)
checked [] = over (Ok tt)
checked (name ∷ names) = do
  one ← one_checked name
  going_on (λ fine. checked names) one

-- the command alone changes nothing
abbrev pub check_command : Check → Command
check_command check = do
  fine ← checked check.units
  unless_refused (λ fine. silent nothing) fine

-- What the command looks up in a tree, and what effect it has.
abbrev pub check_meaning : Check → Inquiry Effect
check_meaning check = carried_out (check_command check)
