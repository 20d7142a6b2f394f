-- Disabling units: systemctl(1), "disable".
use Rattle.std.specs.Prelude.{ℕ, Bool, false, if◌then◌else◌, List, [], ◌∷◌, ◌++◌, Result, Ok, Err, map as list_map}
use Rattle.std.specs.FinMap as map
use Rattle.std.specs.Str.{bytes_eq}
use Rattle.unit_paths.specs.declared.place.Scope.{Scope}
use Rattle.load_path.specs.declared.finding.Found.{Found}
use Rattle.load_path.specs.declared.finding.Found.TheVariants.{Unit}
use Rattle.load_path.specs.Find.{find}
use Rattle.load_path.specs.Search.{each_once}
use Rattle.install_section.specs.declared.closed.Closed.{Closed}
use Rattle.tree_access.specs.declared.refusal.Refusal.{Refusal}
use Rattle.install_section.specs.Closure.{closure}
use Rattle.tree_access.specs.declared.key.Key.TheVariants.{Marked}
use Rattle.footprint.specs.Commands.{Command, telling, unless_refused, carried_out}
use Rattle.footprint.specs.Inquiry.{Inquiry, over, by_cells, giving, entries_of_all, ◌>>=◌}
use Rattle.footprint.specs.Operations.{Effect}
use Rattle.tree_access.specs.Placing.{Wanted, cleared}
use Rattle.footprint.specs.Steps.{all_at_once}
use Rattle.install_commands.specs.declared.disable.Disable.{Disable}
use Rattle.install_commands.specs.declared.disable.Named.{Named}
use Rattle.install_commands.specs.Enable.{unless_too_many}

-- adds the own name of what was found, if that is a unit
abbrev pub with_real : (names : List (List ℕ)) → Found → List (List ℕ)
with_real names (Unit real file place) = names ++ real ∷ []
with_real names other = names

-- The own names of those that are found as units, in order, after these names.
abbrev pub reals_behind : (names : List (List ℕ)) → (units : List (List ℕ)) → Inquiry (List (List ℕ))
reals_behind names [] = over names
reals_behind names (unit ∷ units) = do
  found ← by_cells (find unit)
  reals_behind (with_real names found) units

-- whether what was found is a unit with this name
abbrev pub is_itself : (name : List ℕ) → Found → Bool
is_itself name (Unit real file place) = bytes_eq real name
is_itself name other = false

abbrev pub with_self : (names : List (List ℕ)) → (name : List ℕ) → Found → List (List ℕ)
with_self names name found = if is_itself name found then names ++ name ∷ [] else names

-- Those that are found under their own names, in order, after these names.
abbrev pub selves_behind : (names : List (List ℕ)) → (units : List (List ℕ)) → Inquiry (List (List ℕ))
selves_behind names [] = over names
selves_behind names (unit ∷ units) = do
  found ← by_cells (find unit)
  selves_behind (with_self names unit found) units

-- adds the names of a closure after these, each once, and its notices about skipped words
abbrev pub named_with : (names : List (List ℕ)) → Result Closed Refusal → Result Named Refusal
named_with names (Ok closed) = Ok (record { names = each_once (names ++ closed.units); notices = closed.notices })
named_with names (Err refusal) = Err refusal

-- The names to disable: those that are given, the own names of those that are found as units,
abbrev pub selves_named : (names selves : List (List ℕ)) → Inquiry (Result Named Refusal)
selves_named names selves = giving (by_cells (closure selves)) (λ closed. named_with names (unless_too_many closed))

-- and the closure of those of them
abbrev pub reals_named : (units reals : List (List ℕ)) → Inquiry (Result Named Refusal)
reals_named units reals = do
  selves ← selves_behind [] reals
  selves_named (units ++ reals) selves

-- that are found under their own names.
abbrev pub units_named : (units : List (List ℕ)) → Inquiry (Result Named Refusal)
units_named units = do
  reals ← reals_behind [] units
  reals_named units reals

-- without these paths: what is there stays as it is
abbrev pub but_at : Wanted → (kept : List (List ℕ)) → Wanted
but_at wanted [] = wanted
but_at wanted (path ∷ paths) = but_at (map.remove wanted path) paths

-- removes the links of the scope that belong to one of the names, except those that are kept
abbrev pub links_removed_but : Scope → (kept : List (List ℕ)) → Named → Command
links_removed_but scope kept named = do
  links ← entries_of_all (list_map (Marked scope) named.names)
  telling named.notices (all_at_once (but_at (cleared links) kept))

-- removes all of them
abbrev pub links_removed : Scope → Named → Command
links_removed scope named = links_removed_but scope [] named

-- disables units, and those that they name
abbrev pub units_disabled : Scope → (units : List (List ℕ)) → Command
units_disabled scope units = do
  named ← units_named units
  unless_refused (links_removed scope) named

abbrev pub disable_command : Disable → Command
disable_command disable = units_disabled disable.scope disable.units

-- What the command looks up in a tree, and what effect it has.
abbrev pub disable_meaning : Disable → Inquiry Effect
disable_meaning disable = carried_out (disable_command disable)
