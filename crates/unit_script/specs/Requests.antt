-- The requests that verbs and the words after them specify.
use Rattle.std.specs.Prelude.{ℕ, Bool, true, false, if◌then◌else◌, List, [], ◌∷◌, Result, Ok, Err, codes}
use Rattle.std.specs.Str.{bytes_eq}
use Rattle.std.specs.Option.{option_map_or}
use Rattle.link_tree.specs.declared.entry.Entry.{Entry}
use Rattle.slot_commands.specs.declared.add_to.AddedDependency.{AddedDependency}
use Rattle.slot_commands.specs.declared.add_to.AddedDependency.TheVariants.{Wants, Requires}
use Rattle.unit_paths.specs.declared.place.Scope.{Scope}
use Rattle.unit_paths.specs.declared.place.Scope.TheVariants.{Etc, Run}
use Rattle.link_tree.specs.Inventory.{◌>>=◌}
use Rattle.unit_script.specs.declared.action.Action.TheVariants as actions
use Rattle.history.specs.declared.row.Request.{Request}
use Rattle.history.specs.declared.row.Request.TheVariants.{Do, Undo, Redo}
use Rattle.unit_script.specs.declared.action.Action.{Action}
use Rattle.unit_script.specs.declared.reason.Reason.{Reason}
use Rattle.unit_script.specs.declared.requests.UnitsInScope.{UnitsInScope}
use Rattle.unit_script.specs.declared.reason.Reason.TheVariants.{UnknownVerb, WrongArguments, BadNumber}
use Rattle.script_words.specs.Numbers.{number_of}
use Rattle.unit_script.specs.Words.{name_of, names_of, units_of, path_of, given_paths, link_of, file_of}

-- the request of a verb that takes one word
abbrev pub of_one : (List ℕ → Result (Request Action) Reason) → List (List ℕ) → Result (Request Action) Reason
of_one read [] = Err WrongArguments
of_one read (word ∷ []) = read word
of_one read (word ∷ other ∷ words) = Err WrongArguments

abbrev pub is_runtime : List ℕ → Bool
is_runtime word = bytes_eq word (codes "--runtime")

-- the scope that an option before all arguments selects
abbrev pub scope_of : List (List ℕ) → Scope
scope_of [] = Etc
scope_of (word ∷ words) = if is_runtime word then Run else Etc

-- the words without that option
abbrev pub arguments_of : List (List ℕ) → List (List ℕ)
arguments_of [] = []
arguments_of (word ∷ words) = if is_runtime word then words else word ∷ words

-- the scope and the units that the words after six of the verbs specify
abbrev pub units_in_scope : List (List ℕ) → Result UnitsInScope Reason
units_in_scope words = units_of (arguments_of words) >>= λ units. Ok (record { scope = scope_of words; units = units })

abbrev pub enable_of : List (List ℕ) → Result (Request Action) Reason
enable_of words = units_in_scope words >>= λ given. Ok (Do (actions.Enable (record { scope = given.scope; units = given.units })))

abbrev pub disable_of : List (List ℕ) → Result (Request Action) Reason
disable_of words = units_in_scope words >>= λ given. Ok (Do (actions.Disable (record { scope = given.scope; units = given.units })))

abbrev pub reenable_of : List (List ℕ) → Result (Request Action) Reason
reenable_of words = units_in_scope words >>= λ given. Ok (Do (actions.Reenable (record { scope = given.scope; units = given.units })))

abbrev pub preset_of : List (List ℕ) → Result (Request Action) Reason
preset_of words = units_in_scope words >>= λ given. Ok (Do (actions.Preset (record { scope = given.scope; units = given.units })))

abbrev pub mask_of : List (List ℕ) → Result (Request Action) Reason
mask_of words = units_in_scope words >>= λ given. Ok (Do (actions.Mask (record { scope = given.scope; units = given.units })))

abbrev pub unmask_of : List (List ℕ) → Result (Request Action) Reason
unmask_of words = units_in_scope words >>= λ given. Ok (Do (actions.Unmask (record { scope = given.scope; units = given.units })))

abbrev pub link_units_of : List (List ℕ) → Result (Request Action) Reason
link_units_of words = given_paths (arguments_of words) >>= λ paths. Ok (Do (actions.LinkUnits (record { scope = scope_of words; paths = paths })))

-- the units that a target will depend on, at least one
abbrev pub add_units : Scope → AddedDependency → List ℕ → List (List ℕ) → Result (Request Action) Reason
add_units scope dependency target [] = Err WrongArguments
add_units scope dependency target (unit ∷ units) = do
  target ← name_of target
  units ← names_of (unit ∷ units)
  Ok (Do (actions.AddTo (record { scope = scope; dependency = dependency; target = target; units = units })))

-- a target, and the units that it will depend on
abbrev pub add_arguments : Scope → AddedDependency → List (List ℕ) → Result (Request Action) Reason
add_arguments scope dependency [] = Err WrongArguments
add_arguments scope dependency (target ∷ units) = add_units scope dependency target units

abbrev pub add_to_of : AddedDependency → List (List ℕ) → Result (Request Action) Reason
add_to_of dependency words = add_arguments (scope_of words) dependency (arguments_of words)

abbrev pub set_default_to : List ℕ → Result (Request Action) Reason
set_default_to word = name_of word >>= λ unit. Ok (Do (actions.SetDefault (record { unit = unit })))

-- an entry at a path: the path is read first
abbrev pub place_entry : List ℕ → Result Entry Reason → Result (Request Action) Reason
place_entry path entry = do
  path ← path_of path
  entry ← entry
  Ok (Do (actions.PlaceEntry (record { path = path; entry = entry })))

-- a link at a path, to the one word's target
abbrev pub place_link : List ℕ → List (List ℕ) → Result (Request Action) Reason
place_link path words = of_one (λ word. place_entry path (link_of word)) words

-- a file at a path, with the one word's text or an empty one
abbrev pub place_file : List ℕ → List (List ℕ) → Result (Request Action) Reason
place_file path [] = place_entry path (file_of [])
place_file path (word ∷ words) = of_one (λ word. place_entry path (file_of word)) (word ∷ words)

-- an entry of a kind at a path
unfoldable pub place_kind : List ℕ → List ℕ → List (List ℕ) → Result (Request Action) Reason
place_kind path kind words =
    if bytes_eq kind (codes "link") then place_link path words
    else if bytes_eq kind (codes "file") then place_file path words
    else Err WrongArguments

abbrev pub place_of : List (List ℕ) → Result (Request Action) Reason
place_of [] = Err WrongArguments
place_of (path ∷ []) = Err WrongArguments
place_of (path ∷ kind ∷ words) = place_kind path kind words

abbrev pub remove_at : List ℕ → Result (Request Action) Reason
remove_at word = path_of word >>= λ path. Ok (Do (actions.RemoveEntry (record { path = path })))

abbrev pub is_enabled_for : List ℕ → Result (Request Action) Reason
is_enabled_for word = name_of word >>= λ unit. Ok (Do (actions.IsEnabled (record { unit = unit })))

-- checks that no word follows
abbrev pub get_default_of : List (List ℕ) → Result (Request Action) Reason
get_default_of [] = Ok (Do (actions.GetDefault (record {})))
get_default_of (word ∷ words) = Err WrongArguments

abbrev pub is_reverse : List ℕ → Bool
is_reverse word = bytes_eq word (codes "--reverse")

abbrev pub dependencies_for : (reverse : Bool) → List ℕ → Result (Request Action) Reason
dependencies_for reverse word = name_of word >>= λ unit. Ok (Do (actions.Dependencies (record { unit = unit; reverse = reverse })))

-- one unit, after the option if there is one
abbrev pub dependencies_of : List (List ℕ) → Result (Request Action) Reason
dependencies_of [] = Err WrongArguments
dependencies_of (word ∷ words) = if is_reverse word then of_one (dependencies_for true) words else of_one (dependencies_for false) (word ∷ words)

-- the undo of the row that a word names
abbrev pub undo_row : List ℕ → Result (Request Action) Reason
undo_row word = option_map_or (λ n. Ok (Undo n)) (number_of word) (Err BadNumber)

-- the redo of the row that a word names
abbrev pub redo_row : List ℕ → Result (Request Action) Reason
redo_row word = option_map_or (λ n. Ok (Redo n)) (number_of word) (Err BadNumber)

-- the request that a verb and the words after it specify
unfoldable pub request_of_verb : List ℕ → List (List ℕ) → Result (Request Action) Reason
request_of_verb verb words =
    if bytes_eq verb (codes "enable") then enable_of words
    else if bytes_eq verb (codes "disable") then disable_of words
    else if bytes_eq verb (codes "reenable") then reenable_of words
    else if bytes_eq verb (codes "preset") then preset_of words
    else if bytes_eq verb (codes "mask") then mask_of words
    else if bytes_eq verb (codes "unmask") then unmask_of words
    else if bytes_eq verb (codes "link") then link_units_of words
    else if bytes_eq verb (codes "add-wants") then add_to_of Wants words
    else if bytes_eq verb (codes "add-requires") then add_to_of Requires words
    else if bytes_eq verb (codes "set-default") then of_one set_default_to words
    else if bytes_eq verb (codes "place") then place_of words
    else if bytes_eq verb (codes "remove") then of_one remove_at words
    else if bytes_eq verb (codes "is-enabled") then of_one is_enabled_for words
    else if bytes_eq verb (codes "get-default") then get_default_of words
    else if bytes_eq verb (codes "dependencies") then dependencies_of words
    else if bytes_eq verb (codes "undo") then of_one undo_row words
    else if bytes_eq verb (codes "redo") then of_one redo_row words
    else Err UnknownVerb

abbrev pub request_of : List (List ℕ) → Result (Request Action) Reason
request_of [] = Err UnknownVerb
request_of (verb ∷ words) = request_of_verb verb words
