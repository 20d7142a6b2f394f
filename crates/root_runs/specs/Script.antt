-- The calls of a script that a command of unitroot makes: systemctl(1), "Unit File Commands".
use Rattle.std.specs.Prelude.{◌≡◌, ℕ, ◌+◌, Bool, true, false, not, ◌&&◌, ◌||◌, if◌then◌else◌, nat_eq, List, [], ◌∷◌, ◌++◌, map, Option, Some, None, Result, Ok, Err, codes, string_bytes, ⊤}
use Rattle.std.specs.List.{list_any, filter, starts_with}
use Rattle.std.specs.Str.{bytes_eq}
use Rattle.std.specs.Fmt.{decimal}
use Rattle.unit_paths.specs.Paths.{is_slash, is_path, name_at, parent}
use Rattle.unit_paths.specs.Places.{unit_directory}
use Rattle.unit_paths.specs.declared.place.Place.TheVariants.{Etc, Run, Local, Vendor}
use Rattle.link_tree.specs.Inventory.{◌>>=◌}
use Rattle.unit_script.specs.declared.call.Call.{Call}
use Rattle.unit_script.specs.declared.reason.Reason.{Reason}
use Rattle.unit_script.specs.Script.{call_of_words}
use Rattle.root_words.specs.declared.asked.UnitsVerb.{UnitsVerb}
use Rattle.root_words.specs.declared.asked.UnitsVerb.TheVariants as verbs
use Rattle.root_words.specs.declared.asked.AddedAs.{AddedAs}
use Rattle.root_words.specs.declared.asked.AddedAs.TheVariants as added
use Rattle.root_words.specs.declared.asked.Command.{Command}
use Rattle.root_words.specs.declared.asked.Command.TheVariants as commands
use Rattle.root_runs.specs.declared.names.Suffix.TheVariants.{Service, Target}
use Rattle.root_runs.specs.declared.calls.CallFault.{CallFault}
use Rattle.root_runs.specs.declared.calls.CallError.{CallError}
use Rattle.root_runs.specs.declared.calls.CallError.TheVariants as errors
use Rattle.root_runs.specs.declared.script.Form.{Form}
use Rattle.root_runs.specs.declared.script.Form.TheVariants.{Given, Name, NameOrPath, Path}
use Rattle.root_runs.specs.Names.{named}

-- The name of a unit in a list of names. As with systemctl, a word with a slash is no abbreviation:
-- it stays, and is no name.
abbrev pub completed : List ℕ → List ℕ
completed word = if list_any is_slash word then word else named Service word

-- a path beneath /lib is that beneath /usr/lib: file-hierarchy(7)
abbrev pub spelled : List ℕ → List ℕ
spelled path = if starts_with nat_eq path (codes "/lib/systemd/system/") then codes "/usr" ++ path else path

-- the name of a unit that a name or the path of its file stands for
abbrev pub unit_at : List ℕ → List ℕ
unit_at word = if is_path word then name_at word else completed word

-- a word as it comes into a call
abbrev pub formed : Form → List ℕ → List ℕ
formed Given word = word
formed Name word = completed word
formed NameOrPath word = unit_at word
formed Path word = spelled word

-- a directory of units, or /lib/systemd/system, which is one of them
abbrev pub is_unit_directory : List ℕ → Bool
is_unit_directory dir =
    bytes_eq dir (codes "/lib/systemd/system") || bytes_eq dir (unit_directory Etc) || bytes_eq dir (unit_directory Run)
    || bytes_eq dir (unit_directory Local) || bytes_eq dir (unit_directory Vendor)

-- the path of a file that will be linked: a file in a directory of units is found there by its
-- name
abbrev pub is_linked : List ℕ → Bool
is_linked word = is_path word && not (is_unit_directory (parent word))

abbrev pub runtime_words : Bool → List (List ℕ)
runtime_words true = codes "--runtime" ∷ []
runtime_words false = []

abbrev pub reverse_words : Bool → List (List ℕ)
reverse_words true = codes "--reverse" ∷ []
reverse_words false = []

-- the verb of a script
abbrev pub units_verb : UnitsVerb → List ℕ
units_verb verbs.Enable = codes "enable"
units_verb verbs.Disable = codes "disable"
units_verb verbs.Reenable = codes "reenable"
units_verb verbs.Preset = codes "preset"
units_verb verbs.Mask = codes "mask"
units_verb verbs.Unmask = codes "unmask"

-- enable and disable take paths of unit files too
abbrev pub units_form : UnitsVerb → Form
units_form verbs.Enable = NameOrPath
units_form verbs.Disable = NameOrPath
units_form verbs.Reenable = Name
units_form verbs.Preset = Name
units_form verbs.Mask = Name
units_form verbs.Unmask = Name

abbrev pub added_verb : AddedAs → List ℕ
added_verb added.Wants = codes "add-wants"
added_verb added.Requires = codes "add-requires"

-- a call of a verb with its option and its words
abbrev pub call_on : List ℕ → Bool → Form → List (List ℕ) → List (List ℕ)
call_on verb runtime form words = verb ∷ runtime_words runtime ++ map (formed form) words

-- the call that links the files that are given by their paths, if there is one
abbrev pub link_calls : Bool → List (List ℕ) → List (List (List ℕ))
link_calls runtime [] = []
link_calls runtime (path ∷ paths) = call_on (codes "link") runtime Path (path ∷ paths) ∷ []

abbrev pub links_of : UnitsVerb → List (List ℕ) → List (List ℕ)
links_of verbs.Enable words = filter is_linked words
links_of verbs.Disable words = []
links_of verbs.Reenable words = []
links_of verbs.Preset words = []
links_of verbs.Mask words = []
links_of verbs.Unmask words = []

-- the calls of a verb with names of units: enable links the files that are given by their paths
-- first
abbrev pub units_calls : UnitsVerb → Bool → List (List ℕ) → List (List (List ℕ))
units_calls verb runtime words = link_calls runtime (links_of verb words) ++ call_on (units_verb verb) runtime (units_form verb) words ∷ []

abbrev pub add_call : AddedAs → Bool → List ℕ → List (List ℕ) → List (List ℕ)
add_call as_what runtime target words = added_verb as_what ∷ runtime_words runtime ++ named Target target ∷ map (formed Name) words

abbrev pub is_enabled_call : List ℕ → List (List ℕ)
is_enabled_call word = codes "is-enabled" ∷ completed word ∷ []

abbrev pub dependencies_call : Bool → List ℕ → List (List ℕ)
dependencies_call reverse word = codes "dependencies" ∷ reverse_words reverse ++ named Service word ∷ []

-- the undo or the redo of a row
abbrev pub row_call : List ℕ → ℕ → List (List ℕ)
row_call verb row = verb ∷ decimal row ∷ []

-- The calls of a command, each the words of a line of a script from the verb on. Other commands
-- than these make no calls.
abbrev pub script_of : Command → Option (List (List (List ℕ)))
script_of (commands.Units verb runtime mode names) = Some (units_calls verb runtime (map string_bytes names.items))
script_of (commands.PresetAll runtime mode) = None
script_of (commands.Link runtime paths) = Some (call_on (codes "link") runtime Path (map string_bytes paths.items) ∷ [])
script_of (commands.Add as_what runtime target names) = Some (add_call as_what runtime (string_bytes target) (map string_bytes names.items) ∷ [])
script_of (commands.SetDefault word) = Some ((codes "set-default" ∷ named Target (string_bytes word) ∷ []) ∷ [])
script_of commands.GetDefault = Some ((codes "get-default" ∷ []) ∷ [])
script_of (commands.IsEnabled names) = Some (map is_enabled_call (map string_bytes names.items))
script_of (commands.ListUnitFiles listed) = None
script_of (commands.ListDependencies reverse unit) = Some (dependencies_call reverse (string_bytes unit) ∷ [])
script_of (commands.Status names) = None
script_of (commands.Place words) = Some ((codes "place" ∷ map (formed Given) (map string_bytes words.items)) ∷ [])
script_of (commands.Remove path) = Some ((codes "remove" ∷ string_bytes path ∷ []) ∷ [])
script_of (commands.Undo rows with_later) = Some (map (row_call (codes "undo")) rows.items)
script_of (commands.Redo rows) = Some (map (row_call (codes "redo")) rows.items)
script_of (commands.Run file rows) = None
script_of (commands.Capture all) = None
script_of (commands.Diff other) = None
script_of (commands.Apply file) = None
script_of (commands.Keep anew) = None
script_of commands.Recover = None
script_of commands.Forget = None
script_of (commands.Log asked) = None
script_of (commands.Show row) = None

-- a reason with the place of its call, from 0
abbrev pub at_place : {A : Type 0} → ℕ → Result A Reason → Result A CallFault
at_place place (Ok x) = Ok x
at_place place (Err reason) = Err (record { place = place; reason = reason })

-- the calls so far, and those of the words that follow, of which the first are at this place
abbrev pub calls_after : List Call → ℕ → List ℕ → List (List (List ℕ)) → Result (List Call) CallFault
calls_after calls place operator [] = Ok calls
calls_after calls place operator (words ∷ more) =
    at_place place (call_of_words operator words) >>= λ call. calls_after (calls ++ call ∷ []) (place + 1) operator more

-- what an operator asks for by the words of calls, or the first that are refused, and why
abbrev pub calls_of : List ℕ → List (List (List ℕ)) → Result (List Call) CallFault
calls_of operator script = calls_after [] 0 operator script

-- The words are these calls, or refused for this fault, unless memory ran out.
abbrev pub MakesCalls : {X : Type 0} → (X → List Call) → Result X CallError → Result (List Call) CallFault → Type 0
MakesCalls view (Ok calls) made = made ≡ Ok (view calls)
MakesCalls view (Err (errors.Fault fault)) made = made ≡ Err fault
MakesCalls view (Err errors.OutOfMemory) made = ⊤
