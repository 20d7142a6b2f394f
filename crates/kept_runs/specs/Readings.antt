-- Why a text isn't read.
use Rattle.std.specs.Prelude.{◌≡◌, ◌≢◌, ◌<◌, ◌≤◌, ◌+◌, ◌-◌, ℕ, List, ◌∷◌, ◌++◌, length, slice_get, Option, Some, IfSome, Ok, Err, All}
use Rattle.link_tree.specs.Trees.{Entries}
use Rattle.history.specs.declared.row.Row.{Row}
use Rattle.unit_script.specs.declared.action.Action.{Action}
use Rattle.unit_script.specs.declared.call.Call.{Call}
use Rattle.unit_script.specs.Machine.{replay}
use Rattle.unit_script.specs.Runs.{input_of}
use Rattle.kept_texts.specs.declared.reading.Parts.{Parts}
use Rattle.kept_texts.specs.declared.runs.Run.{Run}
use Rattle.kept_texts.specs.Readings.{read_text}
use Rattle.kept_texts.specs.Texts.{sum_of_slots}
use Rattle.kept_runs.specs.declared.errors.KeptError.{KeptError}
use Rattle.kept_runs.specs.declared.errors.KeptError.TheVariants as keeps
use Rattle.kept_runs.specs.Texts.{Says}

-- All runs were made by these rules.
abbrev pub AreOfRules : (rules : ℕ) → List Run → Type 0
AreOfRules rules runs = All (λ run. run.words.rules ≡ rules) runs

-- The run of this number, counted from 1, is the first that was not made by these rules, but by
-- others.
abbrev pub IsFirstOfOthers : (rules : ℕ) → List Run → (number others : ℕ) → Type 0
IsFirstOfOthers rules runs number others = (before : List Run) × (run : Run) × (after : List Run)
    × (runs ≡ before ++ run ∷ after) × AreOfRules rules before × (number ≡ length before + 1)
    × (run.words.rules ≡ others) × (others ≢ rules)

abbrev pub last_run : List Run → Option Run
last_run runs = slice_get runs (length runs - 1)

-- The last run, if there is one, left the slots of this tree.
abbrev pub LeftSlotsOf : Entries → List Run → Type 0
LeftSlotsOf tree runs = IfSome (last_run runs) (λ run. run.tree ≡ sum_of_slots tree)

-- The last run left other slots than those of this tree.
abbrev pub LeftOtherSlots : Entries → List Run → Type 0
LeftOtherSlots tree runs = (run : Run) × (last_run runs ≡ Some run) × (run.tree ≢ sum_of_slots tree)

-- The error is the fault of an input of unitadm, or that it has over 1,000,000 calls.
abbrev pub IsInputFault : KeptError → List ℕ → Type 0
IsInputFault (keeps.Input fault) text = input_of text ≡ Err fault
IsInputFault keeps.Full text =
    (first : Entries) × (calls : List Call) × (input_of text ≡ Ok (first, calls)) × (1000000 < length calls)
IsInputFault keeps.OutOfMemory text = Unit {0}
IsInputFault (keeps.Text line fault) text = ⊥
IsInputFault (keeps.RulesDiffer run others) text = ⊥
IsInputFault (keeps.TreeDiffers row) text = ⊥

-- The lines of the text have their forms, and all its runs were made by these rules.
abbrev pub HasRunsOf : (rules : ℕ) → List ℕ → Type 0
HasRunsOf rules text = (parts : Parts) × (read_text text ≡ Ok parts) × AreOfRules rules parts.runs.all

-- The rows of the text don't lead to the slots that its last run left.
abbrev pub HasOtherSlots : (row : ℕ) → List ℕ → Type 0
HasOtherSlots row text = (parts : Parts) × (read_text text ≡ Ok parts)
    × (first : Entries) × (rows : List (Row Action)) × Says text first rows × (length rows ≤ 1000000)
    × (row ≡ length rows) × LeftOtherSlots (replay first rows) parts.runs.all

-- The error is the first of these faults that the text has: a bad line, a run of other rules, the
-- fault of an input, too many calls, other slots than the last run left.
abbrev pub IsReadFault : (rules : ℕ) → KeptError → List ℕ → Type 0
IsReadFault rules (keeps.Text line fault) text = read_text text ≡ Err (line, fault)
IsReadFault rules (keeps.RulesDiffer run others) text =
    (parts : Parts) × (read_text text ≡ Ok parts) × IsFirstOfOthers rules parts.runs.all run others
IsReadFault rules (keeps.Input fault) text = HasRunsOf rules text × IsInputFault (keeps.Input fault) text
IsReadFault rules keeps.Full text = HasRunsOf rules text × IsInputFault keeps.Full text
IsReadFault rules (keeps.TreeDiffers row) text = HasRunsOf rules text × HasOtherSlots row text
IsReadFault rules keeps.OutOfMemory text = Unit {0}
