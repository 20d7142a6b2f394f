-- The lines that are printed.
use Rattle.std.specs.Prelude.{◌≡◌, ◌≤◌, ℕ, Bool, false, List, [], ◌∷◌, ◌++◌, Option, Some, None, option_map, codes}
use Rattle.link_tree.specs.declared.change.Change.{Change}
use Rattle.footprint.specs.declared.answer.StateWord.{StateWord}
use Rattle.unit_lists.specs.UnitLines.{listed_state_text}
use Rattle.unit_script.specs.Texts.{state_text}
use Rattle.unit_lists.specs.declared.status.UnitStatus.{UnitStatus}
use Rattle.unit_lists.specs.StatusTexts.{loaded_word, loaded_path}
use Rattle.unit_lists.specs.UnitLines.{preset_text}
use Rattle.serde_json.specs.Data.{Data, null, boolean, string, object, Members, no_members, depth}
use Rattle.serde_json.specs.Read.{read, max_depth}
use Rattle.serde_json.specs.Written.{compact_text, has_float}
use Rattle.root_json.specs.Objects.{◌with◌being◌, count, text_data, texts_data}
use Rattle.root_json.specs.Changes.{changes_data}
use Rattle.root_json.specs.Answers.{with_state}
use Rattle.root_json.specs.Rows.{with_line}

-- The line of some data: their text without blanks, and LF.
abbrev pub line_text : Data → List ℕ
line_text d = compact_text d ++ codes "\n"

-- One line more, whose text reads as the data.
abbrev pub AddsLine : Data → List ℕ → List ℕ → Type 0
AddsLine d old new = (new ≡ old ++ line_text d) × (read (compact_text d) ≡ Some d)

-- The same, for data of which it isn't known whether they have floats and how deep they nest: those
-- without floats have that text, and those that nest at most 127 deep read back.
abbrev pub AddsTextOf : Data → List ℕ → List ℕ → Type 0
AddsTextOf d old new = (text : List ℕ) × (new ≡ old ++ (text ++ codes "\n")) × (has_float d ≡ false → text ≡ compact_text d) × (depth d ≤ max_depth → read text ≡ Some d)

-- what a run ended with: how many calls it had, how many of these were refused, and its changes
abbrev pub summary_data : ℕ → ℕ → Bool → Bool → List Change → Data
summary_data calls refused dry_run made changes = object (no_members
    with codes "calls" being count calls
    with codes "refused" being count refused
    with codes "dry_run" being boolean dry_run
    with codes "made" being boolean made
    with codes "changes" being changes_data changes)

-- a word, or null if there is none
abbrev pub word_data : Option (List ℕ) → Data
word_data None = null
word_data (Some word) = string word

-- a unit file of a list, with the state that the list has, and its preset
abbrev pub unit_file_data : List ℕ → StateWord → Option (List ℕ) → Data
unit_file_data name state preset = object (no_members
    with codes "unit_file" being text_data name
    with codes "state" being string (listed_state_text state)
    with codes "preset" being word_data preset)

-- a unit by its name
abbrev pub unit_members : List ℕ → Members
unit_members name = no_members with codes "unit" being text_data name

abbrev pub unit_data : List ℕ → Data
unit_data name = object (unit_members name)

-- whether a unit is enabled
abbrev pub state_data : List ℕ → StateWord → Data
state_data name state = object (with_state (unit_members name) state)

-- a word that is wrong, if it is known
abbrev pub with_word : Members → Option (List ℕ) → Members
with_word ms None = ms
with_word ms (Some word) = ms with codes "word" being text_data word

-- an error: its text, and the status that follows from it
abbrev pub error_members : List ℕ → ℕ → Members
error_members text status = no_members
    with codes "error" being text_data text
    with codes "status" being count status

-- an error, and where it is
abbrev pub error_data : List ℕ → ℕ → Option ℕ → Option (List ℕ) → Data
error_data text status line word = object (with_word (with_line (error_members text status) line) word)

-- a path, or null if it is empty
abbrev pub path_data : List ℕ → Data
path_data [] = null
path_data (b ∷ bs) = text_data (b ∷ bs)

-- whether and where a unit is found
abbrev pub found_members : UnitStatus → Members
found_members status = no_members
    with codes "unit" being text_data status.name
    with codes "load" being string (loaded_word status.found)
    with codes "path" being path_data (loaded_path status.mask status.found)

-- its state and its preset
abbrev pub with_states : Members → UnitStatus → Members
with_states ms status = ms
    with codes "state" being string (state_text status.state)
    with codes "preset" being word_data (option_map preset_text status.preset)

-- the links of /etc and of /run that belong to its name
abbrev pub with_links : Members → UnitStatus → Members
with_links ms status = ms
    with codes "links" being texts_data status.etc.items
    with codes "runtime_links" being texts_data status.run.items

-- all that is known of a unit
abbrev pub status_data : UnitStatus → Data
status_data status = object (with_links (with_states (found_members status) status) status)

-- a warning on a unit
abbrev pub warning_data : List ℕ → List ℕ → Data
warning_data name warning = object (unit_members name with codes "warning" being text_data warning)

-- which row of a history made what is at a path, and whose row it is
abbrev pub with_maker : Members → (path : List ℕ) → (row : ℕ) → (operator : List ℕ) → Members
with_maker ms path row operator = ms
    with codes "path" being text_data path
    with codes "made_by" being count row
    with codes "operator" being text_data operator

-- the same of a path of a unit
abbrev pub maker_data : (unit path : List ℕ) → (row : ℕ) → (operator : List ℕ) → Data
maker_data unit path row operator = object (with_maker (unit_members unit) path row operator)
