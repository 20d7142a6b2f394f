-- What a tree says of one unit, as a text: systemctl(1), "status".
use Rattle.std.specs.Prelude.{ℕ, ◌==◌, if◌then◌else◌, List, [], ◌∷◌, ◌++◌, length, Option, Some, None, codes}
use Rattle.std.specs.List.{flat_map}
use Rattle.std.specs.Str.{bytes_eq}
use Rattle.load_path.specs.declared.finding.Found.{Found}
use Rattle.load_path.specs.declared.finding.Found.TheVariants as founds
use Rattle.footprint.specs.declared.answer.StateWord.{StateWord}
use Rattle.unit_lists.specs.declared.unit_line.PresetWord.{PresetWord}
use Rattle.unit_lists.specs.declared.status.UnitStatus.{UnitStatus}
use Rattle.unit_lists.specs.declared.status_text.PathNote.{PathNote}
use Rattle.unit_lists.specs.UnitLines.{listed_state_text, preset_text}

-- what is said of a path: the text of the first note on it, or nothing
abbrev pub note_on : List PathNote → (path : List ℕ) → List ℕ
note_on [] path = []
note_on (note ∷ notes) path = if bytes_eq note.path.now path then note.text.now else note_on notes path

-- what systemctl calls a unit that is found so
abbrev pub loaded_word : Found → List ℕ
loaded_word founds.Missing = codes "not-found"
loaded_word (founds.Dangling link) = codes "bad"
loaded_word (founds.Masked place) = codes "masked"
loaded_word (founds.Unit real file place) = codes "loaded"

abbrev pub path_or_none : Option (List ℕ) → List ℕ
path_or_none (Some path) = path
path_or_none None = []

-- the path that is shown: of the unit's file, of what masks it, or of the link that leads nowhere
abbrev pub loaded_path : (mask : Option (List ℕ)) → Found → List ℕ
loaded_path mask founds.Missing = []
loaded_path mask (founds.Dangling link) = link
loaded_path mask (founds.Masked place) = path_or_none mask
loaded_path mask (founds.Unit real file place) = file

abbrev pub preset_part : Option PresetWord → List ℕ
preset_part (Some word) = codes "; preset: " ++ preset_text word
preset_part None = []

-- the path, the state and what the preset files say
abbrev pub state_part : (path : List ℕ) → StateWord → Option PresetWord → List ℕ
state_part path state preset = if length path == 0 then [] else codes " (" ++ path ++ codes "; " ++ listed_state_text state ++ preset_part preset ++ codes ")"

unfoldable pub loaded_line : List PathNote → (mask : Option (List ℕ)) → Found → StateWord → Option PresetWord → List ℕ
loaded_line notes mask found state preset =
    codes "     Loaded: " ++ loaded_word found ++ state_part (loaded_path mask found) state preset ++ note_on notes (loaded_path mask found) ++ codes "\n"

-- a line of a head and a text
unfoldable pub line : (head text : List ℕ) → List ℕ
line head text = head ++ text ++ codes "\n"

-- whose other name it is
abbrev pub other_name_line : (name real : List ℕ) → List ℕ
other_name_line name real = if bytes_eq real name then [] else line (codes "   Alias of: ") real

unfoldable pub alias_line : (name : List ℕ) → Found → List ℕ
alias_line name founds.Missing = []
alias_line name (founds.Dangling link) = []
alias_line name (founds.Masked place) = []
alias_line name (founds.Unit real file place) = other_name_line name real

-- a line of a head and a path, and what is said of the path
unfoldable pub noted_line : List PathNote → (head path : List ℕ) → List ℕ
noted_line notes head path = head ++ path ++ note_on notes path ++ codes "\n"

-- a link, and what is said of it
unfoldable pub link_line : List PathNote → (link : List ℕ) → List ℕ
link_line notes link = noted_line notes (codes "       Link: ") link

unfoldable pub found_lines : List PathNote → (name : List ℕ) → (mask : Option (List ℕ)) → Found → StateWord → Option PresetWord → List ℕ
found_lines notes name mask found state preset = loaded_line notes mask found state preset ++ alias_line name found

unfoldable pub link_lines : List PathNote → (etc run : List (List ℕ)) → List ℕ
link_lines notes etc run = flat_map (link_line notes) etc ++ flat_map (link_line notes) run

-- What is known of a unit, with notes on paths.
abbrev pub status_text : List PathNote → UnitStatus → List ℕ
status_text notes status =
    line [] status.name ++ found_lines notes status.name status.mask status.found status.state status.preset ++ link_lines notes status.etc.items status.run.items
