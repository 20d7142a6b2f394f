-- Whether a unit is enabled: systemctl(1), "is-enabled".
use Rattle.std.specs.Prelude.{ℕ, Bool, not, ◌&&◌, ◌==◌, if◌then◌else◌, List, Option, Some, None, length}
use Rattle.std.specs.List.{list_any}
use Rattle.std.specs.Str.{bytes_eq}
use Rattle.std.specs.FinMap as map
use Rattle.unit_paths.specs.declared.place.Place.{Place}
use Rattle.unit_paths.specs.declared.place.Place.TheVariants as places
use Rattle.unit_paths.specs.declared.place.Scope.{Scope}
use Rattle.unit_paths.specs.declared.place.Scope.TheVariants.{Etc, Run}
use Rattle.unit_paths.specs.Places.{scope_place}
use Rattle.unit_paths.specs.Slots.{slot_of, unit_slot}
use Rattle.unit_paths.specs.Kinds.{is_unit_slot}
use Rattle.link_tree.specs.Trees.{Entries}
use Rattle.load_path.specs.declared.finding.Found.{Found}
use Rattle.load_path.specs.declared.finding.Found.TheVariants as founds
use Rattle.load_path.specs.Find.{find}
use Rattle.install_section.specs.declared.section.Section.{Section}
use Rattle.install_section.specs.Sections.{section_of, is_empty}
use Rattle.footprint.specs.declared.answer.Answer.{Answer}
use Rattle.footprint.specs.declared.answer.Answer.TheVariants.{State}
use Rattle.footprint.specs.declared.answer.StateWord.{StateWord}
use Rattle.footprint.specs.declared.answer.StateWord.TheVariants.{NotFound, Masked, MaskedRuntime, Alias, Enabled, EnabledRuntime, Linked, LinkedRuntime, Static, Indirect, Disabled}
use Rattle.tree_access.specs.declared.key.Key.TheVariants.{Marked}
use Rattle.footprint.specs.Inquiry.{Inquiry, over, by_cells, entries_seen, giving, ◌>>=◌}
use Rattle.footprint.specs.Operations.{Effect}
use Rattle.states.specs.declared.is_enabled.IsEnabled.{IsEnabled}
use Rattle.states.specs.Questions.{asked}

-- one word if an entry is in /run, and another if it is elsewhere
abbrev pub by_place : Place → (in_run elsewhere : StateWord) → StateWord
by_place places.Run in_run elsewhere = in_run
by_place place in_run elsewhere = elsewhere

-- whether one of these links is at a path other than this
abbrev pub has_other : (own : List ℕ) → (links : Entries) → Bool
has_other own links = list_any (λ link. not (bytes_eq link.0 own)) (map.entries links)

-- whether a link of a scope that belongs to the unit is at another path than that of its own name
abbrev pub is_enabled_in : Scope → (unit : List ℕ) → (links : Entries) → Bool
is_enabled_in scope unit links = has_other (unit_slot (scope_place scope) unit) links

-- whether a section names units, but asks for no link
abbrev pub asks_for_none : Section → Bool
asks_for_none section = length section.text.alias == 0 && length section.text.wanted_by == 0 && length section.text.required_by == 0 && length section.text.upheld_by == 0

-- the word, by what the lists of a section hold
abbrev pub by_lists : Option Section → StateWord
by_lists None = Static
by_lists (Some section) = if is_empty section then Static else if asks_for_none section then Indirect else Disabled

-- the word, by where the unit's file is
abbrev pub by_file : (file : List ℕ) → Place → Option Section → StateWord
by_file file place section = if is_unit_slot (slot_of file) then by_lists section else by_place place LinkedRuntime Linked

-- The first of these that holds: a link of /etc enables it, or one of /run does; its file is
-- elsewhere; its section asks for nothing.
abbrev pub by_links : (unit file : List ℕ) → Place → Option Section → (etc run : Entries) → StateWord
by_links unit file place section etc run =
    if is_enabled_in Etc unit etc then Enabled else if is_enabled_in Run unit run then EnabledRuntime else by_file file place section

-- the word for a unit that is found under its own name and has this section
abbrev pub linked_word : (unit file : List ℕ) → Place → Option Section → Inquiry StateWord
linked_word unit file place section = do
  etc ← entries_seen (Marked Etc unit)
  run ← entries_seen (Marked Run unit)
  over (by_links unit file place section etc run)

-- the word for a unit that is found under its own name
abbrev pub unit_word : (unit file : List ℕ) → Place → Inquiry StateWord
unit_word unit file place = do
  section ← by_cells (section_of unit)
  linked_word unit file place section

abbrev pub named_word : (name real file : List ℕ) → Place → Inquiry StateWord
named_word name real file place = if bytes_eq real name then unit_word name file place else over Alias

-- the word for what a name is found as
abbrev pub found_word : (name : List ℕ) → Found → Inquiry StateWord
found_word name founds.Missing = over NotFound
found_word name (founds.Dangling link) = over NotFound
found_word name (founds.Masked place) = over (by_place place MaskedRuntime Masked)
found_word name (founds.Unit real file place) = named_word name real file place

abbrev pub state_word : (name : List ℕ) → Inquiry StateWord
state_word name = do
  found ← by_cells (find name)
  found_word name found

-- What the question looks up in a tree, and what it answers.
abbrev pub is_enabled_answer : IsEnabled → Inquiry Answer
is_enabled_answer c = giving (state_word c.unit) (λ word. State word)

abbrev pub is_enabled_meaning : IsEnabled → Inquiry Effect
is_enabled_meaning c = asked (is_enabled_answer c)
