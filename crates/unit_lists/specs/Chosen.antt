-- The units of which a preset of all units is one: systemctl(1), "preset-all".
use Rattle.std.specs.Prelude.{ℕ, ◌+◌, ◌-◌, Bool, true, false, not, ◌&&◌, ◌||◌, ◌==◌, nat_lt, nat_le, if◌then◌else◌, List, [], length, sum_by, map as list_map, filter_map, Option, Some, None}
use Rattle.std.specs.List.{count_by}
use Rattle.std.specs.Option.{option_or}
use Rattle.std.specs.Str.{bytes_eq}
use Rattle.unit_paths.specs.declared.place.Scope.TheVariants.{Etc, Run}
use Rattle.link_tree.specs.Belonging.{belonging}
use Rattle.link_tree.specs.Trees.{Entries}
use Rattle.load_path.specs.declared.finding.Found.{Found}
use Rattle.load_path.specs.declared.finding.Found.TheVariants as founds
use Rattle.load_path.specs.Find.{find}
use Rattle.install_section.specs.declared.section.Section.{Section}
use Rattle.install_section.specs.Sections.{section_of, is_empty}
use Rattle.unit_lists.specs.declared.chosen.Chosen.{Chosen}
use Rattle.unit_lists.specs.declared.chosen.Listed.{Listed}
use Rattle.unit_lists.specs.declared.chosen.PresetFault.{PresetFault}
use Rattle.unit_lists.specs.declared.chosen.PresetFault.TheVariants as faults
use Rattle.unit_lists.specs.declared.chosen.Role.{Role}
use Rattle.unit_lists.specs.declared.chosen.Role.TheVariants as roles
use Rattle.unit_lists.specs.declared.mode.Mode.{Mode}
use Rattle.unit_lists.specs.declared.mode.Mode.TheVariants.{Full, EnableOnly, DisableOnly}
use Rattle.unit_lists.specs.Modes.{names_in_mode}
use Rattle.unit_lists.specs.UnitFiles.{unit_files}

-- by the section of a unit that is found as itself: whether that names a unit or asks for a link
abbrev pub section_role : Option Section → Role
section_role (Some section) = if is_empty section then roles.Bare else roles.Chosen
section_role None = roles.Bare

-- by the name that a unit has
abbrev pub named_role : Entries → (name real : List ℕ) → Role
named_role t name real = if bytes_eq real name then section_role ((section_of name).conclusion t) else roles.Alias

-- by what a name is found as
abbrev pub found_role : Entries → (name : List ℕ) → Found → Role
found_role t name founds.Missing = roles.Dangling
found_role t name (founds.Dangling link) = roles.Dangling
found_role t name (founds.Masked place) = roles.Masked
found_role t name (founds.Unit real file place) = named_role t name real

-- what a name is for a preset of all units
abbrev pub role_of : Entries → (name : List ℕ) → Role
role_of t name = found_role t name ((find name).conclusion t)

abbrev pub with_role : Entries → (name : List ℕ) → Listed
with_role t name = record { name = name; role = role_of t name }

abbrev pub all_with_roles : Entries → (names : List (List ℕ)) → List Listed
all_with_roles t names = list_map (with_role t) names

abbrev pub is_chosen : Role → Bool
is_chosen roles.Chosen = true
is_chosen roles.Bare = false
is_chosen roles.Masked = false
is_chosen roles.Alias = false
is_chosen roles.Dangling = false

abbrev pub is_bare : Role → Bool
is_bare roles.Chosen = false
is_bare roles.Bare = true
is_bare roles.Masked = false
is_bare roles.Alias = false
is_bare roles.Dangling = false

abbrev pub is_masked : Role → Bool
is_masked roles.Chosen = false
is_masked roles.Bare = false
is_masked roles.Masked = true
is_masked roles.Alias = false
is_masked roles.Dangling = false

abbrev pub is_alias : Role → Bool
is_alias roles.Chosen = false
is_alias roles.Bare = false
is_alias roles.Masked = false
is_alias roles.Alias = true
is_alias roles.Dangling = false

abbrev pub is_dangling : Role → Bool
is_dangling roles.Chosen = false
is_dangling roles.Bare = false
is_dangling roles.Masked = false
is_dangling roles.Alias = false
is_dangling roles.Dangling = true

-- the names that are chosen
abbrev pub names_chosen : List Listed → List (List ℕ)
names_chosen listed = filter_map (λ one. if is_chosen one.role then Some one.name else None) listed

-- whether links of one of the scopes belong to a name
abbrev pub is_linked : Entries → (name : List ℕ) → Bool
is_linked t name = not (length (belonging Etc name t) == 0) || not (length (belonging Run name t) == 0)

-- the names that are found as themselves and ask for nothing, but have links
abbrev pub names_bare : Entries → List Listed → List (List ℕ)
names_bare t listed = filter_map (λ one. if is_bare one.role && is_linked t one.name then Some one.name else None) listed

-- those of them that the preset files disable, if the mode disables units
abbrev pub bare_in_mode : Entries → Mode → (names : List (List ℕ)) → List (List ℕ)
bare_in_mode t EnableOnly names = []
bare_in_mode t Full names = names_in_mode t DisableOnly names
bare_in_mode t DisableOnly names = names_in_mode t DisableOnly names

-- these of the mode, and how many are left out for what reason
abbrev pub chosen_of : Entries → Mode → List Listed → Chosen
chosen_of t mode listed = record {
  names = names_in_mode t mode (names_chosen listed);
  bare = bare_in_mode t mode (names_bare t listed);
  masked = count_by (λ one. is_masked one.role) listed;
  aliases = count_by (λ one. is_alias one.role) listed;
  dangling = count_by (λ one. is_dangling one.role) listed;
}

-- The units of which a preset of all units is one.
abbrev pub all_chosen : Mode → Entries → Chosen
all_chosen mode t = chosen_of t mode (all_with_roles t (unit_files t))

-- how many bytes names take in a line, each after a space
abbrev pub line_len : (names : List (List ℕ)) → ℕ
line_len names = sum_by (λ name. length name + 1) names

-- What keeps names from a line that has this many bytes before them: over 1,024 names, or else over
-- 65,536 bytes in all.
abbrev pub fault_of : (before : ℕ) → (names : List (List ℕ)) → Option PresetFault
fault_of before names =
    if nat_lt 1024 (length names) then Some faults.TooManyUnits
    else if nat_le (line_len names) (65536 - before) then None
    else Some faults.LineTooLong

-- what keeps one of the two lists from its line
abbrev pub chosen_fault : (before : ℕ) → Chosen → Option PresetFault
chosen_fault before chosen = option_or (fault_of before chosen.names) (fault_of before chosen.bare)
