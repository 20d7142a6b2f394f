-- The directories of units and presets.
use Rattle.std.specs.Prelude.{ℕ, List, [], ◌∷◌, ◌++◌, Option, Some, None, codes}
use Rattle.std.specs.List.{find}
use Rattle.std.specs.Str.{bytes_eq}
use Rattle.unit_paths.specs.declared.place.Scope.{Scope}
use Rattle.unit_paths.specs.declared.place.Scope.TheVariants as scopes
use Rattle.unit_paths.specs.declared.place.Place.{Place}
use Rattle.unit_paths.specs.declared.place.Place.TheVariants.{Etc, Run, Local, Vendor}

-- the directories of units: systemd.unit(5), "Unit File Load Path"
unfoldable pub unit_directory : Place → List ℕ
unit_directory Etc = codes "/etc/systemd/system"
unit_directory Run = codes "/run/systemd/system"
unit_directory Local = codes "/usr/local/lib/systemd/system"
unit_directory Vendor = codes "/usr/lib/systemd/system"

-- in the order in which they are searched
abbrev pub places : List Place
places = Etc ∷ Run ∷ Local ∷ Vendor ∷ []

-- the directories of presets: systemd.preset(5)
abbrev pub preset_directory : Place → List ℕ
preset_directory place = unit_directory place ++ codes "-preset"

-- the directories of units that have a directory of presets next to them
abbrev pub preset_places : List Place
preset_places = Etc ∷ Run ∷ Vendor ∷ []

-- which directory of units it is
unfoldable pub place_of : List ℕ → Option Place
place_of dir = find (λ place. bytes_eq dir (unit_directory place)) places

-- which directory of presets it is
unfoldable pub preset_place_of : List ℕ → Option Place
preset_place_of dir = find (λ place. bytes_eq dir (preset_directory place)) preset_places

-- where the commands place links: systemctl(1), --runtime
abbrev pub scope_place : Scope → Place
scope_place scopes.Etc = Etc
scope_place scopes.Run = Run

-- the scope whose commands place links in a directory of units, if there is one
abbrev pub scope_of_place : Place → Option Scope
scope_of_place Etc = Some scopes.Etc
scope_of_place Run = Some scopes.Run
scope_of_place Local = None
scope_of_place Vendor = None
