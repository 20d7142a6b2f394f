-- Laws of which preset files count, each the contract of a public function.
use Rattle.std.specs.Prelude.{◌≡◌, ℕ, true, List, ◌⊎◌, ◌↔◌, Some, is_some}
use Rattle.std.specs.FinMap as map
use Rattle.unit_paths.specs.declared.place.Place.{Place}
use Rattle.unit_paths.specs.declared.place.Place.TheVariants.{Etc, Run, Vendor}
use Rattle.unit_paths.specs.Paths.{name_at}
use Rattle.link_tree.specs.Trees.{Entries}
use Rattle.preset_rules.specs.Files.{is_in, presets_of, winners}

-- there is an entry at a preset slot of the directory that has this file name
abbrev pub Stands : Place → Entries → (name path : List ℕ) → Type 0
Stands place t name path = (is_in place path ≡ true) × (name_at path ≡ name) × (is_some (map.get t path) ≡ true)

abbrev pub NoneStands : Place → Entries → (name : List ℕ) → Type 0
NoneStands place t name = (path : List ℕ) → ¬ Stands place t name path

-- The first of the directories that has a file name wins it, whatever is in those after it.
abbrev pub IsWinner : Entries → (name path : List ℕ) → Type 0
IsWinner t name path =
    Stands Etc t name path
    ⊎ (NoneStands Etc t name × Stands Run t name path)
    ⊎ (NoneStands Etc t name × NoneStands Run t name × Stands Vendor t name path)

abbrev pub FirstDirectoryWins : Type 0
FirstDirectoryWins = (t : Entries) (name path : List ℕ) → (map.get (winners (presets_of t)) name ≡ Some path) ↔ IsWinner t name path
