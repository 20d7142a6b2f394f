-- The keys that add-wants and add-requires look at.
use Rattle.std.proofs.Common.{◌≡◌, ℕ, List, [], ◌∷◌, ◌⊎◌, map as list_map, Contains, Option, Some, None, Result, refl, sym, subst, inl, inr}
use Rattle.std.specs.FinMap as map
use Rattle.std.proofs.lemmas.List.Elements.{Contains-append_left, Contains-append_right, Contains-append_cases}
use Rattle.unit_paths.specs.declared.place.Place.{Place}
use Rattle.unit_paths.specs.declared.slot.Dependency.{Dependency}
use Rattle.unit_paths.specs.Places.{scope_place}
use Rattle.unit_paths.specs.Slots.{dependency_slot}
use Rattle.link_tree.specs.Trees.{Entries}
use Rattle.load_path.specs.declared.finding.Found.{Found}
use Rattle.load_path.specs.declared.finding.Found.TheVariants as founds
use Rattle.load_path.specs.Find.{find}
use Rattle.install_section.specs.Sections.{section_by, section_of}
use Rattle.install_section.proofs.Least.{is_first, first_or_later}
use Rattle.install_section.proofs.LooksAsFind.{looks_as_find}
use Rattle.tree_access.specs.declared.key.Key.{Key}
use Rattle.tree_access.specs.declared.key.Key.TheVariants.{Cell}
use Rattle.tree_access.specs.declared.refusal.Refusal.{Refusal}
use Rattle.footprint.specs.Steps.{unless_refused}
use Rattle.footprint.specs.Units.{IsFound, found_unit}
use Rattle.footprint.proofs.Turns.{keys_in_turn, all_keys}
use Rattle.slot_commands.specs.declared.add_to.AddTo.{AddTo}
use Rattle.slot_commands.specs.AddTo.{as_dependency, default_of, name_listed, add_listed, add_file, add_unit, add_units, add_meaning, IsListed}
use Rattle.footprint_laws.specs.Sets.{IsLookedUp}
use Rattle.footprint_laws.specs.Slots.{add_step, AddKeys, AddLooks}
use Rattle.footprint_laws.specs.Slots.AddKeys.{Target, Unit, Link}
use Rattle.footprint_laws.proofs.Keys.{looks, cell_among, among_cells, no_key, only_cell}
use Rattle.footprint_laws.proofs.Turns.{LooksInTurn, turn_only, turn_all}

-- a unit's file is among the paths at which it is looked up
file_up : (unit : List ℕ) (u : Entries) (real file : List ℕ) (place : Place) → (find unit).conclusion u ≡ founds.Unit real file place → IsLookedUp u unit file
unfolding section_of
file_up unit u real file place is =
    (looks_as_find unit u file).0 (Contains-append_right ((find unit).cells u) ((section_by ((find unit).conclusion u)).cells u) file
    (subst (λ found. Contains ((section_by found).cells u) file) (sym is) (is_first file [] file refl)))

module _ (place : Place) (dependency : Dependency) (by unit : List ℕ) (u : Entries) where
  -- where a unit is looked up, or the slot of its link
  abbrev IsUnitLookedAt : Key → Type 0
  IsUnitLookedAt key = ((path : List ℕ) × (key ≡ Cell path) × IsLookedUp u unit path) ⊎ ((name : List ℕ) × (file : List ℕ) × IsListed u by unit name file × (key ≡ Cell (dependency_slot place dependency by name)))

  listed_only : (real file : List ℕ) → IsFound u unit real file → (key : Key) (name : Option (List ℕ)) → name_listed by real (default_of (map.get u file)) ≡ name
      → Contains ((add_listed place dependency by real file name).keys u) key → IsUnitLookedAt key
  listed_only real file found key None is here = no_key key here
  listed_only real file found key (Some name) is here = inr (name, file, (real, found, is), only_cell (dependency_slot place dependency by name) key here)

  file_only : (real file : List ℕ) (its : Place) → (find unit).conclusion u ≡ founds.Unit real file its → (key : Key) → Contains ((add_file place dependency by real file).keys u) key → IsUnitLookedAt key
  unfolding add_file
  file_only real file its is key here = elim (first_or_later (Cell file) ((add_listed place dependency by real file (name_listed by real (default_of (map.get u file)))).keys u) key here.0 here.1 here.2) [
    | inl own ↦ inl (file, own, file_up unit u real file its is)
    | inr later ↦ listed_only real file (its, is) key (name_listed by real (default_of (map.get u file))) refl later
  ]

  -- the keys behind looking the unit up
  abbrev later_keys : Result (List ℕ × List ℕ) Refusal → List Key
  later_keys unit = (unless_refused (λ (unit : List ℕ × List ℕ). add_file place dependency by unit.0 unit.1) unit).keys u

  by_found : (key : Key) (found : Found) → (find unit).conclusion u ≡ found → Contains (later_keys (found_unit unit found)) key → IsUnitLookedAt key
  by_found key founds.Missing is here = no_key key here
  by_found key (founds.Masked place) is here = no_key key here
  by_found key (founds.Dangling link) is here = no_key key here
  by_found key (founds.Unit real file its) is here = file_only real file its is key here

  unit_only : (key : Key) → Contains ((add_unit place dependency by unit).keys u) key → IsUnitLookedAt key
  unfolding add_unit
  unit_only key here = elim (Contains-append_cases (list_map Cell ((find unit).cells u)) (later_keys (found_unit unit ((find unit).conclusion u))) key here) [
    | inl up ↦ inl (cell_among ((find unit).cells u) key up)
    | inr later ↦ by_found key ((find unit).conclusion u) refl later
  ]

  unit_up : (path : List ℕ) → IsLookedUp u unit path → Contains ((add_unit place dependency by unit).keys u) (Cell path)
  unfolding add_unit
  unit_up path up = Contains-append_left (list_map Cell ((find unit).cells u)) (later_keys (found_unit unit ((find unit).conclusion u))) (Cell path) (among_cells ((find unit).cells u) path up)

  unit_listed : (name file : List ℕ) → IsListed u by unit name file → Contains ((add_unit place dependency by unit).keys u) (Cell (dependency_slot place dependency by name))
  unfolding add_unit add_file
  unit_listed name file listed =
      let slot = Cell (dependency_slot place dependency by name) in
      Contains-append_right (list_map Cell ((find unit).cells u)) (later_keys (found_unit unit ((find unit).conclusion u))) slot
      (subst (λ found. Contains (later_keys (found_unit unit found)) slot) (sym listed.1.1)
      (Contains-append_right (Cell file ∷ []) ((add_listed place dependency by listed.0 file (name_listed by listed.0 (default_of (map.get u file)))).keys u) slot
      (subst (λ name. Contains ((add_listed place dependency by listed.0 file name).keys u) slot) (sym listed.2) (is_first slot [] slot refl))))

module _ (add : AddTo) (t : Entries) where
  abbrev units_keys : Result (List ℕ × List ℕ) Refusal → List Key
  units_keys target = (unless_refused (λ (target : List ℕ × List ℕ). add_units (scope_place add.scope) (as_dependency add.dependency) add.units target.0) target).keys t

  by_turn : (by file : List ℕ) → IsFound t add.target by file → (key : Key) → LooksInTurn (add_step add by) add.units t key → AddKeys add t key
  by_turn by file found key turn = elim (unit_only (scope_place add.scope) (as_dependency add.dependency) by turn.1 turn.0 key turn.3) [
    | inl up ↦ subst (AddKeys add t) (sym up.1) (Unit by file turn.0 turn.1 up.0 found turn.2 up.2)
    | inr slot ↦ subst (AddKeys add t) (sym slot.3) (Link by file turn.0 turn.1 slot.0 slot.1 found turn.2 slot.2)
  ]

  by_target : (key : Key) (found : Found) → (find add.target).conclusion t ≡ found → Contains (units_keys (found_unit add.target found)) key → AddKeys add t key
  by_target key founds.Missing is here = no_key key here
  by_target key (founds.Masked place) is here = no_key key here
  by_target key (founds.Dangling link) is here = no_key key here
  by_target key (founds.Unit real file place) is here = by_turn real file (place, is) key (turn_only (add_step add real) add.units t key (subst (λ keys. Contains keys key) (all_keys (add_step add real) add.units t) here))

  in_units : (by file : List ℕ) → IsFound t add.target by file → (key : Key) → Contains (keys_in_turn (add_step add by) add.units t) key → Contains ((add_meaning add).keys t) key
  in_units by file found key here =
      Contains-append_right (list_map Cell ((find add.target).cells t)) (units_keys (found_unit add.target ((find add.target).conclusion t))) key
      (subst (λ found. Contains (units_keys (found_unit add.target found)) key) (sym found.1) (subst (λ keys. Contains keys key) (sym (all_keys (add_step add by) add.units t)) here))

  back : (key : Key) → AddKeys add t key → Contains ((add_meaning add).keys t) key
  back key (Target path up) =
      Contains-append_left (list_map Cell ((find add.target).cells t)) (units_keys (found_unit add.target ((find add.target).conclusion t))) (Cell path) (among_cells ((find add.target).cells t) path up)
  back key (Unit by file u unit path found turn up) = in_units by file found (Cell path) (turn_all (add_step add by) add.units t u unit (Cell path) turn (unit_up (scope_place add.scope) (as_dependency add.dependency) by unit u path up))
  back key (Link by file u unit name its found turn listed) =
      let slot = Cell (dependency_slot (scope_place add.scope) (as_dependency add.dependency) by name) in
      in_units by file found slot (turn_all (add_step add by) add.units t u unit slot turn (unit_listed (scope_place add.scope) (as_dependency add.dependency) by unit u name its listed))

pub add_looks : AddLooks
add_looks add t key = (
  λ here. elim (Contains-append_cases (list_map Cell ((find add.target).cells t)) (units_keys add t (found_unit add.target ((find add.target).conclusion t))) key ((looks add_meaning add t key).0 here)) [
    | inl up ↦ (let at = cell_among ((find add.target).cells t) key up in subst (AddKeys add t) (sym at.1) (Target at.0 at.2))
    | inr units ↦ by_target add t key ((find add.target).conclusion t) refl units
  ],
  λ looked. (looks add_meaning add t key).1 (back add t key looked),
)
