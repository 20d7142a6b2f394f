-- The keys that link and set-default look at.
use Rattle.std.proofs.Common.{◌≡◌, ℕ, true, false, List, [], ◌⊎◌, map as list_map, Contains, Result, refl, sym, subst, inl, inr}
use Rattle.std.proofs.lemmas.Bool.{cases_Bool}
use Rattle.std.proofs.lemmas.List.Elements.{Contains-append_left, Contains-append_right, Contains-append_cases}
use Rattle.unit_name.specs.Name.{is_unit_name, type_of}
use Rattle.unit_file.specs.Listed.{is_template_name}
use Rattle.unit_paths.specs.declared.place.Place.{Place}
use Rattle.unit_paths.specs.Paths.{name_at}
use Rattle.unit_paths.specs.Places.{scope_place}
use Rattle.unit_paths.specs.Slots.{slot_of, unit_slot}
use Rattle.unit_paths.specs.Kinds.{is_unit_slot}
use Rattle.link_tree.specs.Trees.{Entries}
use Rattle.load_path.specs.declared.finding.Found.{Found}
use Rattle.load_path.specs.declared.finding.Found.TheVariants as founds
use Rattle.load_path.specs.declared.following.End.{End}
use Rattle.load_path.specs.declared.following.End.TheVariants as ends
use Rattle.load_path.specs.Find.{find}
use Rattle.load_path.specs.Follow.{follow}
use Rattle.install_section.proofs.Least.{is_first}
use Rattle.tree_access.specs.declared.key.Key.{Key}
use Rattle.tree_access.specs.declared.key.Key.TheVariants.{Cell}
use Rattle.tree_access.specs.declared.refusal.Refusal.{Refusal}
use Rattle.footprint.specs.Steps.{unless_refused}
use Rattle.footprint.specs.Units.{found_unit}
use Rattle.footprint.proofs.Turns.{keys_in_turn, all_keys}
use Rattle.slot_commands.specs.declared.set_default.SetDefault.{SetDefault}
use Rattle.slot_commands.specs.LinkUnits.{link_file, link_end, link_unit, link_meaning}
use Rattle.slot_commands.specs.SetDefault.{default_slot, is_target_type, default_file, default_meaning}
use Rattle.footprint_laws.specs.Sets.{HasTurn}
use Rattle.footprint_laws.specs.Slots.{SetDefaultKeys, SetDefaultLooks, link_step, LinkKeys, LinkLooks}
use Rattle.footprint_laws.specs.Slots.SetDefaultKeys.{Unit as LooksUp, Link as LooksAtLink}
use Rattle.footprint_laws.specs.Slots.LinkKeys.{Way, Slot}
use Rattle.footprint_laws.proofs.Keys.{looks, cell_among, among_cells, no_key, only_cell}
use Rattle.footprint_laws.proofs.Turns.{turn_only, turn_all}

module _ (place : Place) (path : List ℕ) (u : Entries) where
  -- the slot at which a path is linked is looked at
  abbrev IsSlotLookedAt : Key → Type 0
  IsSlotLookedAt key = (is_unit_name (name_at path) ≡ true) × (is_unit_slot (slot_of path) ≡ false) × (key ≡ Cell (unit_slot place (name_at path)))

  file_only : (key : Key) → Contains ((link_file place path).keys u) key → IsSlotLookedAt key
  file_only key here = elim (cases_Bool (is_unit_name (name_at path))) [
    | inr other ↦ no_key key (rw other at here)
    | inl named ↦ elim (cases_Bool (is_unit_slot (slot_of path))) [
      | inl inside ↦ no_key key (rw (named, inside) at here)
      | inr outside ↦ (named, outside, only_cell (unit_slot place (name_at path)) key (rw (named, outside) at here))
    ]
  ]

  file_all : is_unit_name (name_at path) ≡ true → is_unit_slot (slot_of path) ≡ false → Contains ((link_file place path).keys u) (Cell (unit_slot place (name_at path)))
  file_all named outside = rw (named, outside) (is_first (Cell (unit_slot place (name_at path))) [] (Cell (unit_slot place (name_at path))) refl)

  -- by where the links lead
  end_only : (end : End) (key : Key) → Contains ((link_end place path end).keys u) key → (file : List ℕ) × (end ≡ ends.File file) × IsSlotLookedAt key
  end_only ends.Missing key here = no_key key here
  end_only ends.Null key here = no_key key here
  end_only (ends.Dangling link) key here = no_key key here
  end_only (ends.File file) key here = (file, refl, file_only key here)

  -- a path is looked at, what its links lead to, and where it is linked
  abbrev IsPathLookedAt : Key → Type 0
  IsPathLookedAt key = ((cell : List ℕ) × (key ≡ Cell cell) × Contains ((follow path).cells u) cell) ⊎ ((file : List ℕ) × ((follow path).conclusion u ≡ ends.File file) × IsSlotLookedAt key)

  unit_only : (key : Key) → Contains ((link_unit place path).keys u) key → IsPathLookedAt key
  unfolding link_unit
  unit_only key here = elim (Contains-append_cases (list_map Cell ((follow path).cells u)) ((link_end place path ((follow path).conclusion u)).keys u) key here) [
    | inl way ↦ inl (cell_among ((follow path).cells u) key way)
    | inr slot ↦ inr (end_only ((follow path).conclusion u) key slot)
  ]

  unit_way : (cell : List ℕ) → Contains ((follow path).cells u) cell → Contains ((link_unit place path).keys u) (Cell cell)
  unfolding link_unit
  unit_way cell here = Contains-append_left (list_map Cell ((follow path).cells u)) ((link_end place path ((follow path).conclusion u)).keys u) (Cell cell) (among_cells ((follow path).cells u) cell here)

  unit_at_slot : (file : List ℕ) → (follow path).conclusion u ≡ ends.File file → is_unit_name (name_at path) ≡ true → is_unit_slot (slot_of path) ≡ false → Contains ((link_unit place path).keys u) (Cell (unit_slot place (name_at path)))
  unfolding link_unit
  unit_at_slot file is named outside =
      Contains-append_right (list_map Cell ((follow path).cells u)) ((link_end place path ((follow path).conclusion u)).keys u) (Cell (unit_slot place (name_at path)))
      (subst (λ end. Contains ((link_end place path end).keys u) (Cell (unit_slot place (name_at path)))) (sym is) (file_all named outside))

pub link_looks : LinkLooks
link_looks link t key = (
  λ here.
      let turn = turn_only (link_step link) link.paths t key (subst (λ keys. Contains keys key) (all_keys (link_step link) link.paths t) ((looks link_meaning link t key).0 here)) in
      by_path turn.0 turn.1 turn.2 (unit_only (scope_place link.scope) turn.1 turn.0 key turn.3),
  λ looked. (looks link_meaning link t key).1 (subst (λ keys. Contains keys key) (sym (all_keys (link_step link) link.paths t)) (back key looked)),
)
  where
    by_path : (u : Entries) (path : List ℕ) → HasTurn (link_step link) link.paths t u path → IsPathLookedAt (scope_place link.scope) path u key → LinkKeys link t key
    by_path u path turn (inl way) = subst (LinkKeys link t) (sym way.1) (Way u path way.0 turn way.2)
    by_path u path turn (inr slot) = subst (LinkKeys link t) (sym slot.2.2) (Slot u path slot.0 turn slot.1 slot.2.0 slot.2.1)

    back : (key : Key) → LinkKeys link t key → Contains (keys_in_turn (link_step link) link.paths t) key
    back key (Way u path cell turn way) = turn_all (link_step link) link.paths t u path (Cell cell) turn (unit_way (scope_place link.scope) path u cell way)
    back key (Slot u path file turn is named outside) = turn_all (link_step link) link.paths t u path (Cell (unit_slot (scope_place link.scope) (name_at path))) turn (unit_at_slot (scope_place link.scope) path u file is named outside)

module _ (set_default : SetDefault) (t : Entries) where
  abbrev name : List ℕ
  name = set_default.unit

  -- the keys behind looking the unit up
  abbrev slot_keys : Result (List ℕ × List ℕ) Refusal → List Key
  slot_keys unit = (unless_refused (λ (unit : List ℕ × List ℕ). default_file name unit.0 unit.1) unit).keys t

  default_only : (real file : List ℕ) (key : Key) → Contains ((default_file name real file).keys t) key → (is_target_type (type_of name) ≡ true) × (is_template_name real ≡ false) × (key ≡ Cell default_slot)
  unfolding default_file
  default_only real file key here = elim (cases_Bool (is_target_type (type_of name))) [
    | inr other ↦ no_key key (rw other at here)
    | inl target ↦ elim (cases_Bool (is_template_name real)) [
      | inl template ↦ no_key key (rw (target, template) at here)
      | inr plain ↦ (target, plain, only_cell default_slot key (rw (target, plain) at here))
    ]
  ]

  default_all : (real file : List ℕ) → is_target_type (type_of name) ≡ true → is_template_name real ≡ false → Contains ((default_file name real file).keys t) (Cell default_slot)
  unfolding default_file
  default_all real file target plain = rw (target, plain) (is_first (Cell default_slot) [] (Cell default_slot) refl)

  by_found : (key : Key) (found : Found) → (find name).conclusion t ≡ found → Contains (slot_keys (found_unit name found)) key → SetDefaultKeys set_default t key
  by_found key founds.Missing is here = no_key key here
  by_found key (founds.Masked place) is here = no_key key here
  by_found key (founds.Dangling link) is here = no_key key here
  by_found key (founds.Unit real file place) is here = let at = default_only real file key here in subst (SetDefaultKeys set_default t) (sym at.2) (LooksAtLink real file (place, is) at.0 at.1)

  default_back : (key : Key) → SetDefaultKeys set_default t key → Contains ((default_meaning set_default).keys t) key
  default_back key (LooksUp path up) = Contains-append_left (list_map Cell ((find name).cells t)) (slot_keys (found_unit name ((find name).conclusion t))) (Cell path) (among_cells ((find name).cells t) path up)
  default_back key (LooksAtLink real file found target plain) =
      Contains-append_right (list_map Cell ((find name).cells t)) (slot_keys (found_unit name ((find name).conclusion t))) (Cell default_slot)
      (subst (λ found. Contains (slot_keys (found_unit name found)) (Cell default_slot)) (sym found.1) (default_all real file target plain))

pub set_default_looks : SetDefaultLooks
set_default_looks set_default t key = (
  λ here. elim (Contains-append_cases (list_map Cell ((find (name set_default t)).cells t)) (slot_keys set_default t (found_unit (name set_default t) ((find (name set_default t)).conclusion t))) key ((looks default_meaning set_default t key).0 here)) [
    | inl up ↦ (let at = cell_among ((find (name set_default t)).cells t) key up in subst (SetDefaultKeys set_default t) (sym at.1) (LooksUp at.0 at.2))
    | inr slot ↦ by_found set_default t key ((find (name set_default t)).conclusion t) refl slot
  ],
  λ looked. (looks default_meaning set_default t key).1 (default_back set_default t key looked),
)
