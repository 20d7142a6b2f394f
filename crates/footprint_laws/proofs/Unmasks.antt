-- The keys that unmask looks at.
use Rattle.std.proofs.Common.{◌≡◌, ℕ, List, [], ◌∷◌, Contains, Ok, refl, sym, ap, subst, inl, inr}
use Rattle.std.specs.FinMap as map
use Rattle.unit_paths.specs.declared.place.Scope.{Scope}
use Rattle.unit_paths.specs.Places.{scope_place}
use Rattle.unit_paths.specs.Slots.{unit_slot}
use Rattle.link_tree.specs.Trees.{Entries, set_entry}
use Rattle.install_section.proofs.Least.{is_first, is_later, first_or_later, none_of}
use Rattle.tree_access.specs.declared.key.Key.{Key}
use Rattle.tree_access.specs.declared.key.Key.TheVariants.{Cell}
use Rattle.tree_access.specs.Placing.{ruled_at}
use Rattle.footprint.specs.Steps.{Step}
use Rattle.footprint.proofs.Turns.{left_by, leaves, looks_on, keys_in_turn, all_keys}
use Rattle.slot_commands.specs.Masks.{unmask_at, ruled_unit, unmask_meaning}
use Rattle.footprint_laws.specs.Slots.{UnmaskKeys, UnmaskLooks}
use Rattle.footprint_laws.specs.Slots.UnmaskKeys.{Slot}
use Rattle.footprint_laws.proofs.Keys.{looks, no_key}
use Rattle.slot_commands.proofs.Masked.{left, unmask_left}

module _ (scope : Scope) where
  abbrev slot : List ℕ → List ℕ
  slot unit = unit_slot (scope_place scope) unit

  abbrev step : List ℕ → Step
  step unit = ruled_unit unmask_at scope unit

  -- the tree that unmasking one unit leaves
  abbrev next : Entries → List ℕ → Entries
  next t unit = set_entry t (slot unit) (left (slot unit) (map.get t (slot unit)))

  left_ok : (t : Entries) (unit : List ℕ) → leaves (step unit) t ≡ Ok (next t unit)
  left_ok t unit = ap (λ ruled. left_by (ruled_at (slot unit) ruled) t) (unmask_left (slot unit) (map.get t (slot unit)))

  abbrev IsSlotOfOne : (units : List (List ℕ)) → Key → Type 0
  IsSlotOfOne units key = (unit : List ℕ) × (key ≡ Cell (slot unit)) × Contains units unit

  unmask_only : (units : List (List ℕ)) (t : Entries) (key : Key) → Contains (keys_in_turn step units t) key → IsSlotOfOne units key
  unmask_only [] t key here = no_key key here
  unmask_only (unit ∷ units) t key here = elim (first_or_later (Cell (slot unit)) (looks_on (keys_in_turn step units) (leaves (step unit) t)) key here.0 here.1 here.2) [
    | inl own ↦ (unit, own, is_first unit units unit refl)
    | inr later ↦
        let is = unmask_only units (next t unit) key (subst (λ left. Contains (looks_on (keys_in_turn step units) left) key) (left_ok t unit) later) in
        (is.0, is.1, is_later unit units is.0 is.2)
  ]

  unmask_all : (units : List (List ℕ)) (unit : List ℕ) (t : Entries) → Contains units unit → Contains (keys_in_turn step units t) (Cell (slot unit))
  unmask_all [] unit t here = absurd (none_of [] unit refl here)
  unmask_all (first ∷ units) unit t here = elim (first_or_later first units unit here.0 here.1 here.2) [
    | inl same ↦ is_first (Cell (slot first)) (looks_on (keys_in_turn step units) (leaves (step first) t)) (Cell (slot unit)) (ap (λ unit. Cell (slot unit)) same)
    | inr later ↦
        is_later (Cell (slot first)) (looks_on (keys_in_turn step units) (leaves (step first) t)) (Cell (slot unit))
        (subst (λ left. Contains (looks_on (keys_in_turn step units) left) (Cell (slot unit))) (sym (left_ok t first)) (unmask_all units unit (next t first) later))
  ]

pub unmask_looks : UnmaskLooks
unmask_looks unmask t key = (
  λ here.
      let is = unmask_only unmask.scope unmask.units t key (subst (λ keys. Contains keys key) (all_keys (ruled_unit unmask_at unmask.scope) unmask.units t) ((looks unmask_meaning unmask t key).0 here)) in
      subst (UnmaskKeys unmask) (sym is.1) (Slot is.0 is.2),
  λ looked. (looks unmask_meaning unmask t key).1 (subst (λ keys. Contains keys key) (sym (all_keys (ruled_unit unmask_at unmask.scope) unmask.units t)) (back key looked)),
)
  where
    back : (key : Key) → UnmaskKeys unmask key → Contains (keys_in_turn (ruled_unit unmask_at unmask.scope) unmask.units t) key
    back key (Slot unit here) = unmask_all unmask.scope unmask.units unit t here
