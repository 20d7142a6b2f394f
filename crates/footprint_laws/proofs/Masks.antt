-- The keys that mask looks at.
use Rattle.std.proofs.Common.{◌≡◌, ℕ, true, List, [], ◌∷◌, ◌++◌, All, Contains, Ok, Err, refl, sym, ap, subst, ◌∙◌, inl, inr}
use Rattle.std.specs.FinMap as map
use Rattle.std.proofs.lemmas.Bool.{cases_Bool}
use Rattle.std.proofs.lemmas.List.Elements.{All-nil, All-cons, All-head, All-tail, All-weaker, Contains-append_right}
use Rattle.unit_paths.specs.declared.place.Scope.{Scope}
use Rattle.unit_paths.specs.Places.{scope_place}
use Rattle.unit_paths.specs.Slots.{unit_slot}
use Rattle.link_tree.specs.Trees.{Entries}
use Rattle.install_section.proofs.Least.{is_first, first_or_later}
use Rattle.tree_access.specs.declared.key.Key.{Key}
use Rattle.tree_access.specs.declared.key.Key.TheVariants.{Cell}
use Rattle.tree_access.specs.declared.refusal.Refusal.TheVariants.{Exists}
use Rattle.tree_access.specs.Placing.{ruled_at}
use Rattle.footprint.specs.Steps.{Step}
use Rattle.footprint.proofs.Turns.{left_by, leaves, looks_on, keys_in_turn, all_keys}
use Rattle.slot_commands.specs.Masks.{mask_at, ruled_unit, is_in_the_way, mask_meaning}
use Rattle.footprint_laws.specs.Sets.{IsUpTo}
use Rattle.footprint_laws.specs.Slots.{MaysMask, MaskKeys, MaskLooks}
use Rattle.footprint_laws.specs.Slots.MaskKeys.{Slot}
use Rattle.footprint_laws.proofs.Keys.{looks, no_key}
use Rattle.slot_commands.proofs.Masked.{mask_filled, mask_refused, next, alike}

module _ (scope : Scope) where
  abbrev slot : List ℕ → List ℕ
  slot unit = unit_slot (scope_place scope) unit

  abbrev step : List ℕ → Step
  step unit = ruled_unit mask_at scope unit

  -- the tree that masking one unit leaves
  left_ok : (t : Entries) (unit : List ℕ) (free : MaysMask scope t unit) → leaves (step unit) t ≡ Ok (next t (slot unit) free)
  left_ok t unit free = ap (λ ruled. left_by (ruled_at (slot unit) ruled) t) (mask_filled (slot unit) (map.get t (slot unit)) free)

  left_err : (t : Entries) (unit : List ℕ) → is_in_the_way t (slot unit) ≡ true → leaves (step unit) t ≡ Err (Exists (slot unit))
  left_err t unit way = ap (λ ruled. left_by (ruled_at (slot unit) ruled) t) (mask_refused (slot unit) (map.get t (slot unit)) way)

  -- in that tree the same is in the way
  as_before : (t : Entries) (unit : List ℕ) (free : MaysMask scope t unit) (units : List (List ℕ)) → All (MaysMask scope (next t (slot unit) free)) units → All (MaysMask scope t) units
  as_before t unit free units all = All-weaker (MaysMask scope (next t (slot unit) free)) (MaysMask scope t) (λ other may. sym (alike t (slot unit) free (slot other)) ∙ may) units all

  as_then : (t : Entries) (unit : List ℕ) (free : MaysMask scope t unit) (units : List (List ℕ)) → All (MaysMask scope t) units → All (MaysMask scope (next t (slot unit) free)) units
  as_then t unit free units all = All-weaker (MaysMask scope t) (MaysMask scope (next t (slot unit) free)) (λ other may. alike t (slot unit) free (slot other) ∙ may) units all

  abbrev IsMaskedAt : Entries → (units : List (List ℕ)) → Key → Type 0
  IsMaskedAt t units key = (unit : List ℕ) × (key ≡ Cell (slot unit)) × IsUpTo (MaysMask scope t) units unit

  mask_only : (units : List (List ℕ)) (t : Entries) (key : Key) → Contains (keys_in_turn step units t) key → IsMaskedAt t units key
  mask_only [] t key here = no_key key here
  mask_only (unit ∷ units) t key here = elim (first_or_later (Cell (slot unit)) (looks_on (keys_in_turn step units) (leaves (step unit) t)) key here.0 here.1 here.2) [
    | inl own ↦ (unit, own, ([], units, refl, All-nil (MaysMask scope t)))
    | inr later ↦ elim (cases_Bool (is_in_the_way t (slot unit))) [
      | inl way ↦ no_key key (subst (λ left. Contains (looks_on (keys_in_turn step units) left) key) (left_err t unit way) later)
      | inr free ↦
          let is = mask_only units (next t (slot unit) free) key (subst (λ left. Contains (looks_on (keys_in_turn step units) left) key) (left_ok t unit free) later) in
          (is.0, is.1, (unit ∷ is.2.0, is.2.1, ap (λ units. unit ∷ units) is.2.2, All-cons (MaysMask scope t) unit is.2.0 free (as_before t unit free is.2.0 is.2.3)))
    ]
  ]

  mask_all : (before after : List (List ℕ)) (unit : List ℕ) (t : Entries) → All (MaysMask scope t) before → Contains (keys_in_turn step (before ++ unit ∷ after) t) (Cell (slot unit))
  mask_all [] after unit t all = is_first (Cell (slot unit)) (looks_on (keys_in_turn step after) (leaves (step unit) t)) (Cell (slot unit)) refl
  mask_all (first ∷ before) after unit t all =
      let free : MaysMask scope t first = All-head (MaysMask scope t) first before all in
      Contains-append_right (Cell (slot first) ∷ []) (looks_on (keys_in_turn step (before ++ unit ∷ after)) (leaves (step first) t)) (Cell (slot unit))
      (subst (λ left. Contains (looks_on (keys_in_turn step (before ++ unit ∷ after)) left) (Cell (slot unit))) (sym (left_ok t first free))
      (mask_all before after unit (next t (slot first) free) (as_then t first free before (All-tail (MaysMask scope t) first before all))))

pub mask_looks : MaskLooks
mask_looks mask t key = (
  λ here. let is = mask_only mask.scope mask.units t key (subst (λ keys. Contains keys key) (all_keys (ruled_unit mask_at mask.scope) mask.units t) ((looks mask_meaning mask t key).0 here)) in
      subst (MaskKeys mask t) (sym is.1) (Slot is.0 is.2),
  λ looked. (looks mask_meaning mask t key).1 (subst (λ keys. Contains keys key) (sym (all_keys (ruled_unit mask_at mask.scope) mask.units t)) (back key looked)),
)
  where
    back : (key : Key) → MaskKeys mask t key → Contains (keys_in_turn (ruled_unit mask_at mask.scope) mask.units t) key
    back key (Slot unit to) = subst (λ units. Contains (keys_in_turn (ruled_unit mask_at mask.scope) units t) (Cell (unit_slot (scope_place mask.scope) unit))) (sym to.2) (mask_all mask.scope to.0 to.1 unit t to.3)
