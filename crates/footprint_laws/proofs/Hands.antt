-- The keys that placing and removing an entry by hand look at.
use Rattle.std.proofs.Common.{◌≡◌, ℕ, true, List, [], Contains, refl, sym, subst, inl, inr}
use Rattle.std.proofs.lemmas.Bool.{cases_Bool}
use Rattle.unit_paths.specs.Slots.{is_slot}
use Rattle.link_tree.specs.Trees.{Entries}
use Rattle.install_section.proofs.Least.{is_first}
use Rattle.tree_access.specs.declared.key.Key.{Key}
use Rattle.tree_access.specs.declared.key.Key.TheVariants.{Cell}
use Rattle.tree_access.specs.Rules.{Rule}
use Rattle.slot_commands.specs.ByHand.{place_at, remove_at, ruled_slot, place_meaning, remove_meaning}
use Rattle.footprint_laws.specs.Slots.{PlaceKeys, PlaceLooks, RemoveKeys, RemoveLooks}
use Rattle.footprint_laws.specs.Slots.PlaceKeys.{Slot as PlacedAt}
use Rattle.footprint_laws.specs.Slots.RemoveKeys.{Slot as RemovedAt}
use Rattle.footprint_laws.proofs.Keys.{looks, no_key, only_cell}

module _ (rule : Rule) (path : List ℕ) (t : Entries) where
  slot_only : (key : Key) → Contains ((ruled_slot rule path).keys t) key → (is_slot path ≡ true) × (key ≡ Cell path)
  slot_only key here = elim (cases_Bool (is_slot path)) [
    | inl slot ↦ (slot, only_cell path key (rw slot at here))
    | inr other ↦ no_key key (rw other at here)
  ]

  slot_all : is_slot path ≡ true → Contains ((ruled_slot rule path).keys t) (Cell path)
  slot_all slot = rw slot (is_first (Cell path) [] (Cell path) refl)

pub place_looks : PlaceLooks
place_looks place t key = (
  λ here. let is = slot_only (place_at place.entry) place.path t key ((looks place_meaning place t key).0 here) in subst (PlaceKeys place) (sym is.1) (PlacedAt is.0),
  λ looked. (looks place_meaning place t key).1 (back key looked),
)
  where
    back : (key : Key) → PlaceKeys place key → Contains ((place_meaning place).keys t) key
    back key (PlacedAt slot) = slot_all (place_at place.entry) place.path t slot

pub remove_looks : RemoveLooks
remove_looks remove t key = (
  λ here. let is = slot_only remove_at remove.path t key ((looks remove_meaning remove t key).0 here) in subst (RemoveKeys remove) (sym is.1) (RemovedAt is.0),
  λ looked. (looks remove_meaning remove t key).1 (back key looked),
)
  where
    back : (key : Key) → RemoveKeys remove key → Contains ((remove_meaning remove).keys t) key
    back key (RemovedAt slot) = slot_all remove_at remove.path t slot
