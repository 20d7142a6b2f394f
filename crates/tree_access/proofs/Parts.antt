-- The entries of a tree that keys look at.
use Rattle.std.proofs.Common.{◌≡◌, ℕ, true, false, List, [], ◌∷◌, All, Contains, Option, Some, None, refl, sym, ap, ◌∙◌, inl, inr}
use Rattle.std.specs.Prelude.{not, ◌&&◌, is_some, IsPermutation}
use Rattle.std.specs.FinMap as map
use Rattle.std.proofs.lemmas.Bool.{cases_Bool, true≢false, and_parts}
use Rattle.std.proofs.lemmas.List.Elements.{All-head, All-tail, All-nil, All-cons, All-contains, All-contains_itself, Contains-append_right}
use Rattle.std.proofs.lemmas.List.Sorted.{All-permutation, Contains-permutation}
use Rattle.link_tree.specs.declared.entry.Entry.{Entry}
use Rattle.link_tree.specs.declared.entry.Entry.TheVariants.{File, Link}
use Rattle.unit_paths.specs.declared.place.Scope.{Scope}
use Rattle.unit_paths.specs.declared.slot.Slot.{Slot}
use Rattle.unit_paths.specs.Canonical.{is_null_target}
use Rattle.unit_paths.specs.Slots.{slot_of, is_slot}
use Rattle.link_tree.specs.Trees.{Entries}
use Rattle.link_tree.proofs.Changed.{same_tree}
use Rattle.link_tree.proofs.Maps.{all_standing, all_listed}
use Rattle.tree_access.specs.declared.key.Key.{Key}
use Rattle.tree_access.specs.declared.key.Key.TheVariants.{Cell, Marked, Presets, Links}
use Rattle.link_tree.specs.Links.{is_of_scope, is_named, belongs}
use Rattle.tree_access.specs.Keys.{is_cell, selects, any_selects, those, shown, part, StandAtSlots}
use Rattle.unit_paths.specs.Kinds.{is_preset, is_dependency}
use Rattle.tree_access.proofs.KeyLaws.{get-part, get-those, part_is}
use Rattle.tree_access.proofs.Those.{Standing, shown_there, shown_chosen, some_is, gathered, gathered_those}
use Rattle.tree_access.specs.Seeing.{AllSelected, AllStand}

-- gathering what a key looks at from a list of all entries of a tree gives the part of the tree
pub gathered_part : (key : Key) (t : Entries) (xs : List Standing) → IsPermutation xs (map.entries t) → gathered (selects key) map.empty xs ≡ part key t
gathered_part key t xs same = gathered_those (selects key) t xs same ∙ sym (part_is key t)

-- an entry at which a key that isn't a cell looks is at a slot
pub selected_slot : (key : Key) (path : List ℕ) (entry : Entry) → is_cell key ≡ false → selects key path entry ≡ true → is_slot path ≡ true
unfolding belongs
selected_slot (Cell cell) path entry other here = absurd (true≢false other)
selected_slot (Marked scope name) path (File contents) other here = absurd (true≢false (sym here))
selected_slot (Marked scope name) path (Link target) other here = by_scope scope (slot_of path) (and_parts (is_of_scope scope (slot_of path)) (not (is_null_target path target)) (and_parts (is_of_scope scope (slot_of path) && not (is_null_target path target)) (is_named name path target) here).0).0
  where
    by_scope : (scope : Scope) (slot : Option Slot) → is_of_scope scope slot ≡ true → is_some slot ≡ true
    by_scope scope None h = absurd (true≢false (sym h))
    by_scope scope (Some slot) h = refl
selected_slot Presets path entry other here = by_slot (slot_of path) here
  where
    by_slot : (slot : Option Slot) → is_preset slot ≡ true → is_some slot ≡ true
    by_slot None h = absurd (true≢false (sym h))
    by_slot (Some slot) h = refl
selected_slot Links path entry other here = by_slot (slot_of path) here
  where
    by_slot : (slot : Option Slot) → is_dependency slot ≡ true → is_some slot ≡ true
    by_slot None h = absurd (true≢false (sym h))
    by_slot (Some slot) h = refl

-- an entry at which one of several keys looks, none of them a cell, is at a slot
pub any_selected_slot : (keys : List Key) (path : List ℕ) (entry : Entry) → All (λ key. is_cell key ≡ false) keys → any_selects keys path entry ≡ true → is_slot path ≡ true
any_selected_slot [] path entry others here = absurd (true≢false (sym here))
any_selected_slot (key ∷ keys) path entry others here = elim (cases_Bool (selects key path entry)) [
  | inl this ↦ selected_slot key path entry (All-head (λ key. is_cell key ≡ false) key keys others) this
  | inr other ↦ any_selected_slot keys path entry (All-tail (λ key. is_cell key ≡ false) key keys others) (rw other at here)
]

pub any_stand_at_slots : (keys : List Key) (t : Entries) → All (λ key. is_cell key ≡ false) keys → StandAtSlots (those (any_selects keys) t)
any_stand_at_slots keys t others path entry there =
    any_selected_slot keys path entry others (shown_there (any_selects keys) path (map.get t path) entry (sym (get-those (any_selects keys) t path) ∙ there)).1

-- The remaining entries are among all, and each of the others was found to satisfy P.
pub record AreChecked (P : Standing → Type 0) (rest all : List Standing) : Type 0 where
  pub among : (x : Standing) → Contains rest x → Contains all x
  pub checked : All P rest → All P all

pub one_checked : (P : Standing → Type 0) (x : Standing) (rest all : List Standing) → P x → AreChecked P (x ∷ rest) all → AreChecked P rest all
one_checked P x rest all here before = record {
  among = λ y later. before.among y (Contains-append_right (x ∷ []) rest y later);
  checked = λ later. before.checked (All-cons P x rest here later);
}

-- all entries of a tree were found to satisfy P
pub all_checked : (P : Standing → Type 0) (t : Entries) (all : List Standing) → IsPermutation all (map.entries t) → AreChecked P [] all → (path : List ℕ) (entry : Entry) → map.get t path ≡ Some entry → P (path, entry)
all_checked P t all same checked path entry there =
    All-contains P (map.entries t) (path, entry) (All-permutation P all (map.entries t) same (checked.checked (All-nil P))) (all_listed t path entry there)

-- a remaining entry is in the tree
pub one_stands : (P : Standing → Type 0) (t : Entries) (all : List Standing) (x : Standing) (rest : List Standing) → IsPermutation all (map.entries t) → AreChecked P (x ∷ rest) all → map.get t x.0 ≡ Some x.1
one_stands P t all x rest same before =
    All-contains (λ x. map.get t x.0 ≡ Some x.1) (map.entries t) x (all_standing t)
    (Contains-permutation all (map.entries t) x same (before.among x (All-head (Contains (x ∷ rest)) x rest (All-contains_itself (x ∷ rest)))))

-- if these three hold, a tree is the part of another that a key looks at
pub is_part : (key : Key) (t p : Entries) → AllSelected key p → AllStand key p t → AllStand key t p → part key t ≡ p
is_part key t p selected back on = same_tree _ _ (λ path. get-part key t path ∙ by_shown path (shown key path (map.get t path)) (map.get p path) refl refl)
  where
    by_shown : (path : List ℕ) (there got : Option Entry) → shown key path (map.get t path) ≡ there → map.get p path ≡ got → shown key path (map.get t path) ≡ map.get p path
    by_shown path None None off none = off ∙ sym none
    by_shown path None (Some entry) off here = some_is entry (sym off ∙ ap (shown key path) (back path entry here (selected path entry here)) ∙ shown_chosen (selects key) path entry (selected path entry here))
    by_shown path (Some entry) got on_there here = (let there = shown_there (selects key) path (map.get t path) entry on_there in on_there ∙ sym (on path entry there.0 there.1))

pub part_selected : (key : Key) (t p : Entries) → part key t ≡ p → AllSelected key p
part_selected key t p same path entry here = (shown_there (selects key) path (map.get t path) entry (sym (get-part key t path) ∙ ap (λ m. map.get m path) same ∙ here)).1

pub part_stands : (key : Key) (t p : Entries) → part key t ≡ p → AllStand key p t
part_stands key t p same path entry here selected = (shown_there (selects key) path (map.get t path) entry (sym (get-part key t path) ∙ ap (λ m. map.get m path) same ∙ here)).0

pub stands_in_part : (key : Key) (t p : Entries) → part key t ≡ p → AllStand key t p
stands_in_part key t p same path entry here selected = sym (ap (λ m. map.get m path) same) ∙ get-part key t path ∙ ap (shown key path) here ∙ shown_chosen (selects key) path entry selected
