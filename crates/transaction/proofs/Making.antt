-- Links that are wanted, and are made one after another.
use Rattle.std.proofs.Common.{◌≡◌, ℕ, true, cond, List, [], ◌∷◌, All, Option, Some, None, Result, Ok, sym, ap, subst, ◌∙◌, inl, inr}
use Rattle.std.specs.FinMap as map
use Rattle.std.specs.Cmp.Lexicographic.{nat_list_cmp_total}
use Rattle.std.proofs.lemmas.Bool.{cases_Bool}
use Rattle.std.proofs.lemmas.List.Elements.{All-head, All-tail, All-weaker}
use Rattle.unit_paths.specs.Slots.{is_slot}
use Rattle.link_tree.specs.declared.entry.Entry.{Entry}
use Rattle.link_tree.specs.Trees.{path_cmp, Entries, set_entry}
use Rattle.link_tree.proofs.Changed.{is_at}
use Rattle.link_tree.proofs.Maps.{none_some, all_standing}
use Rattle.link_tree.proofs.Shapes.{same_key}
use Rattle.tree_access.specs.declared.refusal.Refusal.{Refusal}
use Rattle.tree_access.specs.Placing.{Wanted, ruled_at, concluded_after, all_wanted}
use Rattle.footprint.proofs.Wishes.{Link, ruling_at}
use Rattle.transaction.specs.Edits.{AreAtSlots}
use Rattle.transaction.specs.Runs.{placed_by}
use Rattle.transaction.proofs.Turns.{placed_more}

-- The remaining links are at slots, and making them in the tree as it is now leaves what making all
-- of them leaves in the tree as it was before.
pub record AreComing (before now : Entries) (rest all : List Link) : Type 0 where
  pub leave : placed_by (all_wanted rest before) now ≡ placed_by (all_wanted all before) before
  pub at_slots : All (λ link. is_slot link.0 ≡ true) rest

-- an empty map of wanted links
pub none_at_slots : AreAtSlots map.empty
none_at_slots path link there = none_some link (sym (map.get-empty path_cmp path) ∙ there)

-- one more slot with a wanted link
pub one_at_slots : (wanted : Wanted) (slot : List ℕ) (link : Option (List ℕ)) → is_slot slot ≡ true → AreAtSlots wanted → AreAtSlots (map.insert wanted slot link)
one_at_slots wanted slot link here all path other there = elim (cases_Bool (is_at path slot)) [
  | inl at ↦ ap is_slot (same_key path slot at) ∙ here
  | inr away ↦ all path other (sym (map.get-insert nat_list_cmp_total wanted slot link path ∙ ap (λ b. cond b (Some link) (map.get wanted path)) away) ∙ there)
]

-- one path fewer with a wanted link
pub fewer_at_slots : (wanted : Wanted) (slot : List ℕ) → AreAtSlots wanted → AreAtSlots (map.remove wanted slot)
fewer_at_slots wanted slot all path link there = elim (cases_Bool (is_at path slot)) [
  | inl at ↦ absurd (none_some link (sym (map.get-remove nat_list_cmp_total wanted slot path ∙ ap (λ b. cond b None (map.get wanted path)) at) ∙ there))
  | inr away ↦ all path link (sym (map.get-remove nat_list_cmp_total wanted slot path ∙ ap (λ b. cond b None (map.get wanted path)) away) ∙ there)
]

-- so all links in the list are at slots
pub listed_at_slots : (wanted : Wanted) → AreAtSlots wanted → All (λ link. is_slot link.0 ≡ true) (map.entries wanted)
listed_at_slots wanted all = All-weaker (λ link. map.get wanted link.0 ≡ Some link.1) (λ link. is_slot link.0 ≡ true) (λ link there. all link.0 link.1 there) (map.entries wanted) (all_standing wanted)

-- at first, all links remain
pub none_made : (before : Entries) (rest all : List Link) → rest ≡ all → All (λ link. is_slot link.0 ≡ true) all → AreComing before before rest all
none_made before rest all same slots = record {
  leave = λ i. placed_by (all_wanted (same i) before) before;
  at_slots = subst (All (λ link. is_slot link.0 ≡ true)) (sym same) slots;
}

module _ (before now : Entries) (link : Link) (rest all : List Link) (come : AreComing before now (link ∷ rest) all) where
  pub at_slot : is_slot link.0 ≡ true
  at_slot = All-head (λ link. is_slot link.0 ≡ true) link rest come.at_slots

  -- what making all links leaves, given what the rule leaves at this one
  leaves : (r : Result (Option Entry) Refusal) → ruling_at before link ≡ r
      → placed_by (concluded_after (ruled_at link.0 r) (λ left. all_wanted rest before) before) now ≡ placed_by (all_wanted all before) before
  leaves r at = sym (ap (λ r. placed_by (concluded_after (ruled_at link.0 r) (λ left. all_wanted rest before) before) now) at) ∙ come.leave

  -- one link is made
  pub one_made : (entry : Option Entry) → ruling_at before link ≡ Ok entry → AreComing before (set_entry now link.0 entry) rest all
  one_made entry at = record {
    leave = sym (placed_more ((link.0, entry) ∷ []) (all_wanted rest before) now) ∙ leaves (Ok entry) at;
    at_slots = All-tail (λ link. is_slot link.0 ≡ true) link rest come.at_slots;
  }
