-- The changes at slots, without the others, still start from what is in the tree.
use Rattle.std.proofs.Common.{◌≡◌, ℕ, Bool, true, false, List, [], ◌∷◌, refl, subst, sym, inl, inr}
use Rattle.std.specs.Prelude.{All}
use Rattle.std.specs.List.{filter}
use Rattle.std.proofs.lemmas.Bool.{cases_Bool}
use Rattle.std.proofs.lemmas.List.Elements.{filter_passes}
use Rattle.link_tree.specs.declared.change.Change.{Change}
use Rattle.link_tree.specs.Trees.{Entries, KeepsPath, AreFrom}
use Rattle.link_tree.specs.Differences.{changes_between}
use Rattle.link_tree.proofs.Leads.{leads}
use Rattle.unit_paths.specs.Slots.{is_slot}
use Rattle.tree_steps.specs.Steps.{at_slots, slot_changes_between}

keeps_fewer : (q : List ℕ) (cs : List Change) → KeepsPath q cs → KeepsPath q (at_slots cs)
keeps_fewer q [] h = tt
keeps_fewer q (c ∷ cs) h = elim (cases_Bool (is_slot c.path)) [
  | inl here ↦ rw here (h.0, keeps_fewer q cs h.1)
  | inr away ↦ rw away (keeps_fewer q cs h.1)
]

fewer_from : (m : Entries) (cs : List Change) → AreFrom m cs → AreFrom m (at_slots cs)
fewer_from m [] h = tt
fewer_from m (c ∷ cs) h = elim (cases_Bool (is_slot c.path)) [
  | inl here ↦ rw here (h.0, keeps_fewer c.path cs h.1, fewer_from m cs h.2)
  | inr away ↦ rw away (fewer_from m cs h.2)
]

pub slots_from : (old new : Entries) → AreFrom old (slot_changes_between old new)
slots_from old new = fewer_from old (changes_between old new) ((leads old new).from)

pub slots_alone : (old new : Entries) → All (λ change. is_slot change.path ≡ true) (slot_changes_between old new)
slots_alone old new = filter_passes (λ change. is_slot change.path) (changes_between old new)
