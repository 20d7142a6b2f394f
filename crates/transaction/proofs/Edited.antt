-- Trees that are being edited.
use Rattle.std.proofs.Common.{◌≡◌, ℕ, true, List, Option, refl, sym, ◌∙◌, ap}
use Rattle.std.specs.FinMap as map
use Rattle.link_tree.specs.declared.entry.Entry.{Entry}
use Rattle.link_tree.specs.declared.change.Change.{Change}
use Rattle.unit_paths.specs.Slots.{is_slot}
use Rattle.link_tree.specs.Trees.{path_cmp, Entries, set_entry}
use Rattle.link_tree.specs.Differences.{with_change}
use Rattle.link_tree.proofs.Differences.{differences-same, differences-set}
use Rattle.link_tree.proofs.Leads.{set_at_slot}
use Rattle.transaction.specs.Edits.{IsEdit}

-- a tree that is not changed yet
pub begun : (t : Entries) → IsEdit t t map.empty
begun t = record {
  noted = sym (differences-same t);
  at_slots = λ path off. refl;
}

-- one more entry is set, and the change recorded
pub one_more : (first tree : Entries) (changes : map.FinMap path_cmp Change) → IsEdit first tree changes
    → (slot : List ℕ) (entry : Option Entry) → is_slot slot ≡ true → IsEdit first (set_entry tree slot entry) (with_change changes slot (map.get first slot) entry)
one_more first tree changes edit slot entry here = record {
  noted = ap (λ changes. with_change changes slot (map.get first slot) entry) edit.noted ∙ differences-set first tree slot entry;
  at_slots = set_at_slot first tree slot entry here edit.at_slots;
}
