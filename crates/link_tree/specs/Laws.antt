-- Laws of trees and inventories, each the contract of a public function.
use Rattle.std.specs.Prelude.{◌≡◌, ◌≢◌, ◌<◌, ◌≤◌, ◌^◌, ◌↔◌, ℕ, List, ◌++◌, Some, Ok, All, map as list_map}
use Rattle.std.specs.Fmt.{decimal}
use Rattle.link_tree.specs.declared.change.Change.{Change}
use Rattle.std.specs.List.Sorted.{IsStrictlySortedBy}
use Rattle.std.specs.FinMap as map
use Rattle.link_tree.specs.Trees.{path_cmp, Entries, AreFrom, after_changes, inverse_of, inventory_text}
use Rattle.link_tree.specs.Differences.{changes_between}
use Rattle.link_tree.specs.Shape.{IsTree}
use Rattle.link_tree.specs.EntryLines.{length_of}
use Rattle.link_tree.specs.Inventory.{inventory_of}

-- Reading the text written for a tree gives the same tree, whatever follows.
abbrev pub ReadsBack : Type 0
ReadsBack = (m : Entries) (rest : List ℕ) → IsTree m → map.len m ≤ 65536 → inventory_of (inventory_text m ++ rest) ≡ Ok (m, rest)

-- A length has one spelling, the decimal digits of the number.
abbrev pub LengthsAreDecimals : Type 0
LengthsAreDecimals = (text : List ℕ) (n : ℕ) → n < 2 ^ 64 → (length_of text ≡ Some n) ↔ (text ≡ decimal n)

-- Changes that start from the present entries of a tree can be undone, which gives exactly the same
-- tree again.
abbrev pub TakenBack : Type 0
TakenBack = (m : Entries) (changes : List Change) → AreFrom m changes
    → AreFrom (after_changes changes m) (inverse_of changes) × (after_changes (inverse_of changes) (after_changes changes m) ≡ m)

-- Changes that turn one tree into another: each from the entry in the first tree to a different
-- one, in byte order of their paths, each path once.
pub record Leads (t u : Entries) (changes : List Change) : Type 0 where
  pub from : AreFrom t changes
  pub to : after_changes changes t ≡ u
  pub real : All (λ change. change.before ≢ change.after) changes
  pub in_order : IsStrictlySortedBy path_cmp (list_map (λ change. change.path) changes)

abbrev pub ChangesLead : Type 0
ChangesLead = (t u : Entries) → Leads t u (changes_between t u)
