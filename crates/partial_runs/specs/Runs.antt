-- Calls that ran on a part of what a disk holds.
use Rattle.std.specs.Prelude.{◌≡◌, ℕ, Bool, List, [], Some}
use Rattle.std.specs.FinMap as map
use Rattle.link_tree.specs.declared.entry.Entry.{Entry}
use Rattle.link_tree.specs.Differences.{changes_between}
use Rattle.link_tree.specs.Trees.{Entries, after_changes}
use Rattle.disk.specs.Disks.{Held}
use Rattle.footprint.specs.Inquiry.{Inquiry}
use Rattle.footprint.specs.Operations.{Effect}
use Rattle.history.specs.declared.row.Row.{Row}
use Rattle.history.specs.Rows.{Call, replay, run}
use Rattle.partial_trees.specs.Parts.{AgreeOnRows}

-- Each entry of the one tree is in the other.
abbrev pub IsWithin : Entries → Entries → Type 0
IsWithin t u = (path : List ℕ) (entry : Entry) → map.get t path ≡ Some entry → map.get u path ≡ Some entry

module _ {O : Type 0} (asks : O → Bool) (meaning : O → Inquiry Effect) (t : Held) (calls : List (Call O)) where
  -- These are rows of calls on a part of what is held, and they are those of the calls on all of it.
  -- The changes in all are the same too, and what is held with them is what the calls leave of it.
  -- On each key at which the rows looked, the part agrees with what is held.
  pub record IsRunOnAll (part : Entries) (rows : List (Row O)) : Type 0 where
    pub is_part : IsWithin part t.entries
    pub agrees : AgreeOnRows rows part t.entries
    pub same_rows : rows ≡ run asks meaning t.entries [] calls
    pub same_changes : changes_between part (replay asks meaning part rows) ≡ changes_between t.entries (replay asks meaning t.entries rows)
    pub leads : after_changes (changes_between part (replay asks meaning part rows)) t.entries ≡ replay asks meaning t.entries rows
