-- What holds of the rows of calls on a part of a tree: the contract of a public function. Nothing is
-- asked of the two trees but that they agree on what the rows on the part looked at.
use Rattle.std.specs.Prelude.{◌≡◌, Bool, List, []}
use Rattle.link_tree.specs.Trees.{Entries, after_changes}
use Rattle.link_tree.specs.Differences.{changes_between}
use Rattle.footprint.specs.Inquiry.{Inquiry}
use Rattle.footprint.specs.Operations.{Effect}
use Rattle.history.specs.Rows.{Call, replay, run}
use Rattle.partial_trees.specs.Parts.{AgreeOnRows}

module _ {O : Type 0} (asks : O → Bool) (meaning : O → Inquiry Effect) where
  -- The same calls on the whole tree have the same rows: the same replies, changes, readings and
  -- marks.
  abbrev pub RowsAreTheSame : Type 0
  RowsAreTheSame = (part whole : Entries) (calls : List (Call O)) → let rows = run asks meaning part [] calls in
      AgreeOnRows rows part whole → run asks meaning whole [] calls ≡ rows

  -- What they change in all is the same, and the whole tree with these changes is the one that the
  -- calls leave.
  abbrev pub ChangesAreTheSame : Type 0
  ChangesAreTheSame = (part whole : Entries) (calls : List (Call O)) → let rows = run asks meaning part [] calls in
      let changes = changes_between part (replay asks meaning part rows) in
      AgreeOnRows rows part whole
      → (changes_between whole (replay asks meaning whole rows) ≡ changes) × (after_changes changes whole ≡ replay asks meaning whole rows)

  -- On all that the rows looked at, the trees that the calls leave agree too.
  abbrev pub AgreementLasts : Type 0
  AgreementLasts = (part whole : Entries) (calls : List (Call O)) → let rows = run asks meaning part [] calls in
      AgreeOnRows rows part whole → AgreeOnRows rows (replay asks meaning part rows) (replay asks meaning whole rows)
