-- What holds for all histories; each law is the contract of a public function.
use Rattle.std.specs.Prelude.{◌≡◌, ◌↔◌, ◌⊎◌, ℕ, Bool, true, List, [], ◌∷◌, ◌++◌, Some, None, is_some}
use Rattle.link_tree.specs.Trees.{Entries, AreFrom, after_changes, inverse_of}
use Rattle.footprint.specs.Inquiry.{Inquiry}
use Rattle.footprint.specs.Operations.{Effect}
use Rattle.tree_access.specs.Readings.{HoldsIn}
use Rattle.history.specs.declared.row.Row.{Row}
use Rattle.history.specs.Plans.{Planned, planned}
use Rattle.history.specs.Rows.{Call, answered, row_at, undone, redone, AreMarked, accepted, survivor, blocker, hindrance, replay, calls_of, AnswersAlike, rows_after, run}

-- A request to a history: a call, which is an operation, an undo or a redo; or the commit of an
-- operator's plan, which was made of an operation on some tree, this history's at an earlier moment
-- or any other.
pub data Asked (O : Type 0) : Type 0 where
  ACall : Call O → Asked O
  ACommit : (operator : List ℕ) → O → (made_on : Entries) → Asked O

module _ {O : Type 0} (asks : O → Bool) (meaning : O → Inquiry Effect) where
  -- The rows after a commit of a plan: with the plan's row, whatever tree it was made on, if the
  -- tree agrees with all that it looked at; otherwise unchanged.
  abbrev pub CommitLeaves : Entries → List (Row O) → List ℕ → Planned O → List (Row O) → Type 0
  CommitLeaves first rows operator plan new =
      (HoldsIn (replay asks meaning first rows) plan.outcome.reading × (new ≡ rows ++ answered operator plan.operation plan.outcome ∷ []))
      ⊎ ((¬ HoldsIn (replay asks meaning first rows) plan.outcome.reading) × (new ≡ rows))

  abbrev pub Leaves : Entries → List (Row O) → Asked O → List (Row O) → Type 0
  Leaves first rows (ACall call) new = new ≡ rows_after asks meaning first rows call
  Leaves first rows (ACommit operator c made_on) new = CommitLeaves first rows operator (planned meaning c made_on) new

  -- the rows after a list of calls and commits
  abbrev pub LeaveAll : Entries → List (Row O) → List (Asked O) → List (Row O) → Type 0
  LeaveAll first rows [] new = new ≡ rows
  LeaveAll first rows (asked ∷ later) new = (next : List (Row O)) × Leaves first rows asked next × LeaveAll first next later new

  -- A survivor that no row blocks can be removed: reverting its changes in the replay gives the
  -- replay without it, and every other survivor has the answer of its row there.
  abbrev pub IsRemovable : Entries → List (Row O) → Type 0
  IsRemovable first rows = (n by : ℕ) (row : Row O) → row_at rows n ≡ Some row → is_some (survivor asks row) ≡ true → blocker asks rows n ≡ None
      → AreFrom (replay asks meaning first rows) (inverse_of row.changes)
      × (replay asks meaning first (undone rows n by) ≡ after_changes (inverse_of row.changes) (replay asks meaning first rows))
      × AnswersAlike asks meaning first (undone rows n by)

  -- An undone command that no row hinders can be put back at its place: the replay with it is the
  -- replay without it after its changes, and it and every other survivor have the answers of their
  -- rows there.
  abbrev pub IsRestorable : Entries → List (Row O) → Type 0
  IsRestorable first rows = (n u : ℕ) (row : Row O) → row_at rows n ≡ Some row → is_some (accepted asks row.request row.reply) ≡ true → row.undone_by ≡ Some u → hindrance asks rows n ≡ None
      → AreFrom (replay asks meaning first rows) row.changes
      × (replay asks meaning first (redone rows n) ≡ after_changes row.changes (replay asks meaning first rows))
      × AnswersAlike asks meaning first (redone rows n)

  -- The rows are those of the calls that they name, whether or not they were made as plans; their
  -- answers, changes and readings are those of the survivors' replay; a row is undone if the last
  -- accepted undo or redo of it is an undo; an unblocked survivor can be removed, and an undone
  -- command that no row hinders can be put back.
  pub record Remain (first : Entries) (rows : List (Row O)) : Type 0 where
    pub legal : rows ≡ run asks meaning first [] (calls_of rows)
    pub alike : AnswersAlike asks meaning first rows
    pub marks : AreMarked rows
    pub removal : IsRemovable first rows
    pub restoration : IsRestorable first rows

  -- That holds for the rows after any calls and commits on any first tree.
  abbrev pub SurvivorsAloneRemain : Type 0
  SurvivorsAloneRemain = (first : Entries) (asked : List (Asked O)) (rows : List (Row O)) → LeaveAll first [] asked rows → Remain first rows

module _ {O : Type 0} (meaning : O → Inquiry Effect) where
  -- A tree agrees with all that a plan looked at exactly if the plan is the one that would be made
  -- on that tree: with the same answer, the same changes and the same reading.
  abbrev pub AgreedPlansAreNew : Type 0
  AgreedPlansAreNew = (c : O) (made now : Entries) → HoldsIn now (planned meaning c made).outcome.reading ↔ (planned meaning c made ≡ planned meaning c now)
