-- Plans: an operation with its outcome on some tree. The effect of committing a plan, and when it
-- is stale.
use Rattle.std.specs.Prelude.{◌≡◌, ℕ, ◌<◌, Bool, true, List, All, length, refl}
use Rattle.unit_paths.specs.Slots.{is_slot}
use Rattle.link_tree.specs.Trees.{Entries}
use Rattle.footprint.specs.Inquiry.{Inquiry}
use Rattle.footprint.specs.Operations.{Effect, outcome_of}
use Rattle.tree_access.specs.Readings.{HoldsIn, IsFirstOther}
use Rattle.tree_access.specs.declared.key.Key.{Key}
use Rattle.footprint.specs.declared.outcome.Outcome.{Outcome}
use Rattle.history.specs.declared.plan.Commit.{Commit}
use Rattle.history.specs.declared.plan.Commit.TheVariants.{Committed, Stale}
use Rattle.history.specs.declared.row.Request.TheVariants.{Do}
use Rattle.history.specs.Logs.{Log}
use Rattle.history.specs.Rows.{replay, rows_after, IdleStays}

-- An operation and its outcome: its answer, its changes, and what it looked at.
pub record Planned (O : Type 0) : Type 0 where
  pub operation : O
  pub outcome : Outcome

abbrev pub parts_of_plan : {O : Type 0} → Planned O → O × Outcome
parts_of_plan plan = (plan.operation, plan.outcome)

abbrev pub plan_of_parts : {O : Type 0} → O × Outcome → Planned O
plan_of_parts (operation, outcome) = record { operation = operation; outcome = outcome }

pub plan_of_own_parts : {O : Type 0} (plan : Planned O) → plan_of_parts (parts_of_plan plan) ≡ plan
plan_of_own_parts plan = refl

module _ {O : Type 0} (meaning : O → Inquiry Effect) where
  -- the plan of an operation on a tree
  abbrev pub planned : O → Entries → Planned O
  planned c t = record { operation = c; outcome = outcome_of meaning c t }

  -- It was made on some tree, and its changes are at slots.
  pub record IsPlan (operation : O) (outcome : Outcome) : Type 0 where
    pub made : (t : Entries) × (outcome ≡ outcome_of meaning operation t)
    pub slots : All (λ change. is_slot change.path ≡ true) outcome.changes

module _ {O : Type 0} (asks : O → Bool) (meaning : O → Inquiry Effect) where
  -- The current tree agrees with all that the plan looked at.
  abbrev pub AgreesWith : Log O → Planned O → Type 0
  AgreesWith log plan = HoldsIn (replay asks meaning log.first log.rows) plan.outcome.reading

  -- The first key that the plan looked at and whose value in the current tree differs.
  abbrev pub IsStaleAt : Log O → Planned O → Key → Type 0
  IsStaleAt log plan key = IsFirstOther (replay asks meaning log.first log.rows) plan.outcome.reading key

  -- The effect of a commit. If the tree agrees with all that the plan looked at, the plan is the
  -- one that would be made now, and the rows are those after a call of its operation. Otherwise the
  -- plan is stale at the first key that differs, and nothing changes.
  abbrev pub IsCommit : Log O → List ℕ → Planned O → Log O → Commit (Planned O) → Type 0
  IsCommit old operator plan new (Committed n) =
      AgreesWith old plan
      × (plan ≡ planned meaning plan.operation (replay asks meaning old.first old.rows))
      × (new.rows ≡ rows_after asks meaning old.first old.rows (operator, Do plan.operation))
      × (n ≡ length new.rows)
      × IdleStays asks meaning old.first old.rows new.rows
      × (length old.rows < old.limit)
  IsCommit old operator plan new (Stale kept at) = IsStaleAt old plan at × (kept ≡ plan) × (new ≡ old)
