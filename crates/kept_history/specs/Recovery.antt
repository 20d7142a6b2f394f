-- Recovery: what the next run does first, to finish a run that a failure has cut short.
use Rattle.std.specs.Prelude.{ℕ, Bool, not, ◌&&◌, List, [], ◌∷◌, ◌++◌, take, Option, Some, None, map as list_map}
use Rattle.std.specs.List.{filter}
use Rattle.std.specs.FinMap as map
use Rattle.link_tree.specs.declared.change.Change.{Change}
use Rattle.link_tree.specs.Trees.{Entries}
use Rattle.link_tree.specs.Differences.{same}
use Rattle.tree_steps.specs.Steps.{steps_between}
use Rattle.disk.specs.Events.{Event, Commit, SyncHistory, Make, Clear}
use Rattle.kept_history.specs.Roots.{KeptRoot, after_all, MayLeave}
use Rattle.kept_history.specs.Runs.{ending}

-- whether the entry that the step replaces or removes is still there, or none if it puts one
abbrev pub is_due : Entries → Change → Bool
is_due entries step = same (map.get entries step.path) step.before

-- whether somebody else has changed what is there: it is neither what the step is from nor what it
-- puts
abbrev pub is_foreign : Entries → Change → Bool
is_foreign entries step =
    not (is_due entries step) && not (same (map.get entries step.path) step.after)

-- the steps from the old tree to the new one that are still to be made, and those that are not
-- made, since somebody else has changed what is there
abbrev pub due_steps : (old new entries : Entries) → List Change
due_steps old new entries = filter (is_due entries) (steps_between old new)

abbrev pub foreign_steps : (old new entries : Entries) → List Change
foreign_steps old new entries = filter (is_foreign entries) (steps_between old new)

-- What was found is synced first, since the process before may have been killed. Then what is left
-- over is removed, the steps that are due are made, all steps are synced, and the new history
-- replaces the old one.
abbrev pub finishing : (steps due : List Change) → List Event
finishing steps due = SyncHistory ∷ Clear steps ∷ (list_map Make due ++ ending Commit steps)

-- `replay` gives the tree that a history's text results in.
module _ (replay : List ℕ → Entries) where
  abbrev pub recovery_of : KeptRoot → Option (List ℕ) → List Event
  recovery_of root None = SyncHistory ∷ []
  recovery_of root (Some text) =
      finishing
      (steps_between (replay root.history) (replay text))
      (due_steps (replay root.history) (replay text) root.entries)

  -- what recovery does: if there is no `history.next`, it only syncs what it found
  abbrev pub recovery : KeptRoot → List Event
  recovery root = recovery_of root root.next

  abbrev pub recovered : KeptRoot → KeptRoot
  recovered root = after_all (recovery root) root

  -- What these events may lead to: the process is killed at some moment, or the power fails, and
  -- the same happens to the recovery that follows, any number of times. `base` is on the disk for
  -- sure, and `since` was done after that.
  pub data MayReach (root : KeptRoot) (events : List Event) : (base : KeptRoot) (since : List Event) → Type 0 where
    Killed : (moment : ℕ) → MayReach root events root (take moment events)
    KilledAgain : (base : KeptRoot) (since : List Event) (moment : ℕ) → MayReach root events base since
        → MayReach root events base (since ++ take moment (recovery (after_all since base)))
    PowerFailed : (base left : KeptRoot) (since : List Event) → MayReach root events base since
        → MayLeave base since left → MayReach root events left []
