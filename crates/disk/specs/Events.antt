-- What is done to a disk, event after event. A plain disk has steps alone: the other events are those
-- of a disk that also keeps the history of its root.
use Rattle.std.specs.Prelude.{◌≡◌, ℕ, List, [], ◌∷◌, ◌++◌, map as list_map, Option, Result, Ok, Err}
use Rattle.std.specs.Option.{option_map}
use Rattle.link_tree.specs.declared.change.Change.{Change}
use Rattle.link_tree.specs.Trees.{taken_back}

-- A power failure may leave each event as done or as not done, and never in part.
pub data Event : Type 0 where
  -- rename(2) of another file, which is written and synced, to `history.next`
  Promise : (text : List ℕ) → Event
  -- rename(2) of `history.next` to `history`
  Commit : Event
  -- unlink(2) of `history.next`
  Withdraw : Event
  -- fsync(2) of the directory of `history`
  SyncHistory : Event
  -- an entry replaces another at its path, or is put there, or is removed: rename(2), symlink(2),
  -- link(2) or unlink(2)
  Make : (step : Change) → Event
  -- fsync(2) of the directories in which these paths are
  SyncSteps : (steps : List Change) → Event
  -- unlink(2) of what was written in these directories under a name that is no entry's, and then
  -- was not renamed or not removed
  Clear : (steps : List Change) → Event

-- these events were done after all that was done before
abbrev pub with_events : Option (List Event) → List Event → Option (List Event)
with_events old events = option_map (λ done. done ++ events) old

-- This event was done, and an error did nothing.
abbrev pub DoesOne : {T E : Type 0} → (old new : Option (List Event)) → Result T E → Event → Type 0
DoesOne old new (Ok x) event = new ≡ with_events old (event ∷ [])
DoesOne old new (Err e) event = new ≡ old

-- the steps that take these back, the last first
abbrev pub way_back : List Change → List Change
way_back [] = []
way_back (step ∷ steps) = way_back steps ++ taken_back step ∷ []

-- these steps were made after all that was done before
abbrev pub with_steps : Option (List Event) → List Change → Option (List Event)
with_steps old steps = with_events old (list_map Make steps)
