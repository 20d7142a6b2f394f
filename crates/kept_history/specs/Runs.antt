-- A run on a root with a kept history, as the events that it does.
use Rattle.std.specs.Prelude.{ℕ, List, [], ◌∷◌, ◌++◌, map as list_map}
use Rattle.link_tree.specs.declared.change.Change.{Change}
use Rattle.disk.specs.Events.{Event, Promise, Commit, Withdraw, SyncHistory, Make, SyncSteps, way_back}

-- The end of a run: its steps are synced, then the history changes by this event, and is synced.
abbrev pub ending : Event → List Change → List Event
ending event steps = SyncSteps steps ∷ event ∷ SyncHistory ∷ []

-- The new history is put next to the old one, then the steps are made, then it replaces the old
-- one. Each of these is synced before the next begins.
abbrev pub run_events : List ℕ → List Change → List Event
run_events text steps = Promise text ∷ SyncHistory ∷ (list_map Make steps ++ ending Commit steps)

-- A run that ends after these steps, since the next one could not be made: they are taken back, and
-- the new history is removed.
abbrev pub withdrawn_events : List ℕ → List Change → List Event
withdrawn_events text steps =
    Promise text ∷ SyncHistory ∷ (list_map Make (steps ++ way_back steps) ++ ending Withdraw steps)
