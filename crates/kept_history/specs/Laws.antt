-- What holds of kept histories: each law is the contract of a public function.
use Rattle.std.specs.Prelude.{◌≡◌, ◌≢◌, ◌⊎◌, ◌≤◌, ℕ, List, [], ◌++◌, Some, None, take}
use Rattle.std.specs.FinMap as map
use Rattle.link_tree.specs.Trees.{Entries}
use Rattle.tree_steps.specs.Steps.{steps_between}
use Rattle.disk.specs.Events.{Event}
use Rattle.kept_history.specs.Roots.{KeptRoot, at_rest, after_all, MayLeave}
use Rattle.kept_history.specs.Runs.{run_events, withdrawn_events}
use Rattle.kept_history.specs.Recovery.{recovery, recovered, MayReach}

-- The old history with these entries, or the new history with its own tree.
abbrev pub IsEither : (replay : List ℕ → Entries) (old new : List ℕ) (entries : Entries) → KeptRoot → Type 0
IsEither replay old new entries root =
    (root ≡ at_rest old entries) ⊎ (root ≡ at_rest new (replay new))

-- Whatever these events lead to: a recovery that ends leaves the old or the new, and what it leaves
-- lasts, whatever fails next.
abbrev pub NeverHalf : (replay : List ℕ → Entries) (old new : List ℕ) (entries : Entries) → List Event → Type 0
NeverHalf replay old new entries events =
    (base : KeptRoot) (since : List Event) → MayReach replay (at_rest old entries) events base since
    → IsEither replay old new entries (recovered replay (after_all since base))
    × ((left : KeptRoot) → MayLeave base (since ++ recovery replay (after_all since base)) left
    → left ≡ recovered replay (after_all since base))

-- A run,
abbrev pub RunsAreWhole : Type 0
RunsAreWhole = (replay : List ℕ → Entries) (old new : List ℕ)
    → NeverHalf replay old new (replay old) (run_events new (steps_between (replay old) (replay new)))

-- a run that only writes the history, since the entries are already those of the new one: rows of
-- what others did,
abbrev pub WritesAreWhole : Type 0
WritesAreWhole = (replay : List ℕ → Entries) (old new : List ℕ)
    → NeverHalf replay old new (replay new) (run_events new [])

-- and a run that takes its first steps back are never left half done.
abbrev pub WithdrawalsAreWhole : Type 0
WithdrawalsAreWhole = (replay : List ℕ → Entries) (old new : List ℕ) (made : ℕ)
    → NeverHalf replay old new (replay old)
    (withdrawn_events new (take made (steps_between (replay old) (replay new))))

-- Once a run has returned, whatever fails leaves the new history with the new tree.
abbrev pub Acknowledged : Type 0
Acknowledged = (replay : List ℕ → Entries) (old new : List ℕ) (left : KeptRoot)
    → MayLeave (at_rest old (replay old)) (run_events new (steps_between (replay old) (replay new))) left
    → left ≡ at_rest new (replay new)

-- Once a run has returned that took its steps back, whatever fails leaves the old history with the
-- old tree.
abbrev pub WithdrawnLasts : Type 0
WithdrawnLasts = (replay : List ℕ → Entries) (old new : List ℕ) (made : ℕ) (left : KeptRoot)
    → MayLeave (at_rest old (replay old))
    (withdrawn_events new (take made (steps_between (replay old) (replay new)))) left
    → left ≡ at_rest old (replay old)

-- After its second event, the sync of `history.next`, a run can't be lost any more.
abbrev pub Promised : Type 0
Promised = (replay : List ℕ → Entries) (old new : List ℕ) (moment : ℕ) (left : KeptRoot) → 2 ≤ moment
    → MayLeave (at_rest old (replay old))
    (take moment (run_events new (steps_between (replay old) (replay new)))) left
    → recovered replay left ≡ at_rest new (replay new)

-- Whatever is in the root: recovery puts what the new tree has at each path that still has the old
-- tree's entry, and leaves all else.
pub record Mends (old new entries mended : Entries) : Type 0 where
  pub put : (path : List ℕ) → map.get entries path ≡ map.get old path → map.get mended path ≡ map.get new path
  pub left : (path : List ℕ) → map.get entries path ≢ map.get old path → map.get mended path ≡ map.get entries path

abbrev pub RecoveryMends : Type 0
RecoveryMends = (replay : List ℕ → Entries) (root : KeptRoot) (text : List ℕ) → root.next ≡ Some text
    → ((recovered replay root).history ≡ text) × ((recovered replay root).next ≡ None)
    × Mends (replay root.history) (replay text) root.entries (recovered replay root).entries

-- What exists after any number of runs, each of them whole, or cut short and then recovered.
module _ (replay : List ℕ → Entries) where
  pub data IsAfterRuns : KeptRoot → Type 0 where
    Begun : (text : List ℕ) → IsAfterRuns (at_rest text (replay text))
    Ran : (text new : List ℕ) (base : KeptRoot) (since : List Event) → IsAfterRuns (at_rest text (replay text))
        → MayReach replay (at_rest text (replay text)) (run_events new (steps_between (replay text) (replay new))) base since
        → IsAfterRuns (recovered replay (after_all since base))

-- It is at rest, with the tree of its history: each run begins as these laws say.
abbrev pub AlwaysAtRest : Type 0
AlwaysAtRest = (replay : List ℕ → Entries) (root : KeptRoot) → IsAfterRuns replay root
    → (text : List ℕ) × (root ≡ at_rest text (replay text))
