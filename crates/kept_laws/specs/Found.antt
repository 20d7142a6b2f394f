-- A root that is found in any state, and what a run on it does and leaves.
use Rattle.std.specs.Prelude.{◌≡◌, ◌⊎◌, ℕ, List, [], ◌++◌, take, Option, Some, None}
use Rattle.std.specs.FinMap as map
use Rattle.link_tree.specs.declared.change.Change.{Change}
use Rattle.link_tree.specs.Trees.{Entries}
use Rattle.tree_steps.specs.Steps.{steps_between}
use Rattle.disk.specs.Events.{Event}
use Rattle.kept_history.specs.Roots.{KeptRoot, at_rest, after_all, MayLeave}
use Rattle.kept_history.specs.Runs.{run_events, withdrawn_events}
use Rattle.kept_history.specs.Recovery.{recovery, recovered, MayReach}
use Rattle.kept_history.specs.Laws.{Mends}

-- Whatever these events lead to: what the recovery that ends leaves is so, and it lasts, whatever
-- fails next.
abbrev pub Ends : (replay : List ℕ → Entries) (root : KeptRoot) → List Event → (IsSo : KeptRoot → Type 0) → Type 0
Ends replay root events IsSo =
    (base : KeptRoot) (since : List Event) → MayReach replay root events base since
    → IsSo (recovered replay (after_all since base))
    × ((left : KeptRoot) → MayLeave base (since ++ recovery replay (after_all since base)) left
    → left ≡ recovered replay (after_all since base))

-- the history that a root is to have: the promised one, or the old one if none is promised
abbrev pub promised_or : List ℕ → Option (List ℕ) → List ℕ
promised_or old None = old
promised_or old (Some next) = next

abbrev pub due_history : KeptRoot → List ℕ
due_history root = promised_or root.history root.next

-- What was found is mended: it is at rest with the history that it is to have. Each path that had
-- the old tree's entry has that of the tree of this history, and all else is as it was found.
pub record IsMended (replay : List ℕ → Entries) (found left : KeptRoot) : Type 0 where
  pub rest : left ≡ at_rest (due_history found) left.entries
  pub mends : Mends (replay found.history) (replay (due_history found)) found.entries left.entries

-- What a run writes of others: the history with their rows, and no step. If they did nothing, it
-- writes nothing, and the history is as it was.
abbrev pub IsWrite : (old noticed : List ℕ) → List Event → Type 0
IsWrite old noticed events = (events ≡ run_events noticed []) ⊎ ((events ≡ []) × (noticed ≡ old))

-- How a run changes the root: it makes all steps to the tree of the new history, or the first of
-- them, which it takes back.
abbrev pub IsChange : (replay : List ℕ → Entries) (noticed made : List ℕ) → List Event → Type 0
IsChange replay noticed made events =
    let steps : List Change = steps_between (replay noticed) (replay made) in
    (events ≡ run_events made steps) ⊎ ((n : ℕ) × (events ≡ withdrawn_events made (take n steps)))

-- A run on a root that was found, if nothing fails: recovery, a write of what others did, a change.
pub record IsRun (replay : List ℕ → Entries) (found : KeptRoot) (noticed made : List ℕ) (events : List Event) : Type 0 where
  pub write : List Event
  pub change : List Event
  pub in_order : events ≡ recovery replay found ++ (write ++ change)
  -- the history with the rows of others has the tree that recovery left
  pub has_tree : replay noticed ≡ (recovered replay found).entries
  pub writes : IsWrite (due_history found) noticed write
  pub changes : IsChange replay noticed made change

-- What such a run leaves: what recovery alone leaves, or one of these histories with its own tree.
abbrev pub IsOneOf : (replay : List ℕ → Entries) (found : KeptRoot) (noticed made : List ℕ) → KeptRoot → Type 0
IsOneOf replay found noticed made left = (left ≡ recovered replay found)
    ⊎ (left ≡ at_rest noticed (replay noticed)) ⊎ (left ≡ at_rest made (replay made))

-- What exists after any number of runs, each of them whole or cut short, if others change anything
-- at any time, but nothing at this path.
module _ (replay : List ℕ → Entries) (path : List ℕ) where
  pub data IsKept : KeptRoot → Type 0 where
    Begun : (text : List ℕ) → IsKept (at_rest text (replay text))
    Ran : (found base : KeptRoot) (noticed made : List ℕ) (events since : List Event) → IsKept found
        → IsRun replay found noticed made events → MayReach replay found events base since
        → IsKept (after_all since base)
    Changed : (root : KeptRoot) (entries : Entries) → IsKept root
        → map.get entries path ≡ map.get root.entries path
        → IsKept (record { history = root.history; next = root.next; entries = entries })
