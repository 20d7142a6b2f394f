-- What holds of a root that is found in any state: a run may have been cut short, and others may
-- have changed anything since. Each law is the contract of a public function.
use Rattle.std.specs.Prelude.{◌≡◌, ℕ, List, ◌++◌, take}
use Rattle.std.specs.FinMap as map
use Rattle.link_tree.specs.Trees.{Entries}
use Rattle.link_tree.specs.Differences.{DifferAtSlots}
use Rattle.history.specs.declared.row.Row.{Row}
use Rattle.unit_script.specs.declared.action.Action.{Action}
use Rattle.unit_script.specs.declared.call.Call.{Call}
use Rattle.unit_script.specs.Machine.{replay}
use Rattle.disk.specs.Events.{Event}
use Rattle.kept_history.specs.Roots.{KeptRoot, at_rest, after_all, MayLeave}
use Rattle.kept_history.specs.Recovery.{recovery, recovered, MayReach}
use Rattle.kept_rows.specs.Others.{rows_with, rows_with_others}
use Rattle.kept_rows.specs.Texts.{replay_of}
use Rattle.kept_runs.specs.Texts.{Says}
use Rattle.kept_laws.specs.Found.{Ends, due_history, IsMended, IsWrite, IsChange, IsRun, IsOneOf, IsKept}
use Rattle.kept_laws.specs.Rows.{captured, IsRunWithRows}

-- However often its recovery is killed or the power fails, the recovery that ends leaves the root
-- mended,
abbrev pub RecoveriesMend : Type 0
RecoveriesMend = (replay : List ℕ → Entries) (found : KeptRoot)
    → Ends replay found (recovery replay found) (IsMended replay found)

-- and there is one way to mend it: it is left as the first recovery would have left it.
abbrev pub MendedInOneWay : Type 0
MendedInOneWay = (replay : List ℕ → Entries) (found left : KeptRoot) → IsMended replay found left
    → left ≡ recovered replay found

-- Not all that runs and others did before may be on the disk yet. Whatever fails, and whenever: the
-- recovery that ends mends what a power failure may have left of that.
abbrev pub UnsyncedRootsMend : Type 0
UnsyncedRootsMend = (replay : List ℕ → Entries) (root base : KeptRoot) (events since : List Event)
    → MayReach replay root events base since
    → (found : KeptRoot) × (moment : ℕ) × MayLeave root (take moment events) found
    × IsMended replay found (recovered replay (after_all since base))

-- Whatever fails in a run, and whenever, what is left is no half.
abbrev pub FoundRunsAreWhole : Type 0
FoundRunsAreWhole = (replay : List ℕ → Entries) (found : KeptRoot) (noticed made : List ℕ) (events : List Event)
    → IsRun replay found noticed made events → Ends replay found events (IsOneOf replay found noticed made)

-- Whatever others change at other paths: recovery leaves a root at rest, and at a path that they
-- leave alone it has what its history says.
abbrev pub KeptPathsAreRight : Type 0
KeptPathsAreRight = (replay : List ℕ → Entries) (path : List ℕ) (root : KeptRoot) → IsKept replay path root
    → let left : KeptRoot = recovered replay root in
    (left ≡ at_rest left.history left.entries)
    × (map.get left.entries path ≡ map.get (replay left.history) path)

-- The rows are those of the history that recovery leaves, on a first tree that has what was captured
-- at paths that are no slots. Then the history with the rows of others has all that was captured,
-- and the run is whole.
abbrev pub RunsWithRowsAreWhole : Type 0
RunsWithRowsAreWhole = (found : KeptRoot) (first : Entries) (rows : List (Row Action)) (calls : List Call)
    → (noticed made : List ℕ) (write change : List Event)
    → DifferAtSlots (replay first rows) (captured found)
    → Says noticed first (rows_with_others first rows (captured found))
    → Says made first (rows_with first (rows_with_others first rows (captured found)) calls)
    → IsWrite (due_history found) noticed write → IsChange replay_of noticed made change
    → IsRunWithRows found first rows calls noticed made (recovery replay_of found ++ (write ++ change))
