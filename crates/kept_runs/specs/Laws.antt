-- What holds of runs on kept roots: the law is the contract of a public function.
use Rattle.std.specs.Prelude.{◌≡◌, ℕ, ◌+◌, List, [], ◌++◌, length, All}
use Rattle.link_tree.specs.Trees.{Entries}
use Rattle.tree_steps.specs.Steps.{steps_between}
use Rattle.history.specs.declared.row.Row.{Row}
use Rattle.unit_script.specs.declared.action.Action.{Action}
use Rattle.unit_script.specs.declared.call.Call.{Call}
use Rattle.kept_history.specs.Runs.{run_events}
use Rattle.kept_history.specs.Laws.{NeverHalf}
use Rattle.kept_rows.specs.Others.{rows_with, rows_with_others, IsOfOthers, with_slots_of}
use Rattle.kept_rows.specs.Texts.{replay_of}
use Rattle.kept_runs.specs.Texts.{Says}

-- A whole run on a kept root: a text with these rows is on the disk; `noticed` has the rows of what
-- others did as well, and is committed without steps; `made` also has the rows of calls, and is
-- committed with the steps to its tree.
pub record IsWholeRun (first : Entries) (rows : List (Row Action)) (captured : Entries) (calls : List Call) (text noticed made : List ℕ) : Type 0 where
  -- The rows of others come after the old ones, and lead to the slots that were captured.
  pub others : (more : List (Row Action)) × (rows_with_others first rows captured ≡ rows ++ more) × All IsOfOthers more
  pub slots : replay_of noticed ≡ with_slots_of (replay_of text) captured
  -- Then there is a row for each call.
  pub each : length (rows_with first (rows_with_others first rows captured) calls) ≡ length (rows_with_others first rows captured) + length calls
  -- Whatever fails, and whenever: recovery leaves the text before or `noticed`, and the root as it
  -- was, and after that `noticed` with its tree, or `made` with its own.
  pub write : NeverHalf replay_of text noticed (replay_of noticed) (run_events noticed [])
  pub run : NeverHalf replay_of noticed made (replay_of noticed) (run_events made (steps_between (replay_of noticed) (replay_of made)))

abbrev pub RunsAreWhole : Type 0
RunsAreWhole = (first : Entries) (rows : List (Row Action)) (captured : Entries) (calls : List Call) (text noticed made : List ℕ)
    → Says text first rows → Says noticed first (rows_with_others first rows captured)
    → Says made first (rows_with first (rows_with_others first rows captured) calls)
    → IsWholeRun first rows captured calls text noticed made
