-- A run on a root that was found, with the rows of its history.
use Rattle.std.specs.Prelude.{◌≡◌, ℕ, ◌+◌, List, ◌++◌, length, All}
use Rattle.link_tree.specs.Trees.{Entries}
use Rattle.history.specs.declared.row.Row.{Row}
use Rattle.unit_script.specs.declared.action.Action.{Action}
use Rattle.unit_script.specs.declared.call.Call.{Call}
use Rattle.disk.specs.Events.{Event}
use Rattle.kept_history.specs.Roots.{KeptRoot}
use Rattle.kept_history.specs.Recovery.{recovered}
use Rattle.kept_rows.specs.Others.{rows_with, rows_with_others, IsOfOthers}
use Rattle.kept_rows.specs.Texts.{replay_of}
use Rattle.kept_laws.specs.Found.{Ends, IsRun, IsOneOf}

-- what is captured: the entries that recovery leaves
abbrev pub captured : KeptRoot → Entries
captured found = (recovered replay_of found).entries

-- Recovery, then a history with rows of what others did, then one with rows of calls as well.
pub record IsRunWithRows (found : KeptRoot) (first : Entries) (rows : List (Row Action)) (calls : List Call) (noticed made : List ℕ) (events : List Event) : Type 0 where
  -- The rows of others come after the old ones, and with them the history has what was captured.
  pub others : (more : List (Row Action)) × (rows_with_others first rows (captured found) ≡ rows ++ more) × All IsOfOthers more
  pub run : IsRun replay_of found noticed made events
  -- Then there is a row for each call.
  pub each : length (rows_with first (rows_with_others first rows (captured found)) calls) ≡ length (rows_with_others first rows (captured found)) + length calls
  -- Whatever fails, and whenever: what recovery alone leaves is left, or the history with the rows
  -- of others, or that with all rows, each with its own tree.
  pub whole : Ends replay_of found events (IsOneOf replay_of found noticed made)
