-- The state machine that runs a script's calls: a history of actions.
use Rattle.std.specs.Prelude.{List, [], map as list_map}
use Rattle.link_tree.specs.Trees.{Entries}
use Rattle.history.specs.declared.row.Row.{Row}
use Rattle.history.specs.Rows as histories
use Rattle.unit_script.specs.declared.action.Action.{Action}
use Rattle.unit_script.specs.declared.call.Call.{Call}
use Rattle.unit_script.specs.Actions.{asks, meaning}

-- a call, in the form that histories use
abbrev pub asked : Call → histories.Call Action
asked call = (call.operator, call.request)

-- the rows of calls on a tree
abbrev pub rows_of : Entries → List Call → List (Row Action)
rows_of first calls = histories.run asks meaning first [] (list_map asked calls)

-- the tree after them: the first tree with only the surviving commands run on it
abbrev pub replay : Entries → List (Row Action) → Entries
replay first rows = histories.replay asks meaning first rows
