-- The text of a history that is kept with a root. It is an input of unitadm.
use Rattle.std.specs.Prelude.{ℕ, List, ◌++◌, Result, Ok, Err, codes}
use Rattle.std.specs.FinMap as map
use Rattle.link_tree.specs.Trees.{Entries, inventory_text}
use Rattle.unit_script.specs.declared.call.Call.{Call}
use Rattle.unit_script.specs.declared.run_fault.InputFault.{InputFault}
use Rattle.script_words.specs.Words.{lines_text}
use Rattle.unit_script.specs.Machine.{rows_of, replay}
use Rattle.unit_script.specs.Runs.{input_of}

-- The inventory of the first tree, the line `== calls`, and the lines of the calls, with comments
-- between them: a line that begins with `#` is one.
abbrev pub history_text : Entries → List (List ℕ) → List ℕ
history_text first lines = inventory_text first ++ (codes "== calls\n" ++ lines_text lines)

abbrev pub tree_of_input : Result (Entries × List Call) InputFault → Entries
tree_of_input (Ok given) = replay given.0 (rows_of given.0 given.1)
tree_of_input (Err fault) = map.empty

-- the tree that a history leaves, by its text; an empty one if it is no input
abbrev pub replay_of : List ℕ → Entries
replay_of text = tree_of_input (input_of text)
