-- What others did, as lines, and why it isn't taken in.
use Rattle.std.specs.Prelude.{◌≡◌, ℕ, false, List, Contains}
use Rattle.link_tree.specs.Trees.{Entries}
use Rattle.link_tree.specs.declared.change.Change.{Change}
use Rattle.history.specs.declared.row.Row.{Row}
use Rattle.script_words.specs.Words.{lines_text}
use Rattle.tree_steps.specs.Steps.{slot_changes_between}
use Rattle.unit_script.specs.declared.action.Action.{Action}
use Rattle.unit_script.specs.Machine.{replay}
use Rattle.kept_rows.specs.Lines.{can_be_written, lines_of_others}
use Rattle.kept_runs.specs.declared.errors.OthersError.{OthersError}
use Rattle.kept_runs.specs.declared.errors.OthersError.TheVariants as others

-- the lines of the calls by which the slots become those that were captured
abbrev pub others_text : Entries → List (Row Action) → (captured : Entries) → List ℕ
others_text first rows captured = lines_text (lines_of_others (slot_changes_between (replay first rows) captured))

-- One of the changes is at this path, and no line can say it.
abbrev pub IsNotWritable : OthersError → List Change → Type 0
IsNotWritable (others.NotWritable path) changes =
    (change : Change) × Contains changes change × (change.path ≡ path) × (can_be_written change ≡ false)
IsNotWritable others.TooManyLines changes = Unit {0}
IsNotWritable others.Full changes = Unit {0}
IsNotWritable others.OutOfMemory changes = Unit {0}
