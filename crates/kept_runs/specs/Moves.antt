-- The same rows on another first tree.
use Rattle.std.specs.Prelude.{◌≡◌, ◌<◌, ◌⊎◌, ℕ, List, ◌++◌}
use Rattle.std.specs.FinMap as map
use Rattle.link_tree.specs.Trees.{Entries}
use Rattle.history.specs.declared.row.Row.{Row}
use Rattle.unit_script.specs.declared.action.Action.{Action}
use Rattle.kept_texts.specs.declared.text.KeptText.{KeptText}
use Rattle.kept_texts.specs.Texts.{begun_text, begun_parts, runs_text}
use Rattle.kept_runs.specs.Texts.{Says, all_shown}

-- the text of a history with another first tree
abbrev pub text_with : KeptText → Entries → List ℕ
text_with text first =
    begun_text first text.parts.header ++ runs_text (begun_parts first text.parts.header) text.parts.runs.all

-- The text says this first tree, and the rows of its calls show the same as these.
abbrev pub ShowsAlike : List ℕ → Entries → List (Row Action) → Type 0
ShowsAlike text first rows =
    (others : List (Row Action)) × Says text first others × (all_shown rows ≡ all_shown others)

-- The rows of a text aren't those of the same text with this first tree, or the tree is too large.
abbrev pub CannotMove : KeptText → Entries → List (Row Action) → Type 0
CannotMove text first rows =
    (65536 < map.len first) ⊎ (ShowsAlike (text_with text first) first rows → ⊥)
