-- When two trees agree on all that rows looked at. One of them may be a part of the other.
use Rattle.std.specs.Prelude.{List, All}
use Rattle.link_tree.specs.Trees.{Entries}
use Rattle.tree_access.specs.Keys.{AgreeOn}
use Rattle.tree_access.specs.Readings.{keys_of}
use Rattle.history.specs.declared.row.Row.{Row}

-- Each key at which one of the rows looked sees the same in both trees.
abbrev pub AgreeOnRows : {O : Type 0} → List (Row O) → Entries → Entries → Type 0
AgreeOnRows rows t u = All (λ row. AgreeOn (keys_of row.reading) t u) rows
