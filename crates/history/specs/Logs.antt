-- What contracts see of a history.
use Rattle.std.specs.Prelude.{◌≡◌, ℕ, List, refl}
use Rattle.link_tree.specs.Trees.{Entries}
use Rattle.history.specs.declared.row.Row.{Row}

-- The first tree, the rows, and how many there may be.
pub record Log (O : Type 0) : Type 0 where
  pub first : Entries
  pub rows : List (Row O)
  pub limit : ℕ

abbrev pub parts_of : {O : Type 0} → Log O → Entries × List (Row O) × ℕ
parts_of log = (log.first, log.rows, log.limit)

abbrev pub of_parts : {O : Type 0} → Entries × List (Row O) × ℕ → Log O
of_parts (first, rows, limit) = record { first = first; rows = rows; limit = limit }

pub of_own_parts : {O : Type 0} (log : Log O) → of_parts (parts_of log) ≡ log
of_own_parts log = refl
