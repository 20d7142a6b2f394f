-- What the index of a history contains for its rows.
use Rattle.std.specs.Prelude.{◌≡◌, ℕ, Bool, false, ◌&&◌, ◌||◌, List, Option, Some, None, is_some}
use Rattle.std.specs.BTreeMap.{is_at}
use Rattle.std.specs.Ordering.{nat_cmp}
use Rattle.tree_access.specs.declared.key.Key.{Key}
use Rattle.footprint.specs.declared.outcome.Outcome.{Outcome}
use Rattle.readers.specs.declared.readers.Readers.{Readers}
use Rattle.readers.specs.Readers.{reads, is_read}
use Rattle.history.specs.declared.row.Row.{Row}
use Rattle.history.specs.Rows.{row_at, command_of, survivor}

module _ {O : Type 0} (asks : O → Bool) where
  -- whether a row is a survivor that looked at a key
  abbrev pub is_reader : Option (Row O) → Key → Bool
  is_reader None key = false
  is_reader (Some row) key = is_some (survivor asks row) && is_read row.reading key

  -- The index lists each survivor under each key of its reading, and nothing else.
  abbrev pub Agrees : Readers → List (Row O) → Type 0
  Agrees readers rows = (key : Key) (i : ℕ) → reads readers key i ≡ is_reader (row_at rows i) key

  -- Row n is listed under the keys of its reading, if it is an accepted command; nothing else is
  -- changed.
  abbrev pub IsListedIfAccepted : O → Outcome → ℕ → Readers → Readers → Type 0
  IsListedIfAccepted c outcome n old new =
      (key : Key) (i : ℕ) → reads new key i ≡ ((is_some (command_of asks c outcome.answer) && (is_read outcome.reading key && is_at (nat_cmp n) i)) || reads old key i)
