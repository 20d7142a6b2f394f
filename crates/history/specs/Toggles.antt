-- Which commands were undone or redone since a row, as the code finds them: by one number for each
-- row, its link. An accepted undo or redo is a toggle of the row that it names.
use Rattle.std.specs.Prelude.{◌≡◌, ◌+◌, ◌-◌, ◌==◌, ◌&&◌, ℕ, zero, suc, Bool, true, false, not, Option, Some, None, is_some, List, [], ◌∷◌, ◌++◌, if◌then◌else◌, nat_lt, length, get_or, set}
use mathlib.Core.Bool.{beq}
use Rattle.tree_access.specs.declared.reading.Observation.{Observation}
use Rattle.history.specs.declared.row.Row.{Row}
use Rattle.history.specs.declared.row.RowReply.{RowReply}
use Rattle.history.specs.declared.row.RowReply.TheVariants.{Answered, Undid, UndoRefused, Redid, RedoRefused}
use Rattle.history.specs.Rows.{row_at, meets, toggled, undoer_then, accepted}

-- whether the row that a toggle names was undone before it: no if the toggle is an undo, yes if it
-- is a redo
abbrev pub was_undone : RowReply → Bool
was_undone (Answered answer) = false
was_undone (Undid k) = false
was_undone (UndoRefused refusal) = false
was_undone (Redid k) = true
was_undone (RedoRefused refusal) = false

abbrev pub toggled_at : {O : Type 0} → Option (Row O) → Option ℕ
toggled_at None = None
toggled_at (Some row) = toggled row.reply

-- the last toggle of row n after row `at`, by whether row `at` toggles row n
abbrev pub toggle_then : Option ℕ → (at n last : ℕ) → ℕ
toggle_then None at n last = last
toggle_then (Some k) at n last = if k == n then at else last

-- the same after several rows, which are numbered from `at` on
abbrev pub last_toggle_from : {O : Type 0} → List (Row O) → (at n last : ℕ) → ℕ
last_toggle_from [] at n last = last
last_toggle_from (row ∷ rows) at n last = last_toggle_from rows (at + 1) n (toggle_then (toggled row.reply) at n last)

-- the number of the last toggle of row n, 0 if there is none
abbrev pub last_toggle : {O : Type 0} → List (Row O) → ℕ → ℕ
last_toggle rows n = last_toggle_from rows 1 n 0

-- the link of row n, 0 if there is no such row
abbrev pub link_at : List ℕ → ℕ → ℕ
link_at links zero = 0
link_at links (suc k) = get_or links k 0

-- Of these rows, which are numbered from `at` on, the link of each toggle of row n is the previous
-- toggle of row n; `last` was the last one before these rows.
abbrev pub LinksBack : {O : Type 0} → (n : ℕ) → List (Row O) → List ℕ → (at last : ℕ) → Type 0
LinksBack n [] links at last = Unit {0}
LinksBack n (row ∷ rows) [] at last = ⊥
LinksBack n (row ∷ rows) (link ∷ links) at last =
    (toggled row.reply ≡ Some n → link ≡ last) × LinksBack n rows links (at + 1) (toggle_then (toggled row.reply) at n last)

-- Each row has a link: that of a toggle is the previous toggle of the same row, and that of any
-- other row is the last toggle of itself.
pub record AreLinked {O : Type 0} (links : List ℕ) (rows : List (Row O)) : Type 0 where
  pub each : length links ≡ length rows
  pub back : (n : ℕ) → LinksBack n rows links 1 0
  pub last : (n : ℕ) → toggled_at (row_at rows n) ≡ None → link_at links n ≡ last_toggle rows n

-- the links after row m toggled row n
abbrev pub relinked : List ℕ → (n m : ℕ) → List ℕ
relinked links n m = set links (n - 1) m ++ link_at links n ∷ []

module _ {O : Type 0} where
  -- Row n was undone only while it was not undone, and redone only while it was; row `by` had
  -- undone it before these rows, if any row had.
  abbrev pub Alternates : ℕ → List (Row O) → (at : ℕ) → (by : Option ℕ) → Type 0
  Alternates n [] at by = Unit {0}
  Alternates n (row ∷ rows) at by =
      (row.reply ≡ Undid n → by ≡ None) × (row.reply ≡ Redid n → is_some by ≡ true) × Alternates n rows (at + 1) (undoer_then row.reply at n by)

  -- This holds for each row.
  abbrev pub AllAlternate : List (Row O) → Type 0
  AllAlternate rows = (n : ℕ) → Alternates n rows 1 None

-- From the toggled row and the least number so far: the row, if it is less, is toggled for the
-- first time since row u, and passes the test.
abbrev pub sooner_of : (test : Bool → ℕ → Bool) → (u : ℕ) → (named : Option ℕ) → (was : Bool) → (link least : ℕ) → ℕ
sooner_of test u None was link least = least
sooner_of test u (Some k) was link least = if (nat_lt k least && nat_lt link u) && test was k then k else least

abbrev pub sooner : (test : Bool → ℕ → Bool) → (u : ℕ) → RowReply → (link least : ℕ) → ℕ
sooner test u reply link least = sooner_of test u (toggled reply) (was_undone reply) link least

-- the same over several rows with their links
abbrev pub least_flipped : {O : Type 0} → (test : Bool → ℕ → Bool) → (u : ℕ) → List (Row O) → (links : List ℕ) → (least : ℕ) → ℕ
least_flipped test u [] links least = least
least_flipped test u (row ∷ rows) [] least = least
least_flipped test u (row ∷ rows) (link ∷ links) least = least_flipped test u rows links (sooner test u row.reply link least)

module _ {O : Type 0} (asks : O → Bool) where
  -- whether a row is a command that is undone now and was not before, or vice versa
  abbrev pub is_flipped : (was : Bool) → Row O → Bool
  is_flipped was row = is_some (accepted asks row.request row.reply) && not (beq (is_some row.undone_by) was)

  -- whether it is such a command, and one of its changes touches a key of the reading
  abbrev pub flipped_at : List Observation → (was : Bool) → Option (Row O) → Bool
  flipped_at reading was None = false
  flipped_at reading was (Some row) = is_flipped was row && meets row.changes reading

  -- whether row k is such a command
  abbrev pub is_in_the_way : List (Row O) → List Observation → (was : Bool) → ℕ → Bool
  is_in_the_way rows reading was k = flipped_at reading was (row_at rows k)
