-- A tree's entries in pieces: consecutive lists in the byte order of the paths.
use Rattle.std.specs.Prelude.{◌≡◌, ◌<◌, ◌≤◌, ◌-◌, ℕ, suc, Bool, true, false, not, List, [], ◌∷◌, ◌++◌, length, take, drop, All, Option, Some, None, Result, Ok, Err, slice_get, slice_index_or}
use Rattle.std.specs.List.{filter}
use Rattle.std.specs.List.Sorted.{IsPartitionPoint}
use Rattle.std.specs.Option.{option_map_or}
use Rattle.std.specs.Ordering.{eq_by_cmp, is_lt}
use Rattle.std.specs.FinMap.{is_sorted}
use Rattle.std.specs.declared.alloc.AllocError.{AllocError}
use Rattle.link_tree.specs.Trees.{path_cmp}
use Rattle.link_tree.specs.declared.entry.Entry.{Entry}

-- a path and the entry at it
abbrev pub Item : Type 0
Item = List ℕ × Entry

-- the entries of all pieces, one after another
abbrev pub joined : List (List Item) → List Item
joined [] = []
joined (piece ∷ pieces) = piece ++ joined pieces

abbrev pub NoneIsEmpty : List (List Item) → Type 0
NoneIsEmpty pieces = All (λ piece. 0 < length piece) pieces

-- The paths rise from entry to entry and from piece to piece, and no piece is empty.
abbrev pub AreInOrder : List (List Item) → Type 0
AreInOrder pieces = (is_sorted path_cmp (joined pieces) ≡ true) × NoneIsEmpty pieces

-- the entries before a place of the i-th piece, and those from there on
abbrev pub before : List (List Item) → ℕ → ℕ → List Item
before pieces i at = joined (take i pieces) ++ take at (slice_index_or pieces i [])

abbrev pub behind : List (List Item) → ℕ → ℕ → List Item
behind pieces i at = drop at (slice_index_or pieces i []) ++ joined (drop (suc i) pieces)

abbrev pub first_of : List Item → Option Item
first_of [] = None
first_of (item ∷ items) = Some item

-- all but the first
abbrev pub all_but_first : List Item → List Item
all_but_first [] = []
all_but_first (item ∷ items) = items

-- whether the first entry is at the path
abbrev pub is_first : List ℕ → List Item → Bool
is_first path [] = false
is_first path (item ∷ items) = eq_by_cmp path_cmp path item.0

-- the entries at other paths
abbrev pub others : List ℕ → List Item → List Item
others path items = filter (λ item. not (eq_by_cmp path_cmp path item.0)) items

-- Each entry comes before the path.
abbrev pub AllBelow : List ℕ → List Item → Type 0
AllBelow path items = All (λ item. is_lt (path_cmp item.0 path) ≡ true) items

-- The first entry, if there is one, is at the path or after it.
abbrev pub StartsFrom : List ℕ → List Item → Type 0
StartsFrom path [] = Unit {0}
StartsFrom path (item ∷ items) = is_lt (path_cmp item.0 path) ≡ false

-- whether the last entry of a piece comes before the path
abbrev pub ends_before : List ℕ → List Item → Bool
ends_before path piece = option_map_or (λ (item : Item). is_lt (path_cmp item.0 path)) (slice_get piece (length piece - 1)) false

-- The i-th piece is the first that doesn't end before the path; if i is the number of pieces, all
-- end before it.
abbrev pub IsFirstFrom : List ℕ → List (List Item) → ℕ → Type 0
IsFirstFrom path pieces i = (i ≤ length pieces) × IsPartitionPoint (λ piece. ends_before path piece ≡ true) (λ piece. ends_before path piece ≡ false) pieces i

-- The i-th piece, if there is one, has an entry at the place.
abbrev pub IsWithin : List (List Item) → ℕ → ℕ → Type 0
IsWithin pieces i at = (piece : List Item) → slice_get pieces i ≡ Some piece → at < length piece

-- The place of a path: the entries before it come before the path, and the ones after it don't.
pub record IsSpot (path : List ℕ) (pieces : List (List Item)) (i at : ℕ) : Type 0 where
  pub below : AllBelow path (before pieces i at)
  pub from : StartsFrom path (behind pieces i at)
  pub within : IsWithin pieces i at

-- The pieces after a change: they are still in order and hold the wanted entries, or after an error
-- those from before.
abbrev pub Become : {A : Type 0} → List (List Item) → List (List Item) → List Item → Result A AllocError → Type 0
Become old new wanted (Ok value) = AreInOrder new × (joined new ≡ wanted)
Become old new wanted (Err error) = AreInOrder new × (joined new ≡ joined old)
