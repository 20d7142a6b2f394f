-- The numbers of rows, in ascending order, and lists of such numbers under texts.
use Rattle.std.specs.Prelude.{◌≡◌, ◌<◌, ◌≤◌, ℕ, Bool, true, false, if◌then◌else◌, List, [], ◌∷◌, Option, Some, None}
use Rattle.std.specs.List.{list_any}
use Rattle.std.specs.Ordering.{nat_cmp}
use Rattle.std.specs.BTreeMap.{is_at}
use Rattle.link_tree.specs.Trees.{path_cmp}

-- whether a number is among these
abbrev pub has : List ℕ → ℕ → Bool
has numbers i = list_any (is_at (nat_cmp i)) numbers

-- texts with their numbers
abbrev pub Lists : Type 0
Lists = List (List ℕ × List ℕ)

-- the numbers under a text
abbrev pub numbers_at : Lists → List ℕ → List ℕ
numbers_at [] text = []
numbers_at (e ∷ es) text = if is_at (path_cmp text) e.0 then e.1 else numbers_at es text

-- whether a number is under a text
abbrev pub lists : Lists → List ℕ → ℕ → Bool
lists l text i = has (numbers_at l text) i

-- the least number after n that passes a test
abbrev pub IsNext : (ℕ → Bool) → ℕ → Option ℕ → Type 0
IsNext test n None = (i : ℕ) → n < i → test i ≡ false
IsNext test n (Some m) = (n < m) × (test m ≡ true) × ((i : ℕ) → n < i → test i ≡ true → m ≤ i)

-- all numbers after n that pass a test, in ascending order: each is the least one after the one
-- before it
abbrev pub AreAllAfter : (ℕ → Bool) → ℕ → List ℕ → Type 0
AreAllAfter test n [] = IsNext test n None
AreAllAfter test n (m ∷ numbers) = IsNext test n (Some m) × AreAllAfter test m numbers
