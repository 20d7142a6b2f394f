-- The map that wants the path of every entry of a tree empty is the same in whatever order the
-- entries are visited.
use Rattle.std.proofs.Common.{◌≡◌, ℕ, Bool, true, false, ◌||◌, cond, List, [], ◌∷◌, All, Option, Some, None, refl, sym, ap, ◌∙◌, map as list_map}
use Rattle.std.specs.Prelude.{IsPermutation}
use Rattle.std.specs.FinMap as map
use Rattle.std.specs.FinMap.{find, get-from_entries, get-insert, same_map}
use Rattle.std.specs.List.{list_any}
use Rattle.std.specs.Ordering.{eq_by_cmp}
use Rattle.std.specs.Cmp.Lexicographic.{nat_list_cmp_total}
use Rattle.std.proofs.lemmas.List.Elements.{All-weaker}
use Rattle.std.proofs.lemmas.List.Sorted.{All-permutation, list_any-IsPermutation, IsPermutation-sym}
use Rattle.std.proofs.lemmas.Map.Lookups.{exact_bytes}
use Rattle.unit_paths.specs.Slots.{is_slot}
use Rattle.link_tree.specs.Trees.{path_cmp, Entries}
use Rattle.link_tree.proofs.Maps.{all_standing}
use Rattle.tree_access.specs.Keys.{StandAtSlots}
use Rattle.tree_access.specs.Placing.{Wanted, cleared}
use Rattle.tree_access.proofs.Those.{Standing}

-- the paths of these entries must be empty too
abbrev pub with_none : Wanted → List Standing → Wanted
with_none wanted [] = wanted
with_none wanted (x ∷ xs) = with_none (map.insert wanted x.0 None) xs

abbrev unwanted : Option (List ℕ)
unwanted = None

abbrev bare : Standing → List ℕ × Option (List ℕ)
bare x = (x.0, None)

abbrev is_among : List ℕ → List Standing → Bool
is_among path xs = list_any (λ x. eq_by_cmp path_cmp path x.0) xs

get-with_none : (wanted : Wanted) (xs : List Standing) (path : List ℕ) → map.get (with_none wanted xs) path ≡ cond (is_among path xs) (Some None) (map.get wanted path)
get-with_none wanted [] path = refl
get-with_none wanted (x ∷ xs) path =
    get-with_none (map.insert wanted x.0 None) xs path ∙ ap (cond (is_among path xs) (Some None)) (get-insert nat_list_cmp_total wanted x.0 None path)
    ∙ either (eq_by_cmp path_cmp path x.0) (is_among path xs)
  where
    either : (here later : Bool) → cond later (Some None) (cond here (Some None) (map.get wanted path)) ≡ cond (here || later) (Some None) (map.get wanted path)
    either true true = refl
    either true false = refl
    either false true = refl
    either false false = refl

find_none : (xs : List Standing) (path : List ℕ) → find path_cmp path (list_map bare xs) ≡ cond (is_among path xs) (Some None) None
find_none [] path = refl
find_none (x ∷ xs) path = ap (cond (eq_by_cmp path_cmp path x.0) (Some None)) (find_none xs path) ∙ either (eq_by_cmp path_cmp path x.0) (is_among path xs)
  where
    either : (here later : Bool) → cond here (Some unwanted) (cond later (Some unwanted) None) ≡ cond (here || later) (Some unwanted) None
    either true later = refl
    either false later = refl

get-cleared : (t : Entries) (path : List ℕ) → map.get (cleared t) path ≡ cond (is_among path (map.entries t)) (Some None) None
unfolding cleared
get-cleared t path = get-from_entries nat_list_cmp_total (list_map bare (map.entries t)) path ∙ find_none (map.entries t) path

-- visited in any order
pub all_cleared : (t : Entries) (xs : List Standing) → IsPermutation xs (map.entries t) → with_none map.empty xs ≡ cleared t
all_cleared t xs same = same_map nat_list_cmp_total exact_bytes _ _ (λ path.
    get-with_none map.empty xs path
    ∙ ap (cond (is_among path xs) (Some None)) (map.get-empty path_cmp path)
    ∙ ap (λ b. cond b (Some None) None) (list_any-IsPermutation (λ (x : Standing). eq_by_cmp path_cmp path x.0) xs (map.entries t) same)
    ∙ sym (get-cleared t path))

-- each of them is at a slot
pub all_at_slots : (t : Entries) (xs : List Standing) → StandAtSlots t → IsPermutation xs (map.entries t) → All (λ x. is_slot x.0 ≡ true) xs
all_at_slots t xs slots same =
    All-permutation (λ x. is_slot x.0 ≡ true) (map.entries t) xs (IsPermutation-sym xs (map.entries t) same)
    (All-weaker (λ x. map.get t x.0 ≡ Some x.1) (λ x. is_slot x.0 ≡ true) (λ x. slots x.0 x.1) (map.entries t) (all_standing t))
