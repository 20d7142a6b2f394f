-- Two trees are equal if each entry of one is in the other, both ways.
use Rattle.std.proofs.Common.{◌≡◌, ℕ, List, [], ◌∷◌, All, Contains, Option, Some, None, refl, sym, ap, ◌∙◌, subst}
use Rattle.std.specs.Prelude.{IsPermutation}
use Rattle.std.specs.FinMap as map
use Rattle.std.proofs.lemmas.List.Elements.{All-head, All-nil, All-cons, All-contains, All-contains_itself, Contains-append_right}
use Rattle.std.proofs.lemmas.List.Sorted.{All-permutation, Contains-permutation}
use Rattle.link_tree.specs.declared.entry.Entry.{Entry}
use Rattle.link_tree.specs.Trees.{Entries}
use Rattle.link_tree.proofs.Changed.{same_tree}
use Rattle.link_tree.proofs.Maps.{all_standing, all_listed}
use Rattle.tree_steps.specs.Walks.{Standing, AllStandIn}

pub same_where_all_stand : (t u : Entries) → AllStandIn t u → AllStandIn u t → t ≡ u
same_where_all_stand t u on back = same_tree t u (λ path. by_entry path (map.get t path) (map.get u path) refl refl)
  where
    by_entry : (path : List ℕ) (one other : Option Entry) → map.get t path ≡ one → map.get u path ≡ other → map.get t path ≡ map.get u path
    by_entry path (Some entry) other here there = here ∙ sym (on path entry here)
    by_entry path None (Some entry) here there = back path entry there ∙ sym there
    by_entry path None None here there = here ∙ sym there

pub all_stand_where_same : (t u : Entries) → t ≡ u → AllStandIn t u
all_stand_where_same t u same path entry here = ap (λ m. map.get m path) (sym same) ∙ here

-- The remaining entries are among all entries, and the property holds for all if it holds for them.
pub record AreChecked (P : Standing → Type 0) (rest all : List Standing) : Type 0 where
  pub among : (x : Standing) → Contains rest x → Contains all x
  pub checked : All P rest → All P all

pub one_checked : (P : Standing → Type 0) (x : Standing) (rest all : List Standing) → P x → AreChecked P (x ∷ rest) all → AreChecked P rest all
one_checked P x rest all here before = record {
  among = λ y later. before.among y (Contains-append_right (x ∷ []) rest y later);
  checked = λ later. before.checked (All-cons P x rest here later);
}

pub all_checked : (P : Standing → Type 0) (t : Entries) (all : List Standing) → IsPermutation all (map.entries t) → AreChecked P [] all → (path : List ℕ) (entry : Entry) → map.get t path ≡ Some entry → P (path, entry)
all_checked P t all same checked path entry there =
    All-contains P (map.entries t) (path, entry) (All-permutation P all (map.entries t) same (checked.checked (All-nil P))) (all_listed t path entry there)

-- a remaining entry is in the tree
pub one_stands : (P : Standing → Type 0) (t : Entries) (all : List Standing) (x : Standing) (rest : List Standing) → IsPermutation all (map.entries t) → AreChecked P (x ∷ rest) all → map.get t x.0 ≡ Some x.1
one_stands P t all x rest same before =
    All-contains (λ x. map.get t x.0 ≡ Some x.1) (map.entries t) x (all_standing t)
    (Contains-permutation all (map.entries t) x same (before.among x (All-head (Contains (x ∷ rest)) x rest (All-contains_itself (x ∷ rest)))))
