-- When the paths of both trees were walked, the noted changes are the differences of the trees.
use Rattle.std.proofs.Common.{◌≡◌, ℕ, true, cond, List, [], ◌∷◌, All, Contains, Option, Some, None, refl, sym, ap, ◌∙◌, inl, inr, ◌⊎◌}
use Rattle.std.specs.Prelude.{IsPermutation}
use Rattle.std.specs.Str.{bytes_eq}
use Rattle.std.specs.FinMap as map
use Rattle.std.specs.List.{list_any}
use Rattle.std.proofs.lemmas.Bool.{cases_Bool, true≢false, or_left, or_right}
use Rattle.std.proofs.lemmas.List.Elements.{All-nil, All-cons, All-contains, All-weaker}
use Rattle.std.proofs.lemmas.List.Sorted.{Contains-permutation, IsPermutation-sym}
use Rattle.std.proofs.lemmas.Slice.Eq.{bytes_eq-Decides}
use Rattle.link_tree.specs.declared.entry.Entry.{Entry}
use Rattle.link_tree.specs.declared.change.Change.{Change}
use Rattle.link_tree.specs.Trees.{path_cmp, Entries}
use Rattle.link_tree.specs.Differences.{differences, changes_between}
use Rattle.link_tree.proofs.Changed.{get-set, same_tree, same_bytes}
use Rattle.link_tree.proofs.Differences.{differences-same}
use Rattle.link_tree.proofs.Maps.{all_listed}
use Rattle.tree_steps.specs.Walks.{Standing, made_alike, NotesAll}

all_among : (xs : List Standing) → All (λ (y : Standing). list_any (λ (x : Standing). bytes_eq y.0 x.0) xs ≡ true) xs
all_among [] = All-nil (λ (y : Standing). list_any (λ (x : Standing). bytes_eq y.0 x.0) [] ≡ true)
all_among (x ∷ xs) =
    All-cons (λ (y : Standing). list_any (λ (x : Standing). bytes_eq y.0 x.0) (x ∷ xs) ≡ true) x xs (or_left (bytes_eq x.0 x.0) _ ((bytes_eq-Decides x.0 x.0).1 refl))
    (All-weaker (λ (y : Standing). list_any (λ (x : Standing). bytes_eq y.0 x.0) xs ≡ true) (λ (y : Standing). list_any (λ (x : Standing). bytes_eq y.0 x.0) (x ∷ xs) ≡ true) (λ y. or_right (bytes_eq y.0 x.0) _) xs (all_among xs))

path_among : (xs : List Standing) (path : List ℕ) (entry : Entry) → Contains xs (path, entry) → list_any (λ x. bytes_eq path x.0) xs ≡ true
path_among xs path entry here = All-contains (λ (y : Standing). list_any (λ (x : Standing). bytes_eq y.0 x.0) xs ≡ true) xs (path, entry) (all_among xs) here

module _ (other : Entries) where
  -- a path that is equal already, or is one of those that are made equal, is equal in the end
  alike_after : (xs : List Standing) (t : Entries) (path : List ℕ) → (map.get t path ≡ map.get other path) ⊎ (list_any (λ x. bytes_eq path x.0) xs ≡ true) → map.get (made_alike xs other t) path ≡ map.get other path
  alike_after [] t path here = elim here [ inl was ↦ was | inr none ↦ absurd (true≢false (sym none)) ]
  alike_after (x ∷ xs) t path here = elim (cases_Bool (bytes_eq path x.0)) [
    | inl same ↦ alike_after xs _ path (inl (get-set t x.0 (map.get other x.0) path ∙ ap (λ b. cond b (map.get other x.0) (map.get t path)) same ∙ ap (map.get other) (sym (same_bytes path x.0 same))))
    | inr away ↦ elim here [
      | inl was ↦ alike_after xs _ path (inl (get-set t x.0 (map.get other x.0) path ∙ ap (λ b. cond b (map.get other x.0) (map.get t path)) away ∙ was))
      | inr later ↦ alike_after xs _ path (inr (rw away at later))
    ]
  ]

  -- after a walk, each path of the walked tree is equal
  walked_alike : (walked t : Entries) (all : List Standing) → IsPermutation all (map.entries walked) → (path : List ℕ) (entry : Entry) → map.get walked path ≡ Some entry → map.get (made_alike all other t) path ≡ map.get other path
  walked_alike walked t all same path entry there =
      alike_after all t path (inr (path_among all path entry (Contains-permutation (map.entries walked) all (path, entry) (IsPermutation-sym all (map.entries walked) same) (all_listed walked path entry there))))

-- a walk over both trees makes the first equal to the second
both_walked : (old new : Entries) (ones others : List Standing) → IsPermutation ones (map.entries old) → IsPermutation others (map.entries new) → made_alike others new (made_alike ones new old) ≡ new
both_walked old new ones others of_old of_new = same_tree _ _ (λ path. by_entry path (map.get new path) (map.get old path) refl refl)
  where
    by_entry : (path : List ℕ) (there was : Option Entry) → map.get new path ≡ there → map.get old path ≡ was → map.get (made_alike others new (made_alike ones new old)) path ≡ map.get new path
    by_entry path (Some entry) was here before = walked_alike new new (made_alike ones new old) others of_new path entry here
    by_entry path None (Some entry) here before = alike_after new others (made_alike ones new old) path (inl (walked_alike new old old ones of_old path entry before))
    by_entry path None None here before = alike_after new others (made_alike ones new old) path (inl (alike_after new ones old path (inl (before ∙ sym here))))

pub noted_differences : (old new : Entries) (first second : map.FinMap path_cmp Change) → NotesAll old old new map.empty first → NotesAll new old new first second → second ≡ differences old new
noted_differences old new first second one other =
    let ones = one old (sym (differences-same old)) in
    let others = other (made_alike ones.0 new old) ones.2 in
    others.2 ∙ ap (differences old) (both_walked old new ones.0 others.0 ones.1 others.1)

pub noted_changes : (old new : Entries) (net : map.FinMap path_cmp Change) → net ≡ differences old new → map.values net ≡ changes_between old new
unfolding changes_between
noted_changes old new net here = ap (λ m. map.values m) here
