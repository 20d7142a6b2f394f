-- The chosen entries of a tree, gathered one after another.
use Rattle.std.proofs.Common.{◌≡◌, ℕ, true, cond, List, [], ◌∷◌, All, Contains, Option, Some, None, refl, sym, ap, ◌∙◌, subst, inl, inr, ◌⊎◌}
use Rattle.std.specs.Prelude.{if◌then◌else◌, IsPermutation}
use Rattle.std.specs.Str.{bytes_eq}
use Rattle.std.specs.FinMap as map
use Rattle.std.specs.List.{list_any}
use Rattle.std.proofs.lemmas.Bool.{cases_Bool, true≢false, or_left, or_right}
use Rattle.std.proofs.lemmas.List.Elements.{All-head, All-tail, All-nil, All-cons, All-contains, All-weaker}
use Rattle.std.proofs.lemmas.List.Sorted.{All-permutation, Contains-permutation, IsPermutation-sym}
use Rattle.std.proofs.lemmas.Slice.Eq.{bytes_eq-Decides}
use Rattle.link_tree.specs.declared.entry.Entry.{Entry}
use Rattle.link_tree.specs.Trees.{path_cmp, Entries, set_entry}
use Rattle.link_tree.proofs.Changed.{get-set, same_tree, same_bytes}
use Rattle.link_tree.proofs.Maps.{all_standing, all_listed}
use Rattle.tree_access.specs.Keys.{Chosen, is_chosen, chosen_at, those}
use Rattle.tree_access.proofs.KeyLaws.{get-those}

-- an entry with its path
abbrev pub Standing : Type 0
Standing = List ℕ × Entry

-- those that are chosen are placed
abbrev pub gathered : Chosen → Entries → List Standing → Entries
gathered chosen found [] = found
gathered chosen found (x ∷ xs) = gathered chosen (if chosen x.0 x.1 then set_entry found x.0 (Some x.1) else found) xs

-- each of them is in a tree
abbrev pub Stand : Entries → List Standing → Type 0
Stand t xs = All (λ x. map.get t x.0 ≡ Some x.1) xs

pub some_is : {P : Type 0} (entry : Entry) → None ≡ Some entry → P
some_is entry h = cc

-- a chosen entry at a path is in the tree, and is one at which the key looks
pub shown_there : (chosen : Chosen) (path : List ℕ) (there : Option Entry) (entry : Entry) → chosen_at chosen path there ≡ Some entry → (there ≡ Some entry) × (chosen path entry ≡ true)
shown_there chosen path None entry on = some_is entry on
shown_there chosen path (Some other) entry on = elim (cases_Bool (chosen path other)) [
  | inl here ↦ (let same : Some other ≡ Some entry = sym (ap (λ b. cond b (Some other) None) here) ∙ on in (same, subst (λ o. is_chosen chosen path o ≡ true) same here))
  | inr away ↦ some_is entry (sym (ap (λ b. cond b (Some other) None) away) ∙ on)
]

pub shown_chosen : (chosen : Chosen) (path : List ℕ) (entry : Entry) → chosen path entry ≡ true → chosen_at chosen path (Some entry) ≡ Some entry
shown_chosen chosen path entry here = ap (λ b. cond b (Some entry) None) here

module _ (chosen : Chosen) (t : Entries) where
  -- an entry that is not chosen is not gathered
  one_off : (x : Standing) (found : Entries) (path : List ℕ) → map.get t x.0 ≡ Some x.1 → chosen_at chosen path (map.get t path) ≡ None
      → map.get (if chosen x.0 x.1 then set_entry found x.0 (Some x.1) else found) path ≡ map.get found path
  one_off x found path stands off = elim (cases_Bool (chosen x.0 x.1)) [
    | inl here ↦ ap (λ b. map.get (cond b (set_entry found x.0 (Some x.1)) found) path) here ∙ get-set found x.0 (Some x.1) path ∙ elim (cases_Bool (bytes_eq path x.0)) [
      | inl same ↦ some_is x.1 (sym off ∙ ap (chosen_at chosen path) (ap (map.get t) (same_bytes path x.0 same) ∙ stands) ∙ ap (λ p. chosen_at chosen p (Some x.1)) (same_bytes path x.0 same) ∙ shown_chosen chosen x.0 x.1 here)
      | inr other ↦ ap (λ b. cond b (Some x.1) (map.get found path)) other
    ]
    | inr away ↦ ap (λ b. map.get (cond b (set_entry found x.0 (Some x.1)) found) path) away
  ]

  gathered_off : (xs : List Standing) (found : Entries) (path : List ℕ) → Stand t xs → chosen_at chosen path (map.get t path) ≡ None → map.get (gathered chosen found xs) path ≡ map.get found path
  gathered_off [] found path stand off = refl
  gathered_off (x ∷ xs) found path stand off =
      gathered_off xs _ path (All-tail (λ x. map.get t x.0 ≡ Some x.1) x xs stand) off ∙ one_off x found path (All-head (λ x. map.get t x.0 ≡ Some x.1) x xs stand) off

  -- at the path of a chosen entry, that entry is what was gathered
  one_on : (x : Standing) (found : Entries) (path : List ℕ) (entry : Entry) → map.get t x.0 ≡ Some x.1 → chosen_at chosen path (map.get t path) ≡ Some entry
      → (map.get found path ≡ Some entry) ⊎ (bytes_eq path x.0 ≡ true) → map.get (if chosen x.0 x.1 then set_entry found x.0 (Some x.1) else found) path ≡ Some entry
  one_on x found path entry stands on here =
      let there = shown_there chosen path (map.get t path) entry on in
      elim (cases_Bool (bytes_eq path x.0)) [
        | inl same ↦ (
            let at : path ≡ x.0 = same_bytes path x.0 same in
            let is : Some x.1 ≡ Some entry = sym stands ∙ sym (ap (map.get t) at) ∙ there.0 in
            let selected : chosen x.0 x.1 ≡ true = subst (λ o. is_chosen chosen x.0 o ≡ true) (sym is) (subst (λ p. chosen p entry ≡ true) at there.1) in
            ap (λ b. map.get (cond b (set_entry found x.0 (Some x.1)) found) path) selected ∙ get-set found x.0 (Some x.1) path ∙ ap (λ b. cond b (Some x.1) (map.get found path)) same ∙ is)
        | inr other ↦ (
            let was : map.get found path ≡ Some entry = elim here [ inl was ↦ was | inr same ↦ absurd (true≢false (sym same ∙ other)) ] in
            elim (cases_Bool (chosen x.0 x.1)) [
              | inl selected ↦ ap (λ b. map.get (cond b (set_entry found x.0 (Some x.1)) found) path) selected ∙ get-set found x.0 (Some x.1) path ∙ ap (λ b. cond b (Some x.1) (map.get found path)) other ∙ was
              | inr away ↦ ap (λ b. map.get (cond b (set_entry found x.0 (Some x.1)) found) path) away ∙ was
            ])
      ]

  gathered_on : (xs : List Standing) (found : Entries) (path : List ℕ) (entry : Entry) → Stand t xs → chosen_at chosen path (map.get t path) ≡ Some entry
      → (map.get found path ≡ Some entry) ⊎ (list_any (λ x. bytes_eq path x.0) xs ≡ true) → map.get (gathered chosen found xs) path ≡ Some entry
  gathered_on [] found path entry stand on here = elim here [ inl was ↦ was | inr none ↦ absurd (true≢false (sym none)) ]
  gathered_on (x ∷ xs) found path entry stand on here =
      let stands = All-head (λ x. map.get t x.0 ≡ Some x.1) x xs stand in
      let rest = All-tail (λ x. map.get t x.0 ≡ Some x.1) x xs stand in
      elim (cases_Bool (bytes_eq path x.0)) [
        | inl same ↦ gathered_on xs _ path entry rest on (inl (one_on x found path entry stands on (inr same)))
        | inr other ↦ elim here [
          | inl was ↦ gathered_on xs _ path entry rest on (inl (one_on x found path entry stands on (inl was)))
          | inr later ↦ gathered_on xs _ path entry rest on (inr (rw other at later))
        ]
      ]

  all_among : (xs : List Standing) → All (λ (y : Standing). list_any (λ (x : Standing). bytes_eq y.0 x.0) xs ≡ true) xs
  all_among [] = All-nil (λ (y : Standing). list_any (λ (x : Standing). bytes_eq y.0 x.0) [] ≡ true)
  all_among (x ∷ xs) =
      All-cons (λ (y : Standing). list_any (λ (x : Standing). bytes_eq y.0 x.0) (x ∷ xs) ≡ true) x xs (or_left (bytes_eq x.0 x.0) _ ((bytes_eq-Decides x.0 x.0).1 refl))
      (All-weaker (λ (y : Standing). list_any (λ (x : Standing). bytes_eq y.0 x.0) xs ≡ true) (λ (y : Standing). list_any (λ (x : Standing). bytes_eq y.0 x.0) (x ∷ xs) ≡ true) (λ y. or_right (bytes_eq y.0 x.0) _) xs (all_among xs))

  path_among : (xs : List Standing) (path : List ℕ) (entry : Entry) → Contains xs (path, entry) → list_any (λ x. bytes_eq path x.0) xs ≡ true
  path_among xs path entry here = All-contains (λ (y : Standing). list_any (λ (x : Standing). bytes_eq y.0 x.0) xs ≡ true) xs (path, entry) (all_among xs) here

  -- all chosen entries are gathered from a list of all entries of the tree
  pub gathered_those : (xs : List Standing) → IsPermutation xs (map.entries t) → gathered chosen map.empty xs ≡ those chosen t
  gathered_those xs same = same_tree _ _ (λ path. by_shown path (chosen_at chosen path (map.get t path)) refl ∙ sym (get-those chosen t path))
    where
      stand : Stand t xs
      stand = All-permutation (λ x. map.get t x.0 ≡ Some x.1) (map.entries t) xs (IsPermutation-sym xs (map.entries t) same) (all_standing t)

      by_shown : (path : List ℕ) (there : Option Entry) → chosen_at chosen path (map.get t path) ≡ there → map.get (gathered chosen map.empty xs) path ≡ chosen_at chosen path (map.get t path)
      by_shown path None off = gathered_off xs map.empty path stand off ∙ map.get-empty path_cmp path ∙ sym off
      by_shown path (Some entry) on =
          gathered_on xs map.empty path entry stand on (inr (path_among xs path entry (Contains-permutation (map.entries t) xs (path, entry) (IsPermutation-sym xs (map.entries t) same) (all_listed t path entry (shown_there chosen path (map.get t path) entry on).0)))) ∙ sym on
