-- The entry at each path after changes, and that changes can be undone.
use Rattle.std.proofs.Common.{◌≡◌, ℕ, Bool, true, false, cond, List, [], ◌∷◌, Option, Some, None, All, refl, sym, ◌∙◌, ap, subst, inl, inr}
use Rattle.std.specs.Ordering.{eq_by_cmp}
use Rattle.std.specs.Cmp.Lexicographic.{nat_list_cmp_total}
use Rattle.std.specs.Str.{bytes_eq}
use Rattle.std.specs.FinMap as map
use Rattle.std.proofs.lemmas.Bool.{cases_Bool, false≢true}
use Rattle.std.proofs.lemmas.List.Elements.{All-map}
use Rattle.std.proofs.lemmas.Map.Lookups.{exact_bytes}
use Rattle.std.proofs.lemmas.Slice.Eq.{bytes_eq-Decides}
use Rattle.link_tree.specs.declared.entry.Entry.{Entry}
use Rattle.link_tree.specs.declared.change.Change.{Change}
use Rattle.unit_paths.specs.Slots.{is_slot}
use Rattle.link_tree.specs.Trees.{path_cmp, Entries, set_entry, after_change, after_changes, KeepsPath, AreFrom, taken_back, inverse_of}
use Rattle.link_tree.proofs.Keys.{same-found}
use Rattle.link_tree.proofs.Shapes.{same_key}

-- whether two paths are equal, as maps compare them
abbrev pub is_at : List ℕ → List ℕ → Bool
is_at q p = eq_by_cmp path_cmp q p

pub same_bytes : (q p : List ℕ) → bytes_eq q p ≡ true → q ≡ p
same_bytes q p h = (bytes_eq-Decides q p).0 h

-- maps compare paths by their bytes
pub at_bytes : (q p : List ℕ) → is_at q p ≡ bytes_eq q p
at_bytes q p = elim (cases_Bool (is_at q p)) [
  | inl here ↦ here ∙ sym ((bytes_eq-Decides q p).1 (same_key q p here))
  | inr away ↦ away ∙ sym (elim (cases_Bool (bytes_eq q p)) [
    | inl same ↦ absurd (false≢true (sym away ∙ ap (is_at q) (sym (same_bytes q p same)) ∙ same-found q))
    | inr other ↦ other
  ])
]

-- if two paths differ, they differ in either order
pub other_bytes : (q p : List ℕ) → bytes_eq q p ≡ false → bytes_eq p q ≡ false
other_bytes q p away = elim (cases_Bool (bytes_eq p q)) [
  | inl same ↦ absurd (false≢true (sym away ∙ (bytes_eq-Decides q p).1 (sym (same_bytes p q same))))
  | inr other ↦ other
]

-- the entry at each path after an entry was set
pub get-set_entry : (m : Entries) (p : List ℕ) (o : Option Entry) (q : List ℕ) → map.get (set_entry m p o) q ≡ cond (is_at q p) o (map.get m q)
get-set_entry m p (Some e) q = map.get-insert nat_list_cmp_total m p e q
get-set_entry m p None q = map.get-remove nat_list_cmp_total m p q

-- the same, with paths compared by their bytes
pub get-set : (m : Entries) (p : List ℕ) (o : Option Entry) (q : List ℕ) → map.get (set_entry m p o) q ≡ cond (bytes_eq q p) o (map.get m q)
get-set m p o q = get-set_entry m p o q ∙ ap (λ b. cond b o (map.get m q)) (at_bytes q p)

get-set_same : (m : Entries) (p : List ℕ) (o : Option Entry) → map.get (set_entry m p o) p ≡ o
get-set_same m p o = get-set m p o p ∙ ap (λ b. cond b o (map.get m p)) ((bytes_eq-Decides p p).1 refl)

pub get-set_other : (m : Entries) (p : List ℕ) (o : Option Entry) (q : List ℕ) → bytes_eq q p ≡ false → map.get (set_entry m p o) q ≡ map.get m q
get-set_other m p o q away = get-set m p o q ∙ ap (λ b. cond b o (map.get m q)) away

-- trees with the same entry at each path are equal
pub same_tree : (m n : Entries) → ((q : List ℕ) → map.get m q ≡ map.get n q) → m ≡ n
same_tree m n h = map.same_map nat_list_cmp_total exact_bytes m n h

-- the entry at a path after changes, computed from the one before
abbrev pub after_at : List Change → List ℕ → Option Entry → Option Entry
after_at [] q o = o
after_at (c ∷ cs) q o = after_at cs q (cond (bytes_eq q c.path) c.after o)

pub get-after_changes : (changes : List Change) (m : Entries) (q : List ℕ) → map.get (after_changes changes m) q ≡ after_at changes q (map.get m q)
get-after_changes [] m q = refl
get-after_changes (c ∷ cs) m q = get-after_changes cs (after_change c m) q ∙ ap (after_at cs q) (get-set m c.path c.after q)

-- changes at other paths leave the entry at a path unchanged
pub after_at-kept : (changes : List Change) (q : List ℕ) (o : Option Entry) → KeepsPath q changes → after_at changes q o ≡ o
after_at-kept [] q o h = refl
after_at-kept (c ∷ cs) q o h = ap (λ b. after_at cs q (cond b c.after o)) h.0 ∙ after_at-kept cs q o h.1

-- the undoing changes have the same paths
inverse_keeps : (changes : List Change) (q : List ℕ) → KeepsPath q changes → KeepsPath q (inverse_of changes)
inverse_keeps [] q h = tt
inverse_keeps (c ∷ cs) q h = (h.0, inverse_keeps cs q h.1)

-- a change at another path doesn't affect the entries from which the remaining changes start
from_kept : (change : Change) (changes : List Change) (m : Entries) → KeepsPath change.path changes → AreFrom m changes → AreFrom (after_change change m) changes
from_kept c [] m apart h = tt
from_kept c (d ∷ cs) m apart h =
    (get-set_other m c.path c.after d.path (other_bytes c.path d.path apart.0) ∙ h.0, h.1, from_kept c cs m apart.1 h.2)

-- the undoing changes start from the tree that the changes gave
pub inverse_from : (m : Entries) (changes : List Change) → AreFrom m changes → AreFrom (after_changes changes m) (inverse_of changes)
inverse_from m [] h = tt
inverse_from m (c ∷ cs) h =
    let next : Entries = after_change c m in
    (get-after_changes cs next c.path ∙ after_at-kept cs c.path (map.get next c.path) h.1 ∙ get-set_same m c.path c.after, inverse_keeps cs c.path h.1, inverse_from next cs (from_kept c cs m h.1 h.2))

-- the old entry is at a path again
back_at : (m : Entries) (changes : List Change) (q : List ℕ) → AreFrom m changes → after_at (inverse_of changes) q (after_at changes q (map.get m q)) ≡ map.get m q
back_at m [] q h = refl
back_at m (c ∷ cs) q h =
    let back : Bool → Option Entry = λ b. after_at (inverse_of cs) q (cond b c.before (after_at cs q (cond b c.after (map.get m q)))) in
    elim (cases_Bool (bytes_eq q c.path)) [
      | inl here ↦ (let same = same_bytes q c.path here in
          ap back here
          ∙ after_at-kept (inverse_of cs) q c.before (inverse_keeps cs q (subst (λ p. KeepsPath p cs) (sym same) h.1))
          ∙ sym (ap (map.get m) same ∙ h.0))
      | inr away ↦ ap back away ∙ back_at m cs q h.2
    ]

-- undoing changes gives exactly the tree on which they were made
pub inverse_undoes : (m : Entries) (changes : List Change) → AreFrom m changes → after_changes (inverse_of changes) (after_changes changes m) ≡ m
inverse_undoes m changes h = same_tree _ _ (λ q.
    get-after_changes (inverse_of changes) (after_changes changes m) q ∙ ap (after_at (inverse_of changes) q) (get-after_changes changes m q) ∙ back_at m changes q h)

-- the undoing changes are at slots if the changes are
pub inverse_slots : (changes : List Change) → All (λ change. is_slot change.path ≡ true) changes → All (λ change. is_slot change.path ≡ true) (inverse_of changes)
inverse_slots changes h = All-map (λ change. is_slot change.path ≡ true) taken_back changes h
