-- What is found in a list of names after a name is added, or after the list of one name is
-- replaced.
use Rattle.std.proofs.Common.{◌≡◌, ℕ, Bool, true, false, cond, List, [], ◌∷◌, Option, Some, None, refl, sym, ap, ◌∙◌, ◌⊎◌, inl, inr}
use Rattle.std.specs.Prelude.{Vec}
use Rattle.std.specs.Global.{Global}
use Rattle.std.specs.Map.{lookup, set_value}
use Rattle.std.specs.BTreeMap.{BTreeMap, IsClone, is_at, insert_entry}
use Rattle.std.specs.Cmp.{eq_by_cmp_equiv}
use Rattle.std.specs.Cmp.Lexicographic.{nat_list_cmp_total}
use Rattle.std.specs.List.{AllZip}
use Rattle.std.specs.Ordering.{is_eq, match_ordering}
use Rattle.std.specs.Str.{bytes_eq}
use Rattle.std.specs.declared.cmp.Ordering.{Ordering}
use Rattle.std.specs.declared.cmp.Ordering.TheVariants.{Less, Equal, Greater}
use Rattle.std.proofs.lemmas.Bool.{cases_Bool, false≢true}
use Rattle.std.proofs.lemmas.Map.Lookups.{exact_bytes}
use Rattle.std.proofs.lemmas.Slice.Eq.{bytes_eq-Decides}
use Rattle.name_lists.specs.Lists.{text_cmp, by_texts, list_in, or_none}

is_equal : (r : Ordering) → is_eq r ≡ true → r ≡ Equal
is_equal Less h = absurd (false≢true h)
is_equal Equal h = refl
is_equal Greater h = absurd (false≢true h)

same_key : (q k : List ℕ) → is_at (text_cmp q) k ≡ true → q ≡ k
same_key q k h = exact_bytes q k (is_equal (text_cmp q k) h)

same-found : (k : List ℕ) → is_at (text_cmp k) k ≡ true
same-found k = (eq_by_cmp_equiv nat_list_cmp_total).refl k

-- texts are distinguished by their bytes
pub at_bytes : (q p : List ℕ) → is_at (text_cmp q) p ≡ bytes_eq q p
at_bytes q p = elim (cases_Bool (is_at (text_cmp q) p)) [
  | inl here ↦ here ∙ sym ((bytes_eq-Decides q p).1 (same_key q p here))
  | inr away ↦ away ∙ sym (elim (cases_Bool (bytes_eq q p)) [
    | inl same ↦ absurd (false≢true (sym away ∙ ap (is_at (text_cmp q)) (sym ((bytes_eq-Decides q p).0 same)) ∙ same-found q))
    | inr other ↦ other
  ])
]

abbrev found_at : {X : Type 0} → List (List ℕ × X) → List ℕ → Option X
found_at ds t = lookup (is_at (text_cmp t)) ds

pub found-by_texts : {K X : Type 0} (text : K → List ℕ) (t : List ℕ) (ds : List (K × X)) → lookup (is_at (λ k. text_cmp t (text k))) ds ≡ found_at (by_texts text ds) t
found-by_texts text t [] = refl
found-by_texts text t (d ∷ ds) = ap (cond (is_eq (text_cmp t (text d.0))) (Some d.1)) (found-by_texts text t ds)

set-by_texts : {K X : Type 0} (text : K → List ℕ) (t : List ℕ) (x : X) (ds : List (K × X)) → by_texts text (set_value (is_at (λ k. text_cmp t (text k))) ds x) ≡ set_value (is_at (text_cmp t)) (by_texts text ds) x
set-by_texts text t x [] = refl
set-by_texts text t x (d ∷ ds) = elim (is_eq (text_cmp t (text d.0))) as (λ b. by_texts text (cond b ((d.0, x) ∷ ds) (d ∷ set_value (is_at (λ k. text_cmp t (text k))) ds x)) ≡ cond b ((text d.0, x) ∷ by_texts text ds) ((text d.0, d.1) ∷ set_value (is_at (text_cmp t)) (by_texts text ds) x)) [
  | true ↦ refl
  | false ↦ ap (λ es. (text d.0, d.1) ∷ es) (set-by_texts text t x ds)
]

insert-by_texts : {K X : Type 0} (text : K → List ℕ) (k : K) (x : X) (ds : List (K × X)) → by_texts text (insert_entry (λ i j. text_cmp (text i) (text j)) ds k x) ≡ insert_entry text_cmp (by_texts text ds) (text k) x
insert-by_texts text k x [] = refl
insert-by_texts text k x (d ∷ ds) = elim (text_cmp (text k) (text d.0)) as (λ r. by_texts text (match_ordering r ((k, x) ∷ d ∷ ds) ((d.0, x) ∷ ds) (d ∷ insert_entry (λ i j. text_cmp (text i) (text j)) ds k x)) ≡ match_ordering r ((text k, x) ∷ (text d.0, d.1) ∷ by_texts text ds) ((text d.0, x) ∷ by_texts text ds) ((text d.0, d.1) ∷ insert_entry text_cmp (by_texts text ds) (text k) x)) [
  | Less ↦ refl
  | Equal ↦ refl
  | Greater ↦ ap (λ es. (text d.0, d.1) ∷ es) (insert-by_texts text k x ds)
]

swapped : {X : Type 0} (a b : Bool) (x y z : X) → (a ≡ true → b ≡ true → ⊥) → cond a x (cond b y z) ≡ cond b y (cond a x z)
swapped true true x y z h = absurd (h refl refl)
swapped true false x y z h = refl
swapped false b x y z h = refl

twice : {X : Type 0} (b : Bool) (x y z : X) → cond b x z ≡ cond b x (cond b y z)
twice true x y z = refl
twice false x y z = refl

-- a key that is inserted
pub found-insert : {X : Type 0} (k : List ℕ) (x : X) (t : List ℕ) (ds : List (List ℕ × X)) → found_at (insert_entry text_cmp ds k x) t ≡ cond (is_at (text_cmp t) k) (Some x) (found_at ds t)
found-insert k x t [] = refl
found-insert k x t (d ∷ ds) = elim (text_cmp k d.0) as (λ r. text_cmp k d.0 ≡ r → found_at (match_ordering r ((k, x) ∷ d ∷ ds) ((d.0, x) ∷ ds) (d ∷ insert_entry text_cmp ds k x)) t ≡ cond (is_at (text_cmp t) k) (Some x) (found_at (d ∷ ds) t)) [
  | Less ↦ λ is. refl
  | Equal ↦ λ is. twice (is_at (text_cmp t) d.0) (Some x) (Some d.1) (found_at ds t) ∙ ap (λ (j : List ℕ). cond (is_at (text_cmp t) j) (Some x) (found_at (d ∷ ds) t)) (sym (exact_bytes k d.0 is))
  | Greater ↦ λ is. ap (cond (is_at (text_cmp t) d.0) (Some d.1)) (found-insert k x t ds)
      ∙ swapped (is_at (text_cmp t) d.0) (is_at (text_cmp t) k) (Some d.1) (Some x) (found_at ds t) (λ here there.
      let same : k ≡ d.0 = sym (same_key t k there) ∙ same_key t d.0 here in
      absurd (false≢true (sym (ap is_eq is) ∙ ap (λ (j : List ℕ). is_eq (text_cmp k j)) (sym same) ∙ same-found k)))
] refl

eq_sym : (k t : List ℕ) → is_at (text_cmp k) t ≡ is_at (text_cmp t) k
eq_sym k t = (eq_by_cmp_equiv nat_list_cmp_total).symm k t

-- a value that is replaced
pub found-set : {X : Type 0} (k : List ℕ) (x was : X) (t : List ℕ) (ds : List (List ℕ × X)) → found_at ds k ≡ Some was → found_at (set_value (is_at (text_cmp k)) ds x) t ≡ cond (is_at (text_cmp t) k) (Some x) (found_at ds t)
found-set k x was t [] h = cc
found-set k x was t (d ∷ ds) h = elim (is_at (text_cmp k) d.0) as (λ b. is_at (text_cmp k) d.0 ≡ b → found_at (cond b ((d.0, x) ∷ ds) (d ∷ set_value (is_at (text_cmp k)) ds x)) t ≡ cond (is_at (text_cmp t) k) (Some x) (found_at (d ∷ ds) t)) [
  | true ↦ λ is. twice (is_at (text_cmp t) d.0) (Some x) (Some d.1) (found_at ds t) ∙ ap (λ (j : List ℕ). cond (is_at (text_cmp t) j) (Some x) (found_at (d ∷ ds) t)) (sym (same_key k d.0 is))
  | false ↦ λ is. ap (cond (is_at (text_cmp t) d.0) (Some d.1)) (found-set k x was t ds (sym (ap (λ b. cond b (Some d.1) (found_at ds k)) is) ∙ h))
      ∙ swapped (is_at (text_cmp t) d.0) (is_at (text_cmp t) k) (Some d.1) (Some x) (found_at ds t) (λ here there.
      absurd (false≢true (sym is ∙ ap (is_at (text_cmp k)) (sym (same_key t d.0 here)) ∙ eq_sym k t ∙ there)))
] refl

module _ {K X : Type 0} (text : K → List ℕ) (ds es : List (K × X)) where
  -- the same, by the texts of keys
  pub text-found-insert : (k : K) (x : X) → es ≡ insert_entry (λ i j. text_cmp (text i) (text j)) ds k x → (t : List ℕ) → found_at (by_texts text es) t ≡ cond (is_at (text_cmp t) (text k)) (Some x) (found_at (by_texts text ds) t)
  text-found-insert k x is t = ap (λ fs. found_at (by_texts text fs) t) is ∙ ap (λ fs. found_at fs t) (insert-by_texts text k x ds) ∙ found-insert (text k) x t (by_texts text ds)

  pub text-found-set : (k : List ℕ) (x was : X) → es ≡ set_value (is_at (λ i. text_cmp k (text i))) ds x → found_at (by_texts text ds) k ≡ Some was → (t : List ℕ) → found_at (by_texts text es) t ≡ cond (is_at (text_cmp t) k) (Some x) (found_at (by_texts text ds) t)
  text-found-set k x was is at t = ap (λ fs. found_at (by_texts text fs) t) is ∙ ap (λ fs. found_at fs t) (set-by_texts text k x ds) ∙ found-set k x was t (by_texts text ds) at

-- the list of a name after the list of one name was changed
pub list_found : (ds es : List (List ℕ × List (List ℕ))) (k t : List ℕ) (x : List (List ℕ)) → found_at es t ≡ cond (is_at (text_cmp t) k) (Some x) (found_at ds t) → list_in es t ≡ cond (bytes_eq t k) x (list_in ds t)
list_found ds es k t x is =
    ap or_none (is ∙ ap (λ b. cond b (Some x) (found_at ds t)) (at_bytes t k))
    ∙ elim (bytes_eq t k) as (λ b. or_none (cond b (Some x) (found_at ds t)) ≡ cond b x (list_in ds t)) [ true ↦ refl | false ↦ refl ]

-- if the list of a name is written, only its own list was read
pub own_list : (f : List (List ℕ) → List (List ℕ)) (g : List ℕ → List (List ℕ)) (k t : List ℕ) → cond (bytes_eq t k) (f (g k)) (g t) ≡ cond (bytes_eq t k) (f (g t)) (g t)
own_list f g k t = elim (cases_Bool (bytes_eq t k)) [
  | inl here ↦ ap (λ (q : List ℕ). cond (bytes_eq t k) (f (g q)) (g t)) (sym ((bytes_eq-Decides t k).0 here))
  | inr away ↦ ap (λ b. cond b (f (g k)) (g t)) away ∙ sym (ap (λ b. cond b (f (g t)) (g t)) away)
]

-- equal names with equal lists
pub same_lists : {C : Vec ℕ Global → Vec ℕ Global → Type 0} {X : Type 0} {D : X → X → Type 0} → ((x y : Vec ℕ Global) → C x y → y.items ≡ x.items) → ((v w : X) → D v w → w ≡ v) → (ds es : List (Vec ℕ Global × X)) → AllZip (λ p q. C p.0 q.0 × D p.1 q.1) ds es → by_texts (λ k. k.items) es ≡ by_texts (λ k. k.items) ds
same_lists texts lists [] [] h = refl
same_lists texts lists [] (e ∷ es) h = absurd h
same_lists texts lists (d ∷ ds) [] h = absurd h
same_lists texts lists (d ∷ ds) (e ∷ es) h = λ i. (texts d.0 e.0 h.0.0 i, lists d.1 e.1 h.0.1 i) ∷ same_lists texts lists ds es h.1 i

-- a map, or a clone of it
pub same_names : {C : Vec ℕ Global → Vec ℕ Global → Type 0} {X : Type 0} {D : X → X → Type 0} → ((x y : Vec ℕ Global) → C x y → y.items ≡ x.items) → ((v w : X) → D v w → w ≡ v) → (m n : BTreeMap (Vec ℕ Global) X) → (n ≡ m) ⊎ IsClone C D m n → by_texts (λ k. k.items) n.entries ≡ by_texts (λ k. k.items) m.entries
same_names texts lists m n (inl same) = ap (λ m. by_texts (λ k. k.items) m.entries) same
same_names texts lists m n (inr copied) = same_lists texts lists m.entries n.entries copied

abbrev pub Names : Type 0
Names = List (Vec ℕ Global × List (List ℕ))

abbrev by_items : Names → List (List ℕ × List (List ℕ))
by_items ds = by_texts (λ name. name.items) ds

-- the list that was found is the list of the name
pub list_was : (ds : Names) (k : List ℕ) (o : Option (List (List ℕ))) → lookup (is_at (λ name. text_cmp k name.items)) ds ≡ o → or_none o ≡ list_in (by_items ds) k
list_was ds k o is = ap or_none (sym is ∙ found-by_texts (λ name. name.items) k ds)

module _ (ds es : Names) (k : List ℕ) (f : List (List ℕ) → List (List ℕ)) (x : List (List ℕ)) where
  -- a list that existed was changed
  pub list_changed : (was : List (List ℕ)) → lookup (is_at (λ name. text_cmp k name.items)) ds ≡ Some was → es ≡ set_value (is_at (λ name. text_cmp k name.items)) ds x → x ≡ f was → (t : List ℕ) → list_in (by_items es) t ≡ cond (bytes_eq t k) (f (list_in (by_items ds) t)) (list_in (by_items ds) t)
  list_changed was found writes is t =
      list_found (by_items ds) (by_items es) k t x (text-found-set (λ name. name.items) ds es k x was writes (sym (found-by_texts (λ name. name.items) k ds) ∙ found) t)
      ∙ ap (λ l. cond (bytes_eq t k) l (list_in (by_items ds) t)) (is ∙ ap f (list_was ds k (Some was) found))
      ∙ own_list f (list_in (by_items ds)) k t

  -- a name that didn't exist was added
  pub list_come : (name : Vec ℕ Global) → name.items ≡ k → lookup (is_at (λ name. text_cmp k name.items)) ds ≡ None → es ≡ insert_entry (λ i j. text_cmp i.items j.items) ds name x → x ≡ f [] → (t : List ℕ) → list_in (by_items es) t ≡ cond (bytes_eq t k) (f (list_in (by_items ds) t)) (list_in (by_items ds) t)
  list_come name at none adds is t =
      list_found (by_items ds) (by_items es) k t x (text-found-insert (λ name. name.items) ds es name x adds t ∙ ap (λ (j : List ℕ). cond (is_at (text_cmp t) j) (Some x) (found_at (by_items ds) t)) at)
      ∙ ap (λ l. cond (bytes_eq t k) l (list_in (by_items ds) t)) (is ∙ ap f (list_was ds k None none))
      ∙ own_list f (list_in (by_items ds)) k t

-- a list was written again unchanged
pub list_kept : (ds es : Names) (k : List ℕ) (x was : List (List ℕ)) → lookup (is_at (λ name. text_cmp k name.items)) ds ≡ Some was → es ≡ set_value (is_at (λ name. text_cmp k name.items)) ds x → x ≡ was → (t : List ℕ) → list_in (by_items es) t ≡ list_in (by_items ds) t
list_kept ds es k x was found writes is t =
    list_changed ds es k (λ l. l) x was found writes is t
    ∙ elim (bytes_eq t k) as (λ b. cond b (list_in (by_items ds) t) (list_in (by_items ds) t) ≡ list_in (by_items ds) t) [ true ↦ refl | false ↦ refl ]
