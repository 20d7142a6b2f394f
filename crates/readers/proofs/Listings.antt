-- Numbers under texts: what is listed under each after one was added, and after one was removed.
use Rattle.std.specs.List.{list_any}
use Rattle.std.proofs.Common.{◌≡◌, ◌<◌, ◌≤◌, ◌+◌, zero, suc, take, get_or, length, arith, ℕ, Bool, true, false, cond, ◌&&◌, ◌||◌, List, [], ◌∷◌, map as list_map, Option, Some, None, refl, sym, ap, subst, ◌∙◌, inl, inr}
use Rattle.std.specs.Prelude.{not, Result, Ok, Err, OnErr}
use Rattle.std.specs.Option.{unwrap_or}
use Rattle.std.specs.Ordering.{nat_cmp, is_eq, match_ordering}
use Rattle.std.specs.Cmp.{tied_itself}
use Rattle.std.specs.Cmp.Lexicographic.{nat_list_cmp_total}
use Rattle.std.specs.BTreeMap.{is_at, insert_entry}
use Rattle.std.specs.Map.{lookup, set_value}
use Rattle.std.specs.declared.cmp.Ordering.{Ordering}
use Rattle.std.specs.declared.cmp.Ordering.TheVariants.{Less, Equal, Greater}
use Rattle.std.proofs.lemmas.Bool.{cases_Bool, false≢true}
use Rattle.std.proofs.lemmas.Map.Lookups.{exact_bytes}
use Rattle.link_tree.specs.Trees.{path_cmp}
use Rattle.readers.specs.Numbers.{Lists, has, numbers_at, lists, IsNext}

-- what holds in any case also holds if a call failed
pub on_err : {X E P : Type 0} (r : Result X E) → P → OnErr r P
on_err (Ok x) p = tt
on_err (Err e) p = p

is_equal : (r : Ordering) → is_eq r ≡ true → r ≡ Equal
is_equal Less h = absurd (false≢true h)
is_equal Equal h = refl
is_equal Greater h = absurd (false≢true h)

pub same_text : (t u : List ℕ) → is_at (path_cmp t) u ≡ true → t ≡ u
same_text t u h = exact_bytes t u (is_equal (path_cmp t u) h)

pub text_itself : (t : List ℕ) → is_at (path_cmp t) t ≡ true
text_itself t = ap is_eq (tied_itself nat_list_cmp_total t)

unwrapped : (b : Bool) (x : List ℕ) (o : Option (List ℕ)) → unwrap_or (cond b (Some x) o) [] ≡ cond b x (unwrap_or o [])
unwrapped true x o = refl
unwrapped false x o = refl

twice : (b : Bool) (x y z : List ℕ) → cond b x z ≡ cond b x (cond b y z)
twice true x y z = refl
twice false x y z = refl

swapped : (a b : Bool) (x y z : List ℕ) → (a ≡ true → b ≡ true → ⊥) → cond a x (cond b y z) ≡ cond b y (cond a x z)
swapped true true x y z apart = absurd (apart refl refl)
swapped true false x y z apart = refl
swapped false true x y z apart = refl
swapped false false x y z apart = refl

module _ {K : Type 0} (text_of : K → List ℕ) where
  abbrev pub view : List (K × List ℕ) → Lists
  view es = list_map (λ e. (text_of e.0, e.1)) es

  abbrev pub by : List ℕ → K → Ordering
  by t k = path_cmp t (text_of k)

  numbers_read : (es : List (K × List ℕ)) (t : List ℕ) → numbers_at (view es) t ≡ unwrap_or (lookup (is_at (by t)) es) []
  numbers_read [] t = refl
  numbers_read (e ∷ es) t = ap (cond (is_at (by t) e.0) e.1) (numbers_read es t) ∙ sym (unwrapped (is_at (by t) e.0) e.1 (lookup (is_at (by t)) es))

  pub numbers_found : (es : List (K × List ℕ)) (t ns : List ℕ) → lookup (is_at (by t)) es ≡ Some ns → numbers_at (view es) t ≡ ns
  numbers_found es t ns h = numbers_read es t ∙ ap (λ o. unwrap_or o []) h

  pub no_numbers : (es : List (K × List ℕ)) (t : List ℕ) → lookup (is_at (by t)) es ≡ None → numbers_at (view es) t ≡ []
  no_numbers es t h = numbers_read es t ∙ ap (λ o. unwrap_or o []) h

  here_step : (u t w x r : List ℕ) (k : K) → is_at (by u) k ≡ true → cond (is_at (by t) k) w r ≡ cond (is_at (path_cmp t) u) w (cond (is_at (by t) k) x r)
  here_step u t w x r k here = twice (is_at (by t) k) w x r ∙ ap (λ v. cond (is_at (path_cmp t) v) w (cond (is_at (by t) k) x r)) (sym (same_text u (text_of k) here))

  away_step : (u t w x r : List ℕ) (k : K) → is_at (by u) k ≡ false → cond (is_at (by t) k) x (cond (is_at (path_cmp t) u) w r) ≡ cond (is_at (path_cmp t) u) w (cond (is_at (by t) k) x r)
  away_step u t w x r k away = swapped (is_at (by t) k) (is_at (path_cmp t) u) x w r (λ one other.
      false≢true (sym away ∙ subst (λ v. is_at (path_cmp v) (text_of k) ≡ true) (same_text t u other) one))

  pub after_set : (es : List (K × List ℕ)) (u t w old : List ℕ) → lookup (is_at (by u)) es ≡ Some old
      → numbers_at (view (set_value (is_at (by u)) es w)) t ≡ cond (is_at (path_cmp t) u) w (numbers_at (view es) t)
  after_set [] u t w old found = cc
  after_set (e ∷ es) u t w old found = elim (cases_Bool (is_at (by u) e.0)) [
    | inl here ↦ ap (λ b. numbers_at (view (cond b ((e.0, w) ∷ es) (e ∷ set_value (is_at (by u)) es w))) t) here ∙ here_step u t w e.1 (numbers_at (view es) t) e.0 here
    | inr away ↦
        ap (λ b. numbers_at (view (cond b ((e.0, w) ∷ es) (e ∷ set_value (is_at (by u)) es w))) t) away
        ∙ ap (cond (is_at (by t) e.0) e.1) (after_set es u t w old (sym (ap (λ b. cond b (Some e.1) (lookup (is_at (by u)) es)) away) ∙ found))
        ∙ away_step u t w e.1 (numbers_at (view es) t) e.0 away
  ]

  abbrev order : K → K → Ordering
  order k l = path_cmp (text_of k) (text_of l)

  pub after_insert : (es : List (K × List ℕ)) (k : K) (t w : List ℕ) → numbers_at (view (insert_entry order es k w)) t ≡ cond (is_at (path_cmp t) (text_of k)) w (numbers_at (view es) t)
  after_insert [] k t w = refl
  after_insert (e ∷ es) k t w =
      let Goal : Ordering → Type 0 = λ r. order k e.0 ≡ r → numbers_at (view (insert_entry order (e ∷ es) k w)) t ≡ cond (is_at (path_cmp t) (text_of k)) w (numbers_at (view (e ∷ es)) t) in
      let step : Ordering → List (K × List ℕ) = λ r. match_ordering r ((k, w) ∷ e ∷ es) ((e.0, w) ∷ es) (e ∷ insert_entry order es k w) in
      (elim (order k e.0) as Goal [
        | Less ↦ λ is. ap (λ r. numbers_at (view (step r)) t) is
        | Equal ↦ λ is. ap (λ r. numbers_at (view (step r)) t) is ∙ here_step (text_of k) t w e.1 (numbers_at (view es) t) e.0 (ap is_eq is)
        | Greater ↦ λ is. ap (λ r. numbers_at (view (step r)) t) is ∙ ap (cond (is_at (by t) e.0) e.1) (after_insert es k t w) ∙ away_step (text_of k) t w e.1 (numbers_at (view es) t) e.0 (ap is_eq is)
      ]) refl

-- one number is added under a text
pub one_more : (l new : Lists) (text w : List ℕ) (n : ℕ) → ((t : List ℕ) → numbers_at new t ≡ cond (is_at (path_cmp t) text) w (numbers_at l t))
    → ((i : ℕ) → has w i ≡ (is_at (nat_cmp n) i || has (numbers_at l text) i))
    → (t : List ℕ) (i : ℕ) → lists new t i ≡ ((is_at (path_cmp t) text && is_at (nat_cmp n) i) || lists l t i)
one_more l new text w n at_texts with t i = ap (λ ns. has ns i) (at_texts t) ∙ (elim (cases_Bool (is_at (path_cmp t) text)) [
  | inl here ↦
      ap (λ b. has (cond b w (numbers_at l t)) i) here ∙ with i ∙ ap (λ u. is_at (nat_cmp n) i || lists l u i) (sym (same_text t text here))
      ∙ ap (λ b. (b && is_at (nat_cmp n) i) || lists l t i) (sym here)
  | inr away ↦ ap (λ b. has (cond b w (numbers_at l t)) i) away ∙ ap (λ b. (b && is_at (nat_cmp n) i) || lists l t i) (sym away)
])

-- one number is removed
pub one_less : (l new : Lists) (text w : List ℕ) (n : ℕ) → ((t : List ℕ) → numbers_at new t ≡ cond (is_at (path_cmp t) text) w (numbers_at l t))
    → ((i : ℕ) → has w i ≡ (not (is_at (nat_cmp n) i) && has (numbers_at l text) i))
    → (t : List ℕ) (i : ℕ) → lists new t i ≡ (not (is_at (path_cmp t) text && is_at (nat_cmp n) i) && lists l t i)
one_less l new text w n at_texts with t i = ap (λ ns. has ns i) (at_texts t) ∙ (elim (cases_Bool (is_at (path_cmp t) text)) [
  | inl here ↦
      ap (λ b. has (cond b w (numbers_at l t)) i) here ∙ with i ∙ ap (λ u. not (is_at (nat_cmp n) i) && lists l u i) (sym (same_text t text here))
      ∙ ap (λ b. not (b && is_at (nat_cmp n) i) && lists l t i) (sym here)
  | inr away ↦ ap (λ b. has (cond b w (numbers_at l t)) i) away ∙ ap (λ b. not (b && is_at (nat_cmp n) i) && lists l t i) (sym away)
])

-- if a text isn't there, removing its number changes nothing
pub none_less : (l : Lists) (text : List ℕ) (n : ℕ) → numbers_at l text ≡ [] → (t : List ℕ) (i : ℕ) → lists l t i ≡ (not (is_at (path_cmp t) text && is_at (nat_cmp n) i) && lists l t i)
none_less l text n none t i = elim (cases_Bool (is_at (path_cmp t) text)) [
  | inl here ↦
      let empty : lists l t i ≡ false = ap (λ u. lists l u i) (same_text t text here) ∙ ap (λ ns. has ns i) none in
      empty ∙ sym (ap (λ b. not (is_at (path_cmp t) text && is_at (nat_cmp n) i) && b) empty ∙ no_more (not (is_at (path_cmp t) text && is_at (nat_cmp n) i)))
  | inr away ↦ ap (λ b. not (b && is_at (nat_cmp n) i) && lists l t i) (sym away)
]
  where
    no_more : (b : Bool) → (b && false) ≡ false
    no_more true = refl
    no_more false = refl

-- ---- a loop over items
or_again : (a b c : Bool) → ((a || b) || c) ≡ (a || (b || c))
or_again true b c = refl
or_again false b c = refl

or_nothing : (b : Bool) → (b || false) ≡ b
or_nothing true = refl
or_nothing false = refl

any_more : {X : Type 0} (test : X → Bool) (xs : List X) (k m : ℕ) (x : X) → m ≡ k + 1 → k < length xs → x ≡ get_or xs k x → (list_any test (take k xs) || test x) ≡ list_any test (take m xs)
any_more test [] k m x is within read = absurd (omega (arith, within))
any_more test (y ∷ ys) k zero x is within read = absurd (omega (arith, is))
any_more test (y ∷ ys) zero (suc m) x is within read =
    let none : m ≡ 0 = omega (arith, is) in
    let same : x ≡ y = read in
    ap test same ∙ sym (or_nothing (test y)) ∙ ap (λ j. test y || list_any test (take j ys)) (sym none)
any_more test (y ∷ ys) (suc k) (suc m) x is within read =
    or_again (test y) (list_any test (take k ys)) (test x) ∙ ap (λ b. test y || b) (any_more test ys k m x (omega (arith, is)) (omega (arith, within)) read)

all_taken : {X : Type 0} (xs : List X) (k : ℕ) → length xs ≤ k → take k xs ≡ xs
all_taken [] zero le = refl
all_taken [] (suc k) le = refl
all_taken (x ∷ xs) zero le = absurd (omega (arith, le))
all_taken (x ∷ xs) (suc k) le = ap (λ ys. x ∷ ys) (all_taken xs k (omega (arith, le)))

-- the least number that passes one of the tests of items, after one more item, and after all items
pub next_more : {X : Type 0} (test : X → ℕ → Bool) (xs : List X) (k n : ℕ) (x : X) (found : Option ℕ) → k < length xs → x ≡ get_or xs k x
    → IsNext (λ i. list_any (λ y. test y i) (take k xs) || test x i) n found → IsNext (λ i. list_any (λ y. test y i) (take (k + 1) xs)) n found
next_more test xs k n x found within read h = subst (λ (t : ℕ → Bool). IsNext t n found) (λ j i. any_more (λ y. test y i) xs k (k + 1) x refl within read j) h

pub next_all : {X : Type 0} (test : X → ℕ → Bool) (xs : List X) (k n : ℕ) (found : Option ℕ) → length xs ≤ k
    → IsNext (λ i. list_any (λ y. test y i) (take k xs)) n found → IsNext (λ i. list_any (λ y. test y i) xs) n found
next_all test xs k n found le h = subst (λ ys. IsNext (λ i. list_any (λ y. test y i) ys) n found) (all_taken xs k le) h
