-- Where a text is cut at the first or the last element that passes a test.
use Rattle.std.proofs.Common.{◌≡◌, refl, ℕ, suc, ◌+◌, ◌-◌, ◌<◌, ◌≤◌, Bool, true, false, not, ◌||◌, List, [], ◌∷◌, ◌++◌, length, get_or, take, drop, sym, ap, ◌∙◌, arith, length-append}
use Rattle.std.specs.List.{list_any, suffix_len, before_first, after_first, before_last, after_last}
use Rattle.std.proofs.lemmas.Bool.{or_from, false_from_ne_true, not_from_true, not_from_false}
use Rattle.std.proofs.lemmas.List.{take_rest, get_or_append_left, get_or-append-add}
use Rattle.std.proofs.Math.Seq.{take-length, take-append_seam, drop-append-add, get_or-append_seam}
use Rattle.std.proofs.lemmas.List.Elements.{All-from_get_or}
use Rattle.std.proofs.lemmas.List.Folds.{list_any_at, list_any_none}
use Rattle.std.proofs.lemmas.List.Sums.{position_or_len_is, suffix_len_is}

module _ {X : Type 0} (p : X → Bool) (d : X) (xs : List X) where
  pub no_cut : ((k : ℕ) → k < length xs → p (get_or xs k d) ≡ false) → list_any p xs ≡ false
  no_cut none = list_any_none p xs (All-from_get_or (λ x. p x ≡ false) xs d none)

  -- an element that passes, with none before it, is the first
  pub first_cut : (i : ℕ) → i < length xs → p (get_or xs i d) ≡ true → ((k : ℕ) → k < i → p (get_or xs k d) ≡ false) → (list_any p xs ≡ true) × (take i xs ≡ before_first p xs) × (take (length xs - (i + 1)) (drop (i + 1) xs) ≡ after_first p xs)
  first_cut i within here before =
      let at = sym (position_or_len_is p xs i d (omega arith) before (λ _. here)) in
      (list_any_at p xs i d within here, ap (λ n. take n xs) at, take_rest xs (i + 1) ∙ ap (λ n. drop (n + 1) xs) at)

  -- one with none after it is the last
  pub last_cut : (i : ℕ) → i < length xs → p (get_or xs i d) ≡ true → ((k : ℕ) → i + 1 ≤ k → k < length xs → p (get_or xs k d) ≡ false) → (list_any p xs ≡ true) × (take i xs ≡ before_last p xs) × (take (length xs - (i + 1)) (drop (i + 1) xs) ≡ after_last p xs)
  last_cut i within here after =
      let place : i + 1 - 1 ≡ i = omega arith in
      let stop : 0 < i + 1 → not (p (get_or xs (i + 1 - 1) d)) ≡ false = λ _. rw place (not_from_true _ here) in
      let len = suffix_len_is (λ x. not (p x)) xs (i + 1) d (omega arith) (λ k from below. not_from_false _ (after k from below)) stop in
      (list_any_at p xs i d within here, ap (λ n. take n xs) (omega (arith, len)), take_rest xs (i + 1) ∙ ap (λ n. drop n xs) (omega (arith, len)))

module _ {X : Type 0} (p : X → Bool) (d : X) where
  none_at : (xs : List X) (i : ℕ) → list_any p xs ≡ false → i < length xs → p (get_or xs i d) ≡ false
  none_at xs i none within = false_from_ne_true (p (get_or xs i d)) (λ here. let any = list_any_at p xs i d within here in cc)

  -- if none passes, the part before the first is the whole list
  pub before_first-none : (xs : List X) → list_any p xs ≡ false → before_first p xs ≡ xs
  before_first-none xs none =
      let all = position_or_len_is p xs (length xs) d (omega arith) (λ k below. none_at xs k none below) (λ below. absurd (omega arith)) in
      ap (λ n. take n xs) all ∙ take-length xs

  -- a list is cut at the first element that passes
  pub first_seam : (before : List X) (x : X) (after : List X) → list_any p before ≡ false → p x ≡ true → (list_any p (before ++ x ∷ after) ≡ true) × (before_first p (before ++ x ∷ after) ≡ before) × (after_first p (before ++ x ∷ after) ≡ after)
  first_seam before x after none here =
      let xs = before ++ x ∷ after in
      let within : length before < length xs = omega (arith, length-append before (x ∷ after)) in
      let at = get_or-append_seam before x after d in
      let cut = first_cut p d xs (length before) within (ap p at ∙ here) (λ k below. ap p (get_or_append_left before (x ∷ after) d k below) ∙ none_at before k none below) in
      (cut.0, sym cut.1 ∙ take-append_seam before (x ∷ after), sym cut.2 ∙ take_rest xs (length before + 1) ∙ drop-append-add before (x ∷ after) 1)

  -- and at the last
  pub last_seam : (before : List X) (x : X) (after : List X) → p x ≡ true → list_any p after ≡ false → (list_any p (before ++ x ∷ after) ≡ true) × (before_last p (before ++ x ∷ after) ≡ before) × (after_last p (before ++ x ∷ after) ≡ after)
  last_seam before x after here none =
      let xs = before ++ x ∷ after in
      let len : length xs ≡ length before + (length after + 1) = length-append before (x ∷ after) ∙ omega arith in
      let at = get_or-append_seam before x after d in
      let beyond : (k : ℕ) → length before + 1 ≤ k → k < length xs → p (get_or xs k d) ≡ false =
      λ k from below.
      let j : ℕ = k - (length before + 1) in
      let there : k ≡ length before + suc j = omega arith in
      ap (λ n. p (get_or xs n d)) there ∙ ap p (get_or-append-add before (x ∷ after) (suc j) d) ∙ none_at after j none (omega arith) in
      let cut = last_cut p d xs (length before) (omega arith) (ap p at ∙ here) beyond in
      (cut.0, sym cut.1 ∙ take-append_seam before (x ∷ after), sym cut.2 ∙ take_rest xs (length before + 1) ∙ drop-append-add before (x ∷ after) 1)

or_second : (a b : Bool) → a ≡ false → (a || b) ≡ true → b ≡ true
or_second true b off any = absurd (cc)
or_second false b off any = any

or_first : (a b : Bool) → b ≡ false → (a || b) ≡ true → a ≡ true
or_first true b off any = refl
or_first false b off any = absurd (cc)

-- a list is cut in one of these ways, or nothing in it passes
pub record FirstCut {X : Type 0} (p : X → Bool) (xs : List X) : Type 0 where
  pub before : List X
  pub at : X
  pub after : List X
  pub is : xs ≡ before ++ at ∷ after
  pub none : list_any p before ≡ false
  pub passes : p at ≡ true

pub record LastCut {X : Type 0} (p : X → Bool) (xs : List X) : Type 0 where
  pub before : List X
  pub at : X
  pub after : List X
  pub is : xs ≡ before ++ at ∷ after
  pub passes : p at ≡ true
  pub none : list_any p after ≡ false

module _ {X : Type 0} (p : X → Bool) where
  pub first_cut_of : (xs : List X) → list_any p xs ≡ true → FirstCut p xs
  first_cut_of [] any = absurd (cc)
  first_cut_of (x ∷ xs) any =
      elim (p x) as (λ b. p x ≡ b → FirstCut p (x ∷ xs)) [
        | true ↦ λ here. record { before = []; at = x; after = xs; is = refl; none = refl; passes = here }
        | false ↦ λ here.
            let rest = first_cut_of xs (or_second (p x) (list_any p xs) here any) in
            record { before = x ∷ rest.before; at = rest.at; after = rest.after; is = ap (λ ys. x ∷ ys) rest.is; none = or_from (p x) (list_any p rest.before) here rest.none; passes = rest.passes }
      ] refl

  pub last_cut_of : (xs : List X) → list_any p xs ≡ true → LastCut p xs
  last_cut_of [] any = absurd (cc)
  last_cut_of (x ∷ xs) any =
      elim (list_any p xs) as (λ b. list_any p xs ≡ b → LastCut p (x ∷ xs)) [
        | true ↦ λ there.
            let rest = last_cut_of xs there in
            record { before = x ∷ rest.before; at = rest.at; after = rest.after; is = ap (λ ys. x ∷ ys) rest.is; passes = rest.passes; none = rest.none }
        | false ↦ λ none. record { before = []; at = x; after = xs; is = refl; passes = or_first (p x) (list_any p xs) none any; none = none }
      ] refl

  -- if none passes, the part after the last is the whole list
  pub after_last-none : (d : X) (xs : List X) → list_any p xs ≡ false → after_last p xs ≡ xs
  after_last-none d xs none =
      let all = suffix_len_is (λ x. not (p x)) xs 0 d (omega arith) (λ k _ below. not_from_false _ (none_at p d xs k none below)) (λ below. absurd (omega arith)) in
      let at : length xs - suffix_len (λ x. not (p x)) xs ≡ 0 = omega (arith, all) in
      ap (λ n. drop n xs) at
