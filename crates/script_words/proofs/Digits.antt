-- Digits, one after another.
use Rattle.std.proofs.Common.{◌≡◌, ℕ, ◌+◌, ◌<◌, ◌≤◌, Bool, true, false, cond, List, [], ◌∷◌, Option, None, Some, refl, sym, ap, ◌∙◌, length, drop, get_or}
use Rattle.std.proofs.lemmas.List.{drop_more, drop_all}
use Rattle.script_words.specs.Numbers.{number_from}

cut_none : (t : Bool) (m : ℕ) (f : ℕ → Option ℕ) → cond t (Some m) None ≡ None → cond t (f m) None ≡ None
cut_none true m f h = cc
cut_none false m f h = refl

cut_some : (t : Bool) (m k : ℕ) (f : ℕ → Option ℕ) → cond t (Some m) None ≡ Some k → cond t (f m) None ≡ f k
cut_some true m k f h = cc
cut_some false m k f h = cc

pub number_from-none : (n b : ℕ) (bs : List ℕ) → number_from n (b ∷ []) ≡ None → number_from n (b ∷ bs) ≡ None
unfolding number_from
number_from-none n b bs h = cut_none _ _ (λ m. number_from m bs) h

pub number_from-some : (n b m : ℕ) (bs : List ℕ) → number_from n (b ∷ []) ≡ Some m → number_from n (b ∷ bs) ≡ number_from m bs
unfolding number_from
number_from-some n b m bs h = cut_some _ _ _ (λ k. number_from k bs) h

pub number_from-end : (n : ℕ) → number_from n [] ≡ Some n
unfolding number_from
number_from-end n = refl

module _ (word : List ℕ) (i n : ℕ) (so_far : number_from n (drop i word) ≡ number_from 0 word) where
  pub number_ends : length word ≤ i → Some n ≡ number_from 0 word
  number_ends past = sym (number_from-end n) ∙ ap (number_from n) (sym (drop_all i word past)) ∙ so_far

  module _ (within : i < length word) (r : Option ℕ) (step : r ≡ number_from n (get_or word i 0 ∷ [])) where
    pub number_stops : r ≡ None → None ≡ number_from 0 word
    number_stops none = sym (number_from-none n (get_or word i 0) (drop (i + 1) word) (sym step ∙ none)) ∙ ap (number_from n) (sym (drop_more word i 0 within)) ∙ so_far

    pub number_goes : (m : ℕ) → r ≡ Some m → number_from m (drop (i + 1) word) ≡ number_from 0 word
    number_goes m some = sym (number_from-some n (get_or word i 0) m (drop (i + 1) word) (sym step ∙ some)) ∙ ap (number_from n) (sym (drop_more word i 0 within)) ∙ so_far
