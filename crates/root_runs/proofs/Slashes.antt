-- A text without the slashes at its end.
use Rattle.std.proofs.Common.{◌≡◌, ℕ, true, false, List, [], ◌∷◌, ◌++◌, length, refl, ap, sym, ◌∙◌, if◌then◌else◌}
use Rattle.unit_paths.specs.Paths.{is_slash}
use Rattle.root_runs.specs.Roots.{before_end, without_slashes}

-- one slash less at the end
without_last_slash : (text : List ℕ) (last : ℕ) → is_slash last ≡ true → without_slashes (text ++ last ∷ []) ≡ without_slashes text
unfolding without_slashes
without_last_slash [] last slash = ap (λ is. if is then [] else last ∷ []) slash
without_last_slash (b ∷ bs) last slash = ap (before_end b) (without_last_slash bs last slash)

-- a byte before others
before_more : (b : ℕ) (bs : List ℕ) (last : ℕ) → before_end b (bs ++ last ∷ []) ≡ b ∷ (bs ++ last ∷ [])
before_more b [] last = refl
before_more b (c ∷ cs) last = refl

-- another byte at the end
with_other_end : (text : List ℕ) (last : ℕ) → is_slash last ≡ false → without_slashes (text ++ last ∷ []) ≡ text ++ last ∷ []
unfolding without_slashes
with_other_end [] last other = ap (λ is. if is then [] else last ∷ []) other
with_other_end (b ∷ bs) last other = ap (before_end b) (with_other_end bs last other) ∙ before_more b bs last

pub slash_is_cut : (text front : List ℕ) (last : ℕ) → text ≡ front ++ last ∷ [] → is_slash last ≡ true → without_slashes front ≡ without_slashes text
slash_is_cut text front last is slash = sym (ap without_slashes is ∙ without_last_slash front last slash)

pub other_end_stays : (text front : List ℕ) (last : ℕ) → text ≡ front ++ last ∷ [] → is_slash last ≡ false → without_slashes text ≡ text
other_end_stays text front last is other = ap without_slashes is ∙ with_other_end front last other ∙ sym is

pub nothing_stays : (text : List ℕ) → length text ≡ 0 → without_slashes text ≡ text
unfolding without_slashes
nothing_stays [] empty = refl
nothing_stays (b ∷ bs) empty = absurd (cc)
