-- A prefix, byte by byte.
use Rattle.std.proofs.Common.{◌==◌, inl, inr, ◌++◌, ◌≡◌, ◌≢◌, ℕ, ◌+◌, ◌<◌, ◌≤◌, List, [], ◌∷◌, Option, None, Some, refl, sym, ap, ◌∙◌, subst, arith, length, drop, get_or}
use Rattle.std.proofs.lemmas.List.{drop_more, drop_all}
use Rattle.std.proofs.lemmas.Bool.{cases_Bool, eqb-false, eqb-true}
use Rattle.std.proofs.lemmas.Grind.{common_steps}
use Rattle.byte_streams.specs.Blocks.{after_prefix}
use Rattle.byte_streams.specs.Streams.{GivesNext}
use Rattle.byte_streams.proofs.Given.{gave_byte, gave_end}

at_end : (x : ℕ) (xs : List ℕ) → after_prefix (x ∷ xs) [] ≡ None
unfolding after_prefix
at_end x xs = refl

at_same : (x b : ℕ) (xs bs : List ℕ) → b ≡ x → after_prefix (x ∷ xs) (b ∷ bs) ≡ after_prefix xs bs
unfolding after_prefix
at_same x b xs bs e = grind (arith, common_steps)

at_other : (x b : ℕ) (xs bs : List ℕ) → b ≢ x → after_prefix (x ∷ xs) (b ∷ bs) ≡ None
unfolding after_prefix
at_other x b xs bs e = grind (arith, common_steps)

pub after_none : (bytes : List ℕ) → after_prefix [] bytes ≡ Some bytes
unfolding after_prefix
after_none bytes = refl

none_some : (a : List ℕ) → None ≡ Some a → ⊥
none_some a same = cc

some_is : (a b : List ℕ) → Some a ≡ Some b → a ≡ b
some_is a b same = cc

-- bytes that begin with a prefix
pub prefix_is : (prefix bytes rest : List ℕ) → after_prefix prefix bytes ≡ Some rest → bytes ≡ prefix ++ rest
prefix_is [] bytes rest is = some_is bytes rest (sym (after_none bytes) ∙ is)
prefix_is (x ∷ xs) [] rest is = absurd (none_some rest (sym (at_end x xs) ∙ is))
prefix_is (x ∷ xs) (b ∷ bs) rest is = elim (cases_Bool (b == x)) [
  | inl same ↦ ap (λ c. c ∷ bs) (eqb-true b x same) ∙ ap (λ l. x ∷ l) (prefix_is xs bs rest (sym (at_same x b xs bs (eqb-true b x same)) ∙ is))
  | inr other ↦ absurd (none_some rest (sym (at_other x b xs bs (eqb-false b x other)) ∙ is))
]

module _ (first mid new : Option (List ℕ)) (prefix : List ℕ) (i : ℕ) (so_far : (bytes : List ℕ) → first ≡ Some bytes → (rest : List ℕ) × (mid ≡ Some rest) × (after_prefix (drop i prefix) rest ≡ after_prefix prefix bytes)) (bytes : List ℕ) (e : first ≡ Some bytes) where
  pub all_found : length prefix ≤ i → (rest : List ℕ) × (mid ≡ Some rest) × (after_prefix prefix bytes ≡ Some rest)
  all_found past =
      let at = so_far bytes e in
      (at.0, at.1, sym at.2 ∙ ap (λ (p : List ℕ). after_prefix p at.0) (drop_all i prefix past) ∙ after_none at.0)

  module _ (within : i < length prefix) (o : Option ℕ) (gives : GivesNext mid new o) where
    pub ended : o ≡ None → after_prefix prefix bytes ≡ None
    ended none =
        let at = so_far bytes e in
        let here = subst (GivesNext mid new) none gives in
        let end = gave_end mid new here.0 here.1 at.0 at.1 in
        sym at.2 ∙ ap (λ (p : List ℕ). after_prefix p at.0) (drop_more prefix i 0 within) ∙ ap (after_prefix (get_or prefix i 0 ∷ drop (i + 1) prefix)) end.1 ∙ at_end _ _

    pub differs : (b : ℕ) → o ≡ Some b → b ≢ get_or prefix i 0 → after_prefix prefix bytes ≡ None
    differs b some other =
        let at = so_far bytes e in
        let gave = gave_byte mid new b (subst (GivesNext mid new) some gives) at.0 at.1 in
        sym at.2 ∙ ap (λ (p : List ℕ). after_prefix p at.0) (drop_more prefix i 0 within) ∙ ap (after_prefix (get_or prefix i 0 ∷ drop (i + 1) prefix)) gave.2 ∙ at_other _ _ _ _ other

    pub goes_on : (b : ℕ) → o ≡ Some b → b ≡ get_or prefix i 0 → (rest : List ℕ) × (new ≡ Some rest) × (after_prefix (drop (i + 1) prefix) rest ≡ after_prefix prefix bytes)
    goes_on b some same =
        let at = so_far bytes e in
        let gave = gave_byte mid new b (subst (GivesNext mid new) some gives) at.0 at.1 in
        (gave.0, gave.1, sym (at_same _ _ _ _ same) ∙ ap (after_prefix (get_or prefix i 0 ∷ drop (i + 1) prefix)) (sym gave.2) ∙ ap (λ (p : List ℕ). after_prefix p at.0) (sym (drop_more prefix i 0 within)) ∙ at.2)
