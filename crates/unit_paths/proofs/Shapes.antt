-- Paths beneath others, and close to others.
use Rattle.std.proofs.Common.{◌≡◌, ℕ, Bool, true, false, ◌&&◌, ◌||◌, List, [], ◌∷◌, ◌++◌, refl, ◌∙◌, ap, inl, inr}
use Rattle.std.specs.Prelude.{◌==◌}
use Rattle.std.proofs.lemmas.Bool.{cases_Bool, false≢true, and_right, and_parts, eqb-true, eq-eqb}
use Rattle.unit_paths.specs.Canonical.{begins_with_slash}
use Rattle.unit_paths.specs.Shape.{is_close, is_beneath}

or_swap : (x y : Bool) → (x || y) ≡ (y || x)
or_swap true true = refl
or_swap true false = refl
or_swap false true = refl
or_swap false false = refl

pub close_sym : (p q : List ℕ) → is_close p q ≡ is_close q p
unfolding is_close
close_sym p q = or_swap (is_beneath p q) (is_beneath q p)

beneath_self : (p : List ℕ) → is_beneath p p ≡ false
unfolding is_beneath
beneath_self [] = refl
beneath_self (b ∷ bs) = and_right (b == b) (is_beneath bs bs) (beneath_self bs)

pub self_close : (p : List ℕ) → is_close p p ≡ false
unfolding is_close
self_close p = rw (beneath_self p) refl

-- what lies beneath a text begins with it and a slash
pub beneath-after : (above rest : List ℕ) → is_beneath (above ++ rest) above ≡ begins_with_slash rest
unfolding is_beneath begins_with_slash
beneath-after [] [] = refl
beneath-after [] (b ∷ bs) = refl
beneath-after (a ∷ bs') rest = ap (λ (t : Bool). t && is_beneath (bs' ++ rest) bs') (eq-eqb a a refl) ∙ beneath-after bs' rest

pub beneath-parts : (path above : List ℕ) → is_beneath path above ≡ true → (rest : List ℕ) × (path ≡ above ++ 47 ∷ rest)
unfolding is_beneath
beneath-parts [] above h = absurd (false≢true h)
beneath-parts (b ∷ bs) [] h = (bs, ap (λ (k : ℕ). k ∷ bs) (eqb-true b 47 h))
beneath-parts (b ∷ bs) (a ∷ bs') h =
    let parts = and_parts (b == a) (is_beneath bs bs') h in
    let at = beneath-parts bs bs' parts.1 in
    (at.0, (λ i. eqb-true b a parts.0 i ∷ at.1 i))

pub not-beneath : (path above : List ℕ) → ((rest : List ℕ) → path ≡ above ++ rest → ⊥) → is_beneath path above ≡ false
not-beneath path above other = elim (cases_Bool (is_beneath path above)) [
  | inl beneath ↦ (let at = beneath-parts path above beneath in absurd (other (47 ∷ at.0) at.1))
  | inr off ↦ off
]
