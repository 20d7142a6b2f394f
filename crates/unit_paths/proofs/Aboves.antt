-- What a path lies beneath: its directory, and everything above that.
use Rattle.std.proofs.Common.{◌≡◌, refl, ap, ◌++◌, ℕ, Bool, true, false, ◌&&◌, ◌||◌, List, [], ◌∷◌, sym, ◌∙◌, inl, inr}
use Rattle.std.specs.Prelude.{◌==◌}
use Rattle.std.specs.List.{list_any}
use Rattle.std.specs.Str.{bytes_eq}
use Rattle.std.proofs.lemmas.Bool.{cases_Bool, false≢true, and_right, or_parts, eqb-true, eq-eqb, ne_eqb}
use Rattle.unit_paths.specs.Paths.{is_slash, is_path, is_absolute, is_root, parent, name_at}
use Rattle.unit_paths.specs.Shape.{is_beneath}
use Rattle.unit_paths.proofs.Slashes.{last_slash}

-- a path beneath another has a slash
pub beneath-slash : (path above : List ℕ) → list_any is_slash path ≡ false → is_beneath path above ≡ false
unfolding is_beneath
beneath-slash [] above none = refl
beneath-slash (b ∷ bs) [] none = (or_parts (is_slash b) (list_any is_slash bs) none).0
beneath-slash (b ∷ bs) (a ∷ rest) none = and_right (b == a) (is_beneath bs rest) (beneath-slash bs rest (or_parts (is_slash b) (list_any is_slash bs) none).1)

and_or : (x y z : Bool) → (x && (y || z)) ≡ (x && y || x && z)
and_or true y z = refl
and_or false y z = refl

eqb-sym : (a b : ℕ) → (a == b) ≡ (b == a)
eqb-sym a b = elim (cases_Bool (a == b)) [
  | inl same ↦ same ∙ sym (eq-eqb b a (sym (eqb-true a b same)))
  | inr other ↦ other ∙ sym (ne_eqb b a (λ same. false≢true (sym other ∙ eq-eqb a b (sym same))))
]

beneath-seam : (dir name above : List ℕ) → list_any is_slash name ≡ false → is_beneath (dir ++ 47 ∷ name) above ≡ (bytes_eq above dir || is_beneath dir above)
unfolding is_beneath
beneath-seam [] name [] none = refl
beneath-seam [] name (a ∷ rest) none = and_right (47 == a) (is_beneath name rest) (beneath-slash name rest none)
beneath-seam (b ∷ dir) name [] none = refl
beneath-seam (b ∷ dir) name (a ∷ rest) none =
    ap (λ t. b == a && t) (beneath-seam dir name rest none) ∙ and_or (b == a) (bytes_eq rest dir) (is_beneath dir rest) ∙ ap (λ t. t && bytes_eq rest dir || b == a && is_beneath dir rest) (eqb-sym b a)

-- a path lies beneath its directory, and beneath everything above that
pub beneath-parent : (path above : List ℕ) → list_any is_slash path ≡ true → is_beneath path above ≡ (bytes_eq above (parent path) || is_beneath (parent path) above)
beneath-parent path above some =
    let at = last_slash path some in
    ap (λ p. is_beneath p above) at.is ∙ beneath-seam (parent path) (name_at path) above at.none

pub root_is : (text : List ℕ) → is_root text ≡ true → text ≡ []
root_is [] h = refl
root_is (b ∷ bs) h = absurd (false≢true h)

pub not_empty : (q : List ℕ) → is_path q ≡ true → bytes_eq q [] ≡ false
unfolding is_path is_absolute
not_empty [] is = absurd (false≢true is)
not_empty (b ∷ bs) is = refl
