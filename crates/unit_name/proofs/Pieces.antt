-- A word is expanded piece by piece.
use Rattle.std.proofs.Common.{◌≡◌, ◌≢◌, ℕ, Bool, true, false, cond, List, [], ◌∷◌, ◌++◌, Option, Some, None, refl, sym, ap, subst, ◌∙◌, inl, inr}
use Rattle.std.specs.Prelude.{option_and_then}
use Rattle.std.proofs.lemmas.Bool.{cases_Bool, false≢true, true≢false, eqb-true, false_from_ne_true}
use Rattle.unit_name.specs.Specifiers.{is_percent, specifier, onto, expansion}
use Rattle.unit_name.specs.Words.{Piece, Byte, Specifier, piece_text, StandsFor, StandFor, WordsAreExpanded}

abbrev Pieces : (name word text : List ℕ) → Type 0
Pieces name word text = (pieces : List Piece) × StandFor name pieces word text

other : (b : ℕ) → is_percent b ≡ false → b ≢ 37
other b away same = true≢false (ap is_percent (sym same) ∙ away)

same_text : (one text : List ℕ) → ◌≡◌ {A = Option (List ℕ)} (Some one) (Some text) → text ≡ one
same_text one text h = cc

-- a piece and what follows it
then : (name word rest text first : List ℕ) (piece : Piece) → word ≡ piece_text piece ++ rest → StandsFor name piece first
    → (o : Option (List ℕ)) → ((more : List ℕ) → o ≡ Some more → Pieces name rest more) → onto first o ≡ Some text → Pieces name word text
then name word rest text first piece is stands None next h = cc
then name word rest text first piece is stands (Some more) next h =
    let found = next more refl in (piece ∷ found.0, (rest, first, more, is, stands, same_text (first ++ more) text h, found.1))

by_specifier : (name rest text : List ℕ) (letter : ℕ) (o : Option (List ℕ)) → specifier name letter ≡ o → ((more : List ℕ) → expansion name rest ≡ Some more → Pieces name rest more)
    → option_and_then (λ first. onto first (expansion name rest)) o ≡ Some text → Pieces name (37 ∷ letter ∷ rest) text
by_specifier name rest text letter None is next h = cc
by_specifier name rest text letter (Some first) is next h = then name (37 ∷ letter ∷ rest) rest text first (Specifier letter) refl is (expansion name rest) next h

expanded : (name word text : List ℕ) → expansion name word ≡ Some text → Pieces name word text
unfolding expansion
expanded name [] text h = ([], (refl, same_text [] text h))
expanded name (b ∷ []) text h = elim (cases_Bool (is_percent b)) [
  | inl here ↦ (let none : None ≡ Some text = sym (ap (λ p. cond p None (Some (b ∷ []))) here) ∙ h in cc)
  | inr away ↦ (let is = sym (ap (λ p. cond p None (Some (b ∷ []))) away) ∙ h in
      (Byte b ∷ [], ([], b ∷ [], [], refl, (other b away, refl), same_text (b ∷ []) text is, (refl, refl))))
]
expanded name (b ∷ letter ∷ rest) text h = elim (cases_Bool (is_percent b)) [
  | inl here ↦ (let is = sym (ap (λ p. cond p (option_and_then (λ first. onto first (expansion name rest)) (specifier name letter)) (onto (b ∷ []) (expansion name (letter ∷ rest)))) here) ∙ h in
      subst (λ c. Pieces name (c ∷ letter ∷ rest) text) (sym (eqb-true b 37 here))
      (by_specifier name rest text letter (specifier name letter) refl (λ more found. expanded name rest more found) is))
  | inr away ↦ (let is = sym (ap (λ p. cond p (option_and_then (λ first. onto first (expansion name rest)) (specifier name letter)) (onto (b ∷ []) (expansion name (letter ∷ rest)))) away) ∙ h in
      then name (b ∷ letter ∷ rest) (letter ∷ rest) text (b ∷ []) (Byte b) refl (other b away, refl) (expansion name (letter ∷ rest)) (λ more found. expanded name (letter ∷ rest) more found) is)
]

expansion-byte : (name : List ℕ) (b : ℕ) → is_percent b ≡ false → (rest : List ℕ) → expansion name (b ∷ rest) ≡ onto (b ∷ []) (expansion name rest)
unfolding expansion
expansion-byte name b away [] = ap (λ p. cond p None (Some (b ∷ []))) away
expansion-byte name b away (letter ∷ rest) = ap (λ p. cond p (option_and_then (λ first. onto first (expansion name rest)) (specifier name letter)) (onto (b ∷ []) (expansion name (letter ∷ rest)))) away

unexpanded : (name : List ℕ) (pieces : List Piece) (word text : List ℕ) → StandFor name pieces word text → expansion name word ≡ Some text
unfolding expansion
unexpanded name [] word text (none, nothing) = ap (expansion name) none ∙ ap Some (sym nothing)
unexpanded name (Byte b ∷ pieces) word text (rest, first, more, is, stands, text_is, next) =
    let away = false_from_ne_true (is_percent b) (λ h. stands.0 (eqb-true b 37 h)) in
    ap (expansion name) is ∙ expansion-byte name b away rest ∙ ap (onto (b ∷ [])) (unexpanded name pieces rest more next) ∙ ap Some (ap (λ f. f ++ more) (sym stands.1) ∙ sym text_is)
unexpanded name (Specifier letter ∷ pieces) word text (rest, first, more, is, stands, text_is, next) =
    ap (expansion name) is ∙ ap (option_and_then (λ text. onto text (expansion name rest))) stands ∙ ap (onto first) (unexpanded name pieces rest more next) ∙ ap Some (sym text_is)

pub words_are_expanded : WordsAreExpanded
words_are_expanded name word text = (expanded name word text, λ found. unexpanded name found.0 word text found.1)
