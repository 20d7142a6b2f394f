-- A word is expanded piece by piece.
use Rattle.std.proofs.Common.{◌≡◌, ℕ, List, [], Some, ap, ◌∙◌, append-nil}
use Rattle.unit_name.specs.Specifiers.{onto, expansion}

-- after the last piece, the expansion is the values of the pieces
pub onto-end : (text name rest : List ℕ) → rest ≡ [] → onto text (expansion name rest) ≡ Some text
unfolding expansion
onto-end text name rest none = ap (λ bs. onto text (expansion name bs)) none ∙ ap (λ (bs : List ℕ). Some bs) (append-nil text)
