-- A text that isn't empty is a word.
use Rattle.std.proofs.Common.{◌≡◌, ◌≤◌, ℕ, List, [], ◌∷◌, length, refl, arith}
use Rattle.kept_rows.specs.Lines.{word_if_any}

pub one_word : (text : List ℕ) → 1 ≤ length text → word_if_any text ≡ text ∷ []
one_word [] some = absurd (omega (arith, some))
one_word (b ∷ bs) some = refl
