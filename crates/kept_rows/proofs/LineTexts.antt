-- Lines, one after another.
use Rattle.std.proofs.Common.{◌≡◌, ℕ, List, [], ◌∷◌, ◌++◌, codes, refl, sym, ap, ◌∙◌, append_assoc}
use Rattle.script_words.specs.Words.{lines_text}

pub lines_text_append : (lines more : List (List ℕ)) → lines_text (lines ++ more) ≡ lines_text lines ++ lines_text more
lines_text_append [] more = refl
lines_text_append (line ∷ lines) more =
    ap (λ text. (line ++ codes "\n") ++ text) (lines_text_append lines more) ∙ sym (append_assoc (line ++ codes "\n") (lines_text lines) (lines_text more))
