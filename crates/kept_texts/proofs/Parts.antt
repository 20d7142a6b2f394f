-- A line of parts with a space between them is cut into these parts.
use Rattle.std.proofs.Common.{◌≡◌, ℕ, Bool, true, List, [], ◌∷◌, ◌++◌, codes, ap, ◌∙◌}
use Rattle.std.specs.List.{list_all}
use Rattle.std.proofs.lemmas.Bool.{and_parts}
use Rattle.script_words.specs.Words.{is_word_byte}
use Rattle.script_words.proofs.WordBytes.{split_word, split_last}
use Rattle.kept_texts.specs.Sayings.{parts_of}

-- parts with a space between them
abbrev pub joined : List ℕ → List (List ℕ) → List ℕ
joined part [] = part
joined part (next ∷ parts) = part ++ (codes " " ++ joined next parts)

abbrev pub are_parts : List (List ℕ) → Bool
are_parts parts = list_all (list_all is_word_byte) parts

pub parts_of-joined : (part : List ℕ) (parts : List (List ℕ)) → are_parts (part ∷ parts) ≡ true → parts_of (joined part parts) ≡ part ∷ parts
unfolding parts_of
parts_of-joined part [] are = split_last part (and_parts (list_all is_word_byte part) true are).0
parts_of-joined part (next ∷ parts) are =
    let these = and_parts (list_all is_word_byte part) (are_parts (next ∷ parts)) are in
    split_word part (joined next parts) these.0 ∙ ap (λ ps. part ∷ ps) (parts_of-joined next parts these.1)
