-- Blanks, and the words between them.
use Rattle.std.specs.Prelude.{◌≡◌, ℕ, ◌<◌, true, false, List, [], ◌∷◌, ◌++◌, length}
use Rattle.std.specs.List.{list_any, list_all}
use Rattle.unit_file.specs.Lines.{is_blank}

-- Blanks, or nothing.
abbrev pub AreBlanks : List ℕ → Type 0
AreBlanks text = list_all is_blank text ≡ true

-- One blank or more.
abbrev pub IsGap : List ℕ → Type 0
IsGap text = AreBlanks text × (0 < length text)

-- One byte or more, none of which is a blank.
abbrev pub IsWord : List ℕ → Type 0
IsWord text = (0 < length text) × (list_any is_blank text ≡ false)

-- What may follow a word: nothing, or a text that begins with a blank.
abbrev pub EndsWord : List ℕ → Type 0
EndsWord [] = Unit {0}
EndsWord (b ∷ rest) = is_blank b ≡ true

-- The words of a text, in their order: none if there are only blanks; otherwise a word behind
-- blanks, and then those of the rest.
pub data AreWordsOf : (text : List ℕ) (words : List (List ℕ)) → Type 0 where
  NoWord : (text : List ℕ) → AreBlanks text → AreWordsOf text []
  OneMore : (text blanks word rest : List ℕ) (words : List (List ℕ)) → text ≡ blanks ++ word ++ rest → AreBlanks blanks → IsWord word → EndsWord rest → AreWordsOf rest words → AreWordsOf text (word ∷ words)

-- A text that neither begins nor ends with a blank.
pub record IsBare (text : List ℕ) : Type 0 where
  pub begins : (b : ℕ) (rest : List ℕ) → text ≡ b ∷ rest → is_blank b ≡ false
  pub ends : (front : List ℕ) (b : ℕ) → text ≡ front ++ b ∷ [] → is_blank b ≡ false

-- A text is this one, with blanks around it or none.
pub record IsStrippedTo (text core : List ℕ) : Type 0 where
  pub before : List ℕ
  pub after : List ℕ
  pub is : text ≡ before ++ core ++ after
  pub blanks_before : AreBlanks before
  pub blanks_after : AreBlanks after
  pub bare : IsBare core
