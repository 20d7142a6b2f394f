-- What the lines of a unit file ask for, as relations: systemd.syntax(7), "Introduction", and
-- systemd.unit(5), "[Install] Section Options".
use Rattle.std.specs.Prelude.{◌≡◌, ◌≢◌, ◌↔◌, ℕ, ◌<◌, true, false, List, [], ◌∷◌, ◌++◌, length, All, Option, Some, None, Ok, codes}
use Rattle.std.specs.List.{list_any}
use Rattle.unit_file.specs.declared.install.InstallText.{InstallText}
use Rattle.unit_file.specs.Install.{is_equals_sign}
use Rattle.unit_file.specs.Reading.{text_of, has_long_line, Reads}
use Rattle.line_laws.specs.Blanks.{AreWordsOf, IsStrippedTo}
use Rattle.line_laws.specs.FileLines.{AreJoinedLinesOf, AreLogicalLinesOf}

-- [NAME] opens a section, whatever its bytes.
pub record OpensSection (line : List ℕ) : Type 0 where
  pub name : List ℕ
  pub is : line ≡ codes "[" ++ name ++ codes "]"

-- The line after these ones is in [Install]: one of them is [Install], and none after that opens a
-- section.
pub record AreInInstall (lines : List (List ℕ)) : Type 0 where
  pub before : List (List ℕ)
  pub after : List (List ℕ)
  pub is : lines ≡ before ++ codes "[Install]" ∷ after
  pub none_opens : All (λ line. ¬ OpensSection line) after

-- KEY=VALUE, at the first =: "Whitespace immediately before or after the = is ignored."
pub record Assigns (line key value : List ℕ) : Type 0 where
  pub left : List ℕ
  pub right : List ℕ
  pub is : line ≡ left ++ codes "=" ++ right
  pub first : list_any is_equals_sign left ≡ false
  pub key_is : IsStrippedTo left key
  pub value_is : IsStrippedTo right value

-- After these lines, a line gives a key of [Install] a value.
pub record Gives (before : List (List ℕ)) (line key value : List ℕ) : Type 0 where
  pub inside : AreInInstall before
  pub no_section : ¬ OpensSection line
  pub assigns : Assigns line key value

-- The words that a key has after these lines.
pub data HasWords (key : List ℕ) : (lines : List (List ℕ)) (words : List (List ℕ)) → Type 0 where
  NoLines : HasWords key [] []
  -- "This option may be used more than once": a value adds its words to those before.
  Adds : (lines before : List (List ℕ)) (line value : List ℕ) (words more all : List (List ℕ)) → lines ≡ before ++ line ∷ [] → Gives before line key value → value ≢ [] → HasWords key before words → AreWordsOf value more → all ≡ words ++ more → HasWords key lines all
  -- An empty value leaves the key without words,
  Clears : (lines before : List (List ℕ)) (line : List ℕ) → lines ≡ before ++ line ∷ [] → Gives before line key [] → key ≢ codes "Also" → HasWords key lines []
  -- but those of Also= stay.
  Keeps : (lines before : List (List ℕ)) (line : List ℕ) (words : List (List ℕ)) → lines ≡ before ++ line ∷ [] → Gives before line key [] → key ≡ codes "Also" → HasWords key before words → HasWords key lines words
  -- A line that gives the key no value says nothing to it: one of another key or outside [Install],
  -- one that opens a section, or one that is no KEY=VALUE.
  SaysNothing : (lines before : List (List ℕ)) (line : List ℕ) (words : List (List ℕ)) → lines ≡ before ++ line ∷ [] → ((value : List ℕ) → ¬ Gives before line key value) → HasWords key before words → HasWords key lines words

-- The value that a key has after these lines: the last one that they give it, unless that is empty.
pub data HasValue (key : List ℕ) : (lines : List (List ℕ)) (last : Option (List ℕ)) → Type 0 where
  NoneYet : HasValue key [] None
  Gets : (lines before : List (List ℕ)) (line value : List ℕ) → lines ≡ before ++ line ∷ [] → Gives before line key value → value ≢ [] → HasValue key lines (Some value)
  Loses : (lines before : List (List ℕ)) (line : List ℕ) → lines ≡ before ++ line ∷ [] → Gives before line key [] → HasValue key lines None
  Stays : (lines before : List (List ℕ)) (line : List ℕ) (last : Option (List ℕ)) → lines ≡ before ++ line ∷ [] → ((value : List ℕ) → ¬ Gives before line key value) → HasValue key before last → HasValue key lines last

-- What the bytes of a unit file ask for.
pub record AsksFor (bytes : List ℕ) (text : InstallText) : Type 0 where
  pub lines : List (List ℕ)
  pub are_lines : AreLogicalLinesOf bytes lines
  pub wanted_by : HasWords (codes "WantedBy") lines text.wanted_by
  pub required_by : HasWords (codes "RequiredBy") lines text.required_by
  pub upheld_by : HasWords (codes "UpheldBy") lines text.upheld_by
  pub alias : HasWords (codes "Alias") lines text.alias
  pub also : HasWords (codes "Also") lines text.also
  pub default_instance : HasValue (codes "DefaultInstance") lines text.default_instance

-- A line as it is joined, and not yet stripped, is longer than the limit: "currently 1 MB".
pub record HasLongLine (bytes : List ℕ) : Type 0 where
  pub before : List (List ℕ)
  pub line : List ℕ
  pub after : List (List ℕ)
  pub are_joined : AreJoinedLinesOf bytes (before ++ line ∷ after)
  pub long : 1048576 < length line

-- What is read from a unit file is what it asks for, and nothing else; and `install_of` returns
-- that exactly if no line is too long.
pub record InstallLinesAreRead : Type 0 where
  pub text : (bytes : List ℕ) (text : InstallText) → (text_of bytes ≡ text) ↔ AsksFor bytes text
  pub long_line : (bytes : List ℕ) → (has_long_line bytes ≡ true) ↔ HasLongLine bytes
  pub returned : (bytes : List ℕ) (text : InstallText) → Reads bytes (Ok text) ↔ (AsksFor bytes text × (¬ HasLongLine bytes))
