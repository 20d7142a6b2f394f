-- What the line of a notice says.
use Rattle.std.specs.Prelude.{◌≡◌, ℕ, Bool, false, ◌==◌, List}
use Rattle.std.specs.List.{list_any}
use Rattle.unit_file.specs.declared.notice.Notice.{Notice}
use Rattle.unit_file.specs.Notices.{notice_line}
use Prim.Native.Char.{code}

abbrev pub has_space : List ℕ → Bool
has_space text = list_any (λ byte. byte == code " ") text

-- A notice is of a unit and of a word without spaces. No unit's name has one, and words end at
-- spaces.
pub record IsSpaceless (notice : Notice) : Type 0 where
  pub unit : has_space notice.unit ≡ false
  pub word : has_space notice.word ≡ false

-- Then no other such notice has its line.
abbrev pub NoTwoHaveOneLine : Type 0
NoTwoHaveOneLine = (one other : Notice) → IsSpaceless one → IsSpaceless other → notice_line one ≡ notice_line other → one ≡ other
