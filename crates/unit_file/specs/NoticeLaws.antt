-- Laws of notices, each the contract of a public function.
use Rattle.std.specs.Prelude.{◌≡◌, ◌≢◌, List, ℕ}
use Rattle.std.specs.Option.{option_or}
use Rattle.std.specs.FinMap as map
use Rattle.unit_file.specs.declared.notice.Notice.{Notice}
use Rattle.unit_file.specs.Notices.{NoticeMap, notice_line, with_notice, joined}

-- Adding notices with two different lines gives the same result in either order,
abbrev pub AddInAnyOrder : Type 0
AddInAnyOrder = (notices : NoticeMap) (one other : Notice) → notice_line one ≢ notice_line other → with_notice (with_notice notices one) other ≡ with_notice (with_notice notices other) one

-- and adding one notice twice gives the same as adding it once.
abbrev pub AddOnce : Type 0
AddOnce = (notices : NoticeMap) (notice : Notice) → with_notice (with_notice notices notice) notice ≡ with_notice notices notice

-- For each line, joined notices have the notice of the second, or else that of the first.
abbrev pub JoinByLine : Type 0
JoinByLine = (notices others : NoticeMap) (line : List ℕ) → map.get (joined notices others) line ≡ option_or (map.get others line) (map.get notices line)

-- If three are joined, the result doesn't depend on which two are joined first.
abbrev pub JoinInSteps : Type 0
JoinInSteps = (one two three : NoticeMap) → joined (joined one two) three ≡ joined one (joined two three)

-- Joining no notices adds nothing.
abbrev pub JoinNone : Type 0
JoinNone = (notices : NoticeMap) → (joined notices map.empty ≡ notices) × (joined map.empty notices ≡ notices)
