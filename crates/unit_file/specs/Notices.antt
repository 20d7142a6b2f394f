-- What is reported about a word that was skipped, and the notices of an operation.
use Rattle.std.specs.Prelude.{◌≡◌, ℕ, List, ◌++◌, All, codes}
use Rattle.std.specs.List.{concat}
use Rattle.std.specs.Ordering.{nat_cmp}
use Rattle.std.specs.Cmp.Lexicographic.{slice_cmp}
use Rattle.std.specs.declared.cmp.Ordering.{Ordering}
use Rattle.std.specs.FinMap as map
use Rattle.unit_file.specs.declared.notice.Notice.{Notice}
use Rattle.unit_file.specs.declared.notice.NoticeKey.{NoticeKey}
use Rattle.unit_file.specs.declared.notice.NoticeKey.TheVariants as keys
use Rattle.unit_file.specs.declared.notice.Reason.{Reason}
use Rattle.unit_file.specs.declared.notice.Reason.TheVariants as reasons

abbrev pub key_text : NoticeKey → List ℕ
key_text keys.Also = codes "Also"
key_text keys.WantedBy = codes "WantedBy"
key_text keys.RequiredBy = codes "RequiredBy"
key_text keys.UpheldBy = codes "UpheldBy"
key_text keys.Alias = codes "Alias"
key_text keys.Preset = codes "Preset"

abbrev pub reason_text : Reason → List ℕ
reason_text reasons.BadSpecifier = codes "bad specifier"
reason_text reasons.BadName = codes "bad name"
reason_text reasons.BadAlias = codes "bad alias"
reason_text reasons.NotFound = codes "not found"
reason_text reasons.Masked = codes "masked"
reason_text reasons.Dangling = codes "dangling"
reason_text reasons.IsAlias = codes "is an alias"

-- the line of a notice
abbrev pub notice_line : Notice → List ℕ
notice_line notice = codes "  ! " ++ notice.unit ++ codes ": " ++ key_text notice.key ++ codes " " ++ notice.word ++ codes ": " ++ reason_text notice.reason ++ codes "\n"

-- Notices keyed by their lines, in byte order of the lines.
abbrev pub line_cmp : List ℕ → List ℕ → Ordering
line_cmp = slice_cmp nat_cmp

abbrev pub NoticeMap : Type 0
NoticeMap = map.FinMap line_cmp Notice

-- Each notice has its own line as its key.
abbrev pub AreAtTheirLines : NoticeMap → Type 0
AreAtTheirLines notices = All (λ e. e.0 ≡ notice_line e.1) (map.entries notices)

-- notices with one more, which replaces one that has the same line
abbrev pub with_notice : NoticeMap → Notice → NoticeMap
with_notice notices notice = map.insert notices (notice_line notice) notice

-- The notices of both; for a line that both have, the others' notice.
unfoldable pub joined : NoticeMap → NoticeMap → NoticeMap
joined notices others = map.from_entries (map.entries others ++ map.entries notices)

-- the lines, one after another
abbrev pub notice_lines : NoticeMap → List ℕ
notice_lines notices = concat (map.keys notices)
