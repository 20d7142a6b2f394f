-- The words of [Install] lists, read as names of units: systemd.unit(5), "[Install] Section
-- Options" and "Specifiers".
use Rattle.std.specs.Prelude.{ℕ, if◌then◌else◌, List, Option, Some, None, Result, Ok, Err}
use Rattle.unit_name.specs.Name.{is_unit_name}
use Rattle.unit_name.specs.Specifiers.{expansion}
use Rattle.unit_file.specs.declared.notice.Notice.{Notice}
use Rattle.unit_file.specs.declared.notice.NoticeKey.{NoticeKey}
use Rattle.unit_file.specs.declared.notice.Reason.{Reason}
use Rattle.unit_file.specs.declared.notice.Reason.TheVariants.{BadSpecifier, BadName}

-- the name, or why the word isn't one
abbrev pub name_or_reason : Option (List ℕ) → Result (List ℕ) Reason
name_or_reason None = Err BadSpecifier
name_or_reason (Some text) = if is_unit_name text then Ok text else Err BadName

-- The unit that a word names: its specifiers stand for parts of the identity of the unit in whose
-- file it is.
abbrev pub named_by : (identity word : List ℕ) → Result (List ℕ) Reason
named_by identity word = name_or_reason (expansion identity word)

-- the notice about a word of a unit that is skipped
abbrev pub skipped : (unit : List ℕ) → NoticeKey → (word : List ℕ) → Reason → Notice
skipped unit key word reason = record { unit = unit; key = key; word = word; reason = reason }
