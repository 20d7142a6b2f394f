-- Which history of a root is used, and which one may be replaced by another.
use Rattle.std.specs.Prelude.{◌≡◌, ℕ, Bool, true, false, not, ◌&&◌, nat_lt, if◌then◌else◌, List, length, Option, Some, None, is_some, is_none, Result, Ok, Err}
use Rattle.std.specs.Str.{bytes_eq}
use Rattle.kept_roots.specs.declared.error.HistoryError.TheVariants as histories
use Rattle.kept_runs.specs.declared.kept.Kept.{Kept}
use Rattle.root_access.specs.declared.failure.Failure.{Failure}
use Rattle.root_access.specs.declared.failure.Failure.TheVariants as failures
use Rattle.root_words.specs.declared.asked.Asked.{Asked}
use Rattle.root_histories.specs.declared.finding.Taken.{Taken}
use Rattle.root_histories.specs.declared.finding.Taken.TheVariants as takes

-- At most this number of bytes is read and written: 64 MiB, or 2 GiB if `--history` names the
-- history.
abbrev pub most_bytes : {S : Type 0} → Option S → ℕ
most_bytes None = 67108864
most_bytes (Some directory) = 2147483648

-- whether it is refused for the number of its rows: over 100,000, unless `--history` names it
abbrev pub has_many_rows : {S : Type 0} → Option S → ℕ → Bool
has_many_rows history rows = is_none history && nat_lt 100000 rows

-- A history with this number of rows, and this number of bytes, may be read and written.
abbrev pub checked_length : {S : Type 0} → Option S → (rows bytes : ℕ) → Result (Unit {0}) Failure
checked_length history rows bytes =
    if has_many_rows history rows then Err failures.ManyRows
    else if nat_lt (most_bytes history) bytes then Err (failures.ManyBytes (most_bytes history)) else Ok tt

-- whether a history was begun for another root; one that is in the root belongs to it, wherever the
-- root is now
abbrev pub is_of_other_root : {S : Type 0} → Option S → (begun_for path : List ℕ) → Bool
is_of_other_root history begun_for path = is_some history && not (bytes_eq begun_for path)

-- A history may be used that isn't too long, and that is of this root, unless it is adopted.
pub record MayBeUsed (asked : Asked) (path : List ℕ) (kept : Kept) : Type 0 where
  pub short : checked_length asked.history (length kept.history.rows) (length kept.text.bytes.items) ≡ Ok tt
  pub own : asked.adopt ≡ false → is_of_other_root asked.history kept.text.parts.header.root path ≡ false

-- With `--history`, only a root that has a history there is taken.
abbrev pub IsTakenBy : {S : Type 0} → Option S → Taken → Type 0
IsTakenBy history (takes.Plain disk) = is_some history ≡ false
IsTakenBy history (takes.Kept root) = Unit {0}

-- Whether the history itself is at fault: its text, that of a promised run, or that its file is
-- missing, too large, or no file.
abbrev pub is_of_text : Failure → Bool
is_of_text (failures.Unreadable fault) = true
is_of_text (failures.BadCall line reason) = true
is_of_text failures.OnlyPromised = true
is_of_text failures.OtherPromise = true
is_of_text (failures.OtherRules run rules own) = true
is_of_text (failures.OtherRows row) = true
is_of_text failures.ManyRows = true
is_of_text (failures.ManyBytes most) = true
is_of_text failures.ManyLines = true
is_of_text failures.Full = true
is_of_text (failures.History (histories.NoFile path)) = true
is_of_text (failures.History (histories.TooLarge path most)) = true
is_of_text other = false

-- Only a history that is itself at fault may be replaced. Any other failure is that of the run.
abbrev pub unless_of_text : Failure → Result (Unit {0}) Failure
unless_of_text failure = if is_of_text failure then Ok tt else Err failure
