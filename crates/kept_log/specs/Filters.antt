-- Which rows of a history a log shows.
use Rattle.std.specs.Prelude.{ℕ, Bool, true, false, ◌&&◌, ◌-◌, ◌+◌, if◌then◌else◌, List, [], ◌∷◌, length, drop, Option, Some, None}
use Rattle.std.specs.Cmp.Lexicographic.{slice_cmp}
use Rattle.std.specs.Ordering.{nat_cmp, is_le}
use Rattle.std.specs.Str.{bytes_eq}
use Rattle.kept_texts.specs.declared.runs.Run.{Run}
use Rattle.history.specs.declared.row.Row.{Row}
use Rattle.unit_script.specs.declared.action.Action.{Action}
use Rattle.kept_log.specs.declared.filter.Filter.{Filter}
use Rattle.kept_log.specs.Runs.{run_after}
use Rattle.kept_log.specs.Concerns.{concerns}

-- Whether a time is this one or a later one. Times are written so that the order of their texts is
-- their own.
abbrev pub is_since : (since time : List ℕ) → Bool
is_since since time = is_le (slice_cmp nat_cmp since time)

abbrev pub is_of_unit : Option (List ℕ) → List (Row Action) → Row Action → Bool
is_of_unit None rows row = true
is_of_unit (Some unit) rows row = concerns unit rows row

abbrev pub is_of_operator : Option (List ℕ) → Row Action → Bool
is_of_operator None row = true
is_of_operator (Some operator) row = bytes_eq row.operator operator

-- whether a run is of this time or a later one; a row that no run has is of no time
abbrev pub is_run_since : (since : List ℕ) → Option Run → Bool
is_run_since since None = false
is_run_since since (Some run) = is_since since run.words.time

abbrev pub is_of_time : Option (List ℕ) → Option Run → Bool
is_of_time None run = true
is_of_time (Some since) run = is_run_since since run

-- Whether a row of this run meets all that a filter asks for.
abbrev pub meets : Filter → List (Row Action) → Option Run → Row Action → Bool
meets filter all run row = (is_of_operator filter.operator row && is_of_time filter.since run) && is_of_unit filter.unit all row

-- the numbers of those of the rows that meet a filter, if this many rows come before them
abbrev pub met_after : Filter → (all : List (Row Action)) → List Run → (count : ℕ) → List (Row Action) → List ℕ
met_after filter all runs count [] = []
met_after filter all runs count (row ∷ rows) =
    if meets filter all (run_after runs count) row then (count + 1) ∷ met_after filter all runs (count + 1) rows
    else met_after filter all runs (count + 1) rows

-- the last of them, at most this many
abbrev pub last_of : Option ℕ → List ℕ → List ℕ
last_of None numbers = numbers
last_of (Some n) numbers = drop (length numbers - n) numbers

-- The rows that a log shows: the last of those that meet its filter.
abbrev pub rows_of_log : List (Row Action) → List Run → Filter → List ℕ
rows_of_log rows runs filter = last_of filter.lines (met_after filter rows runs 0 rows)
