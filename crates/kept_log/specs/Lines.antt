-- The lines of calls in the text of a history.
use Rattle.std.specs.Prelude.{ℕ, ◌-◌, List, drop}
use Rattle.std.specs.List.{filter, slice_split}
use Rattle.kept_texts.specs.Readings.{is_line_end, is_call}

-- those from the line of this number on; lines count from 1
abbrev pub call_lines : List ℕ → ℕ → List (List ℕ)
call_lines text first = filter is_call (drop (first - 1) (slice_split is_line_end text))
