use Rattle.std.proofs.Common.{◌≡◌, ◌++◌, ◌+◌, ℕ, drop}
use Rattle.kept_log.specs.Filters.{met_after}
use Rattle.kept_log.specs.Runs.{run_after}
use Rattle.kept_log.proofs.selection.met.Given as goal

-- the numbers so far, and those of the rows that are left; the place is that of the next row
abbrev pub invariant-loop-row : goal.invariant-loop-row
invariant-loop-row l = record {
  met : l.numbers.items ++ met_after l.filter l.rows l.runs l.row-index (drop l.row-index l.rows) ≡ met_after l.filter l.rows l.runs 0 l.rows;
  next : (k : ℕ) → run_after (drop l.place.run l.runs) (l.place.row + k) ≡ run_after l.runs (l.row-index + k);
  number : l.number ≡ l.row-index;
}
