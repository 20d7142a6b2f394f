use Rattle.std.proofs.Common.{◌≡◌, ◌+◌, ◌-◌, ℕ, drop, length}
use Rattle.kept_log.specs.Runs.{run_after}
use Rattle.kept_log.proofs.runs.next_run.Given as goal

-- the row at the place, and those after it
abbrev pub invariant-runs : goal.invariant-runs
invariant-runs l = record {
  here : run_after (drop l.place.run l.runs) l.place.row ≡ run_after (drop l.initial.place.run l.runs) l.initial.place.row;
  after : (k : ℕ) → run_after (drop l.place.run l.runs) (l.place.row + k) ≡ run_after (drop l.initial.place.run l.runs) (l.initial.place.row + k);
}

-- one run less in each turn
abbrev pub decreases-runs : goal.decreases-runs
decreases-runs l = length l.runs - l.place.run
