-- Which run has which row. Rows count from 1 over all runs, and each run has as many rows as it has
-- calls.
use Rattle.std.specs.Prelude.{◌≡◌, ◌<◌, ◌≤◌, ◌+◌, ◌-◌, ℕ, zero, suc, nat_lt, if◌then◌else◌, List, [], ◌∷◌, ◌++◌, Option, Some, None}
use Rattle.kept_texts.specs.declared.runs.Run.{Run}

-- how many rows these runs have
abbrev pub count_rows : List Run → ℕ
count_rows [] = 0
count_rows (run ∷ runs) = run.calls + count_rows runs

-- A run has row n: the runs before it have fewer rows than n, and with its own there are at least n.
abbrev pub HasRow : List Run → ℕ → Run → Type 0
HasRow runs n run = (before after : List Run) × (runs ≡ before ++ run ∷ after) × (count_rows before < n) × (n ≤ count_rows before + run.calls)

-- the run of the row that comes after this many rows
abbrev pub run_after : List Run → ℕ → Option Run
run_after [] count = None
run_after (run ∷ runs) count = if nat_lt count run.calls then Some run else run_after runs (count - run.calls)

-- the run that has row n
abbrev pub run_of_row : List Run → ℕ → Option Run
run_of_row runs zero = None
run_of_row runs (suc k) = run_after runs k
