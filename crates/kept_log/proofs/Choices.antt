-- One row more of a log.
use Rattle.std.proofs.Common.{◌≡◌, ◌+◌, ℕ, cond, List, ◌∷◌, Option, sym, subst, ap}
use Rattle.kept_texts.specs.declared.runs.Run.{Run}
use Rattle.history.specs.declared.row.Row.{Row}
use Rattle.unit_script.specs.declared.action.Action.{Action}
use Rattle.kept_log.specs.declared.filter.Filter.{Filter}
use Rattle.kept_log.specs.Runs.{run_after}
use Rattle.kept_log.specs.Filters.{meets, met_after}

-- what a row of this run and this number adds to the rows after it
pub one_more : (filter : Filter) (all : List (Row Action)) (runs : List Run) (count : ℕ) (row : Row Action) (rest : List (Row Action)) (run : Option Run) (number : ℕ) → run ≡ run_after runs count → number ≡ count + 1
    → cond (meets filter all run row) (number ∷ met_after filter all runs (count + 1) rest) (met_after filter all runs (count + 1) rest) ≡ met_after filter all runs count (row ∷ rest)
one_more filter all runs count row rest run number is same =
    subst (λ r. cond (meets filter all r row) (number ∷ met_after filter all runs (count + 1) rest) (met_after filter all runs (count + 1) rest) ≡ met_after filter all runs count (row ∷ rest)) (sym is)
    (ap (λ n. cond (meets filter all (run_after runs count) row) (n ∷ met_after filter all runs (count + 1) rest) (met_after filter all runs (count + 1) rest)) same)
