-- A text that isn't read has no rows that show the same as those of a history.
use Rattle.std.proofs.Common.{◌≡◌, ◌≤◌, ℕ, List, length, Err, sym, ap, ◌∙◌, arith}
use Rattle.std.proofs.lemmas.List.{length-map}
use Rattle.link_tree.specs.Trees.{Entries}
use Rattle.history.specs.declared.row.Row.{Row}
use Rattle.unit_script.specs.declared.action.Action.{Action}
use Rattle.unit_script.specs.Machine.{asked}
use Rattle.unit_script.specs.declared.run_fault.InputFault.{InputFault}
use Rattle.unit_script.specs.Runs.{input_of}
use Rattle.kept_runs.specs.declared.errors.KeptError.TheVariants as keeps
use Rattle.kept_runs.specs.Moves.{ShowsAlike}
use Rattle.kept_runs.specs.Readings.{IsInputFault}
use Rattle.kept_runs.specs.Texts.{shown, requested}
use Rattle.kept_runs.proofs.Told.{calls_said, fault_says_none}

-- no history has over 1,000,000 rows
pub too_many_rows : (text : List ℕ) (first : Entries) (rows : List (Row Action)) → length rows ≤ 1000000 → IsInputFault keeps.Full text → ShowsAlike text first rows → ⊥
too_many_rows text first rows few is alike =
    let said = calls_said text first is.0 is.1 alike.0 is.2 alike.1 in
    let calls : length alike.0 ≡ length is.1 = sym (length-map alike.0 requested) ∙ ap length said.1 ∙ length-map is.1 asked in
    let same : length rows ≡ length alike.0 = sym (length-map rows shown) ∙ ap length alike.2 ∙ length-map alike.0 shown in
    let many = is.3 in
    absurd (omega (arith, calls, same, many, few))

pub no_such_rows : (text : List ℕ) (first : Entries) (rows : List (Row Action)) (fault : InputFault) → input_of text ≡ Err fault → ShowsAlike text first rows → ⊥
no_such_rows text first rows fault is alike = fault_says_none text first fault alike.0 is alike.1
