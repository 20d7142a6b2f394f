-- Runs that are appended to the text of a history.
use Rattle.std.proofs.Common.{◌≡◌, ◌+◌, ℕ, List, [], ◌∷◌, ◌++◌, length, Option, Result, Ok, Err, codes, refl, sym, ap, ◌∙◌, append_assoc, arith, length-append}
use Rattle.link_tree.specs.Trees.{Entries, inventory_text}
use Rattle.link_tree.specs.Inventory.{◌>>=◌}
use Rattle.link_tree.proofs.Again.{reads_again}
use Rattle.history.specs.declared.row.Row.{Row}
use Rattle.history.specs.Rows as histories
use Rattle.unit_script.specs.declared.action.Action.{Action}
use Rattle.unit_script.specs.declared.call.Call.{Call}
use Rattle.unit_script.specs.declared.reason.ScriptFault.{ScriptFault}
use Rattle.unit_script.specs.Actions.{asks, meaning}
use Rattle.unit_script.specs.Machine.{asked, rows_of}
use Rattle.script_words.specs.Words.{lines_text}
use Rattle.unit_script.specs.Laws.{calls_of}
use Rattle.unit_script.specs.Script.{call_of_line, in_line, with_call, script_of}
use Rattle.unit_script.specs.Runs.{in_inventory, in_script}
use Rattle.unit_script.proofs.ScriptLines.{script_is_lines}
use Rattle.unit_script.proofs.Histories.{length-rows_after}
use Rattle.kept_rows.specs.Others.{rows_with}
use Rattle.kept_rows.specs.Texts.{history_text}
use Rattle.kept_rows.proofs.LineTexts.{lines_text_append}
use Rattle.kept_rows.specs.Laws.{HistoriesAreInputs, RunsAreAppended}

pub histories_are_inputs : HistoriesAreInputs
histories_are_inputs first lines calls shape few are_lines short are =
    ap (λ r. in_inventory r >>= λ found. in_script (script_of found.1) >>= λ calls. Ok (found.0, calls)) (reads_again first (codes "== calls\n" ++ lines_text lines) shape few)
    ∙ ap (λ r. in_script r >>= λ calls. Ok (first, calls)) (script_is_lines lines are_lines short ∙ are)

abbrev read : List Call → Result (List Call) ScriptFault
read calls = Ok calls

ok_is : {x y : List Call} → read x ≡ read y → x ≡ y
ok_is h = cc

-- the calls of a line and of those after it, with more after these
behind : (r : Result (Option Call) ScriptFault) (rest all : Result (List Call) ScriptFault) (calls added : List Call) → ((cs : List Call) → rest ≡ Ok cs → all ≡ Ok (cs ++ added))
    → (r >>= λ call. rest >>= λ cs. Ok (with_call [] call ++ cs)) ≡ Ok calls → (r >>= λ call. all >>= λ cs. Ok (with_call [] call ++ cs)) ≡ Ok (calls ++ added)
behind (Err e) rest all calls added f h = cc
behind (Ok call) (Err e) all calls added f h = cc
behind (Ok call) (Ok cs) all calls added f h =
    ap (λ r. r >>= λ cs. Ok (with_call [] call ++ cs)) (f cs refl)
    ∙ ap (λ cs. Ok cs) (sym (append_assoc (with_call [] call) cs added))
    ∙ ap (λ cs. Ok (cs ++ added)) (ok_is h)

pub calls-append : (lines more : List (List ℕ)) (number : ℕ) (calls added : List Call) → calls_of number lines ≡ Ok calls → calls_of (number + length lines) more ≡ Ok added
    → calls_of number (lines ++ more) ≡ Ok (calls ++ added)
calls-append [] more number calls added are next =
    let none : [] ≡ calls = ok_is are in
    let same : number ≡ number + length {A = List ℕ} [] = omega arith in
    ap (λ n. calls_of n more) same ∙ next ∙ ap (λ cs. Ok (cs ++ added)) none
calls-append (line ∷ lines) more number calls added are next =
    let same : number + 1 + length lines ≡ number + length (line ∷ lines) = omega arith in
    behind (in_line number (call_of_line line)) (calls_of (number + 1) lines) (calls_of (number + 1) (lines ++ more)) calls added
    (λ cs rest. calls-append lines more (number + 1) cs added rest (ap (λ n. calls_of n more) same ∙ next)) are

text-append : (first : Entries) (lines more : List (List ℕ)) → history_text first (lines ++ more) ≡ history_text first lines ++ lines_text more
text-append first lines more =
    ap (λ text. inventory_text first ++ (codes "== calls\n" ++ text)) (lines_text_append lines more)
    ∙ ap (λ text. inventory_text first ++ text) (sym (append_assoc (codes "== calls\n") (lines_text lines) (lines_text more)))
    ∙ sym (append_assoc (inventory_text first) (codes "== calls\n" ++ lines_text lines) (lines_text more))

run-append : (first : Entries) (calls added : List Call) (rows : List (Row Action)) → rows_with first rows (calls ++ added) ≡ rows_with first (rows_with first rows calls) added
run-append first [] added rows = refl
run-append first (call ∷ calls) added rows = run-append first calls added (histories.rows_after asks meaning first rows (asked call))

length-with : (first : Entries) (calls : List Call) (rows : List (Row Action)) → length (rows_with first rows calls) ≡ length rows + length calls
length-with first [] rows = let same : length rows ≡ length rows + length {A = Call} [] = omega arith in same
length-with first (call ∷ calls) rows =
    let same : length rows + 1 + length calls ≡ length rows + length (call ∷ calls) = omega arith in
    length-with first calls (histories.rows_after asks meaning first rows (asked call)) ∙ ap (λ n. n + length calls) (length-rows_after first rows (asked call)) ∙ same

pub runs_are_appended : RunsAreAppended
runs_are_appended first lines more calls added shape few are_lines short are next =
    let counted : length (rows_of first (calls ++ added)) ≡ length {A = Row Action} [] + length (calls ++ added) = length-with first (calls ++ added) [] in
    let both : length (calls ++ added) ≡ length calls + length added = length-append calls added in
    let sum : length {A = Row Action} [] + length (calls ++ added) ≡ length calls + length added = omega (arith, both) in (
      text-append first lines more,
      histories_are_inputs first (lines ++ more) (calls ++ added) shape few are_lines short (calls-append lines more 1 calls added are next),
      run-append first calls added [],
      counted ∙ sum,
    )
