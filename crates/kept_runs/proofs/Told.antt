-- What a text says of the rows.
use Rattle.std.proofs.Common.{◌≡◌, ℕ, List, [], ◌∷◌, ◌++◌, map as list_map, Result, Ok, Err, refl, sym, ap, ◌∙◌, append_assoc}
use Rattle.std.proofs.lemmas.List.{append-nil}
use Rattle.link_tree.specs.Trees.{Entries}
use Rattle.history.specs.declared.row.Row.{Row}
use Rattle.history.specs.Rows as histories
use Rattle.history.proofs.Replayed.{calls-after}
use Rattle.unit_script.specs.declared.action.Action.{Action}
use Rattle.unit_script.specs.declared.call.Call.{Call}
use Rattle.unit_script.specs.declared.run_fault.InputFault.{InputFault}
use Rattle.unit_script.specs.Actions.{asks, meaning}
use Rattle.unit_script.specs.Machine.{asked, rows_of, replay}
use Rattle.unit_script.specs.Runs.{input_of}
use Rattle.kept_rows.specs.Texts.{tree_of_input, replay_of}
use Rattle.kept_runs.specs.Texts.{with_rows, Says, requested}

-- from the calls of an input
pub says_rows : (text : List ℕ) (first : Entries) (calls : List Call) (rows : List (Row Action)) → input_of text ≡ Ok (first, calls) → rows ≡ rows_of first calls → Says text first rows
says_rows text first calls rows is rows_are = ap with_rows is ∙ ap (λ rows. Ok (first, rows)) (sym rows_are)

calls_are : (rows : List (Row Action)) → histories.calls_of rows ≡ list_map requested rows
calls_are [] = refl
calls_are (row ∷ rows) = ap (λ rest. requested row ∷ rest) (calls_are rows)

-- from calls that are those of the rows
pub says_calls : (text : List ℕ) (first tree : Entries) (calls : List Call) (rows : List (Row Action)) → input_of text ≡ Ok (tree, calls) → tree ≡ first
    → list_map requested rows ≡ list_map asked calls → rows ≡ histories.run asks meaning first [] (histories.calls_of rows) → Says text first rows
says_calls text first tree calls rows is same are legal =
    says_rows text first calls rows (is ∙ ap (λ t. Ok (t, calls)) same) (legal ∙ ap (histories.run asks meaning first []) (calls_are rows ∙ are))

-- a text leads to the tree of its rows
tree_said : (r : Result (Entries × List Call) InputFault) (first : Entries) (rows : List (Row Action)) → with_rows r ≡ Ok (first, rows) → tree_of_input r ≡ replay first rows
tree_said (Ok given) first rows h = let both : ◌≡◌ {A = Entries × List (Row Action)} (given.0, rows_of given.0 given.1) (first, rows) = cc in ap (λ both. replay both.0 both.1) both
tree_said (Err fault) first rows h = cc

pub replay_said : (text : List ℕ) (first : Entries) (rows : List (Row Action)) → Says text first rows → replay_of text ≡ replay first rows
replay_said text first rows h = tree_said (input_of text) first rows h

-- the rows of calls have these calls
calls_of_run : (first : Entries) (calls : List (histories.Call Action)) (rows : List (Row Action)) → histories.calls_of (histories.run asks meaning first rows calls) ≡ histories.calls_of rows ++ calls
calls_of_run first [] rows = sym (append-nil (histories.calls_of rows))
calls_of_run first (call ∷ calls) rows =
    calls_of_run first calls (histories.rows_after asks meaning first rows call)
    ∙ ap (λ before. before ++ calls) (calls-after asks meaning first rows call)
    ∙ append_assoc (histories.calls_of rows) (call ∷ []) calls

-- A text that says these rows is an input with their calls.
pub calls_said : (text : List ℕ) (first tree : Entries) (calls : List Call) (rows : List (Row Action)) → input_of text ≡ Ok (tree, calls) → Says text first rows
    → (tree ≡ first) × (list_map requested rows ≡ list_map asked calls)
calls_said text first tree calls rows is says =
    let same : ◌≡◌ {A = Result (Entries × List (Row Action)) InputFault} (Ok (tree, rows_of tree calls)) (Ok (first, rows)) = sym (ap with_rows is) ∙ says in
    let both : ◌≡◌ {A = Entries × List (Row Action)} (tree, rows_of tree calls) (first, rows) = cc in
    (ap (λ both. both.0) both, sym (calls_are rows) ∙ ap (λ both. histories.calls_of both.1) (sym both) ∙ calls_of_run tree (list_map asked calls) [])

-- A text with a fault says nothing.
pub fault_says_none : (text : List ℕ) (first : Entries) (fault : InputFault) (rows : List (Row Action)) → input_of text ≡ Err fault → Says text first rows → ⊥
fault_says_none text first fault rows is says =
    let wrong : ◌≡◌ {A = Result (Entries × List (Row Action)) InputFault} (Err fault) (Ok (first, rows)) = sym (ap with_rows is) ∙ says in cc
