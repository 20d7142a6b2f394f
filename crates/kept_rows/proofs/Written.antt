-- What others did, written into the text of a history.
use Rattle.std.proofs.Common.{◌≡◌, ◌≤◌, ◌+◌, ◌&&◌, ℕ, true, List, ◌++◌, length, length-append, Ok, All, sym, ap, ◌∙◌, subst, arith}
use Rattle.std.specs.List.{list_all}
use Rattle.std.specs.FinMap as map
use Rattle.std.proofs.lemmas.List.Folds.{list_all-append}
use Rattle.link_tree.specs.Shape.{IsTree}
use Rattle.link_tree.specs.declared.change.Change.{Change}
use Rattle.link_tree.specs.Trees.{Entries}
use Rattle.tree_steps.specs.Steps.{slot_changes_between}
use Rattle.unit_script.specs.declared.call.Call.{Call}
use Rattle.unit_script.specs.Laws.{is_line, calls_of}
use Rattle.unit_script.specs.Machine.{rows_of, replay}
use Rattle.kept_rows.specs.Others.{calls_of_others, with_slots_of}
use Rattle.kept_rows.specs.Lines.{lines_of_others, CanBeWritten}
use Rattle.kept_rows.specs.Texts.{history_text, tree_of_input, replay_of}
use Rattle.kept_rows.specs.Laws.{OthersAreWritten}
use Rattle.kept_rows.proofs.Leading.{others_lead}
use Rattle.kept_rows.proofs.Appended.{histories_are_inputs, runs_are_appended}
use Rattle.kept_rows.proofs.OtherLines.{lines_of_others_are_read}

module _ (first : Entries) (lines : List (List ℕ)) (calls : List Call) (captured : Entries) (shape : IsTree first) (few : map.len first ≤ 65536)
    (all_lines : list_all is_line lines ≡ true) (are : calls_of 1 lines ≡ Ok calls) where
  abbrev more_of : Entries → List (List ℕ)
  more_of left = lines_of_others (slot_changes_between left captured)

  abbrev Leaves : Entries → Type 0
  Leaves left = All CanBeWritten (slot_changes_between left captured) → length (lines ++ more_of left) ≤ 2000000
      → replay_of (history_text first (lines ++ more_of left)) ≡ with_slots_of left captured

  leaves : Leaves (replay first (rows_of first calls))
  leaves written short =
      let left : Entries = replay first (rows_of first calls) in
      let changes : List Change = slot_changes_between left captured in
      let read = lines_of_others_are_read changes (1 + length lines) written in
      let both : list_all is_line (lines ++ more_of left) ≡ true =
      list_all-append is_line lines (more_of left) ∙ ap (λ b. b && list_all is_line (more_of left)) all_lines ∙ read.0 in
      let appended = runs_are_appended first lines (more_of left) calls (calls_of_others changes) shape few both short are read.1 in
      let led = others_lead first (rows_of first calls) captured in
      ap tree_of_input appended.1 ∙ ap (replay first) (appended.2 ∙ led.1) ∙ led.3

  is_read : length lines ≤ 2000000 → replay_of (history_text first lines) ≡ replay first (rows_of first calls)
  is_read short = ap tree_of_input (histories_are_inputs first lines calls shape few all_lines short are)

  as_written : length lines ≤ 2000000 → Leaves (replay_of (history_text first lines))
  as_written short = subst Leaves (sym (is_read short)) leaves

pub others_are_written : OthersAreWritten
others_are_written first lines calls captured shape few all_lines are written short =
    let left : Entries = replay_of (history_text first lines) in
    let more : List (List ℕ) = lines_of_others (slot_changes_between left captured) in
    let sum : length (lines ++ more) ≡ length lines + length more = length-append lines more in
    let fewer : length lines ≤ 2000000 = omega (arith, sum, short) in
    as_written first lines calls captured shape few all_lines are fewer written short
