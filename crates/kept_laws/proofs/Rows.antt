-- A run on a root that was found, with the rows of its history.
use Rattle.std.proofs.Common.{◌≡◌, ◌+◌, List, [], ◌∷◌, ◌++◌, length, refl, ap, ◌∙◌, arith}
use Rattle.link_tree.specs.Trees.{Entries}
use Rattle.history.specs.declared.row.Row.{Row}
use Rattle.history.specs.Rows as histories
use Rattle.unit_script.specs.declared.action.Action.{Action}
use Rattle.unit_script.specs.declared.call.Call.{Call}
use Rattle.unit_script.specs.Actions.{asks, meaning}
use Rattle.unit_script.specs.Machine.{asked, replay}
use Rattle.unit_script.proofs.Histories.{length-rows_after}
use Rattle.kept_history.specs.Recovery.{recovery}
use Rattle.kept_rows.specs.Others.{rows_with, rows_with_others}
use Rattle.kept_rows.specs.Texts.{replay_of}
use Rattle.kept_rows.proofs.Leading.{others_lead}
use Rattle.kept_rows.proofs.SlotsAlone.{captured_is_reached}
use Rattle.kept_runs.proofs.Told.{replay_said}
use Rattle.kept_laws.specs.Found.{IsRun}
use Rattle.kept_laws.specs.Rows.{captured}
use Rattle.kept_laws.specs.Laws.{RunsWithRowsAreWhole}
use Rattle.kept_laws.proofs.Parts.{found_runs_are_whole}

length-with : (first : Entries) (calls : List Call) (rows : List (Row Action)) → length (rows_with first rows calls) ≡ length rows + length calls
length-with first [] rows = let same : length rows ≡ length rows + length {A = Call} [] = omega arith in same
length-with first (call ∷ calls) rows =
    let same : length rows + 1 + length calls ≡ length rows + length (call ∷ calls) = omega arith in
    length-with first calls (histories.rows_after asks meaning first rows (asked call)) ∙ ap (λ n. n + length calls) (length-rows_after first rows (asked call)) ∙ same

pub runs_with_rows_are_whole : RunsWithRowsAreWhole
runs_with_rows_are_whole found first rows calls noticed made write change apart says_others says_all writes changes =
    let lead = others_lead first rows (captured found) in
    let run : IsRun replay_of found noticed made (recovery replay_of found ++ (write ++ change)) = record {
      write = write;
      change = change;
      in_order = refl;
      has_tree = replay_said noticed first (rows_with_others first rows (captured found)) says_others ∙ ap (replay first) lead.1 ∙ lead.3
          ∙ captured_is_reached (replay first rows) (captured found) apart;
      writes = writes;
      changes = changes;
    } in
    record {
      others = (lead.0, lead.1, lead.2);
      run = run;
      each = length-with first calls (rows_with_others first rows (captured found));
      whole = found_runs_are_whole replay_of found noticed made (recovery replay_of found ++ (write ++ change)) run;
    }
