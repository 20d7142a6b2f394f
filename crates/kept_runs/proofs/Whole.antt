-- A whole run on a kept root.
use Rattle.std.proofs.Common.{◌≡◌, ◌+◌, List, [], ◌∷◌, length, sym, ap, ◌∙◌, arith}
use Rattle.link_tree.specs.Trees.{Entries}
use Rattle.history.specs.declared.row.Row.{Row}
use Rattle.history.specs.Rows as histories
use Rattle.unit_script.specs.declared.action.Action.{Action}
use Rattle.unit_script.specs.declared.call.Call.{Call}
use Rattle.unit_script.specs.Actions.{asks, meaning}
use Rattle.unit_script.specs.Machine.{asked, replay}
use Rattle.unit_script.proofs.Histories.{length-rows_after}
use Rattle.kept_history.proofs.Lasting as lasting
use Rattle.kept_rows.specs.Others.{rows_with, rows_with_others, with_slots_of}
use Rattle.kept_rows.specs.Texts.{replay_of}
use Rattle.kept_rows.proofs.Leading.{others_lead}
use Rattle.kept_runs.specs.Laws.{RunsAreWhole}
use Rattle.kept_runs.proofs.Told.{replay_said}

length-with : (first : Entries) (calls : List Call) (rows : List (Row Action)) → length (rows_with first rows calls) ≡ length rows + length calls
length-with first [] rows = let same : length rows ≡ length rows + length {A = Call} [] = omega arith in same
length-with first (call ∷ calls) rows =
    let same : length rows + 1 + length calls ≡ length rows + length (call ∷ calls) = omega arith in
    length-with first calls (histories.rows_after asks meaning first rows (asked call)) ∙ ap (λ n. n + length calls) (length-rows_after first rows (asked call)) ∙ same

pub runs_are_whole : RunsAreWhole
runs_are_whole first rows captured calls text noticed made says says_others says_all =
    let lead = others_lead first rows captured in record {
      others = (lead.0, lead.1, lead.2);
      slots = replay_said noticed first (rows_with_others first rows captured) says_others ∙ ap (replay first) lead.1 ∙ lead.3
          ∙ sym (ap (λ t. with_slots_of t captured) (replay_said text first rows says));
      each = length-with first calls (rows_with_others first rows captured);
      write = lasting.writes_are_whole replay_of text noticed;
      run = lasting.runs_are_whole replay_of noticed made;
    }
