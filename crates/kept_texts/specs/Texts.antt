-- The whole text of a history: what begins it, and what a run adds to it.
use Rattle.std.specs.Prelude.{◌≡◌, ℕ, ◌+◌, Bool, true, not, ◌==◌, ◌&&◌, ◌||◌, nat_eq, List, [], ◌∷◌, ◌++◌, Some, length, codes}
use Rattle.std.specs.List.{list_any, slice_split, starts_with, ends_with}
use Rattle.std.specs.FinMap as map
use Rattle.unit_paths.specs.Slots.{is_slot}
use Rattle.link_tree.specs.declared.entry.Entry.{Entry}
use Rattle.link_tree.specs.Trees.{Entries, inventory_text, after_changes}
use Rattle.tree_steps.specs.Steps.{slot_changes_between}
use Rattle.kept_texts.specs.declared.sums.Sum.{Sum}
use Rattle.kept_texts.specs.declared.words.Header.{Header}
use Rattle.kept_texts.specs.declared.words.RunWords.{RunWords}
use Rattle.kept_texts.specs.declared.runs.Run.{Run}
use Rattle.kept_texts.specs.declared.reading.Parts.{Parts}
use Rattle.kept_texts.specs.declared.text.KeptText.{KeptText}
use Rattle.kept_texts.specs.Sums.{sum_of, next_sum}
use Rattle.kept_texts.specs.Lines.{text_sum, header_front, run_line, end_front}
use Rattle.kept_texts.specs.Readings.{is_line_end, count_lines, count_calls, front_text}

-- the entries of a tree that are at slots
abbrev pub slots_of : Entries → Entries
slots_of tree = after_changes (slot_changes_between map.empty tree) map.empty

-- each entry is at a slot
abbrev pub IsOfSlots : Entries → Type 0
IsOfSlots tree = (path : List ℕ) (entry : Entry) → map.get tree path ≡ Some entry → is_slot path ≡ true

-- the sum of what a tree has at slots
unfoldable pub sum_of_slots : Entries → Sum
sum_of_slots tree = sum_of (inventory_text (slots_of tree))

-- a sum at the end of its line
unfoldable pub sum_end : Sum → List ℕ
sum_end sum = text_sum sum ++ codes "\n"

-- what the sum of the header is of
abbrev pub header_text : Entries → Header → List ℕ
header_text first header = front_text first ++ header_front header

-- the text of a history without runs
abbrev pub begun_text : Entries → Header → List ℕ
begun_text first header = header_text first header ++ sum_end (sum_of (header_text first header))

abbrev pub begun_parts : Entries → Header → Parts
begun_parts first header = record {
  header = header;
  runs = record { all = []; sum = sum_of (header_text first header) };
  before = count_lines (front_text first);
  lines = 1;
}

abbrev pub begins_comment : List ℕ → Bool
begins_comment line = starts_with nat_eq line (codes "#")

-- whether the last line has its end
abbrev pub are_whole : List ℕ → Bool
are_whole lines = length lines == 0 || ends_with nat_eq lines (codes "\n")

-- whether each line has its end, and none begins with `#`
unfoldable pub are_call_lines : List ℕ → Bool
are_call_lines lines =
    are_whole lines && not (list_any begins_comment (slice_split is_line_end lines))

-- the lines of a run up to its sum
unfoldable pub run_text : RunWords → List ℕ → Sum → List ℕ
run_text words lines tree = run_line words ++ codes "\n" ++ lines ++ end_front tree

-- what a run with this text adds to a history
abbrev pub added_text : Parts → List ℕ → List ℕ
added_text parts text = text ++ sum_end (next_sum parts.runs.sum text)

-- the parts with one more run, which has this sum, before its lines are counted
abbrev pub with_summed : Parts → Run → Sum → Parts
with_summed parts run sum = record {
  header = parts.header;
  runs = record { all = parts.runs.all ++ run ∷ []; sum = sum };
  before = parts.before;
  lines = parts.lines;
}

-- the next run, with this text
abbrev pub next_run : Parts → RunWords → Sum → List ℕ → Run
next_run parts words tree text = record {
  words = words;
  line = parts.before + parts.lines + 1;
  calls = count_calls text;
  tree = tree;
  text = text;
}

-- the parts of a history with one more run
abbrev pub with_text : Parts → RunWords → Sum → List ℕ → Parts
with_text parts words tree text = record {
  header = parts.header;
  runs = record {
    all = parts.runs.all ++ next_run parts words tree text ∷ [];
    sum = next_sum parts.runs.sum text;
  };
  before = parts.before;
  lines = parts.lines + (count_lines text + 1);
}

-- the parts of a history with a run of another one
abbrev pub with_copy : Parts → Run → Parts
with_copy parts run = with_text parts run.words run.tree run.text

-- what runs of another history add
abbrev pub runs_text : Parts → List Run → List ℕ
runs_text parts [] = []
runs_text parts (run ∷ runs) = added_text parts run.text ++ runs_text (with_copy parts run) runs

abbrev pub with_runs : Parts → List Run → Parts
with_runs parts [] = parts
with_runs parts (run ∷ runs) = with_runs (with_copy parts run) runs

-- A history has these bytes and these parts.
abbrev pub Is : KeptText → List ℕ → Parts → Type 0
Is text bytes parts = (text.bytes.items ≡ bytes) × (text.parts ≡ parts)

-- A run with this text was appended.
abbrev pub Appends : KeptText → KeptText → RunWords → Sum → List ℕ → Type 0
Appends old new words tree text =
    Is new (old.bytes.items ++ added_text old.parts text) (with_text old.parts words tree text)
