-- Reading the text of a history, line by line. Lines count from 1 from the beginning of the text.
use Rattle.std.specs.Prelude.{◌≡◌, ℕ, ◌+◌, ◌-◌, ◌^◌, ◌≤◌, ◌&&◌, Bool, not, ◌==◌, nat_eq, nat_lt, if◌then◌else◌, List, [], ◌∷◌, ◌++◌, length, take, Option, Some, None, is_some, Result, Ok, Err, codes}
use Rattle.std.specs.List.{filter, list_any, slice_split, starts_with, ends_with}
use Rattle.std.specs.Option.{ok_or, option_map}
use Rattle.std.specs.Str.{bytes_eq}
use Rattle.link_tree.specs.Inventory.{◌>>=◌, inventory_of}
use Rattle.link_tree.specs.Trees.{Entries, inventory_text}
use Rattle.link_tree.specs.declared.inventory_fault.InventoryFault.{InventoryFault}
use Rattle.kept_texts.specs.declared.faults.LineFault.{LineFault}
use Rattle.kept_texts.specs.declared.faults.LineFault.TheVariants as faults
use Rattle.kept_texts.specs.declared.faults.LineError.{LineError}
use Rattle.kept_texts.specs.declared.faults.LineError.TheVariants as line_errors
use Rattle.kept_texts.specs.declared.faults.TextError.{TextError}
use Rattle.kept_texts.specs.declared.faults.TextError.TheVariants as text_errors
use Rattle.kept_texts.specs.declared.sums.Sum.{Sum}
use Rattle.kept_texts.specs.declared.words.RunWords.{RunWords}
use Rattle.kept_texts.specs.declared.line_words.HeaderLine.{HeaderLine}
use Rattle.kept_texts.specs.declared.line_words.EndLine.{EndLine}
use Rattle.kept_texts.specs.declared.runs.Runs.{Runs}
use Rattle.kept_texts.specs.declared.reading.OpenRun.{OpenRun}
use Rattle.kept_texts.specs.declared.reading.Reading.{Reading}
use Rattle.kept_texts.specs.declared.reading.Parts.{Parts}
use Rattle.kept_texts.specs.Sums.{sum_of, next_sum}
use Rattle.kept_texts.specs.Lines.{header_front, run_line, end_front}
use Rattle.script_words.specs.Words.{is_space}
use Rattle.kept_texts.specs.Sayings.{after_key, header_said, run_said, end_said}
use Prim.Native.Char.{code}

abbrev pub is_line_end : ℕ → Bool
is_line_end b = b == code "\n"

-- how many lines have their ends
abbrev pub count_lines : List ℕ → ℕ
count_lines bytes = length (filter is_line_end bytes)

abbrev pub is_no_space : ℕ → Bool
is_no_space b = not (is_space b)

-- whether a line is that of a call
abbrev pub is_call : List ℕ → Bool
is_call line = not (starts_with nat_eq line (codes "#")) && list_any is_no_space line

-- how many lines of a run are calls
unfoldable pub count_calls : List ℕ → ℕ
count_calls text = length (filter is_call (slice_split is_line_end text))

abbrev pub same_sum : Sum → Sum → Bool
same_sum one other = bytes_eq one.bytes other.bytes

-- a run of which the first line has been read
abbrev pub run_begun : ℕ → RunWords → OpenRun
run_begun number words =
    record { words = words; line = number; text = run_line words ++ codes "\n" }

abbrev pub begin_run : Reading → ℕ → List ℕ → Result Reading LineFault
begin_run reading number line =
    if is_some reading.begun then Err faults.NoEnd
    else (ok_or (run_said line) faults.BadRun
    >>= λ words. Ok (record { runs = reading.runs; begun = Some (run_begun number words) }))

-- the runs with one more
abbrev pub with_run : Runs → OpenRun → EndLine → List ℕ → Runs
with_run runs run end text = record {
  all = runs.all ++ record { words = run.words; line = run.line; calls = count_calls text; tree = end.tree; text = text } ∷ [];
  sum = end.sum;
}

abbrev pub end_run_by : Runs → OpenRun → EndLine → List ℕ → Result Runs LineFault
end_run_by runs run end text =
    if same_sum (next_sum runs.sum text) end.sum then Ok (with_run runs run end text)
    else Err faults.SumDiffers

abbrev pub close_run : Runs → OpenRun → EndLine → Result Runs LineFault
close_run runs run end = end_run_by runs run end (run.text ++ end_front end.tree)

abbrev pub end_run : Reading → List ℕ → Result Reading LineFault
end_run reading line = do
  run ← ok_or reading.begun faults.OutsideOfRun
  end ← ok_or (end_said line) faults.BadEnd
  runs ← close_run reading.runs run end
  Ok (record { runs = runs; begun = None })

-- a run with the line of a call
abbrev pub with_call : OpenRun → List ℕ → OpenRun
with_call run line = record {
  words = run.words;
  line = run.line;
  text = run.text ++ (line ++ codes "\n");
}

abbrev pub add_call : Reading → List ℕ → Result Reading LineFault
add_call reading line =
    ok_or reading.begun faults.OutsideOfRun
    >>= λ run. Ok (record { runs = reading.runs; begun = Some (with_call run line) })

-- the runs that have been read, and the one that has begun, after the line of this number
unfoldable pub read_line : Reading → ℕ → List ℕ → Result Reading LineFault
read_line reading number line =
    if starts_with nat_eq line (codes "# run ") then begin_run reading number line
    else if starts_with nat_eq line (codes "# end ") then end_run reading line
    else if starts_with nat_eq line (codes "#") then Err faults.BadComment
    else add_call reading line

abbrev pub at_line : {A : Type 0} → ℕ → Result A LineFault → Result A (ℕ × LineFault)
at_line number (Ok x) = Ok x
at_line number (Err fault) = Err (number, fault)

-- the runs, if the last one has its end
abbrev pub all_read : Reading → ℕ → Result Runs (ℕ × LineFault)
all_read reading number = if is_some reading.begun then Err (number, faults.CutShort) else Ok reading.runs

-- the runs after the lines from this number on
unfoldable pub read_lines : Reading → ℕ → List (List ℕ) → Result Runs (ℕ × LineFault)
read_lines reading number [] = all_read reading number
read_lines reading number (line ∷ lines) =
    at_line number (read_line reading number line) >>= λ next. read_lines next (number + 1) lines

-- the words of the header line, if it has its format
abbrev pub header_words : List ℕ → Result HeaderLine LineFault
header_words line =
    if not (starts_with nat_eq line (codes "# unitroot-history ")) then Err faults.NoHeader
    else if not (starts_with nat_eq line (codes "# unitroot-history 1 ")) then Err faults.OtherFormat
    else ok_or (header_said line) faults.BadHeader

-- the words of the header line, of which the sum is also that of the bytes before it
unfoldable pub read_header : List ℕ → List ℕ → Result HeaderLine LineFault
read_header front line = header_words line >>= λ words.
    if same_sum (sum_of (front ++ header_front words.header)) words.sum then Ok words
    else Err faults.SumDiffers

abbrev pub nothing_read : Sum → Reading
nothing_read sum = record { runs = record { all = []; sum = sum }; begun = None }

abbrev pub read_all_lines : List ℕ → List ℕ → List (List ℕ) → Result Parts (ℕ × LineFault)
read_all_lines front header lines = do
  words ← at_line (count_lines front + 1) (read_header front header)
  runs ← read_lines (nothing_read words.sum) (count_lines front + 2) lines
  Ok (record { header = words.header; runs = runs; before = count_lines front; lines = length lines + 1 })

abbrev pub read_split : List ℕ → List (List ℕ) → Result Parts (ℕ × LineFault)
read_split front [] = Err (count_lines front + 1, faults.CutShort)
read_split front (header ∷ lines) = read_all_lines front header lines

abbrev pub read_counted : List ℕ → List (List ℕ) → Result Parts (ℕ × LineFault)
read_counted front lines =
    if nat_lt 2000000 (length lines) then Err (count_lines front + 2000001, faults.TooManyLines)
    else read_split front lines

-- the lines of a text without their ends, if the last one has its end
unfoldable pub lines_of : List ℕ → Option (List (List ℕ))
lines_of text =
    if ends_with nat_eq text (codes "\n") then Some (slice_split is_line_end (take (length text - 1) text))
    else None

-- what comes after the line `== calls`
unfoldable pub read_rest : List ℕ → List ℕ → Result Parts (ℕ × LineFault)
read_rest front rest =
    ok_or (lines_of rest) (count_lines front + count_lines rest + 1, faults.CutShort)
    >>= read_counted front

-- the text of a tree and the line `== calls`
unfoldable pub front_text : Entries → List ℕ
front_text first = inventory_text first ++ codes "== calls\n"

abbrev pub tree_if_any : Result (Entries × List ℕ) (InventoryFault × ℕ) → Option Entries
tree_if_any (Ok found) = Some found.0
tree_if_any (Err fault) = None

-- the text of the tree with which a text begins, and the line `== calls`
unfoldable pub front_of : List ℕ → Option (List ℕ)
front_of bytes = option_map front_text (tree_if_any (inventory_of bytes))

-- What a text says, or its first fault.
unfoldable pub read_text : List ℕ → Result Parts (ℕ × LineFault)
read_text bytes = do
  front ← ok_or (front_of bytes) (1, faults.BadBeginning)
  rest ← ok_or (after_key front bytes) (1, faults.BadBeginning)
  read_rest front rest

-- The error is the fault that was found, unless memory ran out.
abbrev pub IsLineError : {A : Type 0} → LineError → Result A LineFault → Type 0
IsLineError (line_errors.Fault fault) read = read ≡ Err fault
IsLineError line_errors.OutOfMemory read = Unit {0}

abbrev pub ReadsLine : {X A : Type 0} → (X → A) → Result X LineError → Result A LineFault → Type 0
ReadsLine view (Ok x) read = read ≡ Ok (view x)
ReadsLine view (Err error) read = IsLineError error read

abbrev pub IsTextError : {A : Type 0} → TextError → Result A (ℕ × LineFault) → Type 0
IsTextError (text_errors.Fault number fault) read = read ≡ Err (number, fault)
IsTextError text_errors.OutOfMemory read = Unit {0}

-- an error of the line of this number
abbrev pub error_at : ℕ → LineError → TextError
error_at number (line_errors.Fault fault) = text_errors.Fault number fault
error_at number line_errors.OutOfMemory = text_errors.OutOfMemory

abbrev pub ReadsText : {X A : Type 0} → (X → A) → Result X TextError → Result A (ℕ × LineFault) → Type 0
ReadsText view (Ok x) read = read ≡ Ok (view x)
ReadsText view (Err error) read = IsTextError error read

-- Lines can be counted.
abbrev pub IsCounted : Parts → Type 0
IsCounted parts = (parts.before ≤ 2 ^ 62) × (parts.lines ≤ 2000000)
