-- Laws of the texts of histories; each is the contract of a public function.
use Rattle.std.specs.Prelude.{◌≡◌, ◌↔◌, ◌<◌, ◌≤◌, ◌^◌, ℕ, Bool, true, not, ◌&&◌, List, [], ◌∷◌, ◌++◌, length, Some, Ok}
use Rattle.std.specs.List.{list_all}
use Rattle.std.specs.FinMap as map
use Rattle.hex.specs.Hex.{IsBytes}
use Rattle.link_tree.specs.Shape.{IsTree}
use Rattle.link_tree.specs.Trees.{Entries}
use Rattle.script_words.specs.Words.{is_line_byte, lines_text}
use Rattle.kept_texts.specs.declared.sums.Sum.{Sum}
use Rattle.kept_texts.specs.declared.words.Header.{Header}
use Rattle.kept_texts.specs.declared.words.RunWords.{RunWords}
use Rattle.kept_texts.specs.declared.line_words.HeaderLine.{HeaderLine}
use Rattle.kept_texts.specs.declared.line_words.EndLine.{EndLine}
use Rattle.kept_texts.specs.declared.runs.Run.{Run}
use Rattle.kept_texts.specs.Values.{is_label, is_time}
use Rattle.kept_texts.specs.Lines.{header_line, run_line, end_line}
use Rattle.kept_texts.specs.Sayings.{header_said, run_said, end_said}
use Rattle.kept_texts.specs.Readings.{read_text}
use Rattle.kept_texts.specs.Texts.{begins_comment, are_call_lines, run_text, begun_text, begun_parts, runs_text, with_runs}

-- A sum has 32 bytes.
pub record IsSum (sum : Sum) : Type 0 where
  pub size : length sum.bytes ≡ 32
  pub bytes : IsBytes sum.bytes

-- What each header is.
pub record IsHeader (header : Header) : Type 0 where
  pub size : length header.id ≡ 16
  pub id : IsBytes header.id
  pub root : is_label header.root ≡ true

-- What the words of each run are.
pub record AreWords (words : RunWords) : Type 0 where
  pub time : is_time words.time ≡ true
  pub login : is_label words.login ≡ true
  pub program : is_label words.program ≡ true
  pub rules : words.rules < 2 ^ 32

-- A line is read as the words for which it is written, and as no others: so each line says at most
-- one thing, and each thing is said by one line.
abbrev pub HeadersAreRead : Type 0
HeadersAreRead = (words : HeaderLine) → IsHeader words.header → IsSum words.sum
    → (line : List ℕ) → (header_said line ≡ Some words) ↔ (line ≡ header_line words)

abbrev pub RunsAreRead : Type 0
RunsAreRead = (words : RunWords) → AreWords words
    → (line : List ℕ) → (run_said line ≡ Some words) ↔ (line ≡ run_line words)

abbrev pub EndsAreRead : Type 0
EndsAreRead = (words : EndLine) → IsSum words.tree → IsSum words.sum
    → (line : List ℕ) → (end_said line ≡ Some words) ↔ (line ≡ end_line words)

-- The line of a call, or an empty line: it has no line end, and begins with no `#`.
abbrev pub is_call_line : List ℕ → Bool
is_call_line line = list_all is_line_byte line && not (begins_comment line)

-- A run of the lines of calls.
pub record IsRun (run : Run) : Type 0 where
  pub lines : List (List ℕ)
  pub calls : list_all is_call_line lines ≡ true
  pub words : AreWords run.words
  pub tree : IsSum run.tree
  pub text : run.text ≡ run_text run.words (lines_text lines) run.tree

abbrev pub AreRuns : List Run → Type 0
AreRuns [] = Unit {0}
AreRuns (run ∷ runs) = IsRun run × AreRuns runs

-- The text of a tree, a header and runs is read as these.
abbrev pub TextsAreRead : Type 0
TextsAreRead = (first : Entries) (header : Header) (runs : List Run)
    → IsTree first → map.len first ≤ 65536 → IsHeader header → AreRuns runs
    → (with_runs (begun_parts first header) runs).lines ≤ 2000000
    → read_text (begun_text first header ++ runs_text (begun_parts first header) runs)
    ≡ Ok (with_runs (begun_parts first header) runs)

-- Lines that can be appended as a run are lines of calls, each with its end,
abbrev pub CallLinesAreLines : Type 0
CallLinesAreLines = (text : List ℕ) → are_call_lines text ≡ true
    → (lines : List (List ℕ)) × (text ≡ lines_text lines) × (list_all is_call_line lines ≡ true)

-- and all lines of calls, each with its end, can be appended.
abbrev pub LinesAreCallLines : Type 0
LinesAreCallLines = (lines : List (List ℕ)) → list_all is_call_line lines ≡ true → are_call_lines (lines_text lines) ≡ true
