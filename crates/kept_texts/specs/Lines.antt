-- The lines of a history that aren't calls, as they are written.
use Rattle.std.specs.Prelude.{ℕ, Bool, if◌then◌else◌, List, [], ◌++◌, codes}
use Rattle.std.specs.Fmt.{decimal}
use Rattle.hex.specs.Hex.{encode_lower}
use Rattle.script_words.specs.Escapes.{spelled}
use Rattle.kept_texts.specs.declared.sums.Sum.{Sum}
use Rattle.kept_texts.specs.declared.words.Header.{Header}
use Rattle.kept_texts.specs.declared.words.RunWords.{RunWords}
use Rattle.kept_texts.specs.declared.line_words.HeaderLine.{HeaderLine}
use Rattle.kept_texts.specs.declared.line_words.EndLine.{EndLine}
use Rattle.kept_texts.specs.Sums.{sum_words}

-- the sum at the end of a line
unfoldable pub text_sum : Sum → List ℕ
text_sum sum = codes " text=" ++ sum_words sum

unfoldable pub header_mark : List ℕ
header_mark = codes "# unitroot-history 1 id="

-- the header up to its sum
unfoldable pub header_front : Header → List ℕ
header_front header = header_mark ++ encode_lower header.id ++ codes " root=" ++ spelled header.root

abbrev pub header_line : HeaderLine → List ℕ
header_line words = header_front words.header ++ text_sum words.sum

abbrev pub outside_word : Bool → List ℕ
outside_word outside = if outside then codes " outside" else []

-- the first line of a run
unfoldable pub run_line : RunWords → List ℕ
run_line words =
    codes "# run " ++ words.time
    ++ codes " login=" ++ spelled words.login
    ++ codes " program=" ++ spelled words.program
    ++ codes " rules=" ++ decimal words.rules
    ++ outside_word words.outside

unfoldable pub end_mark : List ℕ
end_mark = codes "# end tree="

-- the last line of a run up to its sum
unfoldable pub end_front : Sum → List ℕ
end_front tree = end_mark ++ sum_words tree

abbrev pub end_line : EndLine → List ℕ
end_line words = end_front words.tree ++ text_sum words.sum
