-- What `install_of` returns, as a relation.
use Rattle.std.proofs.Common.{◌≡◌, ℕ, true, List, ◌∷◌, ◌++◌, length, sym, ap, ◌∙◌, subst}
use Rattle.std.specs.List.{list_any}
use Rattle.std.proofs.lemmas.Bool.{ltb-true, lt-ltb, or_left, or_right, false_from_ne_true}
use Rattle.std.proofs.lemmas.List.Folds.{list_any-append}
use Rattle.unit_name.proofs.Cuts.{first_cut_of}
use Rattle.unit_file.specs.Lines.{joined_lines}
use Rattle.unit_file.specs.Reading.{is_too_long, has_long_line}
use Rattle.line_laws.specs.FileLines.{AreJoinedLinesOf}
use Rattle.line_laws.specs.InstallLines.{HasLongLine, InstallLinesAreRead}
use Rattle.line_laws.proofs.JoinedBlocks.{joined_lines_are, joined_lines_same}
use Rattle.line_laws.proofs.InstallTexts.{text_asked, asked_text}

long_from : (bytes : List ℕ) → has_long_line bytes ≡ true → HasLongLine bytes
unfolding has_long_line
long_from bytes any =
    let cut = first_cut_of is_too_long (joined_lines bytes) any in
    record { before = cut.before; line = cut.at; after = cut.after; are_joined = subst (AreJoinedLinesOf bytes) cut.is (joined_lines_are bytes); long = ltb-true 1048576 (length cut.at) cut.passes }

long_to : (bytes : List ℕ) → HasLongLine bytes → has_long_line bytes ≡ true
unfolding has_long_line
long_to bytes has =
    let later = has.line ∷ has.after in
    ap (list_any is_too_long) (joined_lines_same bytes (has.before ++ later) has.are_joined)
    ∙ list_any-append is_too_long has.before later
    ∙ or_right (list_any is_too_long has.before) (list_any is_too_long later) (or_left (is_too_long has.line) (list_any is_too_long has.after) (lt-ltb 1048576 (length has.line) has.long))

pub install_read : InstallLinesAreRead
install_read = record {
  text = λ bytes text. (text_asked bytes text, asked_text bytes text);
  long_line = λ bytes. (long_from bytes, long_to bytes);
  returned = λ bytes text. (
    λ reads. (text_asked bytes text (sym reads.0), λ long. let both = sym reads.1 ∙ long_to bytes long in cc),
    λ asks. (sym (asked_text bytes text asks.0), false_from_ne_true (has_long_line bytes) (λ is. asks.1 (long_from bytes is))),
  );
}
