-- Reading lines one after another.
use Rattle.std.proofs.Common.{◌≡◌, ◌≤◌, ◌<◌, ◌+◌, ℕ, true, false, List, Result, Ok, Err, refl, sym, ap, subst, ◌∙◌, length, drop, get_or, map}
use Rattle.std.specs.Prelude.{is_some}
use Rattle.std.proofs.lemmas.List.{drop_all, drop_more}
use Rattle.link_tree.specs.Inventory.{◌>>=◌}
use Rattle.kept_texts.specs.declared.faults.LineFault.{LineFault}
use Rattle.kept_texts.specs.declared.faults.LineFault.TheVariants.{CutShort}
use Rattle.kept_texts.specs.declared.faults.LineError.{LineError}
use Rattle.kept_texts.specs.declared.faults.LineError.TheVariants as line_errors
use Rattle.kept_texts.specs.declared.faults.TextError.{TextError}
use Rattle.kept_texts.specs.declared.faults.TextError.TheVariants as text_errors
use Rattle.kept_texts.specs.declared.runs.Runs.{Runs}
use Rattle.kept_texts.specs.declared.reading.Reading.{Reading}
use Rattle.kept_texts.specs.Readings.{at_line, read_line, all_read, read_lines, IsLineError, IsTextError, error_at}

-- the error of a line is one of the text
pub failed : {A : Type 0} (number : ℕ) (e : LineError) (read : Result A LineFault) → IsLineError e read → IsTextError (error_at number e) (at_line number read)
failed number (line_errors.Fault fault) read is = ap (at_line number) is
failed number line_errors.OutOfMemory read is = tt

-- and what would follow is not read
pub fails_first : {A B : Type 0} (e : TextError) (read : Result A (ℕ × LineFault)) (f : A → Result B (ℕ × LineFault)) → IsTextError e read → IsTextError e (read >>= f)
fails_first (text_errors.Fault number fault) read f is = ap (λ r. r >>= f) is
fails_first text_errors.OutOfMemory read f is = tt

module _ {A : Type 0} (f : A → List ℕ) (lines : List A) (i number : ℕ) (reading : Reading) (all : Result Runs (ℕ × LineFault))
    (so_far : read_lines reading number (map f (drop i lines)) ≡ all) where
  then_rest : Reading → Result Runs (ℕ × LineFault)
  then_rest next = read_lines next (number + 1) (map f (drop (i + 1) lines))

  here : (d : A) → i < length lines → (at_line number (read_line reading number (f (get_or lines i d))) >>= then_rest) ≡ all
  unfolding read_lines then_rest
  here d within = ap (read_lines reading number) (sym (ap (map f) (drop_more lines i d within))) ∙ so_far

  pub line_fails : (d : A) → i < length lines → (e : LineError) → IsLineError e (read_line reading number (f (get_or lines i d))) → IsTextError (error_at number e) all
  line_fails d within e is =
      subst (IsTextError (error_at number e)) (here d within)
      (fails_first (error_at number e) (at_line number (read_line reading number (f (get_or lines i d)))) then_rest
      (failed number e (read_line reading number (f (get_or lines i d))) is))

  pub line_goes : (d : A) → i < length lines → (next : Reading) → read_line reading number (f (get_or lines i d)) ≡ Ok next → read_lines next (number + 1) (map f (drop (i + 1) lines)) ≡ all
  unfolding then_rest
  line_goes d within next is = ap (λ r. at_line number r >>= then_rest) (sym is) ∙ here d within

  module _ (past : length lines ≤ i) where
    done : all_read reading number ≡ all
    unfolding read_lines
    done = ap (λ (ls : List A). read_lines reading number (map f ls)) (sym (drop_all i lines past)) ∙ so_far

    pub is_cut : is_some reading.begun ≡ true → all ≡ Err (number, CutShort)
    is_cut is = sym done ∙ rw is refl

    pub is_whole : is_some reading.begun ≡ false → all ≡ Ok reading.runs
    is_whole is = sym done ∙ rw is refl
