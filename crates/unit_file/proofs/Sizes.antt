-- The lines of a file have no more bytes than the file, joined or not.
use Rattle.std.proofs.Common.{◌≡◌, refl, ℕ, ◌+◌, ◌-◌, ◌≤◌, ◌==◌, true, false, cond, List, [], ◌∷◌, length, take, sym, ap, ◌∙◌, arith, slice_index}
use Rattle.std.specs.List.{slice_split, onto_first}
use Rattle.std.specs.Str.Lines.{lines, lines_of_parts, strip_carriage_return}
use Rattle.std.proofs.lemmas.List.{length-take}
use Rattle.unit_file.specs.Lines.{is_comment, ends_with, joined, joined_lines}
use Rattle.unit_file.specs.Reading.{has_long_line}
use Rattle.unit_file.proofs.PhysicalLines.{is_lf, has_first}
use Rattle.unit_file.proofs.Joining.{kept, joined-comment, is_long_after, long-none, long-end, long-carried, long-ended}

-- the number of bytes of lists together
abbrev total : List (List ℕ) → ℕ
total [] = 0
total (line ∷ rest) = length line + total rest

total-onto_first : (b : ℕ) (first : List ℕ) (more : List (List ℕ)) → total (onto_first b (first ∷ more)) ≡ 1 + total (first ∷ more)
total-onto_first b first more = omega arith

total-slice_split : (bytes : List ℕ) → total (slice_split is_lf bytes) ≤ length bytes
total-slice_split [] = omega arith
total-slice_split (b ∷ bs) =
    let rest = total-slice_split bs in
    elim (is_lf b) as (λ t. total (cond t ([] ∷ slice_split is_lf bs) (onto_first b (slice_split is_lf bs))) ≤ length (b ∷ bs)) [
      | true ↦ omega arith
      | false ↦
          let first = has_first bs in
          let one : total (onto_first b (slice_split is_lf bs)) ≡ 1 + total (slice_split is_lf bs) = ap (λ parts. total (onto_first b parts)) first.is ∙ total-onto_first b first.first first.more ∙ ap (λ parts. 1 + total parts) (sym first.is) in
          omega arith
    ]

length-strip : (line : List ℕ) → length (strip_carriage_return line) ≤ length line
length-strip line =
    elim (slice_index line (length line - 1) == 13) as (λ t. length (cond t (take (length line - 1) line) line) ≤ length line) [
      | true ↦ omega (arith, length-take (length line - 1) line)
      | false ↦ omega arith
    ]

total-lines_of_parts : (parts : List (List ℕ)) → total (lines_of_parts parts) ≤ total parts
total-lines_of_parts [] = omega arith
total-lines_of_parts (x ∷ []) = elim (length x == 0) as (λ t. total (cond t [] (x ∷ [])) ≤ total (x ∷ [])) [ true ↦ omega arith | false ↦ omega arith ]
total-lines_of_parts (x ∷ y ∷ more) = omega (arith, length-strip x, total-lines_of_parts (y ∷ more))

-- what is carried and the lines left are too short for a line that is too long
short_after : (n : ℕ) (ls : List (List ℕ)) → n + total ls ≤ 1048576 → is_long_after n (joined (kept ls)) ≡ false
short_after n [] short = long-end n (omega arith)
short_after n (line ∷ rest) short =
    elim (is_comment line) as (λ t. is_comment line ≡ t → is_long_after n (joined (kept (line ∷ rest))) ≡ false) [
      | true ↦ λ comment. ap (is_long_after n) (joined-comment line rest comment) ∙ short_after n rest (omega arith)
      | false ↦ λ other.
          elim (ends_with 92 line) as (λ t. ends_with 92 line ≡ t → is_long_after n (joined (kept (line ∷ rest))) ≡ false) [
            | true ↦ λ ends. long-carried n line rest other ends ∙ short_after (n + length line) rest (omega arith)
            | false ↦ λ ends. long-ended n line rest other ends (omega arith) ∙ short_after 0 rest (omega arith)
          ] refl
    ] refl

pub short_file : (bytes : List ℕ) → length bytes ≤ 1048576 → has_long_line bytes ≡ false
unfolding has_long_line
short_file bytes short =
    sym (long-none (joined_lines bytes))
    ∙ short_after 0 (lines bytes) (omega (arith, total-lines_of_parts (slice_split is_lf bytes), total-slice_split bytes))
