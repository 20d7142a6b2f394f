-- A file whose last byte is a CR, and the same file followed by a LF.
use Rattle.std.proofs.Common.{◌≡◌, refl, ℕ, ◌+◌, ◌-◌, ◌<◌, ◌==◌, ◌||◌, Bool, true, false, List, [], ◌∷◌, ◌++◌, length, take, drop, map, sym, ap, ◌∙◌, arith, append_assoc, length-append, slice_index}
use Rattle.std.specs.List.{list_any, prefix_len, suffix_len}
use Rattle.std.specs.Str.Lines.{lines, lines_of_parts, strip_carriage_return}
use Rattle.std.proofs.lemmas.Bool.{eqb-true}
use Rattle.std.proofs.lemmas.List.{get_or_at, take_at, take-append-le, drop-append-le, drop_all, reverse-append}
use Rattle.std.proofs.lemmas.List.Folds.{list_any-append, prefix_len-append}
use Rattle.std.proofs.lemmas.List.Sums.{prefix_len-le-length}
use Rattle.unit_file.specs.Lines.{is_blank, without_leading, without_trailing, stripped, is_comment, ends_with, onto_next, joined}
use Rattle.unit_file.specs.Install.{install_text}
use Rattle.unit_file.specs.Reading.{text_of}
use Rattle.unit_file.proofs.PhysicalLines.{is_lf, lines-first, slice_split-none, lines_of_parts-last}
use Rattle.unit_file.proofs.Joining.{kept, onto_next-onto_next}
use Rattle.unit_file.proofs.Endings.{last_line, ends_with-append, ends_with-nil, ends_with-one, joined-one, joined-more, joined-nil}
use Rattle.unit_file.proofs.Additions.{is_comment-push_cr, kept-append, joined-some}

-- A CR at the end of a text is stripped.
suffix_len-push : (text : List ℕ) → suffix_len is_blank (text ++ 13 ∷ []) ≡ 1 + suffix_len is_blank text
suffix_len-push text = ap (prefix_len is_blank) (reverse-append text (13 ∷ []))

without_trailing-push : (text : List ℕ) → without_trailing (text ++ 13 ∷ []) ≡ without_trailing text
without_trailing-push text =
    let len = length-append text (13 ∷ []) in
    let suffix = suffix_len-push text in
    let place : length (text ++ 13 ∷ []) - suffix_len is_blank (text ++ 13 ∷ []) ≡ length text - suffix_len is_blank text = omega (arith, len, suffix) in
    ap (λ n. take n (text ++ 13 ∷ [])) place ∙ take-append-le (length text - suffix_len is_blank text) text (13 ∷ []) (omega arith)

pub stripped-push : (text : List ℕ) → stripped (text ++ 13 ∷ []) ≡ stripped text
unfolding stripped
stripped-push text =
    let n = prefix_len is_blank text in
    let prefix = prefix_len-append is_blank text (13 ∷ []) in
    elim (n == length text) as (λ t. (n == length text) ≡ t → without_trailing (without_leading (text ++ 13 ∷ [])) ≡ without_trailing (without_leading text)) [
      | true ↦ λ all.
          let same = eqb-true n (length text) all in
          let whole : prefix_len is_blank (text ++ 13 ∷ []) ≡ length text + 1 = prefix ∙ rw all refl in
          let none : without_leading (text ++ 13 ∷ []) ≡ [] = ap (λ k. drop k (text ++ 13 ∷ [])) whole ∙ drop_all (length text + 1) (text ++ 13 ∷ []) (omega (arith, length-append text (13 ∷ []))) in
          let nothing : without_leading text ≡ [] = ap (λ k. drop k text) same ∙ drop_all (length text) text (omega arith) in
          ap without_trailing (none ∙ sym nothing)
      | false ↦ λ part.
          let some : prefix_len is_blank (text ++ 13 ∷ []) ≡ n = prefix ∙ rw part refl in
          let back : without_leading (text ++ 13 ∷ []) ≡ without_leading text ++ 13 ∷ [] = ap (λ k. drop k (text ++ 13 ∷ [])) some ∙ drop-append-le n text (13 ∷ []) (prefix_len-le-length is_blank text) in
          ap without_trailing back ∙ without_trailing-push (without_leading text)
    ] refl

-- Joined lines, of which the last differs in what is stripped.
onto_next-nil : (lines : List (List ℕ)) → 0 < length lines → onto_next [] lines ≡ lines
onto_next-nil [] some = absurd (omega arith)
onto_next-nil (line ∷ lines) some = refl

joined-push_some : (lines : List (List ℕ)) (last : List ℕ) → 0 < length (joined (lines ++ last ∷ []))
joined-push_some [] last = joined-some last []
joined-push_some (line ∷ lines) last = joined-some line (lines ++ last ∷ [])

module _ (a b : List ℕ) (a_ends : ends_with 92 a ≡ false) (b_ends : ends_with 92 b ≡ false) (alike : (text : List ℕ) → stripped (text ++ a) ≡ stripped (text ++ b)) where
  carried_alike : (lines : List (List ℕ)) (text : List ℕ) → map stripped (onto_next text (joined (lines ++ a ∷ []))) ≡ map stripped (onto_next text (joined (lines ++ b ∷ [])))
  carried_alike [] text =
      let one : joined (a ∷ []) ≡ a ∷ [] = joined-one a [] a_ends ∙ ap (λ ls. a ∷ ls) joined-nil in
      let other : joined (b ∷ []) ≡ b ∷ [] = joined-one b [] b_ends ∙ ap (λ ls. b ∷ ls) joined-nil in
      ap (λ ls. map stripped (onto_next text ls)) one ∙ ap (λ t. t ∷ []) (alike text) ∙ sym (ap (λ ls. map stripped (onto_next text ls)) other)
  carried_alike (line ∷ rest) text =
      elim (ends_with 92 line) as (λ t. ends_with 92 line ≡ t → map stripped (onto_next text (joined (line ∷ (rest ++ a ∷ [])))) ≡ map stripped (onto_next text (joined (line ∷ (rest ++ b ∷ []))))) [
        | true ↦ λ ends.
            let front = take (length line - 1) line ++ 32 ∷ [] in
            let at_a = joined-more line (rest ++ a ∷ []) ends in
            let at_b = joined-more line (rest ++ b ∷ []) ends in
            ap (λ ls. map stripped (onto_next text ls)) at_a
            ∙ ap (map stripped) (onto_next-onto_next text front (joined (rest ++ a ∷ [])))
            ∙ carried_alike rest (text ++ front)
            ∙ sym (ap (λ ls. map stripped (onto_next text ls)) at_b ∙ ap (map stripped) (onto_next-onto_next text front (joined (rest ++ b ∷ []))))
        | false ↦ λ none.
            let more : map stripped (joined (rest ++ a ∷ [])) ≡ map stripped (joined (rest ++ b ∷ [])) =
            sym (ap (map stripped) (onto_next-nil (joined (rest ++ a ∷ [])) (joined-push_some rest a))) ∙ carried_alike rest [] ∙ ap (map stripped) (onto_next-nil (joined (rest ++ b ∷ [])) (joined-push_some rest b)) in
            ap (λ ls. map stripped (onto_next text ls)) (joined-one line (rest ++ a ∷ []) none)
            ∙ ap (λ ls. stripped (text ++ line) ∷ ls) more
            ∙ sym (ap (λ ls. map stripped (onto_next text ls)) (joined-one line (rest ++ b ∷ []) none))
      ] refl

  joined_alike : (lines : List (List ℕ)) → map stripped (joined (lines ++ a ∷ [])) ≡ map stripped (joined (lines ++ b ∷ []))
  joined_alike lines =
      sym (ap (map stripped) (onto_next-nil (joined (lines ++ a ∷ [])) (joined-push_some lines a))) ∙ carried_alike lines [] ∙ ap (map stripped) (onto_next-nil (joined (lines ++ b ∷ [])) (joined-push_some lines b))

-- The last line followed by a CR, and by a CR and a LF.
strip-push : (line : List ℕ) → strip_carriage_return (line ++ 13 ∷ []) ≡ line
strip-push line =
    let ended = line ++ 13 ∷ [] in
    let len : length ended - 1 ≡ length line = omega (arith, length-append line (13 ∷ [])) in
    let last : slice_index ended (length ended - 1) ≡ 13 = ap (slice_index ended) len ∙ get_or_at line 13 [] 0 (length line) refl in
    rw last (ap (λ n. take n ended) len ∙ take_at line (13 ∷ []) (length line) refl)

or-false : (b : Bool) → (b || false) ≡ b
or-false true = refl
or-false false = refl

none-push : (line : List ℕ) → list_any is_lf line ≡ false → list_any is_lf (line ++ 13 ∷ []) ≡ false
none-push line none = list_any-append is_lf line (13 ∷ []) ∙ or-false (list_any is_lf line) ∙ none

lines-push : (line : List ℕ) → list_any is_lf line ≡ false → lines (line ++ 13 ∷ []) ≡ (line ++ 13 ∷ []) ∷ []
lines-push line none = ap lines_of_parts (slice_split-none (line ++ 13 ∷ []) (none-push line none)) ∙ lines_of_parts-last (line ++ 13 ∷ []) (omega (arith, length-append line (13 ∷ [])))

lines-push_both : (line : List ℕ) → list_any is_lf line ≡ false → lines (line ++ 13 ∷ 10 ∷ []) ≡ line ∷ []
lines-push_both line none = ap lines (sym (append_assoc line (13 ∷ []) (10 ∷ []))) ∙ lines-first (line ++ 13 ∷ []) [] (none-push line none) ∙ ap (λ l. l ∷ []) (strip-push line)

kept-one : (line : List ℕ) → is_comment line ≡ false → kept (line ∷ []) ≡ line ∷ []
kept-one line other = rw other refl

kept-none : (line : List ℕ) → is_comment line ≡ true → kept (line ∷ []) ≡ []
kept-none line comment = rw comment refl

logical_alike : (prior : List (List ℕ)) (line : List ℕ) → ends_with 92 line ≡ false → map stripped (joined (kept (prior ++ line ∷ []))) ≡ map stripped (joined (kept (prior ++ (line ++ 13 ∷ []) ∷ [])))
logical_alike prior line ends =
    let ended = line ++ 13 ∷ [] in
    let split = λ (l : List ℕ). kept-append prior (l ∷ []) in
    let result : List (List ℕ) → List (List ℕ) = λ ls. map stripped (joined ls) in
    elim (is_comment line) as (λ t. is_comment line ≡ t → map stripped (joined (kept (prior ++ line ∷ []))) ≡ map stripped (joined (kept (prior ++ ended ∷ [])))) [
      | true ↦ λ comment. ap result (split line ∙ ap (λ ls. kept prior ++ ls) (kept-none line comment ∙ sym (kept-none ended (is_comment-push_cr line ∙ comment))) ∙ sym (split ended))
      | false ↦ λ other.
          ap result (split line ∙ ap (λ ls. kept prior ++ ls) (kept-one line other))
          ∙ joined_alike line ended ends (ends_with-append 92 line 13 [] ∙ ends_with-one 92 13) (λ text. sym (ap stripped (sym (append_assoc text line (13 ∷ []))) ∙ stripped-push (text ++ line))) (kept prior)
          ∙ sym (ap result (split ended ∙ ap (λ ls. kept prior ++ ls) (kept-one ended (is_comment-push_cr line ∙ other))))
    ] refl

ends-last : (last : List ℕ) → (0 < length last → ends_with 92 last ≡ false) → ends_with 92 last ≡ false
ends-last [] ends = ends_with-nil 92
ends-last (b ∷ bs) ends = ends (omega arith)

pub last_return : (bytes : List ℕ) → ends_with 92 bytes ≡ false → text_of (bytes ++ 13 ∷ 10 ∷ []) ≡ text_of (bytes ++ 13 ∷ [])
unfolding text_of
last_return bytes none =
    let line = last_line bytes in
    let ends = ends-last line.last (λ some. sym (line.ends 92 some) ∙ none) in
    let both : lines (bytes ++ 13 ∷ 10 ∷ []) ≡ line.prior ++ line.last ∷ [] = line.lines_are (13 ∷ 10 ∷ []) ∙ ap (λ ls. line.prior ++ ls) (lines-push_both line.last line.none) in
    let one : lines (bytes ++ 13 ∷ []) ≡ line.prior ++ (line.last ++ 13 ∷ []) ∷ [] = line.lines_are (13 ∷ []) ∙ ap (λ ls. line.prior ++ ls) (lines-push line.last line.none) in
    ap install_text (ap (λ ls. map stripped (joined (kept ls))) both ∙ logical_alike line.prior line.last ends ∙ sym (ap (λ ls. map stripped (joined (kept ls))) one))
