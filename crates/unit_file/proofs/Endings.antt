-- The last line of bytes, and how it ends.
use Rattle.std.proofs.Common.{◌≡◌, refl, ℕ, suc, ◌-◌, ◌<◌, ◌==◌, ◌||◌, ◌⊎◌, inl, inr, Bool, true, false, not, List, [], ◌∷◌, ◌++◌, length, take, map, sym, ap, ◌∙◌, arith, append_assoc, append-nil, length-append, slice_index}
use Rattle.std.specs.List.{list_any, slice_get, slice_split}
use Rattle.std.specs.Option.{option_map_or}
use Rattle.std.specs.Str.Lines.{lines, lines_of_parts, strip_carriage_return}
use Rattle.std.proofs.lemmas.Bool.{or_parts, eqb-true}
use Rattle.std.proofs.lemmas.List.Elements.{filter-append}
use Rattle.std.proofs.lemmas.List.Folds.{list_any-append}
use Rattle.unit_name.proofs.Cuts.{last_cut_of}
use Rattle.unit_file.specs.declared.install.InstallText.{InstallText}
use Rattle.unit_file.specs.Lines.{is_comment, ends_with, onto_next, joined, joined_lines, stripped}
use Rattle.unit_file.specs.Install.{install_text}
use Rattle.unit_file.specs.Reading.{text_of, is_too_long, has_long_line}
use Rattle.unit_file.specs.Steps.{inside_after, text_after, nothing}
use Rattle.unit_file.specs.Laws.{are_whole_lines, AreReadAlike}
use Rattle.unit_file.proofs.PhysicalLines.{is_lf, lines-seam, lines-first, lines_of_parts-last, slice_split-none}
use Rattle.unit_file.proofs.Joining.{kept}
use Rattle.unit_file.proofs.Folding.{read_from, read-none, read-all}

-- a list ends with what its last part ends with
pub ends_with-cons : (b x y : ℕ) (ys : List ℕ) → ends_with b (x ∷ y ∷ ys) ≡ ends_with b (y ∷ ys)
unfolding ends_with
ends_with-cons b x y ys =
    let place : length (x ∷ y ∷ ys) - 1 ≡ suc (length (y ∷ ys) - 1) = omega arith in
    ap (λ i. option_map_or (λ last. last == b) (slice_get (x ∷ y ∷ ys) i) false) place

pub ends_with-append : (b : ℕ) (xs : List ℕ) (y : ℕ) (ys : List ℕ) → ends_with b (xs ++ y ∷ ys) ≡ ends_with b (y ∷ ys)
ends_with-append b [] y ys = refl
ends_with-append b (x ∷ []) y ys = ends_with-cons b x y ys
ends_with-append b (x ∷ z ∷ xs) y ys = ends_with-cons b x z (xs ++ y ∷ ys) ∙ ends_with-append b (z ∷ xs) y ys

pub ends_with-one : (b x : ℕ) → ends_with b (x ∷ []) ≡ (x == b)
unfolding ends_with
ends_with-one b x = refl

pub ends_with-nil : (b : ℕ) → ends_with b [] ≡ false
unfolding ends_with
ends_with-nil b = refl

-- a line has no LF at its end
ends_with-lf : (line : List ℕ) → list_any is_lf line ≡ false → ends_with 10 line ≡ false
ends_with-lf [] none = ends_with-nil 10
ends_with-lf (b ∷ []) none = ends_with-one 10 b ∙ (or_parts (is_lf b) false none).0
ends_with-lf (b ∷ c ∷ cs) none = ends_with-cons 10 b c cs ∙ ends_with-lf (c ∷ cs) (or_parts (is_lf b) (list_any is_lf (c ∷ cs)) none).1

-- The lines of bytes followed by others are the lines before the last one, and then those of the
-- last line followed by the others.
pub record LastLine (bytes : List ℕ) : Type 0 where
  pub prior : List (List ℕ)
  pub last : List ℕ
  pub none : list_any is_lf last ≡ false
  pub lines_are : (others : List ℕ) → lines (bytes ++ others) ≡ prior ++ lines (last ++ others)
  pub ends : (b : ℕ) → 0 < length last → ends_with b bytes ≡ ends_with b last
  pub whole : are_whole_lines bytes ≡ true → last ≡ []

ends_with-later : (b : ℕ) (before : List ℕ) (x : ℕ) (after : List ℕ) → 0 < length after → ends_with b (before ++ x ∷ after) ≡ ends_with b after
ends_with-later b before x [] some = absurd (omega arith)
ends_with-later b before x (y ∷ ys) some = ends_with-append b before x (y ∷ ys) ∙ ends_with-cons b x y ys

-- bytes that end their last line have an empty rest
whole-later : (bytes before after : List ℕ) → bytes ≡ before ++ 10 ∷ after → list_any is_lf after ≡ false → are_whole_lines bytes ≡ true → after ≡ []
whole-later bytes before [] is none whole = refl
whole-later [] before (y ∷ ys) is none whole = absurd (let long = ap length is ∙ length-append before (10 ∷ y ∷ ys) in omega (arith, long))
whole-later (b ∷ bs) before (y ∷ ys) is none whole = absurd (let both = sym whole ∙ ap (ends_with 10) is ∙ ends_with-later 10 before 10 (y ∷ ys) (omega arith) ∙ ends_with-lf (y ∷ ys) none in cc)

whole-alone : (bytes : List ℕ) → list_any is_lf bytes ≡ false → are_whole_lines bytes ≡ true → bytes ≡ []
whole-alone [] none whole = refl
whole-alone (b ∷ bs) none whole = absurd (let both = sym whole ∙ ends_with-lf (b ∷ bs) none in cc)

pub last_line : (bytes : List ℕ) → LastLine bytes
last_line bytes =
    elim (list_any is_lf bytes) as (λ t. list_any is_lf bytes ≡ t → LastLine bytes) [
      | true ↦ λ any.
          let cut = last_cut_of is_lf bytes any in
          let is : bytes ≡ cut.before ++ 10 ∷ cut.after = cut.is ∙ ap (λ b. cut.before ++ b ∷ cut.after) (eqb-true cut.at 10 cut.passes) in
          record {
            prior = map strip_carriage_return (slice_split is_lf cut.before);
            last = cut.after;
            none = cut.none;
            lines_are = λ others. ap (λ bs. lines (bs ++ others)) is ∙ ap lines (append_assoc cut.before (10 ∷ cut.after) others) ∙ lines-seam cut.before (cut.after ++ others);
            ends = λ b some. ap (ends_with b) is ∙ ends_with-later b cut.before 10 cut.after some;
            whole = whole-later bytes cut.before cut.after is cut.none;
          }
      | false ↦ λ none. record { prior = []; last = bytes; none = none; lines_are = λ others. refl; ends = λ b some. refl; whole = whole-alone bytes none }
    ] refl

-- A line ends after a LF.
pub lines-append : (bytes others : List ℕ) → are_whole_lines bytes ≡ true → lines (bytes ++ others) ≡ lines bytes ++ lines others
lines-append bytes others whole =
    let line = last_line bytes in
    let empty = line.whole whole in
    let prior : lines bytes ≡ line.prior = ap lines (sym (append-nil bytes)) ∙ line.lines_are [] ∙ ap (λ l. line.prior ++ lines (l ++ [])) empty ∙ append-nil line.prior in
    line.lines_are others ∙ ap (λ l. line.prior ++ lines (l ++ others)) empty ∙ ap (λ ls. ls ++ lines others) (sym prior)

-- A LF after the last line has no effect.
is_comment-nil : is_comment [] ≡ false
unfolding is_comment
is_comment-nil = refl

pub joined-one : (line : List ℕ) (rest : List (List ℕ)) → ends_with 92 line ≡ false → joined (line ∷ rest) ≡ line ∷ joined rest
unfolding joined
joined-one line rest ends = rw ends refl

pub joined-more : (line : List ℕ) (rest : List (List ℕ)) → ends_with 92 line ≡ true → joined (line ∷ rest) ≡ onto_next (take (length line - 1) line ++ 32 ∷ []) (joined rest)
unfolding joined
joined-more line rest ends = rw ends refl

pub joined-nil : joined [] ≡ []
unfolding joined
joined-nil = refl

-- the same lines, or one empty line more
abbrev pub IsSameOrMore : List (List ℕ) → List (List ℕ) → Type 0
IsSameOrMore lines others = (others ≡ lines) ⊎ (others ≡ lines ++ [] ∷ [])

onto_next-more : (text : List ℕ) (lines : List (List ℕ)) → IsSameOrMore (onto_next text lines) (onto_next text (lines ++ [] ∷ []))
onto_next-more text [] = inl (ap (λ t. t ∷ []) (append-nil text))
onto_next-more text (line ∷ lines) = inr refl

same_or_more_at : (a b lines others : List (List ℕ)) → a ≡ lines → b ≡ others → IsSameOrMore lines others → IsSameOrMore a b
same_or_more_at a b lines others left right (inl e) = inl (right ∙ e ∙ sym left)
same_or_more_at a b lines others left right (inr e) = inr (right ∙ e ∙ ap (λ ls. ls ++ [] ∷ []) (sym left))

joined-push : (lines : List (List ℕ)) → IsSameOrMore (joined lines) (joined (lines ++ [] ∷ []))
joined-push [] = inr (joined-one [] [] (ends_with-nil 92) ∙ ap (λ ls. [] ∷ ls) joined-nil ∙ ap (λ ls. ls ++ [] ∷ []) (sym joined-nil))
joined-push (line ∷ rest) =
    elim (ends_with 92 line) as (λ t. ends_with 92 line ≡ t → IsSameOrMore (joined (line ∷ rest)) (joined (line ∷ (rest ++ [] ∷ [])))) [
      | true ↦ λ ends.
          let text = take (length line - 1) line ++ 32 ∷ [] in
          same_or_more_at _ _ (onto_next text (joined rest)) (onto_next text (joined (rest ++ [] ∷ []))) (joined-more line rest ends) (joined-more line (rest ++ [] ∷ []) ends)
          (elim (joined-push rest) as (λ _. IsSameOrMore (onto_next text (joined rest)) (onto_next text (joined (rest ++ [] ∷ [])))) [
            | inl e ↦ inl (ap (onto_next text) e)
            | inr e ↦ same_or_more_at _ _ (onto_next text (joined rest)) (onto_next text (joined rest ++ [] ∷ [])) refl (ap (onto_next text) e) (onto_next-more text (joined rest))
          ])
      | false ↦ λ none.
          same_or_more_at _ _ (line ∷ joined rest) (line ∷ joined (rest ++ [] ∷ [])) (joined-one line rest none) (joined-one line (rest ++ [] ∷ []) none)
          (elim (joined-push rest) as (λ _. IsSameOrMore (line ∷ joined rest) (line ∷ joined (rest ++ [] ∷ []))) [
            | inl e ↦ inl (ap (λ ls. line ∷ ls) e)
            | inr e ↦ inr (ap (λ ls. line ∷ ls) e)
          ])
    ] refl

-- what a file asks for, by its joined lines
abbrev pub said : List (List ℕ) → InstallText
said lines = install_text (map stripped lines)

pub alike_from_joined : (one other : List ℕ) → said (joined_lines one) ≡ said (joined_lines other) → list_any is_too_long (joined_lines one) ≡ list_any is_too_long (joined_lines other) → AreReadAlike one other
unfolding text_of has_long_line
alike_from_joined one other text long = record { text = text; long = long }

read-push : (inside : Bool) (text : InstallText) (lines : List (List ℕ)) → read_from inside text (lines ++ [] ∷ []) ≡ read_from inside text lines
read-push inside text [] = read-none inside text []
read-push inside text (line ∷ lines) = read-push (inside_after inside (stripped line)) (text_after inside text (stripped line)) lines

install_text-push : (lines : List (List ℕ)) → install_text (map stripped (lines ++ [] ∷ [])) ≡ install_text (map stripped lines)
install_text-push lines = sym (read-all (lines ++ [] ∷ [])) ∙ read-push false nothing lines ∙ read-all lines

or-false : (b : Bool) → (b || false) ≡ b
or-false true = refl
or-false false = refl

long-push : (lines : List (List ℕ)) → list_any is_too_long (lines ++ [] ∷ []) ≡ list_any is_too_long lines
long-push lines = list_any-append is_too_long lines ([] ∷ []) ∙ or-false (list_any is_too_long lines)

alike-same_or_more : (one other : List ℕ) → IsSameOrMore (joined_lines one) (joined_lines other) → AreReadAlike other one
alike-same_or_more one other (inl e) = alike_from_joined other one (ap said e) (ap (list_any is_too_long) e)
alike-same_or_more one other (inr e) = alike_from_joined other one (ap said e ∙ install_text-push (joined_lines one)) (ap (list_any is_too_long) e ∙ long-push (joined_lines one))

kept-push : (lines : List (List ℕ)) → kept (lines ++ [] ∷ []) ≡ kept lines ++ [] ∷ []
kept-push lines = filter-append (λ line. not (is_comment line)) lines ([] ∷ []) ∙ ap (λ ls. kept lines ++ ls) (let some = is_comment-nil in rw some refl)

-- the last number of a list
last_is : (xs : List ℕ) (b : ℕ) → ends_with b xs ≡ false → 0 < length xs → (slice_index xs (length xs - 1) == b) ≡ false
unfolding ends_with
last_is [] b none some = absurd (omega arith)
last_is (x ∷ []) b none some = none
last_is (x ∷ y ∷ ys) b none some =
    let place : length (x ∷ y ∷ ys) - 1 ≡ suc (length (y ∷ ys) - 1) = omega arith in
    ap (λ i. slice_index (x ∷ y ∷ ys) i == b) place ∙ last_is (y ∷ ys) b (sym (ends_with-cons b x y ys) ∙ none) (omega arith)

-- a line that doesn't end in a CR is the same if a LF follows
strip-same : (line : List ℕ) → ends_with 13 line ≡ false → strip_carriage_return line ≡ line
strip-same [] none = refl
strip-same (b ∷ bs) none = let last = last_is (b ∷ bs) 13 none (omega arith) in rw last refl

lines_at_end : (prior : List (List ℕ)) (last : List ℕ) (before after : List (List ℕ)) → list_any is_lf last ≡ false → before ≡ prior ++ lines last → after ≡ prior ++ strip_carriage_return last ∷ [] → (0 < length last → ends_with 13 last ≡ false) → IsSameOrMore before after
lines_at_end prior [] before after none now then ends = inr (then ∙ ap (λ ls. ls ++ [] ∷ []) (sym (now ∙ append-nil prior)))
lines_at_end prior (b ∷ bs) before after none now then ends =
    let alone : lines (b ∷ bs) ≡ (b ∷ bs) ∷ [] = ap lines_of_parts (slice_split-none (b ∷ bs) none) ∙ lines_of_parts-last (b ∷ bs) (omega arith) in
    inl (then ∙ ap (λ l. prior ++ l ∷ []) (strip-same (b ∷ bs) (ends (omega arith))) ∙ sym (now ∙ ap (λ ls. prior ++ ls) alone))

-- the lines of bytes followed by a LF
lines-push_lf : (bytes : List ℕ) → ends_with 13 bytes ≡ false → IsSameOrMore (lines bytes) (lines (bytes ++ 10 ∷ []))
lines-push_lf bytes none =
    let line = last_line bytes in
    let now : lines bytes ≡ line.prior ++ lines line.last = ap lines (sym (append-nil bytes)) ∙ line.lines_are [] ∙ ap (λ l. line.prior ++ lines l) (append-nil line.last) in
    let then : lines (bytes ++ 10 ∷ []) ≡ line.prior ++ strip_carriage_return line.last ∷ [] = line.lines_are (10 ∷ []) ∙ ap (λ ls. line.prior ++ ls) (lines-first line.last [] line.none) in
    lines_at_end line.prior line.last (lines bytes) (lines (bytes ++ 10 ∷ [])) line.none now then (λ some. sym (line.ends 13 some) ∙ none)

kept-same_or_more : (before after : List (List ℕ)) → IsSameOrMore before after → IsSameOrMore (kept before) (kept after)
kept-same_or_more before after (inl e) = inl (ap kept e)
kept-same_or_more before after (inr e) = inr (ap kept e ∙ kept-push before)

joined-same_or_more : (before after : List (List ℕ)) → IsSameOrMore before after → IsSameOrMore (joined before) (joined after)
joined-same_or_more before after (inl e) = inl (ap joined e)
joined-same_or_more before after (inr e) = same_or_more_at _ _ (joined before) (joined (before ++ [] ∷ [])) refl (ap joined e) (joined-push before)

pub alike-push_lf : (bytes : List ℕ) → ends_with 13 bytes ≡ false → AreReadAlike (bytes ++ 10 ∷ []) bytes
alike-push_lf bytes none =
    let kept_lines = kept-same_or_more (lines bytes) (lines (bytes ++ 10 ∷ [])) (lines-push_lf bytes none) in
    alike-same_or_more bytes (bytes ++ 10 ∷ []) (joined-same_or_more (kept (lines bytes)) (kept (lines (bytes ++ 10 ∷ []))) kept_lines)
