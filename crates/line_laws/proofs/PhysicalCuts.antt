-- The physical lines of a file, as a relation and as they are read.
use Rattle.std.proofs.Common.{◌≡◌, ◌≢◌, refl, ℕ, zero, suc, ◌-◌, ◌<◌, ◌≤◌, ◌==◌, ◌||◌, Bool, true, false, cond, List, [], ◌∷◌, ◌++◌, length, take, sym, ap, ◌∙◌, subst, arith, append_assoc, length-append, slice_index}
use Rattle.std.specs.List.{list_any}
use Rattle.std.specs.Str.Lines.{lines, lines_of_parts, strip_carriage_return}
use Rattle.std.proofs.lemmas.Bool.{or_parts, eqb-true, eq-eqb, ne_eqb}
use Rattle.std.proofs.lemmas.List.{get_or_at, take_at}
use Rattle.std.proofs.lemmas.List.Folds.{list_any-append}
use Rattle.unit_name.proofs.Cuts.{first_cut_of}
use Rattle.unit_file.specs.Lines.{ends_with}
use Rattle.unit_file.proofs.PhysicalLines.{lines-first, slice_split-none, lines_of_parts-last}
use Rattle.unit_file.proofs.Endings.{ends_with-append, ends_with-one, ends_with-nil}
use Rattle.line_laws.specs.FileLines.{is_line_feed, DoesNotEndIn, AreLinesOf}
use Rattle.line_laws.specs.FileLines.AreLinesOf.{NoLine, LastLine, EndsAtLineFeed, EndsAtReturn}
use Rattle.line_laws.proofs.Stripping.{has_last}

-- The last byte of a text.
pub ends-last : (b : ℕ) (front : List ℕ) (x : ℕ) → ends_with b (front ++ x ∷ []) ≡ (x == b)
ends-last b front x = ends_with-append b front x [] ∙ ends_with-one b x

pub ends_not : (b : ℕ) (text : List ℕ) → DoesNotEndIn b text → ends_with b text ≡ false
ends_not b [] not_last = ends_with-nil b
ends_not b (c ∷ cs) not_last =
    let end = has_last c cs in
    ap (ends_with b) end.is ∙ ends-last b end.front end.last ∙ ne_eqb end.last b (λ same. not_last end.front (end.is ∙ ap (λ x. end.front ++ x ∷ []) same))

pub not_last : (b : ℕ) (text : List ℕ) → ends_with b text ≡ false → DoesNotEndIn b text
not_last b text ends front is =
    let here : ends_with b text ≡ (b == b) = ap (ends_with b) is ∙ ends-last b front b in
    let same : (b == b) ≡ true = eq-eqb b b refl in
    let both : false ≡ true = sym ends ∙ here ∙ same in
    cc

-- a text that ends in a byte is another one with this byte after it
pub record Before (b : ℕ) (text : List ℕ) : Type 0 where
  pub front : List ℕ
  pub is : text ≡ front ++ b ∷ []

pub before_last : (b : ℕ) (text : List ℕ) → ends_with b text ≡ true → Before b text
before_last b [] ends = absurd (let both = sym ends ∙ ends_with-nil b in cc)
before_last b (c ∷ cs) ends =
    let end = has_last c cs in
    let same : (end.last == b) ≡ true = sym (ends-last b end.front end.last) ∙ ap (ends_with b) (sym end.is) ∙ ends in
    record { front = end.front; is = end.is ∙ ap (λ x. end.front ++ x ∷ []) (eqb-true end.last b same) }

-- A CR at the end of a line.
strip-last : (front : List ℕ) (x : ℕ) → strip_carriage_return (front ++ x ∷ []) ≡ cond (x == 13) front (front ++ x ∷ [])
strip-last front x =
    let ended = front ++ x ∷ [] in
    let len : length ended - 1 ≡ length front = omega (arith, length-append front (x ∷ [])) in
    let last : slice_index ended (length ended - 1) ≡ x = ap (slice_index ended) len ∙ get_or_at front x [] 0 (length front) refl in
    let fore : take (length ended - 1) ended ≡ front = ap (λ n. take n ended) len ∙ take_at front (x ∷ []) (length front) refl in
    ap (λ y. cond (y == 13) (take (length ended - 1) ended) ended) last ∙ ap (λ l. cond (x == 13) l ended) fore

strip-return : (front : List ℕ) → strip_carriage_return (front ++ 13 ∷ []) ≡ front
strip-return front = strip-last front 13

strip-other : (line : List ℕ) → DoesNotEndIn 13 line → strip_carriage_return line ≡ line
strip-other [] other = refl
strip-other (b ∷ bs) other =
    let end = has_last b bs in
    let differs : (end.last == 13) ≡ false = ne_eqb end.last 13 (λ same. other end.front (end.is ∙ ap (λ x. end.front ++ x ∷ []) same)) in
    ap strip_carriage_return end.is ∙ strip-last end.front end.last ∙ ap (λ t. cond t end.front (end.front ++ end.last ∷ [])) differs ∙ sym end.is

or-false : (b : Bool) → (b || false) ≡ b
or-false true = refl
or-false false = refl

none-push : (line : List ℕ) → list_any is_line_feed line ≡ false → list_any is_line_feed (line ++ 13 ∷ []) ≡ false
none-push line none = list_any-append is_line_feed line (13 ∷ []) ∙ or-false (list_any is_line_feed line) ∙ none

none-front : (front : List ℕ) (x : ℕ) → list_any is_line_feed (front ++ x ∷ []) ≡ false → list_any is_line_feed front ≡ false
none-front front x none = (or_parts (list_any is_line_feed front) (list_any is_line_feed (x ∷ [])) (sym (list_any-append is_line_feed front (x ∷ [])) ∙ none)).0

last_alone : (line : List ℕ) → 0 < length line → list_any is_line_feed line ≡ false → lines line ≡ line ∷ []
last_alone line some none = ap lines_of_parts (slice_split-none line none) ∙ lines_of_parts-last line some

-- The lines that are read are those of the bytes.
one_line : (bytes before rest : List ℕ) → bytes ≡ before ++ 10 ∷ rest → list_any is_line_feed before ≡ false → (ls : List (List ℕ)) → AreLinesOf rest ls → AreLinesOf bytes (strip_carriage_return before ∷ ls)
one_line bytes before rest is none ls more =
    elim (ends_with 13 before) as (λ t. ends_with 13 before ≡ t → AreLinesOf bytes (strip_carriage_return before ∷ ls)) [
      | true ↦ λ ends.
          let cut = before_last 13 before ends in
          let line = cut.front in
          let stripped : strip_carriage_return before ≡ line = ap strip_carriage_return cut.is ∙ strip-return line in
          let there : bytes ≡ line ++ (13 ∷ 10 ∷ []) ++ rest = is ∙ ap (λ l. l ++ 10 ∷ rest) cut.is ∙ append_assoc line (13 ∷ []) (10 ∷ rest) ∙ sym (append_assoc line (13 ∷ 10 ∷ []) rest) in
          subst (λ l. AreLinesOf bytes (l ∷ ls)) (sym stripped) (EndsAtReturn bytes line rest ls there (none-front line 13 (subst (λ l. list_any is_line_feed l ≡ false) cut.is none)) more)
      | false ↦ λ other.
          let unlike = not_last 13 before other in
          subst (λ l. AreLinesOf bytes (l ∷ ls)) (sym (strip-other before unlike)) (EndsAtLineFeed bytes before rest ls (is ∙ sym (append_assoc before (10 ∷ []) rest)) none unlike more)
    ] refl

lines_from : (fuel : ℕ) (bytes : List ℕ) → length bytes ≤ fuel → AreLinesOf bytes (lines bytes)
lines_from fuel [] short = NoLine
lines_from zero (b ∷ bs) short = absurd (omega arith)
lines_from (suc fuel) (b ∷ bs) short =
    let bytes = b ∷ bs in
    elim (list_any is_line_feed bytes) as (λ t. list_any is_line_feed bytes ≡ t → AreLinesOf bytes (lines bytes)) [
      | true ↦ λ any.
          let cut = first_cut_of is_line_feed bytes any in
          let is : bytes ≡ cut.before ++ 10 ∷ cut.after = cut.is ∙ ap (λ x. cut.before ++ x ∷ cut.after) (eqb-true cut.at 10 cut.passes) in
          let len = ap length is ∙ length-append cut.before (10 ∷ cut.after) in
          let read : lines bytes ≡ strip_carriage_return cut.before ∷ lines cut.after = ap lines is ∙ lines-first cut.before cut.after cut.none in
          subst (AreLinesOf bytes) (sym read) (one_line bytes cut.before cut.after is cut.none (lines cut.after) (lines_from fuel cut.after (omega (arith, len))))
      | false ↦ λ none. subst (AreLinesOf bytes) (sym (last_alone bytes (omega arith) none)) (LastLine bytes (λ nil. cc) none)
    ] refl

pub lines_are : (bytes : List ℕ) → AreLinesOf bytes (lines bytes)
lines_are bytes = lines_from (length bytes) bytes (omega arith)

-- And there are no others.
full : (line : List ℕ) → line ≢ [] → 0 < length line
full [] some = absurd (some refl)
full (b ∷ bs) some = omega arith

pub lines_same : (bytes : List ℕ) (ls : List (List ℕ)) → AreLinesOf bytes ls → lines bytes ≡ ls
lines_same bytes ls NoLine = refl
lines_same bytes ls (LastLine line some none) = last_alone line (full line some) none
lines_same bytes ls (EndsAtLineFeed all line rest more is none other later) =
    ap lines (is ∙ append_assoc line (10 ∷ []) rest) ∙ lines-first line rest none ∙ ap (λ l. l ∷ lines rest) (strip-other line other) ∙ ap (λ l. line ∷ l) (lines_same rest more later)
lines_same bytes ls (EndsAtReturn all line rest more is none later) =
    ap lines (is ∙ append_assoc line (13 ∷ 10 ∷ []) rest ∙ sym (append_assoc line (13 ∷ []) (10 ∷ rest)))
    ∙ lines-first (line ++ 13 ∷ []) rest (none-push line none)
    ∙ ap (λ l. l ∷ lines rest) (strip-return line)
    ∙ ap (λ l. line ∷ l) (lines_same rest more later)
