-- The joined and the logical lines of a file, as relations and as they are read.
use Rattle.std.proofs.Common.{◌≡◌, ◌≢◌, ◌⊎◌, inl, inr, refl, ℕ, ◌-◌, ◌==◌, ◌||◌, Bool, true, false, not, cond, List, [], ◌∷◌, ◌++◌, length, take, map, sym, ap, ◌∙◌, subst, arith, append_assoc, append-nil, length-append, Some}
use Rattle.std.specs.List.{AllZip, find, flat_map}
use Rattle.std.specs.Option.{option_map_or}
use Rattle.std.specs.Str.Lines.{lines}
use Rattle.std.proofs.lemmas.Bool.{or_cases, eqb-true, false_from_ne_true}
use Rattle.std.proofs.Math.Seq.{take-append_seam}
use Rattle.unit_file.specs.Lines.{is_blank, stripped, is_comment, ends_with, onto_next, joined, joined_lines, logical_lines}
use Rattle.unit_file.proofs.Joining.{kept}
use Rattle.unit_file.proofs.Endings.{joined-one, joined-more, joined-nil}
use Rattle.line_laws.specs.Blanks.{AreBlanks, IsStrippedTo}
use Rattle.line_laws.specs.FileLines.{DoesNotEndIn, AreLinesOf, IsComment, AreKept, continued, spaced, AreJoined, AreJoinedLinesOf, AreLogicalLinesOf, LinesAreJoined}
use Rattle.line_laws.specs.FileLines.AreKept.{NoMore, Comment, Other}
use Rattle.line_laws.specs.FileLines.AreJoined.{NoneLeft, OneJoined, LastOpen}
use Rattle.line_laws.proofs.Stripping.{blanks-cons, blanks-parts, stripped_from, stripped_is}
use Rattle.line_laws.proofs.PhysicalCuts.{ends-last, ends_not, not_last, before_last, lines_are, lines_same}

-- Comments.
abbrev marks : ℕ → Bool
marks b = b == 35 || b == 59

later_mark : (b : ℕ) (bs : List ℕ) → is_blank b ≡ true → is_comment (b ∷ bs) ≡ is_comment bs
unfolding is_comment
later_mark b bs blank = ap (λ t. option_map_or marks (cond (not t) (Some b) (find (λ b. not (is_blank b)) bs)) false) blank

this_mark : (b : ℕ) (bs : List ℕ) → is_blank b ≡ false → is_comment (b ∷ bs) ≡ marks b
unfolding is_comment
this_mark b bs other = ap (λ t. option_map_or marks (cond (not t) (Some b) (find (λ b. not (is_blank b)) bs)) false) other

comment_nil : is_comment [] ≡ false
unfolding is_comment
comment_nil = refl

comment_from : (line : List ℕ) → is_comment line ≡ true → IsComment line
comment_from [] is = absurd (let both = sym is ∙ comment_nil in cc)
comment_from (b ∷ bs) is =
    elim (is_blank b) as (λ t. is_blank b ≡ t → IsComment (b ∷ bs)) [
      | true ↦ λ blank.
          let rest = comment_from bs (sym (later_mark b bs blank) ∙ is) in
          record { blanks = b ∷ rest.blanks; mark = rest.mark; rest = rest.rest; is = ap (λ l. b ∷ l) rest.is; are_blanks = blanks-cons b rest.blanks blank rest.are_blanks; marks = rest.marks }
      | false ↦ λ other.
          let here : marks b ≡ true = sym (this_mark b bs other) ∙ is in
          record {
            blanks = [];
            mark = b;
            rest = bs;
            is = refl;
            are_blanks = refl;
            marks = elim (or_cases (b == 35) (b == 59) here) as (λ _. (b ≡ 35) ⊎ (b ≡ 59)) [ inl hash ↦ inl (eqb-true b 35 hash) | inr semicolon ↦ inr (eqb-true b 59 semicolon) ];
          }
    ] refl

by_mark : (mark : ℕ) (rest : List ℕ) → (mark ≡ 35) ⊎ (mark ≡ 59) → is_comment (mark ∷ rest) ≡ true
by_mark mark rest (inl hash) = ap (λ m. is_comment (m ∷ rest)) hash ∙ this_mark 35 rest refl
by_mark mark rest (inr semicolon) = ap (λ m. is_comment (m ∷ rest)) semicolon ∙ this_mark 59 rest refl

behind_blanks : (blanks : List ℕ) (mark : ℕ) (rest : List ℕ) → AreBlanks blanks → (mark ≡ 35) ⊎ (mark ≡ 59) → is_comment (blanks ++ mark ∷ rest) ≡ true
behind_blanks [] mark rest are marks = by_mark mark rest marks
behind_blanks (b ∷ bs) mark rest are marks = let parts = blanks-parts b bs are in later_mark b (bs ++ mark ∷ rest) parts.0 ∙ behind_blanks bs mark rest parts.1 marks

comment_to : (line : List ℕ) → IsComment line → is_comment line ≡ true
comment_to line c = ap is_comment c.is ∙ behind_blanks c.blanks c.mark c.rest c.are_blanks c.marks

kept_are : (ls : List (List ℕ)) → AreKept ls (kept ls)
kept_are [] = NoMore
kept_are (line ∷ ls) =
    let more = kept_are ls in
    elim (is_comment line) as (λ t. is_comment line ≡ t → AreKept (line ∷ ls) (cond (not t) (line ∷ kept ls) (kept ls))) [
      | true ↦ λ is. Comment line ls (kept ls) (comment_from line is) more
      | false ↦ λ other. Other line ls (kept ls) (λ comment. let both = sym other ∙ comment_to line comment in cc) more
    ] refl

no_comment : (line : List ℕ) → ¬ IsComment line → is_comment line ≡ false
no_comment line none = false_from_ne_true (is_comment line) (λ is. none (comment_from line is))

kept_same : (ls ks : List (List ℕ)) → AreKept ls ks → kept ls ≡ ks
kept_same ls ks NoMore = refl
kept_same ls ks (Comment line lines ks' is more) = ap (λ t. cond (not t) (line ∷ kept lines) (kept lines)) (comment_to line is) ∙ kept_same lines ks' more
kept_same ls ks (Other line lines ks' other more) = ap (λ t. cond (not t) (line ∷ kept lines) (kept lines)) (no_comment line other) ∙ ap (λ l. line ∷ l) (kept_same lines ks' more)

-- A line that continues, before others.
joined_on : (text : List ℕ) (rest : List (List ℕ)) → joined (continued text ∷ rest) ≡ onto_next (spaced text) (joined rest)
joined_on text rest =
    let line = text ++ 92 ∷ [] in
    let len : length line - 1 ≡ length text = omega (arith, length-append text (92 ∷ [])) in
    let front : take (length line - 1) line ≡ text = ap (λ n. take n line) len ∙ take-append_seam text (92 ∷ []) in
    joined-more line rest (ends-last 92 text 92) ∙ ap (λ t. onto_next (t ++ 32 ∷ []) (joined rest)) front

-- What is related is what is joined.
joined_block : (texts : List (List ℕ)) (last : List ℕ) (rest : List (List ℕ)) → DoesNotEndIn 92 last → joined ((map continued texts ++ last ∷ []) ++ rest) ≡ (flat_map spaced texts ++ last) ∷ joined rest
joined_block [] last rest ends = joined-one last rest (ends_not 92 last ends)
joined_block (text ∷ texts) last rest ends =
    joined_on text ((map continued texts ++ last ∷ []) ++ rest)
    ∙ ap (onto_next (spaced text)) (joined_block texts last rest ends)
    ∙ ap (λ l. l ∷ joined rest) (sym (append_assoc (spaced text) (flat_map spaced texts) last))

joined_open : (text : List ℕ) (texts : List (List ℕ)) → joined (map continued (text ∷ texts)) ≡ flat_map spaced (text ∷ texts) ∷ []
joined_open text [] = joined_on text [] ∙ ap (onto_next (spaced text)) joined-nil ∙ ap (λ l. l ∷ []) (sym (append-nil (spaced text)))
joined_open text (next ∷ texts) = joined_on text (map continued (next ∷ texts)) ∙ ap (onto_next (spaced text)) (joined_open next texts)

joined_left : (texts : List (List ℕ)) → texts ≢ [] → joined (map continued texts) ≡ flat_map spaced texts ∷ []
joined_left [] some = absurd (some refl)
joined_left (text ∷ texts) some = joined_open text texts

joined_same : (ls js : List (List ℕ)) → AreJoined ls js → joined ls ≡ js
joined_same ls js NoneLeft = joined-nil
joined_same ls js (OneJoined lines these rest line more is to later) =
    ap joined (is ∙ ap (λ l. l ++ rest) to.are)
    ∙ joined_block to.texts to.last rest to.ends
    ∙ ap (λ l. l ∷ joined rest) (sym to.is)
    ∙ ap (λ l. line ∷ l) (joined_same rest more later)
joined_same ls js (LastOpen lines line left) = ap joined left.are ∙ joined_left left.texts left.some ∙ ap (λ l. l ∷ []) (sym left.is)

-- What is joined is related.
carry : (text : List ℕ) (rest js : List (List ℕ)) → AreJoined rest js → AreJoined (continued text ∷ rest) (onto_next (spaced text) js)
carry text rest js NoneLeft = LastOpen (continued text ∷ []) (spaced text) (record { texts = text ∷ []; some = λ none. cc; are = refl; is = sym (append-nil (spaced text)) })
carry text rest js (OneJoined lines these more line joined is to later) =
    OneJoined (continued text ∷ lines) (continued text ∷ these) more (spaced text ++ line) joined (ap (λ l. continued text ∷ l) is) (record {
      texts = text ∷ to.texts;
      last = to.last;
      are = ap (λ l. continued text ∷ l) to.are;
      ends = to.ends;
      is = ap (λ l. spaced text ++ l) to.is ∙ sym (append_assoc (spaced text) (flat_map spaced to.texts) to.last);
    }) later
carry text rest js (LastOpen lines line left) =
    LastOpen (continued text ∷ lines) (spaced text ++ line) (record { texts = text ∷ left.texts; some = λ none. cc; are = ap (λ l. continued text ∷ l) left.are; is = ap (λ l. spaced text ++ l) left.is })

joined_are : (ls : List (List ℕ)) → AreJoined ls (joined ls)
joined_are [] = subst (AreJoined []) (sym joined-nil) NoneLeft
joined_are (line ∷ rest) =
    let more = joined_are rest in
    elim (ends_with 92 line) as (λ t. ends_with 92 line ≡ t → AreJoined (line ∷ rest) (joined (line ∷ rest))) [
      | true ↦ λ ends.
          let cut = before_last 92 line ends in
          let text = cut.front in
          subst (λ l. AreJoined (l ∷ rest) (joined (l ∷ rest))) (sym cut.is) (subst (AreJoined (continued text ∷ rest)) (sym (joined_on text rest)) (carry text rest (joined rest) more))
      | false ↦ λ other.
          subst (AreJoined (line ∷ rest)) (sym (joined-one line rest other)) (OneJoined (line ∷ rest) (line ∷ []) rest line (joined rest) refl (record { texts = []; last = line; are = refl; ends = not_last 92 line other; is = refl }) more)
    ] refl

-- All of it.
pub joined_lines_are : (bytes : List ℕ) → AreJoinedLinesOf bytes (joined_lines bytes)
joined_lines_are bytes = record { physical = lines bytes; kept = kept (lines bytes); are_lines = lines_are bytes; are_kept = kept_are (lines bytes); are_joined = joined_are (kept (lines bytes)) }

pub joined_lines_same : (bytes : List ℕ) (ls : List (List ℕ)) → AreJoinedLinesOf bytes ls → joined_lines bytes ≡ ls
joined_lines_same bytes ls are =
    ap (λ p. joined (kept p)) (lines_same bytes are.physical are.are_lines) ∙ ap joined (kept_same are.physical are.kept are.are_kept) ∙ joined_same are.kept ls are.are_joined

bare_are : (ls : List (List ℕ)) → AllZip IsStrippedTo ls (map stripped ls)
bare_are [] = tt
bare_are (line ∷ ls) = (stripped_is line, bare_are ls)

bare_same : (ls bare : List (List ℕ)) → AllZip IsStrippedTo ls bare → map stripped ls ≡ bare
bare_same [] [] are = refl
bare_same [] (core ∷ bare) are = absurd are
bare_same (line ∷ ls) [] are = absurd are
bare_same (line ∷ ls) (core ∷ bare) are = (λ i. stripped_from line core are.0 i ∷ bare_same ls bare are.1 i)

pub logical_are : (bytes : List ℕ) → AreLogicalLinesOf bytes (logical_lines bytes)
logical_are bytes = record { joined = joined_lines bytes; are_joined = joined_lines_are bytes; are_bare = bare_are (joined_lines bytes) }

pub logical_same : (bytes : List ℕ) (ls : List (List ℕ)) → AreLogicalLinesOf bytes ls → logical_lines bytes ≡ ls
logical_same bytes ls are = ap (map stripped) (joined_lines_same bytes are.joined are.are_joined) ∙ bare_same are.joined ls are.are_bare

pub lines_joined : LinesAreJoined
lines_joined = record {
  physical = λ bytes ls. (λ is. subst (AreLinesOf bytes) is (lines_are bytes), lines_same bytes ls);
  joined = λ bytes ls. (λ is. subst (AreJoinedLinesOf bytes) is (joined_lines_are bytes), joined_lines_same bytes ls);
  logical = λ bytes ls. (λ is. subst (AreLogicalLinesOf bytes) is (logical_are bytes), logical_same bytes ls);
}
