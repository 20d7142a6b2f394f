-- The words of a text, as a relation and as they are read.
use Rattle.std.proofs.Common.{◌≡◌, refl, ℕ, true, false, not, cond, List, [], ◌∷◌, ◌++◌, length, sym, ap, ◌∙◌, subst, arith, append_assoc, append-nil}
use Rattle.std.specs.List.{list_any, filter, slice_split, onto_first}
use Rattle.std.proofs.lemmas.Bool.{or_parts, or_from, ne_eqb}
use Rattle.std.proofs.lemmas.List.Splits.{slice_split-cons_yes, slice_split-cons_no}
use Rattle.unit_file.specs.Lines.{is_blank, stripped}
use Rattle.unit_file.specs.Install.{is_empty, words}
use Rattle.line_laws.specs.Blanks.{AreBlanks, IsWord, EndsWord, AreWordsOf}
use Rattle.line_laws.specs.Blanks.AreWordsOf.{NoWord, OneMore}
use Rattle.line_laws.proofs.Stripping.{blanks-cons, blanks-parts, blanks-append, stripped_is}

-- the parts that aren't empty
abbrev some : List (List ℕ) → List (List ℕ)
some parts = filter (λ word. not (is_empty word)) parts

some-cons : (b : ℕ) (bs : List ℕ) (parts : List (List ℕ)) → some ((b ∷ bs) ∷ parts) ≡ (b ∷ bs) ∷ some parts
some-cons b bs parts =
    let full : is_empty (b ∷ bs) ≡ false = ne_eqb (length (b ∷ bs)) 0 (λ none. absurd (omega arith)) in
    ap (λ t. cond (not t) ((b ∷ bs) ∷ some parts) (some parts)) full

-- More blanks, before and after.
pub more_blank : (b : ℕ) (text : List ℕ) (ws : List (List ℕ)) → is_blank b ≡ true → AreWordsOf text ws → AreWordsOf (b ∷ text) ws
more_blank b text ws blank (NoWord all are) = NoWord (b ∷ all) (blanks-cons b all blank are)
more_blank b text ws blank (OneMore all blanks word rest words is are word_is ends more) =
    OneMore (b ∷ all) (b ∷ blanks) word rest words (ap (λ l. b ∷ l) is) (blanks-cons b blanks blank are) word_is ends more

pub ends-append : (rest after : List ℕ) → EndsWord rest → AreBlanks after → EndsWord (rest ++ after)
ends-append [] [] ends are = tt
ends-append [] (b ∷ bs) ends are = (blanks-parts b bs are).0
ends-append (b ∷ rest) after ends are = ends

blanks_after : (after : List ℕ) → AreBlanks after → (text : List ℕ) (ws : List (List ℕ)) → AreWordsOf text ws → AreWordsOf (text ++ after) ws
blanks_after after blank text ws (NoWord all are) = NoWord (all ++ after) (blanks-append all after are blank)
blanks_after after blank text ws (OneMore all blanks word rest words is are word_is ends more) =
    OneMore (all ++ after) blanks word (rest ++ after) words (ap (λ l. l ++ after) is ∙ append_assoc (blanks ++ word) rest after) are word_is (ends-append rest after ends blank) (blanks_after after blank rest words more)

-- What is before the first blank, and what follows that.
pub record IsCut (text : List ℕ) : Type 0 where
  pub first : List ℕ
  pub rest : List ℕ
  pub more : List (List ℕ)
  pub is : text ≡ first ++ rest
  pub split : slice_split is_blank text ≡ first ∷ more
  pub no_blank : list_any is_blank first ≡ false
  pub ends : EndsWord rest
  pub words : AreWordsOf rest (some more)

with_first : (text first rest : List ℕ) (more : List (List ℕ)) → text ≡ first ++ rest → list_any is_blank first ≡ false → EndsWord rest → AreWordsOf rest (some more) → AreWordsOf text (some (first ∷ more))
with_first text [] rest more is none ends words = subst (λ t. AreWordsOf t (some more)) (sym is) words
with_first text (b ∷ bs) rest more is none ends words =
    subst (AreWordsOf text) (sym (some-cons b bs more)) (OneMore text [] (b ∷ bs) rest (some more) is refl (omega arith, none) ends words)

words_of_cut : (text : List ℕ) → IsCut text → AreWordsOf text (some (slice_split is_blank text))
words_of_cut text cut = subst (λ parts. AreWordsOf text (some parts)) (sym cut.split) (with_first text cut.first cut.rest cut.more cut.is cut.no_blank cut.ends cut.words)

pub cut_of : (text : List ℕ) → IsCut text
cut_of [] = record { first = []; rest = []; more = []; is = refl; split = refl; no_blank = refl; ends = tt; words = NoWord [] refl }
cut_of (b ∷ bs) =
    let cut = cut_of bs in
    elim (is_blank b) as (λ t. is_blank b ≡ t → IsCut (b ∷ bs)) [
      | true ↦ λ blank. record {
        first = [];
        rest = b ∷ bs;
        more = slice_split is_blank bs;
        is = refl;
        split = slice_split-cons_yes is_blank b bs blank;
        no_blank = refl;
        ends = blank;
        words = more_blank b bs (some (slice_split is_blank bs)) blank (words_of_cut bs cut);
      }
      | false ↦ λ other. record {
        first = b ∷ cut.first;
        rest = cut.rest;
        more = cut.more;
        is = ap (λ l. b ∷ l) cut.is;
        split = slice_split-cons_no is_blank b bs other ∙ ap (onto_first b) cut.split;
        no_blank = or_from (is_blank b) (list_any is_blank cut.first) other cut.no_blank;
        ends = cut.ends;
        words = cut.words;
      }
    ] refl

-- The words that are read are the text's.
pub words_are : (text : List ℕ) → AreWordsOf text (words text)
unfolding words
words_are text = words_of_cut text (cut_of text)

-- And there are no others.
words-blank : (b : ℕ) (text : List ℕ) → is_blank b ≡ true → words (b ∷ text) ≡ words text
unfolding words
words-blank b text blank = ap some (slice_split-cons_yes is_blank b text blank)

words-blanks : (before text : List ℕ) → AreBlanks before → words (before ++ text) ≡ words text
words-blanks [] text are = refl
words-blanks (b ∷ bs) text are = let parts = blanks-parts b bs are in words-blank b (bs ++ text) parts.0 ∙ words-blanks bs text parts.1

words-nil : words [] ≡ []
unfolding words
words-nil = refl

-- how a word and what follows it are split
record IsSplit (word rest : List ℕ) : Type 0 where
  more : List (List ℕ)
  is : slice_split is_blank (word ++ rest) ≡ word ∷ more
  same : some more ≡ some (slice_split is_blank rest)

split_at : (word rest : List ℕ) → list_any is_blank word ≡ false → EndsWord rest → IsSplit word rest
split_at [] [] none ends = record { more = []; is = refl; same = refl }
split_at [] (b ∷ bs) none ends = record { more = slice_split is_blank bs; is = slice_split-cons_yes is_blank b bs ends; same = sym (ap some (slice_split-cons_yes is_blank b bs ends)) }
split_at (x ∷ xs) rest none ends =
    let parts = or_parts (is_blank x) (list_any is_blank xs) none in
    let later = split_at xs rest parts.1 ends in
    record { more = later.more; is = slice_split-cons_no is_blank x (xs ++ rest) parts.0 ∙ ap (onto_first x) later.is; same = later.same }

pub words-word : (word rest : List ℕ) → IsWord word → EndsWord rest → words (word ++ rest) ≡ word ∷ words rest
unfolding words
words-word [] rest word_is ends = absurd (let some = word_is.0 in omega arith)
words-word (b ∷ bs) rest word_is ends =
    let split = split_at (b ∷ bs) rest word_is.1 ends in
    ap some split.is ∙ some-cons b bs split.more ∙ ap (λ l. (b ∷ bs) ∷ l) split.same

pub words_same : (text : List ℕ) (ws : List (List ℕ)) → AreWordsOf text ws → words text ≡ ws
words_same text ws (NoWord all are) = ap words (sym (append-nil all)) ∙ words-blanks all [] are ∙ words-nil
words_same text ws (OneMore all blanks word rest more is are word_is ends later) =
    ap words (is ∙ append_assoc blanks word rest) ∙ words-blanks blanks (word ++ rest) are ∙ words-word word rest word_is ends ∙ ap (λ l. word ∷ l) (words_same rest more later)

-- Blanks around a text make no difference.
pub words-stripped : (text : List ℕ) → words (stripped text) ≡ words text
words-stripped text =
    let core = stripped text in
    let w = stripped_is text in
    sym (
    ap words (w.is ∙ append_assoc w.before core w.after)
    ∙ words-blanks w.before (core ++ w.after) w.blanks_before
    ∙ words_same (core ++ w.after) (words core) (blanks_after w.after w.blanks_after core (words core) (words_are core))
    )
