-- A text without the blanks around it is what is left of it when it is stripped.
use Rattle.std.proofs.Common.{◌≡◌, refl, ℕ, ◌+◌, ◌-◌, suc, true, false, cond, List, [], ◌∷◌, ◌++◌, length, take, drop, sym, ap, ◌∙◌, subst, arith, append_assoc, append-nil, length-append}
use Rattle.std.specs.List.{list_all, prefix_len, suffix_len}
use Rattle.std.proofs.lemmas.Bool.{and_from, and_parts}
use Rattle.std.proofs.lemmas.List.{take-append-le, reverse-append}
use Rattle.std.proofs.Math.Seq.{take-length}
use Rattle.unit_file.specs.Lines.{is_blank, without_leading, without_trailing, stripped}
use Rattle.line_laws.specs.Blanks.{AreBlanks, IsBare, IsStrippedTo}

-- Lists by their last element.
pub same_last : (xs ys : List ℕ) (x y : ℕ) → xs ++ x ∷ [] ≡ ys ++ y ∷ [] → x ≡ y
same_last [] [] x y e = cc
same_last [] (b ∷ ys) x y e = absurd (omega (arith, ap length e, length-append ys (y ∷ [])))
same_last (a ∷ xs) [] x y e = absurd (omega (arith, ap length e, length-append xs (x ∷ [])))
same_last (a ∷ xs) (b ∷ ys) x y e = same_last xs ys x y cc

pub record HasLast (text : List ℕ) : Type 0 where
  pub front : List ℕ
  pub last : ℕ
  pub is : text ≡ front ++ last ∷ []

pub has_last : (b : ℕ) (bs : List ℕ) → HasLast (b ∷ bs)
has_last b [] = record { front = []; last = b; is = refl }
has_last b (c ∷ cs) = let rest = has_last c cs in record { front = b ∷ rest.front; last = rest.last; is = ap (λ l. b ∷ l) rest.is }

-- Blanks.
pub blanks-cons : (b : ℕ) (bs : List ℕ) → is_blank b ≡ true → AreBlanks bs → AreBlanks (b ∷ bs)
blanks-cons b bs blank blanks = and_from (is_blank b) (list_all is_blank bs) blank blanks

pub blanks-parts : (b : ℕ) (bs : List ℕ) → AreBlanks (b ∷ bs) → (is_blank b ≡ true) × AreBlanks bs
blanks-parts b bs blanks = and_parts (is_blank b) (list_all is_blank bs) blanks

pub blanks-append : (one other : List ℕ) → AreBlanks one → AreBlanks other → AreBlanks (one ++ other)
blanks-append [] other blanks more = more
blanks-append (b ∷ bs) other blanks more = let parts = blanks-parts b bs blanks in blanks-cons b (bs ++ other) parts.0 (blanks-append bs other parts.1 more)

-- Blanks before a text.
pub leading-blank : (b : ℕ) (text : List ℕ) → is_blank b ≡ true → without_leading (b ∷ text) ≡ without_leading text
leading-blank b text blank =
    let one : 1 + prefix_len is_blank text ≡ suc (prefix_len is_blank text) = omega arith in
    ap (λ t. drop (cond t (1 + prefix_len is_blank text) 0) (b ∷ text)) blank ∙ ap (λ n. drop n (b ∷ text)) one

pub leading-blanks : (before text : List ℕ) → AreBlanks before → without_leading (before ++ text) ≡ without_leading text
leading-blanks [] text blanks = refl
leading-blanks (b ∷ bs) text blanks = let parts = blanks-parts b bs blanks in leading-blank b (bs ++ text) parts.0 ∙ leading-blanks bs text parts.1

leading-none : (b : ℕ) (text : List ℕ) → is_blank b ≡ false → without_leading (b ∷ text) ≡ b ∷ text
leading-none b text other = ap (λ t. drop (cond t (1 + prefix_len is_blank text) 0) (b ∷ text)) other

-- Blanks after it.
suffix_len-push : (text : List ℕ) (b : ℕ) → suffix_len is_blank (text ++ b ∷ []) ≡ cond (is_blank b) (1 + suffix_len is_blank text) 0
suffix_len-push text b = ap (prefix_len is_blank) (reverse-append text (b ∷ []))

trailing-blank : (text : List ℕ) (b : ℕ) → is_blank b ≡ true → without_trailing (text ++ b ∷ []) ≡ without_trailing text
trailing-blank text b blank =
    let len = length-append text (b ∷ []) in
    let suffix : suffix_len is_blank (text ++ b ∷ []) ≡ 1 + suffix_len is_blank text = suffix_len-push text b ∙ ap (λ t. cond t (1 + suffix_len is_blank text) 0) blank in
    let place : length (text ++ b ∷ []) - suffix_len is_blank (text ++ b ∷ []) ≡ length text - suffix_len is_blank text = omega (arith, len, suffix) in
    ap (λ n. take n (text ++ b ∷ [])) place ∙ take-append-le (length text - suffix_len is_blank text) text (b ∷ []) (omega arith)

trailing-none : (text : List ℕ) (b : ℕ) → is_blank b ≡ false → without_trailing (text ++ b ∷ []) ≡ text ++ b ∷ []
trailing-none text b other =
    let whole = text ++ b ∷ [] in
    let suffix : suffix_len is_blank whole ≡ 0 = suffix_len-push text b ∙ ap (λ t. cond t (1 + suffix_len is_blank text) 0) other in
    let place : length whole - suffix_len is_blank whole ≡ length whole = omega (arith, suffix) in
    ap (λ n. take n whole) place ∙ take-length whole

trailing-blanks : (after text : List ℕ) → AreBlanks after → without_trailing (text ++ after) ≡ without_trailing text
trailing-blanks [] text blanks = ap without_trailing (append-nil text)
trailing-blanks (b ∷ bs) text blanks =
    let parts = blanks-parts b bs blanks in
    ap without_trailing (sym (append_assoc text (b ∷ []) bs)) ∙ trailing-blanks bs (text ++ b ∷ []) parts.1 ∙ trailing-blank text b parts.0

-- A text that begins and ends with bytes that are no blanks.
pub bare-from : (text : List ℕ) (b : ℕ) (rest front : List ℕ) (last : ℕ) → text ≡ b ∷ rest → text ≡ front ++ last ∷ [] → is_blank b ≡ false → is_blank last ≡ false → IsBare text
bare-from text b rest front last begins ends first_bare last_bare = record {
  begins = λ x more is. let same : b ≡ x = cc in subst (λ y. is_blank y ≡ false) same first_bare;
  ends = λ other x is. subst (λ y. is_blank y ≡ false) (same_last front other last x (sym ends ∙ is)) last_bare;
}

pub bare-nil : IsBare []
bare-nil = record {
  begins = λ x more is. cc;
  ends = λ other x is. absurd (let long = ap length is in omega (arith, long, length-append other (x ∷ [])));
}

pub bare-last : (b : ℕ) (bs : List ℕ) → IsBare (b ∷ bs) → is_blank (has_last b bs).last ≡ false
bare-last b bs bare = bare.ends (has_last b bs).front (has_last b bs).last (has_last b bs).is

stripped_bare : (core after : List ℕ) → AreBlanks after → IsBare core → without_trailing (without_leading (core ++ after)) ≡ core
stripped_bare [] after blanks bare = ap (λ l. without_trailing (without_leading l)) (sym (append-nil after)) ∙ ap without_trailing (leading-blanks after [] blanks)
stripped_bare (c ∷ cs) after blanks bare =
    let end = has_last c cs in
    ap without_trailing (leading-none c (cs ++ after) (bare.begins c cs refl))
    ∙ trailing-blanks after (c ∷ cs) blanks
    ∙ ap without_trailing end.is
    ∙ trailing-none end.front end.last (bare-last c cs bare)
    ∙ sym end.is

pub stripped_from : (text core : List ℕ) → IsStrippedTo text core → stripped text ≡ core
unfolding stripped
stripped_from text core without =
    ap (λ t. without_trailing (without_leading t)) (without.is ∙ append_assoc without.before core without.after)
    ∙ ap without_trailing (leading-blanks without.before (core ++ without.after) without.blanks_before)
    ∙ stripped_bare core without.after without.blanks_after without.bare

-- Each text has one.
record HasCore (text : List ℕ) : Type 0 where
  core : List ℕ
  without : IsStrippedTo text core

core_from : (b : ℕ) (bs : List ℕ) → is_blank b ≡ false → (core : List ℕ) → IsStrippedTo bs core → HasCore (b ∷ bs)
core_from b bs other [] w = record {
  core = b ∷ [];
  without = record {
    before = [];
    after = w.before ++ w.after;
    is = ap (λ l. b ∷ l) (w.is ∙ ap (λ l. l ++ w.after) (append-nil w.before));
    blanks_before = refl;
    blanks_after = blanks-append w.before w.after w.blanks_before w.blanks_after;
    bare = bare-from (b ∷ []) b [] [] b refl refl other other;
  };
}
core_from b bs other (c ∷ cs) w =
    let end = has_last c cs in
    let text = b ∷ (w.before ++ c ∷ cs) in
    record {
      core = text;
      without = record {
        before = [];
        after = w.after;
        is = ap (λ l. b ∷ l) w.is;
        blanks_before = refl;
        blanks_after = w.blanks_after;
        bare = bare-from text b (w.before ++ c ∷ cs) (b ∷ (w.before ++ end.front)) end.last refl (ap (λ l. b ∷ (w.before ++ l)) end.is ∙ ap (λ l. b ∷ l) (sym (append_assoc w.before end.front (end.last ∷ [])))) other (bare-last c cs w.bare);
      };
    }

core_of : (text : List ℕ) → HasCore text
core_of [] = record { core = []; without = record { before = []; after = []; is = refl; blanks_before = refl; blanks_after = refl; bare = bare-nil } }
core_of (b ∷ bs) =
    let rest = core_of bs in
    let w = rest.without in
    elim (is_blank b) as (λ t. is_blank b ≡ t → HasCore (b ∷ bs)) [
      | true ↦ λ blank. record {
        core = rest.core;
        without = record { before = b ∷ w.before; after = w.after; is = ap (λ l. b ∷ l) w.is; blanks_before = blanks-cons b w.before blank w.blanks_before; blanks_after = w.blanks_after; bare = w.bare };
      }
      | false ↦ λ other. core_from b bs other rest.core w
    ] refl

pub stripped_is : (text : List ℕ) → IsStrippedTo text (stripped text)
stripped_is text = let has = core_of text in subst (IsStrippedTo text) (sym (stripped_from text has.core has.without)) has.without
