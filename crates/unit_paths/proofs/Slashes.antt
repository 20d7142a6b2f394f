-- Texts split at slashes.
use Rattle.std.proofs.Common.{◌≡◌, ℕ, ◌+◌, ◌<◌, ◌≤◌, Bool, true, false, cond, ◌&&◌, not, List, [], ◌∷◌, ◌++◌, length, get_or, take, drop, Option, Some, None, refl, sym, ◌∙◌, ap, arith, suc, subst, ◌-◌, length-append, inl, inr}
use Rattle.std.specs.List.{list_all, list_any, slice_split, position, onto_first, starts_with, suffix_len}
use Rattle.std.specs.Option.{option_map}
use Rattle.std.specs.Prelude.{◌==◌, if◌then◌else◌, codes, nat_eq, nat_le, nat_lt}
use Rattle.std.specs.Str.{bytes_eq}
use Rattle.std.proofs.lemmas.List.{drop_more, take-append-drop, length-take, take_min}
use Rattle.std.proofs.lemmas.List.Folds.{list_any_at, list_all-append}
use Rattle.std.proofs.lemmas.List.Sums.{suffix_len_is}
use Rattle.std.proofs.lemmas.Bool.{false_from_ne_true, not_from_false, cases_Bool, and_parts, and_from, eqb-true, not-true, cond_both, false≢true, lt-ltb, le-leb, leb-true}
use Rattle.unit_name.proofs.Cuts.{last_seam, last_cut_of, after_last-none}
use Rattle.std.proofs.lemmas.Grind.{common_steps}
use Rattle.std.proofs.lemmas.List.Splits.{length-slice_split}
use Rattle.unit_paths.specs.declared.fault.TheConstants.{MAX_PATH}
use Rattle.unit_paths.specs.Paths.{is_slash, is_part, is_text_byte, is_absolute, is_path, is_root, parent, name_at}
use Rattle.unit_paths.specs.Canonical.{cut_at_slash, with_part, walked, begins_with_slash, start_of, merged, fits, canonical_text}

none-at : (text : List ℕ) → list_any is_slash text ≡ false → (i : ℕ) → i < length text → is_slash (get_or text i 0) ≡ false
none-at text none i within = false_from_ne_true (is_slash (get_or text i 0)) (λ here. false≢true (sym none ∙ list_any_at is_slash text i 0 within here))

-- nothing comes before the last slash if there is none
pub parent-none : (text : List ℕ) → list_any is_slash text ≡ false → parent text ≡ []
unfolding parent
parent-none text none =
    let all = suffix_len_is (λ b. not (is_slash b)) text 0 0 (omega arith) (λ k _ below. not_from_false _ (none-at text none k below)) (λ below. absurd (omega arith)) in
    let zero_is : length text - suffix_len (λ b. not (is_slash b)) text - 1 ≡ 0 = omega (arith, all) in
    ap (λ n. take n text) zero_is

-- and the whole text comes after it
pub name-none : (text : List ℕ) → list_any is_slash text ≡ false → name_at text ≡ text
unfolding name_at
name-none text none = after_last-none is_slash 0 text none

-- a text with a slash, and no slash after that
pub parent-seam : (front name : List ℕ) → list_any is_slash name ≡ false → parent (front ++ 47 ∷ name) ≡ front
unfolding parent
parent-seam front name none = (last_seam is_slash 0 front 47 name refl none).1

pub name-seam : (front name : List ℕ) → list_any is_slash name ≡ false → name_at (front ++ 47 ∷ name) ≡ name
unfolding name_at
name-seam front name none = (last_seam is_slash 0 front 47 name refl none).2

-- a text with a slash consists of what comes before the last one, the slash, and what comes after
-- it
pub record LastSlash (text : List ℕ) : Type 0 where
  pub is : text ≡ parent text ++ 47 ∷ name_at text
  pub none : list_any is_slash (name_at text) ≡ false

pub last_slash : (text : List ℕ) → list_any is_slash text ≡ true → LastSlash text
last_slash text some =
    let cut = last_cut_of is_slash text some in
    let whole : text ≡ cut.before ++ 47 ∷ cut.after = cut.is ∙ ap (λ (b : ℕ). cut.before ++ b ∷ cut.after) (eqb-true cut.at 47 cut.passes) in
    let front : parent text ≡ cut.before = ap parent whole ∙ parent-seam cut.before cut.after cut.none in
    let name : name_at text ≡ cut.after = ap name_at whole ∙ name-seam cut.before cut.after cut.none in
    record { is = whole ∙ sym (λ i. front i ++ 47 ∷ name i); none = ap (list_any is_slash) name ∙ cut.none }

-- what comes before the last slash is the beginning of the text
pub take-parent : (text : List ℕ) → take (length (parent text)) text ≡ parent text
unfolding parent
take-parent text =
    let n : ℕ = length text - suffix_len (λ b. not (is_slash b)) text - 1 in
    ap (λ k. take k text) (length-take n text) ∙ take_min n text

pub length-parent : (text : List ℕ) → length (parent text) ≤ length text
length-parent text = elim (cases_Bool (list_any is_slash text)) [
  | inl some ↦ (let whole = ap length (last_slash text some).is ∙ length-append (parent text) (47 ∷ name_at text) in omega (arith, whole))
  | inr none ↦ (let zero_is = ap length (parent-none text none) in omega (arith, zero_is))
]

around : (text : List ℕ) (i : ℕ) → i < length text → get_or text i 0 ≡ 47 → text ≡ take i text ++ 47 ∷ drop (suc i) text
around text i within here =
    let next : i + 1 ≡ suc i = omega arith in
    sym (take-append-drop i text) ∙ ap (λ (rest : List ℕ). take i text ++ rest) (drop_more text i 0 within ∙ λ k. here k ∷ drop (next k) text)

-- what comes before the last slash, if that is at i
pub parent-at : (text : List ℕ) (i : ℕ) → i < length text → get_or text i 0 ≡ 47 → list_any is_slash (drop (suc i) text) ≡ false → take i text ≡ parent text
parent-at text i within here none = sym (ap parent (around text i within here) ∙ parent-seam (take i text) (drop (suc i) text) none)

-- and what comes after it
pub name-at : (text : List ℕ) (i : ℕ) → i < length text → get_or text i 0 ≡ 47 → list_any is_slash (drop (suc i) text) ≡ false → drop (suc i) text ≡ name_at text
name-at text i within here none = sym (ap name_at (around text i within here) ∙ name-seam (take i text) (drop (suc i) text) none)

pub split-cons : (x : ℕ) (xs : List ℕ) (b : Bool) → is_slash x ≡ b → slice_split is_slash (x ∷ xs) ≡ cond b ([] ∷ slice_split is_slash xs) (onto_first x (slice_split is_slash xs))
split-cons x xs b e = ap (λ b. cond b ([] ∷ slice_split is_slash xs) (onto_first x (slice_split is_slash xs))) e

position-yes : (x : ℕ) (xs : List ℕ) → is_slash x ≡ true → position is_slash (x ∷ xs) ≡ Some 0
position-yes x xs e = rw e (grind (arith, common_steps))

position-no : (x : ℕ) (xs : List ℕ) → is_slash x ≡ false → position is_slash (x ∷ xs) ≡ option_map (λ n. suc n) (position is_slash xs)
position-no x xs e = rw e (grind (arith, common_steps))

from_later : (i : ℕ) (o : Option ℕ) → option_map (λ n. suc n) o ≡ Some i → (k : ℕ) × (o ≡ Some k) × (suc k ≡ i)
from_later i None e = cc
from_later i (Some k) e = (k, refl, cc)

none_later : (o : Option ℕ) → option_map (λ n. suc n) o ≡ None → o ≡ None
none_later None e = refl
none_later (Some k) e = cc

some_none : {P : Type 0} (k : ℕ) → Some k ≡ None → P
some_none k e = cc

same_some : (k i : ℕ) → Some k ≡ Some i → k ≡ i
same_some k i e = cc

pub split-at : (xs : List ℕ) (i : ℕ) → position is_slash xs ≡ Some i → slice_split is_slash xs ≡ take i xs ∷ slice_split is_slash (drop (i + 1) xs)
split-at [] i e = cc
split-at (x ∷ xs) i e = elim (cases_Bool (is_slash x)) [
  | inl here ↦ (let at : 0 ≡ i = same_some 0 i (sym (position-yes x xs here) ∙ e) in
      subst (λ (n : ℕ). slice_split is_slash (x ∷ xs) ≡ take n (x ∷ xs) ∷ slice_split is_slash (drop (n + 1) (x ∷ xs))) at (split-cons x xs true here))
  | inr away ↦ (let later = from_later i _ (sym (position-no x xs away) ∙ e) in
      subst (λ (n : ℕ). slice_split is_slash (x ∷ xs) ≡ take n (x ∷ xs) ∷ slice_split is_slash (drop (n + 1) (x ∷ xs))) later.2 (split-cons x xs false away ∙ ap (onto_first x) (split-at xs later.0 later.1) ∙ ap (λ (n : ℕ). (x ∷ take later.0 xs) ∷ slice_split is_slash (drop n (x ∷ xs))) (let n : suc (later.0 + 1) ≡ suc later.0 + 1 = omega arith in n)))
]

pub split-none : (xs : List ℕ) → position is_slash xs ≡ None → slice_split is_slash xs ≡ xs ∷ []
split-none [] e = refl
split-none (x ∷ xs) e = elim (cases_Bool (is_slash x)) [
  | inl here ↦ some_none 0 (sym (position-yes x xs here) ∙ e)
  | inr away ↦ split-cons x xs false away ∙ ap (onto_first x) (split-none xs (none_later _ (sym (position-no x xs away) ∙ e)))
]

abbrev pub cut_here : List ℕ → ℕ → List ℕ × List ℕ
cut_here xs i = (take i xs, drop (i + 1) xs)

pairs : (x : List ℕ × List ℕ) (c d : List ℕ) → ◌≡◌ {A = Option (List ℕ × List ℕ)} (Some x) (Some (c, d)) → (x.0 ≡ c) × (x.1 ≡ d)
pairs x c d e = (cc, cc)

more : (text xs part after : List ℕ) (o : Option ℕ) → position is_slash xs ≡ o → ◌≡◌ {A = Option (List ℕ × List ℕ)} (option_map (cut_here xs) o) (Some (part, after)) → walked text (slice_split is_slash xs) ≡ walked (with_part text part) (slice_split is_slash after)
unfolding walked
more text xs part after None at cut = cc
more text xs part after (Some i) at cut = let same = pairs (cut_here xs i) part after cut in ap (walked text) (split-at xs i at) ∙ rw (same.0, same.1) refl

last : (text xs : List ℕ) (o : Option ℕ) → position is_slash xs ≡ o → option_map (cut_here xs) o ≡ None → walked text (slice_split is_slash xs) ≡ with_part text xs
unfolding walked
last text xs None at cut = ap (walked text) (split-none xs at)
last text xs (Some i) at cut = cc

-- The first step of a walk over a text takes the part before its first slash.
pub walk-more : (text xs part after : List ℕ) → cut_at_slash xs ≡ Some (part, after) → walked text (slice_split is_slash xs) ≡ walked (with_part text part) (slice_split is_slash after)
walk-more text xs part after cut = more text xs part after (position is_slash xs) refl cut

pub walk-last : (text xs : List ℕ) → cut_at_slash xs ≡ None → walked text (slice_split is_slash xs) ≡ with_part text xs
walk-last text xs cut = last text xs (position is_slash xs) refl cut

onto-append : (x : ℕ) (ps qs : List (List ℕ)) → 0 < length ps → onto_first x (ps ++ qs) ≡ onto_first x ps ++ qs
onto-append x [] qs some = absurd (omega arith)
onto-append x (p ∷ ps) qs some = refl

-- the parts of two texts with a slash between them
pub split-append : (xs ys : List ℕ) → slice_split is_slash (xs ++ 47 ∷ ys) ≡ slice_split is_slash xs ++ slice_split is_slash ys
split-append [] ys = refl
split-append (x ∷ xs) ys = elim (cases_Bool (is_slash x)) [
  | inl here ↦ split-cons x (xs ++ 47 ∷ ys) true here ∙ ap (λ (ps : List (List ℕ)). [] ∷ ps) (split-append xs ys) ∙ ap (λ (ps : List (List ℕ)). ps ++ slice_split is_slash ys) (sym (split-cons x xs true here))
  | inr away ↦ split-cons x (xs ++ 47 ∷ ys) false away ∙ ap (onto_first x) (split-append xs ys) ∙ onto-append x (slice_split is_slash xs) (slice_split is_slash ys) (omega (arith, length-slice_split is_slash xs))
      ∙ ap (λ (ps : List (List ℕ)). ps ++ slice_split is_slash ys) (sym (split-cons x xs false away))
]

-- a byte that is allowed in a part
abbrev pub is_part_byte : ℕ → Bool
is_part_byte b = is_text_byte b && not (is_slash b)

onto-all : (x : ℕ) (ps : List (List ℕ)) → is_part_byte x ≡ true → list_all (list_all is_part_byte) ps ≡ true → list_all (list_all is_part_byte) (onto_first x ps) ≡ true
onto-all x [] one all = rw one refl
onto-all x (p ∷ ps) one all = rw one all

-- the parts of a text have no slash, and only bytes that the text may have
split-bytes : (xs : List ℕ) → list_all is_text_byte xs ≡ true → list_all (list_all is_part_byte) (slice_split is_slash xs) ≡ true
split-bytes [] all = refl
split-bytes (x ∷ xs) all =
    let parts = and_parts (is_text_byte x) (list_all is_text_byte xs) all in
    elim (cases_Bool (is_slash x)) [
      | inl here ↦ rw (split-cons x xs true here) (split-bytes xs parts.1)
      | inr away ↦ rw (split-cons x xs false away) (onto-all x (slice_split is_slash xs) (and_from (is_text_byte x) (not (is_slash x)) parts.0 (ap not away)) (split-bytes xs parts.1))
    ]

no_slashes : (xs : List ℕ) → list_all is_part_byte xs ≡ true → slice_split is_slash xs ≡ xs ∷ []
no_slashes [] all = refl
no_slashes (x ∷ xs) all =
    let parts = and_parts _ _ all in
    let away : is_slash x ≡ false = not-true (is_slash x) (and_parts (is_text_byte x) (not (is_slash x)) parts.0).1 in
    split-cons x xs false away ∙ ap (onto_first x) (no_slashes xs parts.1)

part-text : (xs : List ℕ) → list_all is_part_byte xs ≡ true → list_all is_text_byte xs ≡ true
part-text [] all = refl
part-text (x ∷ xs) all = let parts = and_parts _ _ all in and_from _ _ (and_parts _ _ parts.0).0 (part-text xs parts.1)

-- the root, written as no text, or a path of any length
abbrev pub is_front : List ℕ → Bool
is_front [] = true
is_front (b ∷ bs) = list_all is_text_byte (b ∷ bs) && (is_slash b && list_all is_part (slice_split is_slash bs))

-- the bytes of such a path, and what comes after its first slash
front-facts : (b : ℕ) (bs : List ℕ) → is_front (b ∷ bs) ≡ true → (list_all is_text_byte (b ∷ bs) ≡ true) × (is_slash b ≡ true) × (list_all is_part (slice_split is_slash bs) ≡ true)
front-facts b bs h =
    let x = and_parts (list_all is_text_byte (b ∷ bs)) (is_slash b && list_all is_part (slice_split is_slash bs)) h in
    let y = and_parts (is_slash b) (list_all is_part (slice_split is_slash bs)) x.1 in
    (x.0, y.0, y.1)

front-from : (b : ℕ) (bs : List ℕ) → list_all is_text_byte (b ∷ bs) ≡ true → is_slash b ≡ true → list_all is_part (slice_split is_slash bs) ≡ true → is_front (b ∷ bs) ≡ true
front-from b bs h k l = and_from _ _ h (and_from _ _ k l)

one-part : (part : List ℕ) → list_all is_part_byte part ≡ true → is_part part ≡ true → list_all is_part (slice_split is_slash part) ≡ true
one-part part bytes is = ap (list_all is_part) (no_slashes part bytes) ∙ and_from _ _ is refl

slash-text : (part : List ℕ) → list_all is_text_byte part ≡ true → list_all is_text_byte (47 ∷ part) ≡ true
unfolding is_text_byte
slash-text part h = h

pub front-part : (text part : List ℕ) → is_front text ≡ true → list_all is_part_byte part ≡ true → is_part part ≡ true → is_front (text ++ 47 ∷ part) ≡ true
front-part [] part front bytes is = front-from 47 part (slash-text part (part-text part bytes)) refl (one-part part bytes is)
front-part (b ∷ bs) part front bytes is =
    let f = front-facts b bs front in
    front-from b (bs ++ 47 ∷ part)
    (list_all-append is_text_byte (b ∷ bs) (47 ∷ part) ∙ and_from _ _ f.0 (slash-text part (part-text part bytes)))
    f.1
    (ap (list_all is_part) (split-append bs part) ∙ list_all-append is_part (slice_split is_slash bs) (slice_split is_slash part) ∙ and_from _ _ f.2 (one-part part bytes is))

front-before : (front last : List ℕ) → is_front (front ++ 47 ∷ last) ≡ true → is_front front ≡ true
front-before [] last is = refl
front-before (b ∷ bs) last is =
    let f = front-facts b (bs ++ 47 ∷ last) is in
    let bytes = sym (list_all-append is_text_byte (b ∷ bs) (47 ∷ last)) ∙ f.0 in
    let parts = sym (list_all-append is_part (slice_split is_slash bs) (slice_split is_slash last)) ∙ ap (list_all is_part) (sym (split-append bs last)) ∙ f.2 in
    front-from b bs (and_parts _ _ bytes).0 f.1 (and_parts _ _ parts).0

front-parent : (text : List ℕ) → is_front text ≡ true → is_front (parent text) ≡ true
front-parent text front = elim (cases_Bool (list_any is_slash text)) [
  | inl some ↦ front-before (parent text) (name_at text) (ap is_front (sym (last_slash text some).is) ∙ front)
  | inr none ↦ ap is_front (parent-none text none)
]

front-with : (text part : List ℕ) → is_front text ≡ true → list_all is_part_byte part ≡ true → is_front (with_part text part) ≡ true
unfolding with_part
front-with text part front bytes =
    cond_both (is_part part) (text ++ 47 ∷ part) (if bytes_eq part (codes "..") then parent text else text) (λ t. is_front t ≡ true)
    (λ is. front-part text part front bytes is)
    (λ other. cond_both (bytes_eq part (codes "..")) (parent text) text (λ t. is_front t ≡ true) (λ up. front-parent text front) (λ stay. front))

front-walked : (text : List ℕ) (parts : List (List ℕ)) → is_front text ≡ true → list_all (list_all is_part_byte) parts ≡ true → is_front (walked text parts) ≡ true
unfolding walked
front-walked text [] front bytes = front
front-walked text (part ∷ parts) front bytes = let b = and_parts (list_all is_part_byte part) (list_all (list_all is_part_byte) parts) bytes in front-walked (with_part text part) parts (front-with text part front b.0) b.1

path-front : (text : List ℕ) → is_path text ≡ true → is_front text ≡ true
unfolding is_path is_absolute
path-front [] is = refl
path-front (b ∷ bs) is = (and_parts _ _ is).1

front-start : (link target : List ℕ) → is_path link ≡ true → is_front (start_of link target) ≡ true
unfolding start_of
front-start link target is = cond_both (begins_with_slash target) [] (parent link) (λ t. is_front t ≡ true) (λ alone. refl) (λ joined. front-parent link (path-front link is))

front-usr-at : (bs : List ℕ) → is_front (47 ∷ bs) ≡ true → is_front (codes "/usr" ++ 47 ∷ bs) ≡ true
unfolding is_text_byte is_part
front-usr-at bs front = front

front-usr : (text : List ℕ) → is_front text ≡ true → is_front (codes "/usr" ++ text) ≡ true
unfolding is_text_byte is_part
front-usr [] front = refl
front-usr (b ∷ bs) front =
    let slash = eqb-true b 47 (front-facts b bs front).1 in
    subst (λ (k : ℕ). is_front (codes "/usr" ++ k ∷ bs) ≡ true) (sym slash) (front-usr-at bs (subst (λ (k : ℕ). is_front (k ∷ bs) ≡ true) slash front))

front-merged : (text : List ℕ) → is_front text ≡ true → is_front (merged text) ≡ true
unfolding merged
front-merged text front = cond_both (starts_with nat_eq text (codes "/lib/systemd/")) (codes "/usr" ++ text) text (λ t. is_front t ≡ true) (λ old. front-usr text front) (λ other. front)

swapped : (x y : Bool) → y ≡ true → (x && true) ≡ (y && x)
swapped true y e = sym (rw e refl)
swapped false y e = sym (rw e refl)

pub front-path : (text : List ℕ) → is_front text ≡ true → is_path text ≡ fits text
unfolding is_path is_absolute
front-path [] front = refl
front-path (b ∷ bs) front = ap (λ (t : Bool). nat_le (length (b ∷ bs)) 4095 && t) front ∙ swapped (nat_le (length (b ∷ bs)) 4095) (nat_lt 0 (length (b ∷ bs))) (lt-ltb 0 (length (b ∷ bs)) (omega arith))

pub canonical_is_path : (link target : List ℕ) → is_path link ≡ true → list_all is_text_byte target ≡ true → is_path (canonical_text link target) ≡ fits (canonical_text link target)
canonical_is_path link target is bytes = front-path _ (front-merged _ (front-walked (start_of link target) (slice_split is_slash target) (front-start link target is) (split-bytes target bytes)))

pub short_path : (path : List ℕ) → is_path path ≡ true → length path ≤ MAX_PATH
unfolding is_path
short_path path is = leb-true (length path) MAX_PATH (and_parts (nat_le (length path) MAX_PATH) _ is).0

-- a path has a slash
pub path_slash : (path : List ℕ) → is_path path ≡ true → list_any is_slash path ≡ true
unfolding is_path is_absolute
path_slash [] is = absurd (false≢true is)
path_slash (b ∷ bs) is = let slash : is_slash b ≡ true = (and_parts _ _ (and_parts _ _ (and_parts _ _ is).1).1).0 in rw slash refl

pub parent_shorter : (text : List ℕ) → is_path text ≡ true → length (parent text) < length text
parent_shorter text is =
    let whole = ap length (last_slash text (path_slash text is)).is ∙ length-append (parent text) (47 ∷ name_at text) in
    omega (arith, whole)

fits_parent : (text : List ℕ) → is_root text ≡ false → length text ≤ MAX_PATH → fits text ≡ true
fits_parent [] some short = absurd (false≢true (sym some))
fits_parent (b ∷ bs) some short = and_from (nat_lt 0 (length (b ∷ bs))) _ (lt-ltb 0 (length (b ∷ bs)) (omega arith)) (le-leb (length (b ∷ bs)) MAX_PATH short)

-- the directory of a path is a path, or the root
pub parent_path : (text : List ℕ) → is_path text ≡ true → is_root (parent text) ≡ false → is_path (parent text) ≡ true
parent_path text is some =
    front-path (parent text) (front-parent text (path-front text is)) ∙ fits_parent (parent text) some (omega (arith, short_path text is, parent_shorter text is))

pub not_root : (text : List ℕ) → (length text == 0) ≡ false → is_root text ≡ false
not_root [] some = absurd (false≢true (sym some))
not_root (b ∷ bs) some = refl
