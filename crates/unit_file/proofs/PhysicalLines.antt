-- The lines of bytes, as `bstr` returns them and as std defines them.
use Rattle.std.proofs.Common.{◌≡◌, ◌≢◌, refl, ℕ, zero, suc, ◌-◌, ◌<◌, ◌≤◌, ◌==◌, ◌&&◌, Bool, true, false, nat_lt, cond, List, [], ◌∷◌, ◌++◌, length, get_or, take, map, sym, ap, ◌∙◌, arith, append_assoc, length-append, slice_index, inr}
use Rattle.std.specs.List.{list_any, slice_split, onto_first}
use Rattle.std.specs.Str.Lines.{lines, lines_of_parts, strip_carriage_return}
use Rattle.std.proofs.lemmas.Bool.{or_parts, eqb-true, eq-eqb, ne_eqb, lt-ltb}
use Rattle.std.proofs.lemmas.List.{get_or_append_left, get_or_at, take_at}
use Rattle.std.proofs.lemmas.List.Folds.{list_any_at}
use Rattle.bstr.specs.Text.{lines_of, no_cr, without_terminator}
use Rattle.bstr.proofs.lemmas.LineLemmas.{lines-nil, lines-one, lines-append}
use Rattle.unit_name.proofs.Cuts.{first_cut_of}

abbrev pub is_lf : ℕ → Bool
is_lf b = b == 10

-- a split at a LF between two lists
onto_first-append : {X : Type 0} (x : X) (part : List X) (parts others : List (List X)) → onto_first x ((part ∷ parts) ++ others) ≡ onto_first x (part ∷ parts) ++ others
onto_first-append x part parts others = refl

-- a split gives at least one part
pub record HasFirst (bytes : List ℕ) : Type 0 where
  pub first : List ℕ
  pub more : List (List ℕ)
  pub is : slice_split is_lf bytes ≡ first ∷ more

pub has_first : (bytes : List ℕ) → HasFirst bytes
has_first [] = record { first = []; more = []; is = refl }
has_first (b ∷ bs) =
    elim (is_lf b) as (λ t. is_lf b ≡ t → HasFirst (b ∷ bs)) [
      | true ↦ λ yes. record { first = []; more = slice_split is_lf bs; is = rw yes refl }
      | false ↦ λ no.
          let rest = has_first bs in
          record { first = b ∷ rest.first; more = rest.more; is = rw (no, rest.is) refl }
    ] refl

pub slice_split-seam : (xs ys : List ℕ) → slice_split is_lf (xs ++ 10 ∷ ys) ≡ slice_split is_lf xs ++ slice_split is_lf ys
slice_split-seam [] ys = refl
slice_split-seam (x ∷ xs) ys =
    elim (is_lf x) as (λ t. is_lf x ≡ t → cond t ([] ∷ slice_split is_lf (xs ++ 10 ∷ ys)) (onto_first x (slice_split is_lf (xs ++ 10 ∷ ys))) ≡ cond t ([] ∷ slice_split is_lf xs) (onto_first x (slice_split is_lf xs)) ++ slice_split is_lf ys) [
      | true ↦ λ yes. ap (λ parts. [] ∷ parts) (slice_split-seam xs ys)
      | false ↦ λ no.
          let first = has_first xs in
          ap (onto_first x) (slice_split-seam xs ys) ∙ rw first.is refl
    ] refl

-- if no byte is a LF, there is one part
pub slice_split-none : (xs : List ℕ) → list_any is_lf xs ≡ false → slice_split is_lf xs ≡ xs ∷ []
slice_split-none [] none = refl
slice_split-none (x ∷ xs) none =
    let parts = or_parts (is_lf x) (list_any is_lf xs) none in
    rw (parts.0, slice_split-none xs parts.1) refl

lines_of_parts-append : (parts : List (List ℕ)) (first : List ℕ) (more : List (List ℕ)) → lines_of_parts (parts ++ first ∷ more) ≡ map strip_carriage_return parts ++ lines_of_parts (first ∷ more)
lines_of_parts-append [] first more = refl
lines_of_parts-append (x ∷ []) first more = refl
lines_of_parts-append (x ∷ y ∷ parts) first more = ap (λ ls. strip_carriage_return x ∷ ls) (lines_of_parts-append (y ∷ parts) first more)

-- the lines before a LF, and those after it
pub lines-seam : (xs ys : List ℕ) → lines (xs ++ 10 ∷ ys) ≡ map strip_carriage_return (slice_split is_lf xs) ++ lines ys
lines-seam xs ys =
    let first = has_first ys in
    ap lines_of_parts (slice_split-seam xs ys ∙ ap (λ parts. slice_split is_lf xs ++ parts) first.is)
    ∙ lines_of_parts-append (slice_split is_lf xs) first.first first.more
    ∙ ap (λ parts. map strip_carriage_return (slice_split is_lf xs) ++ lines_of_parts parts) (sym first.is)

pub lines-first : (line ys : List ℕ) → list_any is_lf line ≡ false → lines (line ++ 10 ∷ ys) ≡ strip_carriage_return line ∷ lines ys
lines-first line ys none = lines-seam line ys ∙ ap (λ parts. map strip_carriage_return parts ++ lines ys) (slice_split-none line none)

-- no LF within a line
no_lf_at : (xs : List ℕ) (k : ℕ) → list_any is_lf xs ≡ false → k < length xs → slice_index xs k ≢ 10
no_lf_at xs k none within is = let any = list_any_at is_lf xs k 0 within (eq-eqb (get_or xs k 0) 10 is) in cc

-- a line without a LF
without_terminator-last : (line : List ℕ) → 0 < length line → list_any is_lf line ≡ false → without_terminator line ≡ line
without_terminator-last line some none =
    let last = ne_eqb (slice_index line (length line - 1)) 10 (no_lf_at line (length line - 1) none (omega arith)) in
    rw last (elim (nat_lt 0 (length line)) as (λ t. cond (t && false) (no_cr (take (length line - 1) line)) line ≡ line) [ true ↦ refl | false ↦ refl ])

no_cr-strip : (line : List ℕ) → no_cr line ≡ strip_carriage_return line
no_cr-strip [] = refl
no_cr-strip (b ∷ bs) = rw (lt-ltb 0 (length (b ∷ bs)) (omega arith)) refl

-- and one with it
without_terminator-ended : (line : List ℕ) → without_terminator (line ++ 10 ∷ []) ≡ strip_carriage_return line
without_terminator-ended line =
    let ended = line ++ 10 ∷ [] in
    let len : length ended - 1 ≡ length line = omega (arith, length-append line (10 ∷ [])) in
    let last : slice_index ended (length ended - 1) ≡ 10 = ap (slice_index ended) len ∙ get_or_at line 10 [] 0 (length line) refl in
    let some : nat_lt 0 (length ended) ≡ true = lt-ltb 0 (length ended) (omega (arith, length-append line (10 ∷ []))) in
    let front : take (length ended - 1) ended ≡ line = ap (λ n. take n ended) len ∙ take_at line (10 ∷ []) (length line) refl in
    rw (some, last) (ap no_cr front ∙ no_cr-strip line)

-- what follows the last LF is a line if it isn't empty
pub lines_of_parts-last : (part : List ℕ) → 0 < length part → lines_of_parts (part ∷ []) ≡ part ∷ []
lines_of_parts-last part some = let full = ne_eqb (length part) 0 (λ none. absurd (omega arith)) in rw full refl

lines_same_from : (fuel : ℕ) (bytes : List ℕ) → length bytes ≤ fuel → map without_terminator (lines_of bytes) ≡ lines bytes
lines_same_from fuel [] short = ap (map without_terminator) lines-nil
lines_same_from zero (b ∷ bs) short = absurd (omega arith)
lines_same_from (suc fuel) (b ∷ bs) short =
    let bytes = b ∷ bs in
    elim (list_any is_lf bytes) as (λ t. list_any is_lf bytes ≡ t → map without_terminator (lines_of bytes) ≡ lines bytes) [
      | true ↦ λ any.
          let cut = first_cut_of is_lf bytes any in
          let line = cut.before ++ 10 ∷ [] in
          let lf : cut.at ≡ 10 = eqb-true cut.at 10 cut.passes in
          let is : bytes ≡ cut.before ++ 10 ∷ cut.after = cut.is ∙ ap (λ x. cut.before ++ x ∷ cut.after) lf in
          let len = ap length is ∙ length-append cut.before (10 ∷ cut.after) in
          let long = length-append cut.before (10 ∷ []) in
          let ends : slice_index line (length line - 1) ≡ 10 = ap (slice_index line) (omega (arith, long)) ∙ get_or_at cut.before 10 [] 0 (length cut.before) refl in
          let one = lines-one line (omega (arith, long)) (λ k below. λ lf. no_lf_at cut.before k cut.none (omega (arith, long)) (sym (get_or_append_left cut.before (10 ∷ []) 0 k (omega (arith, long))) ∙ lf)) in
          let apart : lines_of bytes ≡ line ∷ lines_of cut.after = ap lines_of (is ∙ sym (append_assoc cut.before (10 ∷ []) cut.after)) ∙ lines-append (length line) line cut.after (omega arith) (inr ends) ∙ ap (λ ls. ls ++ lines_of cut.after) one in
          ap (map without_terminator) apart ∙ ap (λ l. l ∷ map without_terminator (lines_of cut.after)) (without_terminator-ended cut.before) ∙ ap (λ ls. strip_carriage_return cut.before ∷ ls) (lines_same_from fuel cut.after (omega (arith, len))) ∙ sym (ap lines is ∙ lines-first cut.before cut.after cut.none)
      | false ↦ λ none.
          let one = lines-one bytes (omega arith) (λ k below. no_lf_at bytes k none (omega arith)) in
          ap (map without_terminator) one ∙ ap (λ l. l ∷ []) (without_terminator-last bytes (omega arith) none) ∙ sym (ap lines_of_parts (slice_split-none bytes none) ∙ lines_of_parts-last bytes (omega arith))
    ] refl

pub lines_same : (bytes : List ℕ) → map without_terminator (lines_of bytes) ≡ lines bytes
lines_same bytes = lines_same_from (length bytes) bytes (omega arith)
