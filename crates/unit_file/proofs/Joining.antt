-- How lines are joined, line by line.
use Rattle.std.proofs.Common.{◌≡◌, refl, ℕ, ◌+◌, ◌-◌, ◌<◌, ◌≤◌, ◌||◌, Bool, true, false, not, nat_lt, List, [], ◌∷◌, ◌++◌, length, take, sym, ap, ◌∙◌, arith, append_assoc, length-append, length-take-le}
use Rattle.std.specs.List.{list_any, filter}
use Rattle.std.proofs.lemmas.Bool.{lt-ltb, le-ltb}
use Rattle.unit_file.specs.Lines.{is_comment, ends_with, onto_next, joined}
use Rattle.unit_file.specs.Reading.{is_too_long}

abbrev pub kept : List (List ℕ) → List (List ℕ)
kept lines = filter (λ line. not (is_comment line)) lines

pub joined-comment : (line : List ℕ) (rest : List (List ℕ)) → is_comment line ≡ true → joined (kept (line ∷ rest)) ≡ joined (kept rest)
joined-comment line rest comment = rw comment refl

pub joined-carried : (line : List ℕ) (rest : List (List ℕ)) → is_comment line ≡ false → ends_with 92 line ≡ true → joined (kept (line ∷ rest)) ≡ onto_next (take (length line - 1) line ++ 32 ∷ []) (joined (kept rest))
unfolding joined
joined-carried line rest other ends = rw (other, ends) refl

pub joined-ended : (line : List ℕ) (rest : List (List ℕ)) → is_comment line ≡ false → ends_with 92 line ≡ false → joined (kept (line ∷ rest)) ≡ line ∷ joined (kept rest)
unfolding joined
joined-ended line rest other ends = rw (other, ends) refl

pub ends_with-some : (b : ℕ) (text : List ℕ) → ends_with b text ≡ true → 0 < length text
unfolding ends_with
ends_with-some b [] ends = absurd (cc)
ends_with-some b (x ∷ xs) ends = omega arith

-- a text put before a text put before lines
pub onto_next-onto_next : (a b : List ℕ) (lines : List (List ℕ)) → onto_next a (onto_next b lines) ≡ onto_next (a ++ b) lines
onto_next-onto_next a b [] = refl
onto_next-onto_next a b (line ∷ lines) = ap (λ text. text ∷ lines) (sym (append_assoc a b line))

-- whether a line is too long if n bytes are before the first
abbrev pub is_long_after : ℕ → List (List ℕ) → Bool
is_long_after n [] = nat_lt 1048576 n
is_long_after n (line ∷ lines) = nat_lt 1048576 (n + length line) || list_any is_too_long lines

pub long-none : (lines : List (List ℕ)) → is_long_after 0 lines ≡ list_any is_too_long lines
long-none [] = refl
long-none (line ∷ lines) = ap (λ n. nat_lt 1048576 n || list_any is_too_long lines) (omega arith)

or-false : (b : Bool) → (b || false) ≡ b
or-false true = refl
or-false false = refl

pub long-end : (n : ℕ) → n ≤ 1048576 → is_long_after n (joined (kept [])) ≡ false
unfolding joined
long-end n short = le-ltb 1048576 n short

long-onto_next : (n : ℕ) (text : List ℕ) (lines : List (List ℕ)) → is_long_after n (onto_next text lines) ≡ is_long_after (n + length text) lines
long-onto_next n text [] = or-false (nat_lt 1048576 (n + length text))
long-onto_next n text (line ∷ lines) = ap (λ k. nat_lt 1048576 k || list_any is_too_long lines) (omega (arith, length-append text line))

long-beyond : (n : ℕ) (lines : List (List ℕ)) → 1048576 < n → is_long_after n lines ≡ true
long-beyond n [] over = lt-ltb 1048576 n over
long-beyond n (line ∷ lines) over = ap (λ t. t || list_any is_too_long lines) (lt-ltb 1048576 (n + length line) (omega arith))

-- a line that is carried has the same number of bytes, since a space replaces the backslash
length-carried : (line : List ℕ) → 0 < length line → length (take (length line - 1) line ++ 32 ∷ []) ≡ length line
length-carried line some = omega (arith, length-append (take (length line - 1) line) (32 ∷ []), length-take-le (length line - 1) line (omega arith))

pub long-carried : (n : ℕ) (line : List ℕ) (rest : List (List ℕ)) → is_comment line ≡ false → ends_with 92 line ≡ true → is_long_after n (joined (kept (line ∷ rest))) ≡ is_long_after (n + length line) (joined (kept rest))
long-carried n line rest other ends =
    ap (is_long_after n) (joined-carried line rest other ends)
    ∙ long-onto_next n (take (length line - 1) line ++ 32 ∷ []) (joined (kept rest))
    ∙ ap (λ k. is_long_after (n + k) (joined (kept rest))) (length-carried line (ends_with-some 92 line ends))

pub long-ended : (n : ℕ) (line : List ℕ) (rest : List (List ℕ)) → is_comment line ≡ false → ends_with 92 line ≡ false → n + length line ≤ 1048576 → is_long_after n (joined (kept (line ∷ rest))) ≡ is_long_after 0 (joined (kept rest))
long-ended n line rest other ends short =
    ap (is_long_after n) (joined-ended line rest other ends)
    ∙ ap (λ t. t || list_any is_too_long (joined (kept rest))) (le-ltb 1048576 (n + length line) short)
    ∙ sym (long-none (joined (kept rest)))

pub long-found : (n : ℕ) (line : List ℕ) (rest : List (List ℕ)) → is_comment line ≡ false → 1048576 < n + length line → is_long_after n (joined (kept (line ∷ rest))) ≡ true
long-found n line rest other over =
    elim (ends_with 92 line) as (λ t. ends_with 92 line ≡ t → is_long_after n (joined (kept (line ∷ rest))) ≡ true) [
      | true ↦ λ ends. long-carried n line rest other ends ∙ long-beyond (n + length line) (joined (kept rest)) over
      | false ↦ λ ends. ap (is_long_after n) (joined-ended line rest other ends) ∙ ap (λ t. t || list_any is_too_long (joined (kept rest))) (lt-ltb 1048576 (n + length line) over)
    ] refl
