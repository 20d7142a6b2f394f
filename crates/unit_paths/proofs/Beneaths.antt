-- Which paths can lie beneath a path: in byte order, from the first one that can.
use Rattle.std.proofs.Common.{◌≡◌, refl, ℕ, zero, suc, ◌<◌, Bool, true, false, List, [], ◌∷◌, ◌++◌, length, Some, None, sym, ◌∙◌, ap, arith, inl, inr, ◌⊎◌, codes, append_assoc, length-append}
use Rattle.std.specs.Prelude.{◌==◌, if◌then◌else◌, nat_lt}
use Rattle.std.specs.List.{list_all, slice_split}
use Rattle.std.specs.Cmp.Lexicographic.{slice_cmp}
use Rattle.std.specs.declared.cmp.Ordering.{Ordering}
use Rattle.std.specs.declared.cmp.Ordering.TheVariants.{Less, Equal}
use Rattle.std.specs.Ordering.{is_le, nat_cmp, ordering_then}
use Rattle.std.proofs.lemmas.Bool.{cases_Bool, false≢true, and_parts, and_from, eqb-true, eq-eqb, le-ltb, ltb-true, ltb-false}
use Rattle.std.proofs.lemmas.List.Folds.{list_all-append}
use Rattle.unit_paths.specs.Paths.{is_slash, is_part, is_text_byte, is_path, is_absolute, first_beneath}
use Rattle.unit_paths.specs.Canonical.{begins_with_slash}
use Rattle.unit_paths.specs.Shape.{is_beneath}
use Rattle.unit_paths.proofs.Shapes.{beneath-parts, beneath-after}
use Rattle.unit_paths.proofs.PathFacts.{path_facts, path_from_facts}
use Rattle.unit_paths.proofs.Slashes.{split-append}

abbrev path_cmp : List ℕ → List ℕ → Ordering
path_cmp = slice_cmp nat_cmp

-- either the first elements decide, or the rest does
head_le : (x y : ℕ) (o : Ordering) → is_le (ordering_then (nat_cmp x y) o) ≡ true → (x < y) ⊎ ((x ≡ y) × (is_le o ≡ true))
head_le x y o le = elim (cases_Bool (nat_lt x y)) [
  | inl less ↦ inl (ltb-true x y less)
  | inr other ↦ elim (cases_Bool (x == y)) [
    | inl same ↦ inr (eqb-true x y same, sym (rw (other, same) refl) ∙ le)
    | inr greater ↦ absurd (false≢true (sym (rw (other, greater) refl) ∙ le))
  ]
]

nat_cmp-refl : (x : ℕ) → nat_cmp x x ≡ Equal
nat_cmp-refl x = rw (le-ltb x x (omega arith), eq-eqb x x refl) refl

-- a text between two texts that begin with the same front begins with it too
between : (front low text high : List ℕ) → is_le (path_cmp (front ++ low) text) ≡ true → is_le (path_cmp text (front ++ high)) ≡ true → (rest : List ℕ) × (text ≡ front ++ rest)
between [] low text high from to = (text, refl)
between (x ∷ front) low [] high from to = absurd (false≢true from)
between (x ∷ front) low (y ∷ text) high from to =
    elim (head_le x y _ from) [
      | inl less ↦ elim (head_le y x _ to) [ inl more ↦ absurd (omega arith) | inr same ↦ absurd (omega (arith, same.0)) ]
      | inr same ↦ elim (head_le y x _ to) [
        | inl more ↦ absurd (omega (arith, same.0))
        | inr again ↦ (let rest = between front low text high same.1 again.1 in (rest.0, λ i. again.0 i ∷ rest.1 i))
      ]
    ]

empty_le : (rest : List ℕ) → is_le (path_cmp [] rest) ≡ true
empty_le [] = refl
empty_le (b ∷ bs) = refl

path_cmp-front : (front low high : List ℕ) → path_cmp (front ++ low) (front ++ high) ≡ path_cmp low high
path_cmp-front [] low high = refl
path_cmp-front (x ∷ front) low high = rw (nat_cmp-refl x) (path_cmp-front front low high)

-- what follows a slash in a path begins with a byte above 0
parts_after : (front rest : List ℕ) → is_path (front ++ 47 ∷ rest) ≡ true → list_all is_part (slice_split is_slash rest) ≡ true
parts_after [] rest is = (path_facts 47 rest is).parts
parts_after (b ∷ front) rest is =
    let all = (path_facts b (front ++ 47 ∷ rest) is).parts in
    let both = sym (ap (list_all is_part) (split-append front rest) ∙ list_all-append is_part (slice_split is_slash front) (slice_split is_slash rest)) ∙ all in
    (and_parts (list_all is_part (slice_split is_slash front)) (list_all is_part (slice_split is_slash rest)) both).1

all_after : (front rest : List ℕ) → list_all is_text_byte (front ++ 47 ∷ rest) ≡ true → list_all is_text_byte rest ≡ true
unfolding is_text_byte
all_after front rest all =
    (and_parts (list_all is_text_byte front) (list_all is_text_byte rest) (sym (list_all-append is_text_byte front (47 ∷ rest)) ∙ all)).1

bytes_after : (front rest : List ℕ) → is_path (front ++ 47 ∷ rest) ≡ true → list_all is_text_byte rest ≡ true
bytes_after [] rest is = all_after [] rest (path_facts 47 rest is).bytes
bytes_after (b ∷ front) rest is = all_after (b ∷ front) rest (path_facts b (front ++ 47 ∷ rest) is).bytes

nonempty : (rest : List ℕ) → list_all is_part (slice_split is_slash rest) ≡ true → 0 < length rest
unfolding is_part
nonempty [] parts = absurd (false≢true parts)
nonempty (b ∷ bs) parts = omega arith

first_after : (rest : List ℕ) → list_all is_part (slice_split is_slash rest) ≡ true → list_all is_text_byte rest ≡ true → is_le (path_cmp (1 ∷ []) rest) ≡ true
unfolding is_part is_text_byte
first_after [] parts bytes = absurd (false≢true parts)
first_after (zero ∷ bs) parts bytes = absurd (false≢true bytes)
first_after (suc n ∷ bs) parts bytes = elim (cases_Bool (nat_lt 1 (suc n))) [
  | inl more ↦ rw more refl
  | inr other ↦ rw (other, eq-eqb 1 (suc n) (omega (arith, ltb-false 1 (suc n) other))) (empty_le bs)
]

-- a path beneath another comes at or after the first path that can lie beneath it
pub from_first : (path other : List ℕ) → is_path other ≡ true → is_beneath other path ≡ true → is_le (path_cmp (path ++ codes "/" ++ codes "\u{1}") other) ≡ true
from_first path other is beneath =
    let at = beneath-parts other path beneath in
    let whole : is_path (path ++ 47 ∷ at.0) ≡ true = sym (ap is_path at.1) ∙ is in
    let cut : other ≡ (path ++ codes "/") ++ at.0 = at.1 ∙ sym (append_assoc path (codes "/") at.0) in
    ap (λ text. is_le (path_cmp (path ++ codes "/" ++ codes "\u{1}") text)) cut
    ∙ ap is_le (path_cmp-front (path ++ codes "/") (codes "\u{1}") at.0)
    ∙ first_after at.0 (parts_after path at.0 whole) (bytes_after path at.0 whole)

-- a text between that first path and a path beneath is beneath it too
pub beneath_between : (path text other : List ℕ) → is_le (path_cmp (path ++ codes "/" ++ codes "\u{1}") text) ≡ true → path_cmp text other ≡ Less → is_beneath other path ≡ true → is_beneath text path ≡ true
unfolding begins_with_slash
beneath_between path text other from less beneath =
    let at = beneath-parts other path beneath in
    let cut : other ≡ (path ++ codes "/") ++ at.0 = at.1 ∙ sym (append_assoc path (codes "/") at.0) in
    let to : is_le (path_cmp text ((path ++ codes "/") ++ at.0)) ≡ true = ap (λ high. is_le (path_cmp text high)) (sym cut) ∙ ap is_le less in
    let rest = between (path ++ codes "/") (codes "\u{1}") text at.0 from to in
    ap (λ t. is_beneath t path) (rest.1 ∙ append_assoc path (codes "/") rest.0) ∙ beneath-after path (47 ∷ rest.0)

usual_end : (list_all is_text_byte (codes "/" ++ codes "\u{1}") ≡ true) × (list_all is_part (slice_split is_slash (codes "\u{1}")) ≡ true)
unfolding is_text_byte is_part
usual_end = (refl, refl)

pub first_path : (path rest : List ℕ) → is_path path ≡ true → is_path (path ++ 47 ∷ rest) ≡ true → is_path (path ++ 47 ∷ codes "\u{1}") ≡ true
unfolding is_path is_absolute
first_path [] rest is whole = absurd (false≢true is)
first_path (b ∷ bs) rest is whole =
    let facts = path_facts b bs is in
    let long = path_facts b (bs ++ 47 ∷ rest) whole in
    let some : 0 < length rest = nonempty rest (parts_after (b ∷ bs) rest whole) in
    path_from_facts b (bs ++ 47 ∷ codes "\u{1}") (record {
      short = omega (arith, long.short, length-append bs (47 ∷ rest), length-append bs (47 ∷ codes "\u{1}"));
      bytes = list_all-append is_text_byte (b ∷ bs) (47 ∷ codes "\u{1}") ∙ and_from (list_all is_text_byte (b ∷ bs)) _ facts.bytes usual_end.0;
      slash = facts.slash;
      parts = ap (list_all is_part) (split-append bs (codes "\u{1}")) ∙ list_all-append is_part (slice_split is_slash bs) (slice_split is_slash (codes "\u{1}")) ∙ and_from (list_all is_part (slice_split is_slash bs)) _ facts.parts usual_end.1;
    })

some_first : (b : Bool) (first other : List ℕ) → (if b then Some first else None) ≡ Some other → first ≡ other
some_first true first other e = cc
some_first false first other e = absurd (cc)

-- the search begins at the first path that can lie beneath
pub first_at : (path first : List ℕ) → first_beneath path ≡ Some first → path ++ codes "/" ++ codes "\u{1}" ≡ first
first_at path first found = some_first (is_path (path ++ codes "/" ++ codes "\u{1}")) _ first found
