-- The names of unit files, in whatever order the entries of a tree are read.
use Rattle.std.proofs.Common.{◌≡◌, ℕ, Bool, true, false, cond, ◌||◌, List, [], ◌∷◌, Contains, Option, Some, None, filter_map, refl, sym, ap, ◌∙◌}
use Rattle.std.specs.Prelude.{IsPermutation, is_some}
use Rattle.std.specs.Cmp.Lexicographic.{nat_list_cmp_total}
use Rattle.std.specs.FinMap as map
use Rattle.std.specs.Ordering.{eq_by_cmp}
use Rattle.std.proofs.lemmas.List.Sorted.{Contains-permutation, IsPermutation-sym}
use Rattle.link_tree.specs.declared.entry.Entry.{Entry}
use Rattle.link_tree.specs.Trees.{Entries, path_cmp}
use Rattle.states.specs.Dependencies.{NameSet, set_of}
use Rattle.states.proofs.Members.{in_filter_map, of_filter_map}
use Rattle.states.proofs.Ordered.{has, is_among, same_set, same_sets}
use Rattle.unit_lists.specs.Listing.{with_text}
use Rattle.unit_lists.specs.UnitFiles.{text_at, order_texts}

abbrev pub Standing : Type 0
Standing = List ℕ × Entry

abbrev pub text_of : Standing → Option (List ℕ)
text_of e = text_at e.0

-- the texts of entries join a set
abbrev pub with_texts : NameSet → List Standing → NameSet
with_texts texts [] = texts
with_texts texts (e ∷ es) = with_texts (with_text texts (text_of e)) es

has-insert : (texts : NameSet) (text other : List ℕ) → has (map.insert texts text tt) other ≡ (eq_by_cmp path_cmp other text || has texts other)
has-insert texts text other = ap is_some (map.get-insert nat_list_cmp_total texts text tt other) ∙ some_or (eq_by_cmp path_cmp other text) (map.get texts other)
  where
    some_or : (b : Bool) (o : Option (Unit {0})) → is_some (cond b (Some tt) o) ≡ (b || is_some o)
    some_or true o = refl
    some_or false o = refl

pub has-set_of : (texts : List (List ℕ)) (text : List ℕ) → has (set_of texts) text ≡ is_among texts text
has-set_of [] text = ap is_some (map.get-empty path_cmp text)
has-set_of (first ∷ texts) text = has-insert (set_of texts) first text ∙ ap (λ b. eq_by_cmp path_cmp text first || b) (has-set_of texts text)

or_false : (b : Bool) → b ≡ (b || false)
or_false true = refl
or_false false = refl

or_turned : (a b c : Bool) → ((a || b) || c) ≡ (b || (a || c))
or_turned true true c = refl
or_turned true false c = refl
or_turned false b c = refl

-- the text of one entry more
has-with_text : (texts : NameSet) (o : Option (List ℕ)) (rest : List (List ℕ)) (text : List ℕ)
    → (has (with_text texts o) text || is_among rest text) ≡ (has texts text || is_among (elim o [ None ↦ rest | Some first ↦ first ∷ rest ]) text)
has-with_text texts None rest text = refl
has-with_text texts (Some first) rest text = ap (λ b. b || is_among rest text) (has-insert texts first text) ∙ or_turned (eq_by_cmp path_cmp text first) (has texts text) (is_among rest text)

first_text : (e : Standing) (es : List Standing) (o : Option (List ℕ)) → text_of e ≡ o → filter_map text_of (e ∷ es) ≡ elim o [ None ↦ filter_map text_of es | Some first ↦ first ∷ filter_map text_of es ]
first_text e es None is = rw is refl
first_text e es (Some first) is = rw is refl

has-with_texts : (texts : NameSet) (es : List Standing) (text : List ℕ) → has (with_texts texts es) text ≡ (has texts text || is_among (filter_map text_of es) text)
has-with_texts texts [] text = or_false (has texts text)
has-with_texts texts (e ∷ es) text =
    has-with_texts (with_text texts (text_of e)) es text
    ∙ has-with_text texts (text_of e) (filter_map text_of es) text
    ∙ ap (λ found. has texts text || is_among found text) (sym (first_text e es (text_of e) refl))

-- the set of all texts is that of the tree's entries
pub all_texts : (t : Entries) (es : List Standing) → IsPermutation es (map.entries t) → with_texts map.empty es ≡ set_of (order_texts t)
all_texts t es same =
    same_set _ _ (λ text. has-with_texts map.empty es text ∙ ap (λ b. b || is_among (filter_map text_of es) text) (ap is_some (map.get-empty path_cmp text)) ∙ sym (has-set_of (filter_map text_of es) text))
    ∙ same_sets (filter_map text_of es) (order_texts t) (λ text. (along es (map.entries t) same text, along (map.entries t) es (IsPermutation-sym es (map.entries t) same) text))
  where
    along : (es fs : List Standing) → IsPermutation es fs → (text : List ℕ) → Contains (filter_map text_of es) text → Contains (filter_map text_of fs) text
    along es fs same text here = (let found = of_filter_map text_of es text here in
        in_filter_map text_of fs found.0 text (Contains-permutation es fs found.0 same found.1) found.2)
