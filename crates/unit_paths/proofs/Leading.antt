-- Targets are resolved part by part.
use Rattle.std.proofs.Common.{◌≡◌, ◌≢◌, ℕ, true, false, List, [], ◌∷◌, ◌++◌, refl, sym, ◌∙◌, ap, append_assoc, append-nil, inl, inr}
use Rattle.std.specs.List.{list_all, list_any, slice_split, onto_first}
use Rattle.std.proofs.lemmas.Bool.{cases_Bool, false≢true, and_parts, or_parts, eqb-true}
use Rattle.unit_paths.specs.Canonical.{with_part, walked, start_of, begins_with_slash}
use Rattle.unit_paths.specs.Laws.{led, LeadsByParts}
use Rattle.unit_paths.specs.Paths.{is_part, is_slash, is_path, parent}
use Rattle.unit_paths.proofs.PathFacts.{path_facts}
use Rattle.unit_paths.proofs.Slashes.{split-cons, split-append, path_slash}

-- parts, each after a slash
joined : List (List ℕ) → List ℕ
joined [] = []
joined (part ∷ parts) = 47 ∷ (part ++ joined parts)

joined-onto : (x : ℕ) (parts : List (List ℕ)) (xs : List ℕ) → joined parts ≡ 47 ∷ xs → joined (onto_first x parts) ≡ 47 ∷ x ∷ xs
unfolding joined
joined-onto x [] xs h = cc
joined-onto x (part ∷ parts) xs h = let same : part ++ joined parts ≡ xs = cc in ap (λ r. 47 ∷ x ∷ r) same

joined-split : (xs : List ℕ) → joined (slice_split is_slash xs) ≡ 47 ∷ xs
unfolding joined
joined-split [] = refl
joined-split (x ∷ xs) = elim (cases_Bool (is_slash x)) [
  | inl here ↦ ap joined (split-cons x xs true here) ∙ ap (λ r. 47 ∷ r) (joined-split xs) ∙ ap (λ b. 47 ∷ b ∷ xs) (sym (eqb-true x 47 here))
  | inr away ↦ ap joined (split-cons x xs false away) ∙ joined-onto x (slice_split is_slash xs) xs (joined-split xs)
]

pub with_part-part : (text part : List ℕ) → is_part part ≡ true → with_part text part ≡ text ++ 47 ∷ part
unfolding with_part
with_part-part text part h = rw h refl

walked-parts : (text : List ℕ) (parts : List (List ℕ)) → list_all is_part parts ≡ true → walked text parts ≡ text ++ joined parts
unfolding walked joined
walked-parts text [] h = sym (append-nil text)
walked-parts text (part ∷ parts) h =
    let both = and_parts (is_part part) (list_all is_part parts) h in
    ap (λ t. walked t parts) (with_part-part text part both.0) ∙ walked-parts (text ++ 47 ∷ part) parts both.1 ∙ append_assoc text (47 ∷ part) (joined parts)

pub walked-last : (text : List ℕ) (parts : List (List ℕ)) (part : List ℕ) → walked text (parts ++ part ∷ []) ≡ with_part (walked text parts) part
unfolding walked
walked-last text [] part = refl
walked-last text (p ∷ parts) part = walked-last (with_part text p) parts part

pub split-one : (part : List ℕ) → list_any is_slash part ≡ false → slice_split is_slash part ≡ part ∷ []
split-one [] none = refl
split-one (x ∷ xs) none =
    let both = or_parts (is_slash x) (list_any is_slash xs) none in
    split-cons x xs false both.0 ∙ ap (onto_first x) (split-one xs both.1)

-- the walk from the root skips the empty part before the first slash
from_root : with_part [] [] ≡ []
unfolding with_part is_part
from_root = refl

walked-root : (bs : List ℕ) → walked (with_part [] []) (slice_split is_slash bs) ≡ walked [] (slice_split is_slash bs)
walked-root bs = ap (λ t. walked t (slice_split is_slash bs)) from_root

itself : (link path : List ℕ) → is_path path ≡ true → led link path ≡ path
unfolding start_of begins_with_slash walked
itself link [] h = absurd (false≢true (path_slash [] h))
itself link (b ∷ bs) h =
    let facts = path_facts b bs h in
    let first : b ≡ 47 = eqb-true b 47 facts.slash in
    rw (facts.slash) (walked-root bs ∙ walked-parts [] (slice_split is_slash bs) facts.parts ∙ joined-split bs ∙ ap (λ x. x ∷ bs) (sym first))

single : (link part : List ℕ) → list_any is_slash part ≡ false → led link part ≡ with_part (parent link) part
unfolding start_of begins_with_slash walked
single link [] none = refl
single link (b ∷ bs) none =
    let both = or_parts (is_slash b) (list_any is_slash bs) none in
    rw (both.0) (ap (λ ps. walked (parent link) (onto_first b ps)) (split-one bs both.1))

onward : (link target part : List ℕ) → target ≢ [] → list_any is_slash part ≡ false → led link (target ++ 47 ∷ part) ≡ with_part (led link target) part
unfolding start_of begins_with_slash
onward link [] part some none = absurd (some refl)
onward link (b ∷ bs) part some none =
    let start = start_of link (b ∷ bs) in
    ap (walked start) (split-append (b ∷ bs) part ∙ ap (λ ps. slice_split is_slash (b ∷ bs) ++ ps) (split-one part none))
    ∙ walked-last start (slice_split is_slash (b ∷ bs)) part

pub leads_by_parts : LeadsByParts
leads_by_parts = record { itself = itself; single = single; onward = onward; merges = λ link target. refl }
