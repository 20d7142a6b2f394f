-- Lists and pieces, split at an index.
use Rattle.std.proofs.Common.{◌≡◌, ◌<◌, ◌≤◌, ◌+◌, ℕ, zero, suc, List, [], ◌∷◌, ◌++◌, length, take, drop, Some, None, refl, sym, ap, ◌∙◌, append_assoc, append-nil, arith}
use Rattle.std.specs.List.{flat_map}
use Rattle.std.proofs.lemmas.List.Concat.{flat_map-append}
use Rattle.std.specs.Prelude.{slice_get, slice_set, slice_index_or}
use Rattle.std.proofs.lemmas.List.{drop_all, take-append-drop}
use Rattle.link_tree.specs.Pieces.{Item, joined, before, behind, all_but_first}
use Rattle.link_tree.proofs.Maps.{none_some}

module _ {X : Type 0} where
  some_is : {x y : X} → Some x ≡ Some y → x ≡ y
  some_is is = cc

  pub found_within : (xs : List X) (i : ℕ) (x : X) → slice_get xs i ≡ Some x → i < length xs
  found_within [] i x is = none_some x is
  found_within (y ∷ xs) zero x is = omega arith
  found_within (y ∷ xs) (suc i) x is = let rest = found_within xs i x is in omega arith

  pub within_found : (xs : List X) (i : ℕ) → i < length xs → (x : X) × (slice_get xs i ≡ Some x)
  within_found [] i within = absurd (omega arith)
  within_found (x ∷ xs) zero within = (x, refl)
  within_found (x ∷ xs) (suc i) within = within_found xs i (omega arith)

  pub none_within : (xs : List X) (i : ℕ) → slice_get xs i ≡ None → length xs ≤ i
  none_within [] i is = omega arith
  none_within (x ∷ xs) zero is = none_some x (sym is)
  none_within (x ∷ xs) (suc i) is = let rest = none_within xs i is in omega arith

  pub found_index : (xs : List X) (i : ℕ) (x d : X) → slice_get xs i ≡ Some x → slice_index_or xs i d ≡ x
  found_index [] i x d is = none_some x is
  found_index (y ∷ xs) zero x d is = some_is is
  found_index (y ∷ xs) (suc i) x d is = found_index xs i x d is

  pub none_index : (xs : List X) (i : ℕ) (d : X) → slice_get xs i ≡ None → slice_index_or xs i d ≡ d
  none_index [] i d is = refl
  none_index (x ∷ xs) zero d is = none_some x (sym is)
  none_index (x ∷ xs) (suc i) d is = none_index xs i d is

  pub index_found : (xs : List X) (i : ℕ) (x d : X) → i < length xs → slice_index_or xs i d ≡ x → slice_get xs i ≡ Some x
  index_found [] i x d within is = absurd (omega arith)
  index_found (y ∷ xs) zero x d within is = ap (λ z. Some z) is
  index_found (y ∷ xs) (suc i) x d within is = index_found xs i x d (omega arith) is

  pub past_none : (xs : List X) (i : ℕ) → length xs ≤ i → slice_get xs i ≡ None
  past_none [] i past = refl
  past_none (x ∷ xs) zero past = absurd (omega arith)
  past_none (x ∷ xs) (suc i) past = past_none xs i (omega arith)

  pub drop_found : (xs : List X) (i : ℕ) (x : X) → slice_get xs i ≡ Some x → drop i xs ≡ x ∷ drop (suc i) xs
  drop_found [] i x is = none_some x is
  drop_found (y ∷ xs) zero x is = ap (λ z. z ∷ xs) (some_is is)
  drop_found (y ∷ xs) (suc i) x is = drop_found xs i x is

  pub parted : (xs : List X) (i : ℕ) (x : X) → slice_get xs i ≡ Some x → xs ≡ take i xs ++ x ∷ drop (suc i) xs
  parted [] i x is = none_some x is
  parted (y ∷ xs) zero x is = ap (λ z. z ∷ xs) (some_is is)
  parted (y ∷ xs) (suc i) x is = ap (λ zs. y ∷ zs) (parted xs i x is)

  pub set_parted : (xs : List X) (i : ℕ) (x y : X) → slice_get xs i ≡ Some x → slice_set xs i y ≡ take i xs ++ y ∷ drop (suc i) xs
  set_parted [] i x y is = none_some x is
  set_parted (z ∷ xs) zero x y is = refl
  set_parted (z ∷ xs) (suc i) x y is = ap (λ zs. z ∷ zs) (set_parted xs i x y is)

-- the rest from an index on begins with the element read there
pub drop_read : {X : Type 0} → (xs : List X) (i : ℕ) (x : X) → i < length xs → x ≡ slice_index_or xs i x → drop i xs ≡ x ∷ drop (i + 1) xs
drop_read xs i x within is = drop_found xs i x (index_found xs i x x within (sym is)) ∙ ap (λ n. x ∷ drop n xs) (let next : suc i ≡ i + 1 = omega arith in next)

pub flat_map-joined : (f : Item → List ℕ) (left : List (List Item)) (piece : List Item) (rest : List (List Item)) → left ≡ piece ∷ rest → flat_map f (joined left) ≡ flat_map f piece ++ flat_map f (joined rest)
flat_map-joined f left piece rest is = ap (λ pieces. flat_map f (joined pieces)) is ∙ flat_map-append f piece (joined rest)

pub joined-append : (ps qs : List (List Item)) → joined (ps ++ qs) ≡ joined ps ++ joined qs
joined-append [] qs = refl
joined-append (p ∷ ps) qs = ap (λ items. p ++ items) (joined-append ps qs) ∙ sym (append_assoc p (joined ps) (joined qs))

no_entry : (n : ℕ) → ◌++◌ {A = Item} (take n []) (drop n [] ++ []) ≡ []
no_entry zero = refl
no_entry (suc n) = refl

nothing : (n : ℕ) → ◌++◌ {A = Item} (drop n []) [] ≡ []
nothing zero = refl
nothing (suc n) = refl

-- the pieces, split between the entries before a place and those after it
pub joined_at : (ps : List (List Item)) (i at : ℕ) → joined ps ≡ before ps i at ++ behind ps i at
joined_at [] zero at = sym (no_entry at)
joined_at [] (suc i) at = sym (no_entry at)
joined_at (p ∷ ps) zero at = ap (λ items. items ++ joined ps) (sym (take-append-drop at p)) ∙ append_assoc (take at p) (drop at p) (joined ps)
joined_at (p ∷ ps) (suc i) at =
    ap (λ items. p ++ items) (joined_at ps i at) ∙ sym (append_assoc p (before ps i at) (behind ps i at))
    ∙ ap (λ items. items ++ behind ps i at) (sym (append_assoc p (joined (take i ps)) (take at (slice_index_or ps i []))))

module _ (ps : List (List Item)) (i : ℕ) (p : List Item) (is : slice_get ps i ≡ Some p) where
  -- the entries before and after the i-th piece
  abbrev earlier : List Item
  earlier = joined (take i ps)

  abbrev later : List Item
  later = joined (drop (suc i) ps)

  pub before_is : (at : ℕ) → before ps i at ≡ earlier ++ take at p
  before_is at = ap (λ q. earlier ++ take at q) (found_index ps i p [] is)

  pub behind_is : (at : ℕ) → behind ps i at ≡ drop at p ++ later
  behind_is at = ap (λ q. drop at q ++ later) (found_index ps i p [] is)

  pub joined_parts : joined ps ≡ earlier ++ (p ++ later)
  joined_parts = ap joined (parted ps i p is) ∙ joined-append (take i ps) (p ∷ drop (suc i) ps)

  pub joined_set : (q : List Item) → joined (slice_set ps i q) ≡ earlier ++ (q ++ later)
  joined_set q = ap joined (set_parted ps i p q is) ∙ joined-append (take i ps) (q ∷ drop (suc i) ps)

  -- an entry put at a place of the piece
  pub inserted : (at : ℕ) (x : Item) → joined (slice_set ps i (take at p ++ x ∷ drop at p)) ≡ before ps i at ++ x ∷ behind ps i at
  inserted at x =
      joined_set (take at p ++ x ∷ drop at p)
      ∙ ap (λ items. earlier ++ items) (append_assoc (take at p) (x ∷ drop at p) later)
      ∙ sym (append_assoc earlier (take at p) (x ∷ (drop at p ++ later)))
      ∙ ap (λ items. items ++ x ∷ (drop at p ++ later)) (sym (before_is at)) ∙ ap (λ items. before ps i at ++ x ∷ items) (sym (behind_is at))

  module _ (at : ℕ) (y : Item) (there : slice_get p at ≡ Some y) where
    pub behind_item : behind ps i at ≡ y ∷ (drop (suc at) p ++ later)
    behind_item = behind_is at ∙ ap (λ items. items ++ later) (drop_found p at y there)

    left : (items : List Item) → earlier ++ ((take at p ++ items) ++ later) ≡ before ps i at ++ (items ++ later)
    left items =
        ap (λ zs. earlier ++ zs) (append_assoc (take at p) items later) ∙ sym (append_assoc earlier (take at p) (items ++ later))
        ∙ ap (λ zs. zs ++ (items ++ later)) (sym (before_is at))

    pub replaced : (x : Item) → joined (slice_set ps i (slice_set p at x)) ≡ before ps i at ++ x ∷ all_but_first (behind ps i at)
    replaced x =
        joined_set (slice_set p at x) ∙ ap (λ q. earlier ++ (q ++ later)) (set_parted p at y x there) ∙ left (x ∷ drop (suc at) p)
        ∙ ap (λ items. before ps i at ++ x ∷ all_but_first items) (sym behind_item)

    pub removed : joined (slice_set ps i (take at p ++ drop (suc at) p)) ≡ before ps i at ++ all_but_first (behind ps i at)
    removed = joined_set (take at p ++ drop (suc at) p) ∙ left (drop (suc at) p) ∙ ap (λ items. before ps i at ++ all_but_first items) (sym behind_item)

    -- the whole piece is removed with its only entry
    pub gone : length p ≡ 1 → joined (take i ps ++ drop (suc i) ps) ≡ before ps i at ++ all_but_first (behind ps i at)
    gone one =
        joined-append (take i ps) (drop (suc i) ps)
        ∙ ap (λ items. items ++ later) (sym (append-nil earlier) ∙ ap (λ items. earlier ++ items) (sym (none_before p at y there one)) ∙ sym (before_is at))
        ∙ ap (λ items. before ps i at ++ (items ++ later)) (sym (none_behind p at one))
        ∙ ap (λ items. before ps i at ++ all_but_first items) (sym behind_item)
      where
        none_before : (q : List Item) (n : ℕ) (z : Item) → slice_get q n ≡ Some z → length q ≡ 1 → take n q ≡ []
        none_before [] n z found all = none_some z found
        none_before (w ∷ q) zero z found all = refl
        none_before (w ∷ q) (suc n) z found all = let within = found_within q n z found in absurd (omega arith)

        none_behind : (q : List Item) (n : ℕ) → length q ≡ 1 → drop (suc n) q ≡ []
        none_behind q n all = drop_all (suc n) q (omega arith)

  -- a piece split in two
  pub cut_in_two : (at : ℕ) → joined (take i ps ++ (take at p ∷ drop at p ∷ drop (suc i) ps)) ≡ joined ps
  cut_in_two at =
      joined-append (take i ps) (take at p ∷ drop at p ∷ drop (suc i) ps)
      ∙ ap (λ items. earlier ++ items) (sym (append_assoc (take at p) (drop at p) later) ∙ ap (λ items. items ++ later) (take-append-drop at p))
      ∙ sym joined_parts

pub behind_none : (ps : List (List Item)) (i at : ℕ) → slice_get ps i ≡ None → behind ps i at ≡ []
behind_none ps i at is =
    ap (λ q. drop at q ++ joined (drop (suc i) ps)) (none_index ps i [] is) ∙ ap (λ qs. drop at [] ++ joined qs) (drop_all (suc i) ps (let past = none_within ps i is in omega arith)) ∙ nothing at
