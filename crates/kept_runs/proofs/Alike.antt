-- Lists of which the first elements are alike, or have something in common.
use Rattle.std.proofs.Common.{◌≡◌, ℕ, zero, suc, ◌+◌, ◌<◌, ◌≤◌, List, [], ◌∷◌, ◌++◌, length, take, get_or, map as list_map, All, refl, sym, ap, subst, ◌∙◌, arith}
use Rattle.std.proofs.Math.Seq.{take-suc}
use Rattle.std.proofs.lemmas.List.{take_all}
use Rattle.std.proofs.lemmas.List.Elements.{All-append, All-cons, All-nil}

-- the first elements, with one more
pub one_longer : {X : Type 0} (xs : List X) (i : ℕ) (x : X) → x ≡ get_or xs i x → i < length xs → take (i + 1) xs ≡ take i xs ++ x ∷ []
one_longer xs i x is within = let next : i + 1 ≡ suc i = omega arith in ap (λ n. take n xs) next ∙ take-suc xs i x within ∙ ap (λ y. take i xs ++ y ∷ []) (sym is)

module _ {X : Type 0} (P : X → Type 0) (xs : List X) (i : ℕ) where
  pub all_and_next : (x : X) → x ≡ get_or xs i x → i < length xs → All P (take i xs) → P x → All P (take (i + 1) xs)
  all_and_next x is within before here = subst (All P) (sym (one_longer xs i x is within)) (All-append P (take i xs) (x ∷ []) before (All-cons P x [] here (All-nil P)))

  pub all_at_end : length xs ≤ i → All P (take i xs) → All P xs
  all_at_end over before = subst (All P) (take_all i xs over) before

pub map-push : {X Y : Type 0} (f : X → Y) (xs : List X) (x : X) → list_map f (xs ++ x ∷ []) ≡ list_map f xs ++ f x ∷ []
map-push f [] x = refl
map-push f (y ∷ ys) x = ap (λ rest. f y ∷ rest) (map-push f ys x)

pub map_same : {X : Type 0} (xs : List X) → list_map (λ x. x) xs ≡ xs
map_same [] = refl
map_same (x ∷ xs) = ap (λ rest. x ∷ rest) (map_same xs)

module _ {X Y Z : Type 0} (f : X → Z) (g : Y → Z) where
  -- lists that are alike are so at each place
  pub alike_at : (xs : List X) (ys : List Y) (i : ℕ) (x : X) (y : Y) → x ≡ get_or xs i x → i < length xs → y ≡ get_or ys i y → list_map f xs ≡ list_map g ys → f x ≡ g y
  alike_at [] ys i x y is within also same = absurd (omega (arith, within))
  alike_at (a ∷ xs) [] i x y is within also same = absurd (cc)
  alike_at (a ∷ xs) (b ∷ ys) zero x y is within also same = let here : f a ≡ g b = cc in ap f is ∙ here ∙ sym (ap g also)
  alike_at (a ∷ xs) (b ∷ ys) (suc i) x y is within also same = alike_at xs ys i x y is (omega (arith, within)) also (cc)

module _ {X Y Z : Type 0} (f : X → Z) (g : Y → Z) (xs : List X) (ys : List Y) (i : ℕ) where
  -- The first of them are alike.
  abbrev pub FirstAlike : Type 0
  FirstAlike = (length xs ≡ length ys) × (list_map f (take i xs) ≡ list_map g (take i ys))

  pub all_alike : length xs ≤ i → FirstAlike → list_map f xs ≡ list_map g ys
  all_alike over h =
      let same : length xs ≡ length ys = h.0 in
      sym (ap (list_map f) (take_all i xs over)) ∙ h.1 ∙ ap (list_map g) (take_all i ys (omega (arith, over, same)))

  pub one_more_alike : (x : X) (y : Y) → x ≡ get_or xs i x → i < length xs → y ≡ get_or ys i y → f x ≡ g y → list_map f (take i xs) ≡ list_map g (take i ys) → length xs ≡ length ys
      → list_map f (take (i + 1) xs) ≡ list_map g (take (i + 1) ys)
  one_more_alike x y is within also same before both =
      ap (list_map f) (one_longer xs i x is within) ∙ map-push f (take i xs) x
      ∙ (λ j. before j ++ same j ∷ [])
      ∙ sym (ap (list_map g) (one_longer ys i y also (omega (arith, within, both))) ∙ map-push g (take i ys) y)
