-- The elements of lists.
use Rattle.std.proofs.Common.{◌≡◌, List, [], ◌∷◌, ◌++◌, Option, Some, None, Contains, filter_map, flat_map, map, refl, sym, ap, subst, ◌∙◌, inl, inr, arith, ◌⊎◌}
use Rattle.std.proofs.lemmas.List.Concat.{flat_map-cons}
use Rattle.std.proofs.lemmas.List.Elements.{Contains-append_left, Contains-append_right, filter_map-append}
use Rattle.install_section.proofs.Least.{first_or_later, is_first, is_later}

pub none_in : {X : Type 0} (x : X) → Contains [] x → ⊥
none_in x h = let lt = h.1 in omega (arith)

-- an element of two lists, appended, is in one of them
pub in_either : {X : Type 0} (xs ys : List X) (x : X) → Contains (xs ++ ys) x → Contains xs x ⊎ Contains ys x
in_either [] ys x h = inr h
in_either (y ∷ xs) ys x h = elim (first_or_later y (xs ++ ys) x h.0 h.1 h.2) [
  | inl is ↦ inl (is_first y xs x is)
  | inr later ↦ elim (in_either xs ys x later) [ inl here ↦ inl (is_later y xs x here) | inr there ↦ inr there ]
]

-- the results of a function for the elements, all together
pub in_flat_map : {X Y : Type 0} (f : X → List Y) (xs : List X) (x : X) (y : Y) → Contains xs x → Contains (f x) y → Contains (flat_map f xs) y
in_flat_map f [] x y here there = absurd (none_in x here)
in_flat_map f (z ∷ xs) x y here there = elim (first_or_later z xs x here.0 here.1 here.2) [
  | inl is ↦ subst (λ ys. Contains ys y) (sym (flat_map-cons f z xs)) (Contains-append_left (f z) (flat_map f xs) y (subst (λ x. Contains (f x) y) is there))
  | inr later ↦ subst (λ ys. Contains ys y) (sym (flat_map-cons f z xs)) (Contains-append_right (f z) (flat_map f xs) y (in_flat_map f xs x y later there))
]

pub of_flat_map : {X Y : Type 0} (f : X → List Y) (xs : List X) (y : Y) → Contains (flat_map f xs) y → (x : X) × Contains xs x × Contains (f x) y
of_flat_map f [] y here = absurd (none_in y here)
of_flat_map f (z ∷ xs) y here = elim (in_either (f z) (flat_map f xs) y (subst (λ ys. Contains ys y) (flat_map-cons f z xs) here)) [
  | inl first ↦ (z, is_first z xs z refl, first)
  | inr later ↦ (let found = of_flat_map f xs y later in (found.0, is_later z xs found.0 found.1, found.2))
]

of_one : {X Y : Type 0} (h : X → Option Y) (x : X) (o : Option Y) → h x ≡ o → (y : Y) → Contains (filter_map h (x ∷ [])) y → h x ≡ Some y
of_one h x None is y here = (let none : Contains [] y = rw is at here in absurd (none_in y none))
of_one h x (Some z) is y here = (let one : Contains (z ∷ []) y = rw is at here in
    elim (first_or_later z [] y one.0 one.1 one.2) [ inl same ↦ is ∙ ap (λ y. Some y) (sym same) | inr later ↦ absurd (none_in y later) ])

in_one : {X Y : Type 0} (h : X → Option Y) (x : X) (y : Y) → h x ≡ Some y → Contains (filter_map h (x ∷ [])) y
in_one h x y is = rw is (is_first y [] y refl)

pub in_filter_map : {X Y : Type 0} (h : X → Option Y) (xs : List X) (x : X) (y : Y) → Contains xs x → h x ≡ Some y → Contains (filter_map h xs) y
in_filter_map h [] x y here is = absurd (none_in x here)
in_filter_map h (z ∷ xs) x y here is = subst (λ ys. Contains ys y) (sym (filter_map-append h (z ∷ []) xs)) (elim (first_or_later z xs x here.0 here.1 here.2) [
  | inl same ↦ Contains-append_left (filter_map h (z ∷ [])) (filter_map h xs) y (in_one h z y (ap h (sym same) ∙ is))
  | inr later ↦ Contains-append_right (filter_map h (z ∷ [])) (filter_map h xs) y (in_filter_map h xs x y later is)
])

pub of_filter_map : {X Y : Type 0} (h : X → Option Y) (xs : List X) (y : Y) → Contains (filter_map h xs) y → (x : X) × Contains xs x × (h x ≡ Some y)
of_filter_map h [] y here = absurd (none_in y here)
of_filter_map h (z ∷ xs) y here = elim (in_either (filter_map h (z ∷ [])) (filter_map h xs) y (subst (λ ys. Contains ys y) (filter_map-append h (z ∷ []) xs) here)) [
  | inl first ↦ (z, is_first z xs z refl, of_one h z (h z) refl y first)
  | inr later ↦ (let found = of_filter_map h xs y later in (found.0, is_later z xs found.0 found.1, found.2))
]

pub in_map : {X Y : Type 0} (f : X → Y) (xs : List X) (x : X) → Contains xs x → Contains (map f xs) (f x)
in_map f [] x here = absurd (none_in x here)
in_map f (z ∷ xs) x here = elim (first_or_later z xs x here.0 here.1 here.2) [
  | inl is ↦ is_first (f z) (map f xs) (f x) (ap f is)
  | inr later ↦ is_later (f z) (map f xs) (f x) (in_map f xs x later)
]

pub of_map : {X Y : Type 0} (f : X → Y) (xs : List X) (y : Y) → Contains (map f xs) y → (x : X) × Contains xs x × (y ≡ f x)
of_map f [] y here = absurd (none_in y here)
of_map f (z ∷ xs) y here = elim (first_or_later (f z) (map f xs) y here.0 here.1 here.2) [
  | inl is ↦ (z, is_first z xs z refl, is)
  | inr later ↦ (let found = of_map f xs y later in (found.0, is_later z xs found.0 found.1, found.2))
]
