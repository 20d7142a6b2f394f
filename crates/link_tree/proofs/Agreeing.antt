-- What is looked up in trees: if two trees are alike wherever something was looked at, both give
-- the same result. Cells are looked at, or keys: what is alike at each is a parameter.
use Rattle.std.proofs.Common.{◌≡◌, All, List, [], ◌∷◌, ◌++◌, Contains, refl, ap, ◌∙◌}
use Rattle.std.proofs.lemmas.List.Elements.{All-head, All-weaker, All-contains, All-contains_itself, Contains-append_left, Contains-append_right}
use Rattle.link_tree.specs.Trees.{Entries}

All-first : {A : Type 0} (P : A → Type 0) (xs ys : List A) → All P (xs ++ ys) → All P xs
All-first P xs ys all =
    All-weaker (λ x. Contains xs x) P
    (λ x here. All-contains P (xs ++ ys) x all (Contains-append_left xs ys x here)) xs (All-contains_itself xs)

All-second : {A : Type 0} (P : A → Type 0) (xs ys : List A) → All P (xs ++ ys) → All P ys
All-second P xs ys all =
    All-weaker (λ x. Contains ys x) P
    (λ x here. All-contains P (xs ++ ys) x all (Contains-append_right xs ys x here)) ys (All-contains_itself ys)

module _ {A : Type 0} (Alike : A → Entries → Entries → Type 0) where
  -- A result, and what is looked at for it, are the same in each tree that is alike there.
  abbrev pub Agrees : {X : Type 0} → (Entries → X) → (Entries → List A) → Type 0
  Agrees result looked = (t u : Entries) → All (λ a. Alike a t u) (looked t) → (result t ≡ result u) × (looked t ≡ looked u)

  -- nothing is looked at
  pub nothing_agrees : {X : Type 0} (x : X) → Agrees (λ t. x) (λ t. [])
  nothing_agrees x t u alike = (refl, refl)

  -- one thing is looked at
  pub one_agrees : {X : Type 0} (result : Entries → X) (a : A) → ((t u : Entries) → Alike a t u → result t ≡ result u) → Agrees result (λ t. a ∷ [])
  one_agrees result a same t u alike = (same t u (All-head (λ a. Alike a t u) a [] alike), refl)

  -- a function of the result
  pub given_agrees : {X Y : Type 0} (f : X → Y) (result : Entries → X) (looked : Entries → List A) → Agrees result looked → Agrees (λ t. f (result t)) looked
  given_agrees f result looked agrees t u alike = let same = agrees t u alike in (ap f same.0, same.1)

  -- more is looked up, which depends on the first result
  pub both_agree : {X Y : Type 0} (first : Entries → X) (looked : Entries → List A) (second : X → Entries → Y) (more : X → Entries → List A)
      → Agrees first looked → ((x : X) → Agrees (second x) (more x))
      → Agrees (λ t. second (first t) t) (λ t. looked t ++ more (first t) t)
  both_agree first looked second more agrees then t u alike =
      let before = agrees t u (All-first (λ a. Alike a t u) (looked t) (more (first t) t) alike) in
      let after = then (first t) t u (All-second (λ a. Alike a t u) (looked t) (more (first t) t) alike) in (
        after.0 ∙ ap (λ x. second x u) before.0,
        ap (λ looked. looked ++ more (first t) t) before.1 ∙ ap (λ others. looked u ++ others) after.1 ∙ ap (λ x. looked u ++ more x u) before.0,
      )
