-- The events of steps, one more and one fewer.
use Rattle.std.proofs.Common.{◌≡◌, ◌+◌, ◌<◌, ℕ, suc, List, [], ◌∷◌, ◌++◌, length, map as list_map, take, drop, get_or, Option, Some, None, refl, sym, ap, ◌∙◌, append_assoc, arith}
use Rattle.std.proofs.Math.Seq.{take-suc, drop-cons}
use Rattle.std.proofs.lemmas.List.{append-nil}
use Rattle.link_tree.specs.declared.change.Change.{Change}
use Rattle.link_tree.specs.Trees.{taken_back}
use Rattle.disk.specs.Events.{Event, Make, with_events, with_steps, way_back}

pub with_none : (o : Option (List Event)) → with_events o [] ≡ o
with_none None = refl
with_none (Some done) = ap (λ es. Some es) (append-nil done)

pub with_with : (o : Option (List Event)) (xs ys : List Event) → with_events (with_events o xs) ys ≡ with_events o (xs ++ ys)
with_with None xs ys = refl
with_with (Some done) xs ys = ap (λ es. Some es) (append_assoc done xs ys)

pub makes-append : (xs ys : List Change) → list_map Make (xs ++ ys) ≡ list_map Make xs ++ list_map Make ys
makes-append [] ys = refl
makes-append (x ∷ xs) ys = ap (λ es. Make x ∷ es) (makes-append xs ys)

pub no_steps : (o : Option (List Event)) → o ≡ with_steps o []
no_steps o = sym (with_none o)

-- these were made, and then those
pub more_steps : (o mid new : Option (List Event)) (xs ys : List Change) → mid ≡ with_steps o xs → new ≡ with_steps mid ys → new ≡ with_steps o (xs ++ ys)
more_steps o mid new xs ys first h =
    h ∙ ap (λ p. with_steps p ys) first ∙ with_with o (list_map Make xs) (list_map Make ys) ∙ ap (with_events o) (sym (makes-append xs ys))

module _ (steps : List Change) (i : ℕ) (step : Change) (is : step ≡ get_or steps i step) (within : i < length steps) (o mid new : Option (List Event)) where
  one_longer : take (i + 1) steps ≡ take i steps ++ step ∷ []
  one_longer =
      let next : i + 1 ≡ suc i = omega arith in
      ap (λ n. take n steps) next ∙ take-suc steps i step within ∙ ap (λ x. take i steps ++ x ∷ []) (sym is)

  -- one more is made
  pub one_done : mid ≡ with_steps o (take i steps) → new ≡ with_events mid (Make step ∷ []) → new ≡ with_steps o (take (i + 1) steps)
  one_done first h = more_steps o mid new (take i steps) (step ∷ []) first h ∙ ap (with_steps o) (sym one_longer)

  one_less : drop i steps ≡ step ∷ drop (i + 1) steps
  one_less =
      let next : suc i ≡ i + 1 = omega arith in
      drop-cons steps i step within ∙ ap (λ x. x ∷ drop (suc i) steps) (sym is) ∙ ap (λ n. step ∷ drop n steps) next

  -- one more is taken back
  pub one_done_back : mid ≡ with_steps o (way_back (drop (i + 1) steps)) → new ≡ with_events mid (Make (taken_back step) ∷ []) → new ≡ with_steps o (way_back (drop i steps))
  one_done_back first h =
      more_steps o mid new (way_back (drop (i + 1) steps)) (taken_back step ∷ []) first h ∙ ap (λ cs. with_steps o (way_back cs)) (sym one_less)
