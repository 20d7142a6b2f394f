-- Steps that put the entries of two trees, and that a sync covers.
use Rattle.std.proofs.Common.{◌≡◌, ℕ, zero, suc, Bool, true, false, cond, List, [], ◌∷◌, ◌++◌, take, refl, sym, ap, ◌∙◌, append_assoc, inl, inr}
use Rattle.std.specs.Prelude.{◌⊎◌, ◌||◌}
use Rattle.std.specs.List.{filter}
use Rattle.std.specs.Str.{bytes_eq}
use Rattle.std.specs.FinMap as map
use Rattle.std.proofs.lemmas.Bool.{cases_Bool}
use Rattle.std.proofs.lemmas.Slice.Eq.{bytes_eq-Decides}
use Rattle.link_tree.specs.declared.change.Change.{Change}
use Rattle.link_tree.specs.Trees.{Entries, AreFrom, after_change, after_changes, taken_back}
use Rattle.link_tree.proofs.Changed.{same_bytes, get-set, get-set_other, inverse_undoes}
use Rattle.tree_steps.specs.Steps.{IsOnTheWay, LeadsOn}
use Rattle.disk.specs.Events.{way_back}
use Rattle.kept_history.specs.Roots.{has_path}

after-append : (xs : List Change) (c : Change) (t : Entries) → after_changes (xs ++ c ∷ []) t ≡ after_change c (after_changes xs t)
after-append [] c t = refl
after-append (x ∷ xs) c t = after-append xs c (after_change x t)

-- a step at each of these paths
abbrev pub AreCovered : (steps : List Change) → List Change → Type 0
AreCovered steps [] = Unit {0}
AreCovered steps (c ∷ cs) = (has_path c.path steps ≡ true) × AreCovered steps cs

or_true : (b : Bool) → (b || true) ≡ true
or_true true = refl
or_true false = refl

covered-more : (s : Change) (steps cs : List Change) → AreCovered steps cs → AreCovered (s ∷ steps) cs
covered-more s steps [] h = tt
covered-more s steps (c ∷ cs) h = (ap (λ b. bytes_eq c.path s.path || b) h.0 ∙ or_true (bytes_eq c.path s.path), covered-more s steps cs h.1)

pub covered_all : (steps : List Change) → AreCovered steps steps
covered_all [] = tt
covered_all (s ∷ steps) = (ap (λ b. b || has_path s.path steps) ((bytes_eq-Decides s.path s.path).1 refl), covered-more s steps steps (covered_all steps))

pub covered-filter : (test : Change → Bool) (steps cs : List Change) → AreCovered steps cs → AreCovered steps (filter test cs)
covered-filter test steps [] h = tt
covered-filter test steps (c ∷ cs) h = elim (cases_Bool (test c)) [
  | inl stays ↦ rw stays (h.0, covered-filter test steps cs h.1)
  | inr goes ↦ rw goes (covered-filter test steps cs h.1)
]

pub covered-append : (steps xs ys : List Change) → AreCovered steps xs → AreCovered steps ys → AreCovered steps (xs ++ ys)
covered-append steps [] ys one other = other
covered-append steps (x ∷ xs) ys one other = (one.0, covered-append steps xs ys one.1 other)

pub covered-back : (steps cs : List Change) → AreCovered steps cs → AreCovered steps (way_back cs)
covered-back steps [] h = tt
covered-back steps (c ∷ cs) h = covered-append steps (way_back cs) (taken_back c ∷ []) (covered-back steps cs h.1) (h.0, tt)

module _ (old new : Entries) where
  -- Each step puts what the one tree or the other has at its path.
  abbrev pub StayOnTheWay : List Change → Type 0
  StayOnTheWay [] = Unit {0}
  StayOnTheWay (step ∷ steps) = ((step.after ≡ map.get old step.path) ⊎ (step.after ≡ map.get new step.path)) × StayOnTheWay steps

  -- what was put at a path is what the one tree or the other has there
  put_on_way : (c : Change) (now : Entries) → IsOnTheWay old new (after_change c now) → (c.after ≡ map.get old c.path) ⊎ (c.after ≡ map.get new c.path)
  put_on_way c now way =
      let here : map.get (after_change c now) c.path ≡ c.after = get-set now c.path c.after c.path ∙ ap (λ b. cond b c.after (map.get now c.path)) ((bytes_eq-Decides c.path c.path).1 refl) in
      elim (way c.path) [ inl was ↦ inl (sym here ∙ was) | inr is ↦ inr (sym here ∙ is) ]

  way_of : (now : Entries) (cs : List Change) → LeadsOn old new now cs → IsOnTheWay old new now
  way_of now [] to = λ path. inr (ap (λ t. map.get t path) to)
  way_of now (c ∷ cs) h = h.0

  -- steps that lead from the one to the other stay on the way
  pub leading_stay : (now : Entries) (cs : List Change) → LeadsOn old new now cs → StayOnTheWay cs
  leading_stay now [] to = tt
  leading_stay now (c ∷ cs) h = (put_on_way c now (way_of (after_change c now) cs h.2), leading_stay (after_change c now) cs h.2)

  pub stay-filter : (test : Change → Bool) (cs : List Change) → StayOnTheWay cs → StayOnTheWay (filter test cs)
  stay-filter test [] h = tt
  stay-filter test (c ∷ cs) h = elim (cases_Bool (test c)) [
    | inl stays ↦ rw stays (h.0, stay-filter test cs h.1)
    | inr goes ↦ rw goes (stay-filter test cs h.1)
  ]

  pub stay-take : (n : ℕ) (cs : List Change) → StayOnTheWay cs → StayOnTheWay (take n cs)
  stay-take zero cs h = tt
  stay-take (suc n) [] h = tt
  stay-take (suc n) (c ∷ cs) h = (h.0, stay-take n cs h.1)

  -- a step that stays on the way leaves a tree on the way
  pub way_made : (c : Change) (now : Entries) → (c.after ≡ map.get old c.path) ⊎ (c.after ≡ map.get new c.path) → IsOnTheWay old new now → IsOnTheWay old new (after_change c now)
  way_made c now put way path = elim (cases_Bool (bytes_eq path c.path)) [
    | inl here ↦ (
        let at : path ≡ c.path = same_bytes path c.path here in
        let is : map.get (after_change c now) path ≡ c.after = get-set now c.path c.after path ∙ ap (λ b. cond b c.after (map.get now path)) here in
        elim put [ inl was ↦ inl (is ∙ was ∙ sym (ap (map.get old) at)) | inr will ↦ inr (is ∙ will ∙ sym (ap (map.get new) at)) ])
    | inr away ↦ (
        let same : map.get (after_change c now) path ≡ map.get now path = get-set_other now c.path c.after path away in
        elim (way path) [ inl was ↦ inl (same ∙ was) | inr will ↦ inr (same ∙ will) ])
  ]

  pub stay-append : (xs ys : List Change) → StayOnTheWay xs → StayOnTheWay ys → StayOnTheWay (xs ++ ys)
  stay-append [] ys one other = other
  stay-append (x ∷ xs) ys one other = (one.0, stay-append xs ys one.1 other)

  -- what is taken back is as in the old tree
  pub stay-back : (n : ℕ) (steps : List Change) → AreFrom old steps → StayOnTheWay (way_back (take n steps))
  stay-back zero steps from = tt
  stay-back (suc n) [] from = tt
  stay-back (suc n) (step ∷ steps) from = stay-append (way_back (take n steps)) (taken_back step ∷ []) (stay-back n steps from.2) (inl (sym from.0), tt)

  -- the first n steps and the way back lead to the very tree
  pub back_again : (n : ℕ) (steps : List Change) (now : Entries) → LeadsOn old new now steps → after_changes (take n steps ++ way_back (take n steps)) now ≡ now
  back_again zero steps now leads = refl
  back_again (suc n) [] now leads = refl
  back_again (suc n) (step ∷ steps) now leads =
      let some : List Change = take n steps in
      let next : Entries = after_change step now in
      ap (λ cs. after_changes cs next) (sym (append_assoc some (way_back some) (taken_back step ∷ [])))
      ∙ after-append (some ++ way_back some) (taken_back step) next
      ∙ ap (after_change (taken_back step)) (back_again n steps next leads.2)
      ∙ inverse_undoes now (step ∷ []) (leads.1, tt, tt)
