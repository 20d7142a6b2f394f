-- What recovery finds at the paths of steps, and what it does.
use Rattle.std.proofs.Common.{◌≡◌, ◌≢◌, ◌⊎◌, ◌+◌, ◌<◌, ℕ, suc, Bool, true, false, not, cond, List, [], ◌∷◌, ◌++◌, length, take, get_or, Option, Some, None, Result, Err, refl, sym, ap, ◌∙◌, subst, inl, inr, arith}
use Rattle.std.specs.Prelude.{IfSome, ◌&&◌, IsErr, IsErrAnd}
use Rattle.std.specs.List.{filter}
use Rattle.std.specs.Option.{option_map}
use Rattle.std.specs.FinMap as map
use Rattle.std.proofs.Math.Seq.{take-suc}
use Rattle.std.proofs.lemmas.Bool.{cases_Bool, false≢true}
use Rattle.std.proofs.lemmas.List.{append-nil}
use Rattle.link_tree.specs.declared.change.Change.{Change}
use Rattle.link_tree.specs.declared.entry.Entry.{Entry}
use Rattle.link_tree.specs.Trees.{Entries}
use Rattle.link_tree.specs.Differences.{same}
use Rattle.link_tree.proofs.Differences.{same_is, same-itself}
use Rattle.tree_steps.specs.Steps.{steps_between}
use Rattle.disk.specs.declared.disk.Oddity.{Oddity}
use Rattle.disk.specs.declared.error.DiskError.{DiskError}
use Rattle.disk.specs.Disks.{Held, Stands, StandsOddly}
use Rattle.disk.specs.Applied.{after_steps}
use Rattle.disk.specs.Events.{Event, with_events}
use Rattle.kept_history.specs.Recovery.{is_due, is_foreign, due_steps, finishing}
use Rattle.kept_history.specs.Finishing.{IsPlain, HasNothingOdd, IsOther, AreSorted, NoSteps, Due, Foreign, Made, AreAllSorted, HasCause, Finishes, IsFinished, AreForeign}
use Rattle.kept_history.specs.Sorting.{WasFound, SortsOne}
use Rattle.kept_history.specs.declared.recovery.FinishError.{FinishError}
use Rattle.kept_history.specs.declared.recovery.FinishError.TheVariants.{DiskFailed, NotMade}
use Rattle.kept_history.proofs.Fronts.{returned, does_none}

-- one step, by what was found
module _ (held : Option Held) (path : List ℕ) (entry : Option Entry) where
  pub found_there : IfSome held (λ h. Stands h path entry) → WasFound held path entry true
  found_there here = here

  pub found_other : IfSome held (λ h. map.get h.entries path ≢ entry) → WasFound held path entry false
  found_other other = each held other
    where
      each : (held : Option Held) → IfSome held (λ h. map.get h.entries path ≢ entry) → IfSome held (λ h. IsOther h path entry)
      each None other = tt
      each (Some h) other = inl other

  pub found_odd : IfSome held (λ h. (oddity : Oddity) × StandsOddly h path oddity) → WasFound held path entry false
  found_odd odd = each held odd
    where
      each : (held : Option Held) → IfSome held (λ h. (oddity : Oddity) × StandsOddly h path oddity) → IfSome held (λ h. IsOther h path entry)
      each None odd = tt
      each (Some h) odd = inr odd

module _ (due foreign due_now foreign_now : List Change) (step : Change) where
  abbrev pub Adds : Option Held → Type 0
  Adds held = IfSome held (λ h. SortsOne h due foreign due_now foreign_now step)

  pub adds_due : (held : Option Held) → WasFound held step.path step.before true → due_now ≡ due ++ step ∷ [] → foreign_now ≡ foreign → Adds held
  adds_due None found more kept = tt
  adds_due (Some h) found more kept = inl (found, more, kept)

  pub adds_foreign : (held : Option Held) → WasFound held step.path step.before false → WasFound held step.path step.after false → due_now ≡ due → foreign_now ≡ foreign ++ step ∷ [] → Adds held
  adds_foreign None found after kept more = tt
  adds_foreign (Some h) found after kept more = inr (inl (found, after, kept, more))

  pub adds_none : (held : Option Held) → WasFound held step.path step.before false → WasFound held step.path step.after true → due_now ≡ due → foreign_now ≡ foreign → Adds held
  adds_none None found after kept same_foreign = tt
  adds_none (Some h) found after kept same_foreign = inr (inr (found, after, kept, same_foreign))

-- some steps and then others
module _ (h : Held) (more due_more foreign_more : List Change) (then : AreSorted h more due_more foreign_more) where
  sorted_then : (steps due foreign : List Change) → AreSorted h steps due foreign → AreSorted h (steps ++ more) (due ++ due_more) (foreign ++ foreign_more)
  sorted_then _ _ _ NoSteps = then
  sorted_then _ _ _ (Due step steps due foreign here rest) = Due step (steps ++ more) (due ++ due_more) (foreign ++ foreign_more) here (sorted_then steps due foreign rest)
  sorted_then _ _ _ (Foreign step steps due foreign before after rest) = Foreign step (steps ++ more) (due ++ due_more) (foreign ++ foreign_more) before after (sorted_then steps due foreign rest)
  sorted_then _ _ _ (Made step steps due foreign before after rest) = Made step (steps ++ more) (due ++ due_more) (foreign ++ foreign_more) before after (sorted_then steps due foreign rest)

alike : (h : Held) (steps due foreign : List Change) {steps' due' foreign' : List Change} → steps ≡ steps' → due ≡ due' → foreign ≡ foreign' → AreSorted h steps due foreign → AreSorted h steps' due' foreign'
alike h steps due foreign {steps'} {due'} {foreign'} one two three sorted =
    subst (λ cs. AreSorted h steps' due' cs) three (subst (λ cs. AreSorted h steps' cs foreign) two (subst (λ cs. AreSorted h cs due foreign) one sorted))

module _ (all : List Change) (i : ℕ) (step : Change) (is : step ≡ get_or all i step) (within : i < length all) (due foreign due_now foreign_now : List Change) where
  one_longer : take i all ++ step ∷ [] ≡ take (i + 1) all
  one_longer =
      let next : suc i ≡ i + 1 = omega arith in
      ap (λ x. take i all ++ x ∷ []) is ∙ sym (take-suc all i step within) ∙ ap (λ n. take n all) next

  -- one more of the steps is sorted
  pub adds_more : (held now : Option Held) → now ≡ held → AreAllSorted held (take i all) due foreign
      → Adds due foreign due_now foreign_now step now → AreAllSorted held (take (i + 1) all) due_now foreign_now
  adds_more None now kept before one = tt
  adds_more (Some h) now kept before one = by_place (subst (Adds due foreign due_now foreign_now step) kept one)
    where
      by_place : SortsOne h due foreign due_now foreign_now step → AreSorted h (take (i + 1) all) due_now foreign_now
      by_place (inl (here, more, same)) =
          alike h _ _ _ one_longer (sym more) (append-nil foreign ∙ sym same)
          (sorted_then h (step ∷ []) (step ∷ []) [] (Due step [] [] [] here NoSteps) (take i all) due foreign before)
      by_place (inr (inl (old, new, same, more))) =
          alike h _ _ _ one_longer (append-nil due ∙ sym same) (sym more)
          (sorted_then h (step ∷ []) [] (step ∷ []) (Foreign step [] [] [] old new NoSteps) (take i all) due foreign before)
      by_place (inr (inr (old, new, same, same_foreign))) =
          alike h _ _ _ one_longer (append-nil due ∙ sym same) (append-nil foreign ∙ sym same_foreign)
          (sorted_then h (step ∷ []) [] [] (Made step [] [] [] old new NoSteps) (take i all) due foreign before)

pub adds_nothing : (held : Option Held) (due foreign : List Change) → due ≡ [] → foreign ≡ [] → AreAllSorted held [] due foreign
adds_nothing None due foreign none no_foreign = tt
adds_nothing (Some h) due foreign none no_foreign = alike h [] [] [] refl (sym none) (sym no_foreign) NoSteps

stands_entry : (h : Held) (path : List ℕ) (entry : Option Entry) → Stands h path entry → map.get h.entries path ≡ entry
stands_entry h path None here = here.0
stands_entry h path (Some entry) here = here

module _ (h : Held) (path : List ℕ) (entry : Option Entry) where
  is_there : Stands h path entry → same (map.get h.entries path) entry ≡ true
  is_there here = ap (λ o. same o entry) (stands_entry h path entry here) ∙ same-itself entry

  is_not_there : IsPlain h path → IsOther h path entry → same (map.get h.entries path) entry ≡ false
  is_not_there plain (inl other) = elim (cases_Bool (same (map.get h.entries path) entry)) [
    | inl is ↦ absurd (other (same_is (map.get h.entries path) entry is))
    | inr not_same ↦ not_same
  ]
  is_not_there plain (inr odd) = absurd (plain odd.0 odd.1)

  -- what is at a path is this entry or another
  there_or_other : Stands h path entry ⊎ IsOther h path entry
  there_or_other = elim (cases_Bool (same (map.get h.entries path) entry)) [
    | inl is ↦ by_odd entry (h.odd path) refl (same_is (map.get h.entries path) entry is)
    | inr not_same ↦ inr (inl (λ is. false≢true (sym not_same ∙ ap (λ o. same o entry) is ∙ same-itself entry)))
  ]
    where
      by_odd : (entry : Option Entry) (odd : Option Oddity) → h.odd path ≡ odd → map.get h.entries path ≡ entry → Stands h path entry ⊎ IsOther h path entry
      by_odd None None none is = inl (is, none)
      by_odd None (Some oddity) odd is = inr (inr (oddity, (is, inl odd)))
      by_odd (Some entry) odd at is = inl is

-- if nothing odd is at the paths, the steps are these
pub sorted_plain : (h : Held) (steps due foreign : List Change) → AreSorted h steps due foreign → HasNothingOdd h steps
    → (due ≡ filter (is_due h.entries) steps) × (foreign ≡ filter (is_foreign h.entries) steps)
sorted_plain h _ _ _ NoSteps plain = (refl, refl)
sorted_plain h _ _ _ (Due step steps due foreign here rest) plain =
    let others = sorted_plain h steps due foreign rest plain.1 in
    let dues = filter (is_due h.entries) steps in
    let foreigns = filter (is_foreign h.entries) steps in
    let is : is_due h.entries step ≡ true = is_there h step.path step.before here in (
      ap (λ cs. step ∷ cs) others.0 ∙ sym (ap (λ b. cond b (step ∷ dues) dues) is),
      others.1 ∙ sym (ap (λ b. cond (not b && not (same (map.get h.entries step.path) step.after)) (step ∷ foreigns) foreigns) is),
    )
sorted_plain h _ _ _ (Foreign step steps due foreign before after rest) plain =
    let others = sorted_plain h steps due foreign rest plain.1 in
    let dues = filter (is_due h.entries) steps in
    let foreigns = filter (is_foreign h.entries) steps in
    let is : is_due h.entries step ≡ false = is_not_there h step.path step.before plain.0 before in
    let made : same (map.get h.entries step.path) step.after ≡ false = is_not_there h step.path step.after plain.0 after in (
      others.0 ∙ sym (ap (λ b. cond b (step ∷ dues) dues) is),
      ap (λ cs. step ∷ cs) others.1 ∙ sym (
          ap (λ b. cond (not b && not (same (map.get h.entries step.path) step.after)) (step ∷ foreigns) foreigns) is
          ∙ ap (λ b. cond (not b) (step ∷ foreigns) foreigns) made
          ),
    )
sorted_plain h _ _ _ (Made step steps due foreign before after rest) plain =
    let others = sorted_plain h steps due foreign rest plain.1 in
    let dues = filter (is_due h.entries) steps in
    let foreigns = filter (is_foreign h.entries) steps in
    let is : is_due h.entries step ≡ false = is_not_there h step.path step.before plain.0 before in
    let made : same (map.get h.entries step.path) step.after ≡ true = is_there h step.path step.after after in (
      others.0 ∙ sym (ap (λ b. cond b (step ∷ dues) dues) is),
      others.1 ∙ sym (
          ap (λ b. cond (not b && not (same (map.get h.entries step.path) step.after)) (step ∷ foreigns) foreigns) is
          ∙ ap (λ b. cond (not b) (step ∷ foreigns) foreigns) made
          ),
    )

-- all steps are of one of the three kinds
sort_all : (h : Held) (steps : List Change) → (due foreign : List Change) × AreSorted h steps due foreign
sort_all h [] = ([], [], NoSteps)
sort_all h (step ∷ steps) =
    let rest = sort_all h steps in
    elim (there_or_other h step.path step.before) [
      | inl here ↦ (step ∷ rest.0, rest.1, Due step steps rest.0 rest.1 here rest.2)
      | inr other ↦ elim (there_or_other h step.path step.after) [
        | inl made ↦ (rest.0, rest.1, Made step steps rest.0 rest.1 other made rest.2)
        | inr foreign ↦ (rest.0, step ∷ rest.1, Foreign step steps rest.0 rest.1 other foreign rest.2)
      ]
    ]

-- the cause of an error doesn't depend on what would have been returned
same_cause : (S T : Type 0) (held : Option Held) (e : FinishError) (due : List Change) → HasCause {T = S} held (Err e) due → HasCause {T = T} held (Err e) due
same_cause S T held (DiskFailed why) due h = h
same_cause S T held (NotMade why) due h = h

module _ (before after : Entries) where
  abbrev steps : List Change
  steps = steps_between before after

  pub are_due : (held : Option Held) (due foreign : List Change) → AreAllSorted held steps due foreign
      → IfSome held (λ h. HasNothingOdd h steps → due ≡ due_steps before after h.entries)
  are_due None due foreign sorted = tt
  are_due (Some h) due foreign sorted = λ plain. (sorted_plain h steps due foreign sorted plain).0

  pub are_foreign : (held : Option Held) (due foreign : List Change) → AreAllSorted held steps due foreign → AreForeign held foreign before after
  are_foreign None due foreign sorted = tt
  are_foreign (Some h) due foreign sorted = λ plain. (sorted_plain h steps due foreign sorted plain).1

  pub is_finished : (held new : Option Held) (due foreign : List Change) → AreAllSorted held steps due foreign → new ≡ option_map (after_steps due) held → IsFinished held new before after
  is_finished None new due foreign sorted made = tt
  is_finished (Some h) new due foreign sorted made = λ plain. made ∙ ap (λ cs. Some (after_steps cs h)) (sorted_plain h steps due foreign sorted plain).0

  -- an error after the steps were sorted
  pub stopped_short : (S : Type 0) {T : Type 0} (held held_now : Option Held) (old mid new : Option (List Event)) (r : Result T FinishError) (e : FinishError) (found found_due due foreign : List Change)
      → IsErr r × IsErrAnd r (λ x. x ≡ e) → held_now ≡ held → mid ≡ old → found ≡ steps → found_due ≡ due
      → (n : ℕ) × (new ≡ with_events mid (take n (finishing found found_due))) → HasCause {T = S} held_now (Err e) found_due
      → AreAllSorted held steps due foreign → Finishes held old new r before after
  stopped_short S {T} held held_now old mid new r e found found_due due foreign is kept done same same_due does cause sorted =
      subst (λ x. Finishes held old new x before after) (sym (returned r e is)) (
        due,
        are_due held due foreign sorted,
        (does.0, does.1 ∙ (λ i. with_events (done i) (take does.0 (finishing (same i) (same_due i))))),
        same_cause S T held e due (subst (λ h. HasCause {T = S} h (Err e) due) kept (subst (λ cs. HasCause {T = S} held_now (Err e) cs) same_due cause)),
        foreign,
        sorted,
      )

  some_sorted : (held : Option Held) → (due foreign : List Change) × AreAllSorted held steps due foreign
  some_sorted None = ([], [], tt)
  some_sorted (Some h) = sort_all h steps

  -- an error before the first event
  pub nothing_finished : {T : Type 0} (held : Option Held) (old new : Option (List Event)) (r : Result T FinishError) (why : DiskError) → IsErr r × IsErrAnd r (λ e. e ≡ DiskFailed why) → new ≡ old → Finishes held old new r before after
  nothing_finished held old new r why is same =
      let all = some_sorted held in
      subst (λ x. Finishes held old new x before after) (sym (returned r (DiskFailed why) is))
      (all.0, are_due held all.0 all.1 all.2, does_none old new (finishing steps all.0) same, tt, all.1, all.2)
