-- If a tree agrees with all that a plan looked at, the plan is the one that would be made now, and
-- makes the row of a call.
use Rattle.std.proofs.Common.{◌≡◌, ◌↔◌, Result, Ok, Err, IfErr, ℕ, ◌<◌, Bool, true, List, [], ◌∷◌, ◌++◌, map as list_map, All, Contains, length, refl, sym, ap, subst, ◌∙◌}
use Rattle.std.proofs.lemmas.List.Elements.{All-head, All-tail, All-nil, All-cons, All-contains, All-contains_itself, Contains-append_right}
use Rattle.unit_paths.specs.Slots.{is_slot}
use Rattle.link_tree.specs.Trees.{Entries, AreFrom, after_changes}
use Rattle.tree_access.specs.declared.key.Key.{Key}
use Rattle.footprint.specs.declared.outcome.Outcome.{Outcome}
use Rattle.tree_access.specs.declared.reading.Observation.{Observation}
use Rattle.footprint.specs.Inquiry.{Inquiry}
use Rattle.tree_access.specs.Keys.{Agree, AgreeOn}
use Rattle.footprint.specs.Operations.{Effect, outcome_of, OperationLaws}
use Rattle.tree_access.specs.Readings.{in_order, observed, reading_of, Holds, HoldsIn, IsFirstOther}
use Rattle.tree_access.proofs.KeySets.{in_order-All}
use Rattle.footprint.proofs.Outcomes.{outcome_agrees}
use Rattle.history.specs.declared.history.CallError.TheVariants as errors
use Rattle.history.specs.declared.plan.Commit.{Commit}
use Rattle.history.specs.declared.plan.Uncommitted.{Uncommitted}
use Rattle.history.specs.declared.row.Row.{Row}
use Rattle.history.specs.declared.row.Request.TheVariants.{Do}
use Rattle.history.specs.Logs.{Log}
use Rattle.history.specs.Plans.{Planned, planned, IsPlan, AgreesWith}
use Rattle.history.specs.Rows.{answered, replay, rows_after, IsKept, IdleStays}
use Rattle.history.proofs.Kept.{kept-call}
use Rattle.history.proofs.AtOnce.{call_stays}

holds_agree : (keys : List Key) (t u : Entries) → HoldsIn u (list_map (observed t) keys) → AgreeOn keys t u
holds_agree [] t u holds = All-nil (λ key. Agree key t u)
holds_agree (key ∷ keys) t u holds =
    All-cons (λ key. Agree key t u) key keys (sym (All-head (Holds u) (observed t key) (list_map (observed t) keys) holds))
    (holds_agree keys t u (All-tail (Holds u) (observed t key) (list_map (observed t) keys) holds))

holds_itself : (keys : List Key) (t : Entries) → HoldsIn t (list_map (observed t) keys)
holds_itself [] t = All-nil (Holds t)
holds_itself (key ∷ keys) t = All-cons (Holds t) (observed t key) (list_map (observed t) keys) refl (holds_itself keys t)

-- a tree agrees with its own reading
pub own_reading : (keys : List Key) (t : Entries) → HoldsIn t (reading_of keys t)
own_reading keys t = holds_itself (in_order keys) t

-- a tree in which a key has another value doesn't agree with the reading
pub other_off : (t : Entries) (reading : List Observation) (key : Key) → IsFirstOther t reading key → HoldsIn t reading → ⊥
other_off t reading key other holds =
    let before = other.0 in let here = other.1 in let later = other.2 in
    other.5 (All-contains (Holds t) (before ++ here ∷ later) here (subst (HoldsIn t) other.3 holds)
    (Contains-append_right before (here ∷ later) here (All-head (Contains (here ∷ later)) here later (All-contains_itself (here ∷ later)))))

-- a stale plan isn't refused because the history is full
pub stale_not_full : {P : Type 0} (t : Entries) (reading : List Observation) (key : Key) (r : Result (Commit P) (Uncommitted P)) (E : Type 0) → IsFirstOther t reading key → IfErr r (λ left. left.why ≡ errors.OutOfMemory)
    → IfErr r (λ left. (left.why ≡ errors.Full) ↔ (HoldsIn t reading × E))
stale_not_full t reading key (Ok done) E other why = tt
stale_not_full t reading key (Err left) E other why = (λ full. absurd (cc), λ both. absurd (other_off t reading key other both.0))

module _ {O : Type 0} (meaning : O → Inquiry Effect) where
  -- the same operation has the same outcome if what it looked at is unchanged
  pub agreed_outcome : (c : O) (t u : Entries) → HoldsIn u (outcome_of meaning c t).reading → outcome_of meaning c t ≡ outcome_of meaning c u
  agreed_outcome c t u holds =
      let keys = (meaning c).keys t in
      outcome_agrees meaning c t u (in_order-All (λ key. Agree key t u) keys (holds_agree (in_order keys) t u holds))

  pub agreed_plan : (c : O) (outcome : Outcome) (t : Entries) → IsPlan meaning c outcome → HoldsIn t outcome.reading → outcome ≡ outcome_of meaning c t
  agreed_plan c outcome t is holds =
      let made = is.made in
      made.1 ∙ agreed_outcome c made.0 t (subst (λ (o : Outcome). HoldsIn t o.reading) made.1 holds)

  -- a plan that was made on a tree agrees with it
  pub new_plan_agrees : (c : O) (t : Entries) (plan : Planned O) → plan ≡ planned meaning c t → HoldsIn t plan.outcome.reading
  new_plan_agrees c t plan is = subst (λ (p : Planned O). HoldsIn t p.outcome.reading) (sym is) (own_reading ((meaning c).keys t) t)

  pub agrees_where_same : (c : O) (made now : Entries) → HoldsIn now (planned meaning c made).outcome.reading ↔ (planned meaning c made ≡ planned meaning c now)
  agrees_where_same c made now = (
    λ holds. ap (λ (o : Outcome). record { operation = c; outcome = o }) (agreed_outcome c made now holds),
    λ same. new_plan_agrees c now (planned meaning c made) same,
  )

module _ {O : Type 0} {asks : O → Bool} {meaning : O → Inquiry Effect} (laws : OperationLaws asks meaning) where
  module _ (first tree : Entries) (rows : List (Row O)) (limit : ℕ) (seen : Log O) (c : O) (outcome : Outcome) (plan : Planned O)
      (is : ◌≡◌ {A = Log O} (record { first = first; rows = rows; limit = limit }) seen)
      (made : ◌≡◌ {A = Planned O} (record { operation = c; outcome = outcome }) plan)
      (agrees : AgreesWith asks meaning seen plan)
      (kept : IsKept asks meaning first tree rows limit) (may : IsPlan meaning c outcome) where
    held : HoldsIn tree outcome.reading
    held =
        subst (λ (p : Planned O). HoldsIn tree p.outcome.reading) (sym made)
        (subst (λ (t : Entries). HoldsIn t plan.outcome.reading) (sym kept.tree_is)
        (subst (λ (v : Log O). AgreesWith asks meaning v plan) (sym is) agrees))

    here : outcome ≡ outcome_of meaning c tree
    here = agreed_plan meaning c outcome tree may held

    there : outcome ≡ outcome_of meaning c (replay asks meaning first rows)
    there = here ∙ ap (outcome_of meaning c) kept.tree_is

    -- its changes start from what is in the tree
    pub plan_from : AreFrom tree outcome.changes
    plan_from = subst (λ (o : Outcome). AreFrom tree o.changes) (sym here) (laws.changes c tree).from

    -- the history's invariant is preserved with its row
    pub plan_kept : (operator : List ℕ) → length rows < limit → IsKept asks meaning first (after_changes outcome.changes tree) (rows ++ answered operator c outcome ∷ []) limit
    plan_kept operator room =
        subst (λ (o : Outcome). IsKept asks meaning first (after_changes o.changes tree) (rows ++ answered operator c o ∷ []) limit) (sym here)
        (kept-call laws operator c first tree rows limit room (subst (λ (o : Outcome). All (λ change. is_slot change.path ≡ true) o.changes) here may.slots) kept)

    -- it is the plan that would be made now
    pub plan_of_now : plan ≡ planned meaning plan.operation (replay asks meaning seen.first seen.rows)
    plan_of_now =
        let core : ◌≡◌ {A = Planned O} (record { operation = c; outcome = outcome }) (planned meaning c (replay asks meaning first rows)) = ap (λ (o : Outcome). record { operation = c; outcome = o }) there in
        subst (λ (v : Log O). plan ≡ planned meaning plan.operation (replay asks meaning v.first v.rows)) is
        (subst (λ (p : Planned O). p ≡ planned meaning p.operation (replay asks meaning first rows)) made core)

    -- the rows are those after a call
    pub plan_rows : (operator : List ℕ) (items : List (Row O)) → items ≡ rows ++ answered operator c outcome ∷ [] → items ≡ rows_after asks meaning seen.first seen.rows (operator, Do plan.operation)
    plan_rows operator items pushed =
        let core : items ≡ rows_after asks meaning first rows (operator, Do c) = pushed ∙ ap (λ (o : Outcome). rows ++ answered operator c o ∷ []) there in
        subst (λ (v : Log O). items ≡ rows_after asks meaning v.first v.rows (operator, Do plan.operation)) is
        (subst (λ (p : Planned O). items ≡ rows_after asks meaning first rows (operator, Do p.operation)) made core)

    pub plan_stays : (operator : List ℕ) (items : List (Row O)) → items ≡ rows ++ answered operator c outcome ∷ [] → IdleStays asks meaning seen.first seen.rows items
    plan_stays operator items pushed =
        subst (IdleStays asks meaning seen.first seen.rows) (sym (plan_rows operator items pushed)) (call_stays laws seen.first seen.rows operator plan.operation)
