-- The outcomes of an operation in trees that agree on what it looks at, and after changes that touch
-- nothing there.
use Rattle.std.proofs.Common.{◌≡◌, Bool, List, All, ap, ◌∙◌, subst}
use Rattle.link_tree.specs.Trees.{Entries, AreFrom, after_changes}
use Rattle.link_tree.proofs.Changed.{inverse_from, inverse_undoes}
use Rattle.tree_access.specs.declared.key.Key.{Key}
use Rattle.footprint.specs.declared.outcome.Outcome.{Outcome}
use Rattle.tree_access.specs.declared.reading.Observation.{Observation}
use Rattle.footprint.specs.Inquiry.{Inquiry}
use Rattle.tree_access.specs.Keys.{Agree, AgreeOn, Untouched}
use Rattle.footprint.specs.Laws.{ComesToTheSame, IsTakenBack}
use Rattle.footprint.specs.Operations.{Effect, outcome_of, OperationLaws}
use Rattle.tree_access.specs.Readings.{reading_of}
use Rattle.tree_access.proofs.KeySets.{in_order-All}
use Rattle.tree_access.proofs.ReadingKeys.{keys_of_reading, reading_alike}
use Rattle.link_tree.specs.declared.change.Change.{Change}
use Rattle.tree_access.proofs.Untouched.{agree_on_untouched, apart_from, changes_apart, from_apart}

abbrev outcome_by : Effect → List Key → Entries → Outcome
outcome_by effect keys t = record { answer = effect.answer; changes = effect.changes; reading = reading_of keys t }

-- An operation has the same outcome in trees that agree on what it looks at.
pub outcome_agrees : {O : Type 0} (meaning : O → Inquiry Effect) (c : O) (t u : Entries) → AgreeOn ((meaning c).keys t) t u → outcome_of meaning c t ≡ outcome_of meaning c u
outcome_agrees meaning c t u agree =
    let same = (meaning c).agreement t u agree in
    let effect = (meaning c).conclusion t in
    ap (λ (e : Effect). outcome_by e ((meaning c).keys t) t) same.0
    ∙ ap (λ (rs : List Observation). record { answer = ((meaning c).conclusion u).answer; changes = ((meaning c).conclusion u).changes; reading = rs }) (reading_alike ((meaning c).keys t) t u agree)
    ∙ ap (λ (ks : List Key). outcome_by ((meaning c).conclusion u) ks u) same.1

-- The same for trees that agree on the keys of its reading.
pub comes_to_the_same : {O : Type 0} (meaning : O → Inquiry Effect) → ComesToTheSame meaning
comes_to_the_same meaning c t u agree =
    let keys = (meaning c).keys t in
    let P : Key → Type 0 = λ key. Agree key t u in
    outcome_agrees meaning c t u (in_order-All P keys (subst (All P) (keys_of_reading keys t) agree))

-- What an operation changes can be undone.
pub is_taken_back : {O : Type 0} {asks : O → Bool} {meaning : O → Inquiry Effect} → OperationLaws asks meaning → IsTakenBack meaning
is_taken_back {meaning = meaning} laws = λ c t.
    let changes = (outcome_of meaning c t).changes in
    let from = (laws.changes c t).from in
    (inverse_from t changes from, inverse_undoes t changes from)

module _ {O : Type 0} {asks : O → Bool} {meaning : O → Inquiry Effect} (laws : OperationLaws asks meaning) where
  -- An operation, and some changes to its tree that touch nothing at which it looks: its outcome is
  -- the same after the changes, both orders lead to the same tree, and the changes also start from
  -- the tree after the operation.
  pub untouched_step : (cs : List Change) (c : O) (t : Entries) → AreFrom t cs → Untouched cs ((meaning c).keys t)
      → (outcome_of meaning c t ≡ outcome_of meaning c (after_changes cs t))
      × (after_changes (outcome_of meaning c t).changes (after_changes cs t) ≡ after_changes cs (after_changes (outcome_of meaning c t).changes t))
      × AreFrom (after_changes (outcome_of meaning c t).changes t) cs
  untouched_step cs c t from free =
      let ds = (outcome_of meaning c t).changes in
      let apart = apart_from ((meaning c).keys t) ds cs (laws.confinement c t) free in
      (outcome_agrees meaning c t (after_changes cs t) (agree_on_untouched ((meaning c).keys t) cs t from free), changes_apart ds cs t apart, from_apart ds cs t apart from)
