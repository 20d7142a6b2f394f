-- Laws of two and three operations in one; each is the contract of a public function.
use Rattle.std.specs.Prelude.{◌≡◌, false}
use Rattle.link_tree.specs.Laws.{Leads}
use Rattle.link_tree.specs.Trees.{Entries, after_changes}
use Rattle.tree_access.specs.Keys.{Untouched}
use Rattle.footprint.specs.Inquiry.{Inquiry}
use Rattle.footprint.specs.Operations.{Effect, is_refused, is_question, outcome_of}
use Rattle.tree_access.specs.Readings.{keys_of}
use Rattle.footprint.specs.Then.{answer_of_both}
use Rattle.two_operations.specs.declared.then.Then.{Then}
use Rattle.two_operations.specs.Then.{then_meaning}

-- Two operations combined by `then`, if accepted, leave the tree that the second leaves after the
-- first, and their changes lead there from the first tree.
abbrev pub ThenLeads : {A B : Type 0} → (A → Inquiry Effect) → (B → Inquiry Effect) → Type 0
ThenLeads {A} {B} first second = (c : Then A B) (t : Entries) →
    let a = outcome_of first c.first t in
    let b = outcome_of second c.second (after_changes a.changes t) in
    is_refused a.answer ≡ false → is_refused b.answer ≡ false →
    Leads t (after_changes b.changes (after_changes a.changes t)) (outcome_of (then_meaning first second) c t).changes

-- If the first is accepted and its changes touch no key of the second, the answer of both is that
-- of the second alone, with the notices of the first.
abbrev pub ThenAnswers : {A B : Type 0} → (A → Inquiry Effect) → (B → Inquiry Effect) → Type 0
ThenAnswers {A} {B} first second = (c : Then A B) (t : Entries) →
    let a = outcome_of first c.first t in
    let b = outcome_of second c.second t in
    is_refused a.answer ≡ false → Untouched a.changes (keys_of b.reading) →
    (outcome_of (then_meaning first second) c t).answer ≡ answer_of_both a.answer b.answer

-- For three operations, however they are grouped, the changes and the reading are the same, and so
-- is the answer, unless the second is a question: its answer drops the notices of the first if
-- these two are grouped.
abbrev pub ThenInSteps : {A B C : Type 0} → (A → Inquiry Effect) → (B → Inquiry Effect) → (C → Inquiry Effect) → Type 0
ThenInSteps {A} {B} {C} first second third = (a : A) (b : B) (c : C) (t : Entries) →
    let one = outcome_of (then_meaning (then_meaning first second) third) (record { first = record { first = a; second = b }; second = c }) t in
    let other = outcome_of (then_meaning first (then_meaning second third)) (record { first = a; second = record { first = b; second = c } }) t in
    (one.changes ≡ other.changes) × (one.reading ≡ other.reading)
    × (is_question (outcome_of second b (after_changes (outcome_of first a t).changes t)).answer ≡ false → one.answer ≡ other.answer)
