-- The laws that make the step an operation: src/ may not name proofs of its own crate, so they are
-- here.
use Rattle.std.specs.Prelude.{◌≡◌, ℕ, Bool, true, false, List, [], All, Contains, Option, refl}
use Rattle.std.proofs.Common.{sym}
use Rattle.std.proofs.lemmas.Bool.{true≢false}
use Rattle.std.proofs.lemmas.List.Elements.{All-nil}
use Rattle.link_tree.specs.Trees.{Entries}
use Rattle.tree_access.specs.declared.key.Key.TheVariants.{Cell}
use Rattle.footprint.specs.Operations.{AreChanges, OperationLaws, is_refused}
use Rattle.footprint.specs.Steps.{ruled}
use Rattle.footprint.proofs.Carried.{laws_of_steps}
use Rattle.footprint.proofs.ThenLaws.{no_changes}
use Rattle.sample_steps.specs.Samples.{left, commanded, step_meaning}

commanded_laws : OperationLaws {O = Option Bool × List ℕ} (λ c. false) (λ c. commanded c.0 c.1)
commanded_laws = laws_of_steps (λ c. ruled (left c.0) c.1)

confined : (asks : Bool) (how : Option Bool) (slot : List ℕ) (t : Entries)
    → All (λ change. Contains ((step_meaning asks how slot).keys t) (Cell change.path)) ((step_meaning asks how slot).conclusion t).changes
confined true how slot t = All-nil (λ change. Contains ((step_meaning true how slot).keys t) (Cell change.path))
confined false how slot t = commanded_laws.confinement (how, slot) t

changed : (asks : Bool) (how : Option Bool) (slot : List ℕ) (t : Entries) → AreChanges t ((step_meaning asks how slot).conclusion t).changes
changed true how slot t = no_changes t
changed false how slot t = commanded_laws.changes (how, slot) t

refused : (asks : Bool) (how : Option Bool) (slot : List ℕ) (t : Entries) → is_refused ((step_meaning asks how slot).conclusion t).answer ≡ true → ((step_meaning asks how slot).conclusion t).changes ≡ []
refused true how slot t h = refl
refused false how slot t h = commanded_laws.refusal (how, slot) t h

asked : (asks : Bool) (how : Option Bool) (slot : List ℕ) (t : Entries) → asks ≡ true → ((step_meaning asks how slot).conclusion t).changes ≡ []
asked true how slot t h = refl
asked false how slot t h = absurd (true≢false (sym h))

pub step_laws : {O : Type 0} (asks : O → Bool) (how : O → Option Bool) (slot : O → List ℕ) → OperationLaws asks (λ c. step_meaning (asks c) (how c) (slot c))
step_laws asks how slot = record {
  confinement = λ c t. confined (asks c) (how c) (slot c) t;
  changes = λ c t. changed (asks c) (how c) (slot c) t;
  refusal = λ c t. refused (asks c) (how c) (slot c) t;
  question = λ c t. asked (asks c) (how c) (slot c) t;
}
