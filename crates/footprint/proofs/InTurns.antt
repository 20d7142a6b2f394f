-- What is looked up first, and then commands one after the other, obey the laws of operations.
use Rattle.std.proofs.Common.{◌≡◌, true, false, [], ◌++◌, All, Contains, Result, Ok, Err, refl, sym, subst}
use Rattle.std.proofs.lemmas.Bool.{true≢false}
use Rattle.std.proofs.lemmas.List.Elements.{All-nil, All-weaker, Contains-append_right}
use Rattle.link_tree.specs.Trees.{Entries}
use Rattle.footprint.specs.declared.answer.Answer.TheVariants.{Refused}
use Rattle.tree_access.specs.declared.key.Key.TheVariants.{Cell}
use Rattle.tree_access.specs.declared.refusal.Refusal.{Refusal}
use Rattle.footprint.specs.Commands.{Command, carried_out}
use Rattle.footprint.specs.Inquiry.{Inquiry, over, ◌>>=◌}
use Rattle.footprint.specs.Operations.{Effect, AreChanges, OperationLaws, is_refused}
use Rattle.footprint.specs.Then.{followed_by}
use Rattle.footprint.proofs.ThenLaws.{laws_in_turn, no_changes}
use Rattle.footprint.proofs.Carried.{laws_of}

-- two commands, one after the other
pub laws_of_both : {C : Type 0} (first second : C → Command) → OperationLaws (λ c. false) (λ c. followed_by (carried_out (first c)) (carried_out (second c)))
laws_of_both first second = laws_in_turn (λ c. c) (λ c. c) (laws_of first) (laws_of second)

-- the effect of a refusal
refused_laws : OperationLaws (λ (refusal : Refusal). false) (λ refusal. over (record { answer = Refused refusal; changes = [] }))
refused_laws = record {
  confinement = λ refusal t. All-nil (λ change. Contains [] (Cell change.path));
  changes = λ refusal t. no_changes t;
  refusal = λ refusal t refused. refl;
  question = λ refusal t asks. absurd (true≢false (sym asks));
}

-- What is looked up first decides what follows, unless it is a refusal.
module _ {C X : Type 0} (question : C → Inquiry (Result X Refusal)) (next : C → Result X Refusal → Inquiry Effect)
    (laws : OperationLaws (λ c. false) (λ (c : C × X). next c.0 (Ok c.1))) (refused : (c : C) (refusal : Refusal) → next c (Err refusal) ≡ over (record { answer = Refused refusal; changes = [] })) where
  module _ (c : C) (t : Entries) where
    abbrev Confined : Inquiry Effect → Type 0
    Confined q = All (λ change. Contains (q.keys t) (Cell change.path)) (q.conclusion t).changes

    confined : (found : Result X Refusal) → Confined (next c found)
    confined (Ok x) = laws.confinement (c, x) t
    confined (Err refusal) = subst Confined (sym (refused c refusal)) (refused_laws.confinement refusal t)

    changed : (found : Result X Refusal) → AreChanges t ((next c found).conclusion t).changes
    changed (Ok x) = laws.changes (c, x) t
    changed (Err refusal) = subst (λ q. AreChanges t (q.conclusion t).changes) (sym (refused c refusal)) (refused_laws.changes refusal t)

    abbrev NoneRefused : Inquiry Effect → Type 0
    NoneRefused q = is_refused (q.conclusion t).answer ≡ true → (q.conclusion t).changes ≡ []

    none : (found : Result X Refusal) → NoneRefused (next c found)
    none (Ok x) = laws.refusal (c, x) t
    none (Err refusal) = subst NoneRefused (sym (refused c refusal)) (refused_laws.refusal refusal t)

  pub laws_after : OperationLaws (λ c. false) (λ c. question c >>= next c)
  laws_after = record {
    confinement = λ c t. let found = (question c).conclusion t in
        All-weaker (λ change. Contains ((next c found).keys t) (Cell change.path)) (λ change. Contains ((question c).keys t ++ (next c found).keys t) (Cell change.path))
        (λ change. Contains-append_right ((question c).keys t) ((next c found).keys t) (Cell change.path)) ((next c found).conclusion t).changes (confined c t found);
    changes = λ c t. changed c t ((question c).conclusion t);
    refusal = λ c t. none c t ((question c).conclusion t);
    question = λ c t asks. absurd (true≢false (sym asks));
  }
