-- Questions obey the laws of operations: what a question answers changes nothing.
use Rattle.std.proofs.Common.{true, [], Contains, refl}
use Rattle.std.proofs.lemmas.List.Elements.{All-nil}
use Rattle.footprint.specs.declared.answer.Answer.{Answer}
use Rattle.tree_access.specs.declared.key.Key.TheVariants.{Cell}
use Rattle.footprint.specs.Inquiry.{Inquiry, giving}
use Rattle.footprint.specs.Operations.{OperationLaws}
use Rattle.footprint.proofs.ThenLaws.{no_changes}

pub laws_of_questions : {C : Type 0} (question : C → Inquiry Answer) → OperationLaws (λ c. true) (λ c. giving (question c) (λ answer. record { answer = answer; changes = [] }))
laws_of_questions question = record {
  confinement = λ c t. All-nil (λ change. Contains ((question c).keys t) (Cell change.path));
  changes = λ c t. no_changes t;
  refusal = λ c t refused. refl;
  question = λ c t asks. refl;
}
