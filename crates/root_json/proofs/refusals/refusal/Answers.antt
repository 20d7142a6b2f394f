use Rattle.std.proofs.Common.{◌∙◌, ap, codes, sym}
use Rattle.std.proofs.lemmas.Result.{IfOk-weaker}
use Rattle.root_json.specs.Answers.{of_unit, refusal_members}
use Rattle.root_json.proofs.refusals.refusal.Goals as goal

pub returns-in-NeedsInstance : goal.returns-in-NeedsInstance
returns-in-NeedsInstance c =
    IfOk-weaker c.of_unit.result _ _
    (λ _ is. is ∙ ap (of_unit (codes "needs-instance")) c.text-in-NeedsInstance.ensures.text ∙ sym (ap refusal_members c.in-NeedsInstance.is))
    c.of_unit.ensures
