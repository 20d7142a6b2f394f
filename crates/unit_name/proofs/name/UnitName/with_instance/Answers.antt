use Rattle.std.proofs.Common.{subst, sym, ap, ◌∙◌}
use Rattle.unit_name.specs.Parts.{IsUnitName}
use Rattle.unit_name.specs.Name.{with_instance, instance_fault}
use Rattle.unit_name.proofs.Instances.{instance_faulty, instance_from_no_fault}
use Rattle.unit_name.proofs.name.UnitName.with_instance.Goals as goal

pub returns-in-Some : goal.returns-in-Some
returns-in-Some c =
    let fault = sym (c.in-Some.ensures ∙ ap (λ text. instance_fault text c.args.instance.now) c.text.ensures.text) in
    (fault, instance_faulty c.args.self.now c.args.instance.now c.in-Some.fault fault)

pub invariant_of-result : goal.invariant_of-result
invariant_of-result c =
    let none = sym (c.in-None.ensures ∙ ap (λ text. instance_fault text c.args.instance.now) c.text.ensures.text) in
    let spelled = c.in_ok-text_with_instance-in-None.ensures ∙ ap (λ text. with_instance text c.args.instance.now) c.text-in-None.ensures.text in
    subst IsUnitName (sym spelled) (instance_from_no_fault c.args.self.now c.args.instance.now c.text.ensures.name none)

pub returns-in_ok-text_with_instance-in-None : goal.returns-in_ok-text_with_instance-in-None
returns-in_ok-text_with_instance-in-None c =
    let none = sym (c.in-None.ensures ∙ ap (λ text. instance_fault text c.args.instance.now) c.text.ensures.text) in
    let spelled = c.in_ok-text_with_instance-in-None.ensures ∙ ap (λ text. with_instance text c.args.instance.now) c.text-in-None.ensures.text in
    (spelled, subst IsUnitName (sym spelled) (instance_from_no_fault c.args.self.now c.args.instance.now c.text.ensures.name none))
