use Rattle.std.proofs.Common.{subst, sym, ap, ◌∙◌}
use Rattle.unit_name.specs.Parts.{IsUnitName}
use Rattle.unit_name.specs.Name.{template_of}
use Rattle.unit_name.proofs.Instances.{template_named}
use Rattle.unit_name.proofs.name.UnitName.template.Goals as goal

pub invariant_of-result : goal.invariant_of-result
invariant_of-result c =
    let spelled = c.in_ok-text_with_instance.ensures ∙ ap template_of c.text.ensures.text in
    subst IsUnitName (sym spelled) (template_named c.args.self.now c.text.ensures.name c.requires)
