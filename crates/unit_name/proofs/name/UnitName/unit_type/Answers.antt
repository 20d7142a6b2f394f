use Rattle.std.proofs.Common.{ap, ◌∙◌, refl}
use Rattle.unit_name.specs.Name.{type_of}
use Rattle.unit_name.proofs.Names.{parts_read}
use Rattle.unit_name.proofs.name.UnitName.unit_type.Goals as goal

pub unwrap-requires : goal.unwrap-requires
unwrap-requires c =
    let typed = c.type_in.ensures ∙ ap type_of c.text.ensures.text ∙ (parts_read c.args.self.now c.text.ensures.name.0 c.text.ensures.name.1).2 in
    rw typed refl
