use Rattle.std.proofs.Common.{subst, sym, ◌∙◌}
use Rattle.unit_name.specs.Parts.{IsUnitName}
use Rattle.unit_file.proofs.Identities.{identity-valid, identity-invalid}
use Rattle.unit_file.proofs.default_instance.identity_with.Goals as goal

pub returns-in-Ok : goal.returns-in-Ok
returns-in-Ok c =
    let taken = c.in-Ok.ensures in
    taken.0 ∙ sym (identity-valid c.args.unit.now c.args.default.now (sym c.in-Template.ensures) (sym c.is_empty.ensures ∙ c.if-is_empty.false) (subst IsUnitName taken.0 taken.1))

pub returns-in-Err-Bad : goal.returns-in-Err-Bad
returns-in-Err-Bad c =
    let refused = rw c.in-Err-Bad.field-0-is at c.in-Err-Bad.ensures in
    let stays = identity-invalid c.args.unit.now c.args.default.now (sym c.in-Template.ensures) (sym c.is_empty.ensures ∙ c.if-is_empty.false) refused.1 in
    rw stays c.copy-in-Err-Bad.ensures
