use Rattle.std.proofs.Common.{Err, refl, subst}
use Rattle.unit_name.specs.Name.{Parses}
use Rattle.unit_name.specs.declared.fault.NameError.{NameError}
use Rattle.unit_name.proofs.Names.{no_fault_in_name}
use Rattle.unit_script.specs.Words.{name_of}
use Rattle.unit_script.proofs.words.name_of.Goals as goal

pub returns-in-Ok : goal.returns-in-Ok
unfolding name_of
returns-in-Ok c = rw (c.in-Ok.ensures.0, no_fault_in_name _ c.in-Ok.ensures.1) refl

pub returns-in-Err-Bad : goal.returns-in-Err-Bad
unfolding name_of
returns-in-Err-Bad c =
    let bad = subst (λ (e : NameError). Parses c.args.word.now (Err e)) c.in-Err-Bad.field-0-is c.in-Err-Bad.ensures in
    rw bad.0 refl
