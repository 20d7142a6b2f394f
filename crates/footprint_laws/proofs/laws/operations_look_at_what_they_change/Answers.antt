use Rattle.footprint_laws.proofs.laws.operations_look_at_what_they_change.Goals as goal

pub returns : goal.returns
returns g c = g.met.O.Operation.laws
