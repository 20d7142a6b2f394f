use Rattle.unit_script.proofs.action.ActionOperation.run.Goals as goal

pub returns-in-GetDefault-clause-outcome : goal.returns-in-GetDefault-clause-outcome
returns-in-GetDefault-clause-outcome c = rw c.in-GetDefault.is c.run-in-GetDefault.ensures.outcome
