use Rattle.root_json.proofs.refusals.redo_refusal.Goals as goal

pub returns-in-NotUndone : goal.returns-in-NotUndone
returns-in-NotUndone c = rw c.in-NotUndone.is c.of_row-in-NotUndone.ensures
