use Rattle.transaction.proofs.edit.Edit.with_all.Goals as goal

pub invariant_of-result : goal.invariant_of-result
invariant_of-result c = c.in_ok-place_in.ensures.0
