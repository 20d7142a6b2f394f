use Rattle.transaction.proofs.Edited.{one_more}
use Rattle.transaction.proofs.edit.Edit.with.Goals as goal

pub invariant_of-result : goal.invariant_of-result
invariant_of-result c =
    let inside = c.self.inside in
    rw (c.in_ok-put_noted.ensures.put, c.in_ok-put_noted.ensures.noted)
    (one_more inside.first.now inside.tree inside.changes c.self.invariant c.args.slot.now c.args.entry c.requires)
