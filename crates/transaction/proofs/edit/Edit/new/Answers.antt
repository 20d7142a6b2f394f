use Rattle.transaction.proofs.Edited.{begun}
use Rattle.transaction.proofs.edit.Edit.new.Goals as goal

pub invariant_of-result : goal.invariant_of-result
invariant_of-result c = rw (c.in_ok-share.ensures, c.none.ensures) (begun c.args.tree.now)
