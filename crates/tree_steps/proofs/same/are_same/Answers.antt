use Rattle.tree_steps.proofs.Alike.{same_where_all_stand}
use Rattle.tree_steps.proofs.same.are_same.Goals as goal

pub returns-clause-yes : goal.returns-clause-yes
returns-clause-yes c back =
    same_where_all_stand c.args.one.now c.args.other.now (c.all_stand_in.ensures.yes (cc (c.if-not-all_stand_in.false))) (c.all_stand_in-2.ensures.yes back)
