use Rattle.kept_rows.specs.Lines.{CanBeWritten}
use Rattle.kept_runs.proofs.Alike.{all_and_next, all_at_end}
use Rattle.kept_runs.proofs.others.check_all.Goals as goal

pub loop-change-preserved : goal.loop-change-preserved
loop-change-preserved c =
    all_and_next CanBeWritten c.args.changes.now c.loop-change.change-index c.change-item.result c.change-item.is c.loop-change-test.true c.loop-change.invariant
    (c.in_ok-can_be_written.ensures.lines c.if-not-branch.false)

pub returns-clause-all : goal.returns-clause-all
returns-clause-all c = all_at_end CanBeWritten c.args.changes.now c.loop-change.change-index c.loop-change-test.false c.loop-change.invariant
