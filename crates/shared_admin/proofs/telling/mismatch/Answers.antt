use Rattle.std.proofs.Common.{List, subst}
use Rattle.shared_admin.specs.Closing.{AreTold, DiffersAt, IsTold, rows_of}
use Rattle.shared_admin.specs.declared.log.LogEntry.{LogEntry}
use Rattle.shared_admin.proofs.Firsts.{one_more, all_are}
use Rattle.shared_admin.proofs.Told.{first_off}
use Rattle.shared_admin.proofs.telling.mismatch.Goals as goal

pub returns-in-Some-clause-some : goal.returns-in-Some-clause-some
returns-in-Some-clause-some g c =
    first_off c.args.logs.now c.args.rows.now c.args.operators.now c.loop-operator.operator-index c.operator-item.result c.operator-item.is c.loop-operator-test.true c.loop-operator.invariant c.in-Some.place
    (subst (λ (entries : List (LogEntry g.row.O.Denot)). DiffersAt c.in-Some.place entries (rows_of c.operator-item.result 1 c.args.rows.now)) c.entries_of.ensures c.in-Some.ensures.some)

pub loop-operator-preserved : goal.loop-operator-preserved
loop-operator-preserved g c =
    one_more (IsTold c.args.logs.now c.args.rows.now) c.args.operators.now c.loop-operator.operator-index c.operator-item.result c.operator-item.is c.loop-operator-test.true c.loop-operator.invariant
    (subst (λ (entries : List (LogEntry g.row.O.Denot)). AreTold entries (rows_of c.operator-item.result 1 c.args.rows.now)) c.entries_of.ensures c.in_default.ensures.none)

pub returns-clause-none : goal.returns-clause-none
returns-clause-none g c = all_are (IsTold c.args.logs.now c.args.rows.now) c.args.operators.now c.loop-operator.operator-index c.loop-operator-test.false c.loop-operator.invariant
