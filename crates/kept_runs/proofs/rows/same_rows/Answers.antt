use Rattle.kept_runs.specs.Texts.{shown}
use Rattle.kept_runs.proofs.Alike.{alike_at}
use Rattle.kept_runs.proofs.rows.same_rows.Goals as goal

pub returns-then-not-same_row-clause-no : goal.returns-then-not-same_row-clause-no
returns-then-not-same_row-clause-no c alike =
    let same = alike_at shown shown c.args.ones.now c.args.others.now c.loop-i.i c.index-ones-i.result c.index-others-i.result c.index-ones-i.is c.loop-i-test.true c.index-others-i.is alike in
    cc (c.same_row.ensures.no same, c.if-not-same_row.true)
