use Rattle.kept_runs.proofs.Alike.{alike_at}
use Rattle.root_histories.specs.Promises.{seen_of}
use Rattle.root_histories.proofs.promise.are_same_runs.Goals as goal

pub returns-then-not-is_same_run-clause-no : goal.returns-then-not-is_same_run-clause-no
returns-then-not-is_same_run-clause-no c alike =
    let same = alike_at seen_of seen_of c.args.runs.now c.args.others.now c.loop-i.i c.index-runs-i.result c.index-others-i.result c.index-runs-i.is c.loop-i-test.true c.index-others-i.is alike in
    cc (c.is_same_run.ensures.no same, c.if-not-is_same_run.true)
