use Rattle.unit_script.specs.Machine.{asked}
use Rattle.kept_runs.specs.Texts.{requested}
use Rattle.kept_runs.proofs.Alike.{alike_at}
use Rattle.kept_runs.proofs.saying.are_calls_of.Goals as goal

pub returns-then-not-is_call_of-clause-no : goal.returns-then-not-is_call_of-clause-no
returns-then-not-is_call_of-clause-no c alike =
    let same = alike_at requested asked c.args.rows.now c.args.calls.now c.loop-i.i c.index-rows-i.result c.index-calls-i.result c.index-rows-i.is c.loop-i-test.true c.index-calls-i.is alike in
    cc (c.is_call_of.ensures.no same, c.if-not-is_call_of.true)
