use Rattle.std.proofs.Common.{◌≡◌, ◌+◌, refl}
use Rattle.kept_runs.proofs.Alike.{all_and_next, all_at_end}
use Rattle.kept_runs.proofs.Ruled.{first_of_others}
use Rattle.kept_runs.proofs.reading.check_rules.Goals as goal

pub returns-then-run-rules-clause-err : goal.returns-then-run-rules-clause-err
returns-then-run-rules-clause-err c = (
  c.loop-before.before + 1,
  c.index-runs-before.result.words.rules,
  refl,
  first_of_others c.args.rules c.args.runs.now c.loop-before.before c.index-runs-before.result c.index-runs-before.is c.loop-before-test.true c.loop-before.invariant c.if-run-rules.true,
)

pub loop-before-preserved : goal.loop-before-preserved
loop-before-preserved c =
    all_and_next (λ run. run.words.rules ≡ c.args.rules) c.args.runs.now c.loop-before.before c.index-runs-before.result c.index-runs-before.is c.loop-before-test.true c.loop-before.invariant c.if-run-rules.false

pub returns-clause-ok : goal.returns-clause-ok
returns-clause-ok c =
    all_at_end (λ run. run.words.rules ≡ c.args.rules) c.args.runs.now c.loop-before.before c.loop-before-test.false c.loop-before.invariant
