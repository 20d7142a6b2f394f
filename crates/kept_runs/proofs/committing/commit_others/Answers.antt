use Rattle.std.proofs.Common.{[], subst}
use Rattle.kept_history.specs.Doing.{Runs}
use Rattle.kept_rows.specs.Texts.{replay_of}
use Rattle.kept_runs.proofs.Writes.{written}
use Rattle.kept_runs.proofs.committing.commit_others.Goals as goal

pub returns-clause-whole : goal.returns-clause-whole
returns-clause-whole g c = λ history.
    written replay_of history c.args.kept.now.text.bytes.items (g.D.Disk.holds c.args.disk.now) (g.D.Disk.done c.args.disk.now) (g.D.Disk.done c.run.new.disk) (g.D.Disk.holds c.run.new.disk) c.run.result
    (subst (λ text. Runs (g.D.Disk.done c.args.disk.now) (g.D.Disk.done c.run.new.disk) c.run.result text []) c.bytes.ensures c.run.ensures.runs) c.run.ensures.leaves
