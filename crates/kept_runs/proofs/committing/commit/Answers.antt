use Rattle.std.proofs.Common.{sym, subst, ◌∙◌}
use Rattle.kept_history.specs.Doing.{NeverHalfSince}
use Rattle.kept_rows.specs.Texts.{replay_of}
use Rattle.kept_runs.proofs.Told.{replay_said}
use Rattle.kept_runs.proofs.committing.commit.Goals as goal

pub returns-clause-whole : goal.returns-clause-whole
returns-clause-whole g c = λ is_written history is.
    subst (λ text. NeverHalfSince (g.D.Disk.done c.args.disk.now) (g.D.Disk.done c.run_between.new.disk) c.args.old.now c.tree.result.now text) c.bytes.ensures c.run_between.ensures.whole replay_of history is
    (replay_said c.args.kept.now.text.bytes.items c.args.kept.now.history.first c.args.kept.now.history.rows (c.args.kept.now.says is_written) ∙ sym c.tree.ensures.tree)
