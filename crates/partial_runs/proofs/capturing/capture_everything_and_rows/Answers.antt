use Rattle.std.proofs.Common.{sym, subst}
use Rattle.link_tree.proofs.Stops.{returned}
use Rattle.link_tree.specs.Trees.{Entries}
use Rattle.disk.specs.Disks.{Held}
use Rattle.partial_trees.specs.Parts.{AgreeOnRows}
use Rattle.partial_runs.specs.Captures.{AreAllCaptured, Captures, everything}
use Rattle.partial_runs.proofs.Captured.{captures_last}
use Rattle.partial_runs.proofs.capturing.capture_everything_and_rows.Goals as goal

pub returns-in_err-capture_everything-clause-captures : goal.returns-in_err-capture_everything-clause-captures
returns-in_err-capture_everything-clause-captures g c =
    let tree = g.D.Disk.holds c.args.disk.now in
    let e = c.in_err-capture_everything.field-0.0 in
    subst (λ r. Captures tree c.args.partial.now c.capture_everything.new.partial r (λ t found. AgreeOnRows c.args.rows.now found t.entries)) (sym (returned c.from_residual.result e c.from_residual.ensures))
    c.in_err-capture_everything.ensures.captures

pub returns-clause-captures : goal.returns-clause-captures
returns-clause-captures g c =
    let tree = g.D.Disk.holds c.args.disk.now in
    let AgreeNow : Held → Entries → Type 0 = λ t found. AgreeOnRows c.args.rows.now found t.entries in
    captures_last tree c.args.partial.now c.capture_everything.new.partial c.capture_rows.new.partial c.capture_rows.result (λ t found. AreAllCaptured t found everything) AgreeNow
    c.in_ok-capture_everything.ensures.captures
    (subst (λ tree. Captures tree c.capture_everything.new.partial c.capture_rows.new.partial c.capture_rows.result AgreeNow) c.in_ok-capture_everything.ensures.kept c.capture_rows.ensures.captures)
