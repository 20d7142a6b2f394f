use Rattle.std.proofs.Common.{sym, ap, ◌∙◌}
use Rattle.std.specs.Prelude.{is_some}
use Rattle.disk.proofs.Parts.{slot_taken}
use Rattle.disk.proofs.taking.Taken.take_at.Goals as goal

pub returns-then-is_some-clause-goes : goal.returns-then-is_some-clause-goes
returns-then-is_some-clause-goes g c =
    slot_taken (g.D.Disk.holds c.args.disk.now) c.args.self.now c.take.new.self c.take.result c.args.path.now (ap is_some (sym c.of.ensures) ∙ sym c.is_some.ensures ∙ c.if-is_some.true) c.take.ensures.goes
