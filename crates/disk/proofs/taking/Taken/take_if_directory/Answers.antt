use Rattle.std.proofs.Common.{sym, ◌∙◌}
use Rattle.disk.specs.Capturing.{IsSlotIn}
use Rattle.disk.proofs.DependencyDirectories.{no_slots_in}
use Rattle.disk.proofs.Going.{not_begun}
use Rattle.disk.proofs.taking.Taken.take_if_directory.Goals as goal

pub returns-then-not-is_bad_shape-clause-goes : goal.returns-then-not-is_bad_shape-clause-goes
returns-then-not-is_bad_shape-clause-goes g c asked =
    let path = c.args.directory.now in
    not_begun (g.D.Disk.holds c.args.disk.now) asked c.args.self.now.found c.args.self.now.wanted.items (IsSlotIn path) (λ q at. no_slots_in path q (sym c.is_bad_shape.ensures ∙ cc (c.if-not-is_bad_shape.true)) at)
