use Rattle.unit_paths.specs.declared.place.Place.TheVariants.{Etc}
use Rattle.disk.specs.declared.partial.Area.TheVariants.{Units}
use Rattle.disk.proofs.Parts.{area_at}
use Rattle.disk.proofs.partial.Partial.lists.Goals as goal

pub returns-then-is_same : goal.returns-then-is_same
returns-then-is_same c found t partial =
    area_at t c.args.self.now partial c.deref-known-items.result.now c.deref-known-items.ensures.value c.loop-known.known-index (Units Etc) c.args.area (c.is_same.ensures.0 c.if-is_same.true) c.loop-known-test.true
