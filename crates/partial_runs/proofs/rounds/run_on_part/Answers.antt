use Rattle.std.proofs.Common.{arith, refl}
use Rattle.disk.specs.Partials.{IsPartial}
use Rattle.disk.proofs.Going.{if_all}
use Rattle.partial_runs.proofs.Captured.{nothing_found}
use Rattle.partial_runs.proofs.rounds.run_on_part.Goals as goal

pub loop-round-init : goal.loop-round-init
loop-round-init g c = (
  if_all (g.D.Disk.holds c.args.disk.now) (λ t. IsPartial t c.none-partial.result) c.none-partial.ensures,
  omega arith,
  nothing_found c.none-partial.result c.none-partial.ensures,
  refl,
  refl,
)
