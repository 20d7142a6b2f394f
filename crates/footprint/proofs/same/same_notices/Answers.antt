use Rattle.std.proofs.Common.{ap}
use Rattle.std.specs.FinMap as map
use Rattle.footprint.proofs.Alike.{values_alike}
use Rattle.footprint.proofs.same.same_notices.Goals as goal

pub returns : goal.returns
returns c = (
  (λ yes. values_alike c.args.one.now c.args.other.now c.are_alike.ensures.lines.0 c.are_alike.ensures.lines.1 (c.are_alike.ensures.yes yes)),
  (λ same. c.are_alike.ensures.no (ap map.values same)),
)
