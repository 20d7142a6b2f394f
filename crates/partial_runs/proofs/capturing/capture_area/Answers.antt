use Rattle.disk.specs.Partials.{IsIn, AreCaptured}
use Rattle.partial_runs.proofs.Captured.{captured_before, captured_now}
use Rattle.partial_runs.proofs.capturing.capture_area.Goals as goal

pub returns-then-has_area-clause-captures : goal.returns-then-has_area-clause-captures
returns-then-has_area-clause-captures g c =
    captured_before (g.D.Disk.holds c.args.disk.now) c.args.partial.now (λ t found. AreCaptured t found (IsIn c.args.area)) (λ t is. c.has_area.ensures c.if-has_area.true t is)

pub returns-clause-captures : goal.returns-clause-captures
returns-clause-captures g c =
    captured_now (g.D.Disk.holds c.args.disk.now) c.args.partial.now c.take_area.new.self c.take_area.result (IsIn c.args.area)
    c.take_area.ensures.goes c.take_area.ensures.captured c.take_area.ensures.reason
