use Rattle.std.proofs.Common.{◌≡◌, sym, subst}
use Rattle.disk.specs.Capturing.{IsCaptured}
use Rattle.disk.specs.Partials.{AreCaptured, found_in}
use Rattle.partial_runs.proofs.Captured.{captured_before, captured_now}
use Rattle.partial_runs.proofs.capturing.capture_path.Goals as goal

pub returns-then-has_path-clause-captures : goal.returns-then-has_path-clause-captures
returns-then-has_path-clause-captures g c =
    captured_before (g.D.Disk.holds c.args.disk.now) c.args.partial.now (λ t found. AreCaptured t found (λ q. q ≡ c.args.path.now))
    (λ t is q same. subst (IsCaptured t (found_in c.args.partial.now)) (sym same) (c.has_path.ensures c.if-has_path.true t is))

pub returns-clause-captures : goal.returns-clause-captures
returns-clause-captures g c =
    captured_now (g.D.Disk.holds c.args.disk.now) c.args.partial.now c.take_path.new.self c.take_path.result (λ q. q ≡ c.args.path.now)
    c.take_path.ensures.goes c.take_path.ensures.captured c.take_path.ensures.reason
