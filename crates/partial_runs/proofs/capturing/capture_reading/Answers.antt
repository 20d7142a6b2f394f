use Rattle.std.proofs.Common.{◌∙◌, Ok, Err, refl, subst, sym, take}
use Rattle.link_tree.proofs.Stops.{returned}
use Rattle.tree_access.specs.declared.reading.Observation.{Observation}
use Rattle.tree_access.specs.Keys.{Agree}
use Rattle.partial_runs.specs.Captures.{AgreesOnReading, Captures}
use Rattle.partial_runs.proofs.Captured.{captures_last}
use Rattle.partial_runs.proofs.OnKeys.{agree_stays}
use Rattle.partial_runs.proofs.Turns.{OfEach, none_yet, one_turn, all_turns}
use Rattle.partial_runs.proofs.capturing.capture_reading.Goals as goal

pub loop-observation-init : goal.loop-observation-init
loop-observation-init g c =
    (none_yet c.as_slice-observation-items.result.now (λ t found (o : Observation). Agree o.key found t.entries) (g.D.Disk.holds c.args.disk.now) c.args.partial.now, refl, refl)

pub returns-in_err-capture_key-clause-captures : goal.returns-in_err-capture_key-clause-captures
returns-in_err-capture_key-clause-captures g c =
    let tree = g.D.Disk.holds c.args.disk.now in
    let e = c.in_err-capture_key.field-0.0 in
    let key = c.observation-item.result.key in
    let now = subst (λ tree. Captures tree c.loop-observation.partial c.capture_key.new.partial (Err e) (λ t found. Agree key found t.entries)) c.loop-observation.invariant.1 c.in_err-capture_key.ensures.captures in
    subst (λ r. Captures tree c.args.partial.now c.capture_key.new.partial r (λ t found. AgreesOnReading found t.entries c.args.reading.now)) (sym (returned c.from_residual.result e c.from_residual.ensures))
    (captures_last tree c.args.partial.now c.loop-observation.partial c.capture_key.new.partial (Err e)
    (OfEach c.as_slice-observation-items.result.now (λ t found (o : Observation). Agree o.key found t.entries) (take c.loop-observation.observation-index c.as_slice-observation-items.result.now)) (λ t found. Agree key found t.entries) c.loop-observation.invariant.0 now)

pub loop-observation-preserved : goal.loop-observation-preserved
loop-observation-preserved g c = (
  one_turn c.as_slice-observation-items.result.now (λ t found (o : Observation). Agree o.key found t.entries) (λ t f g grows within (o : Observation). agree_stays t.entries f g grows within o.key)
      (g.D.Disk.holds c.args.disk.now) c.args.partial.now c.loop-observation.partial c.capture_key.new.partial c.loop-observation.observation-index c.observation-item.result c.observation-item.is c.loop-observation-test.true
      c.loop-observation.invariant.0
      (subst (λ tree. Captures tree c.loop-observation.partial c.capture_key.new.partial (Ok tt) (λ t found. Agree c.observation-item.result.key found t.entries)) c.loop-observation.invariant.1 c.in_ok-capture_key.ensures.captures),
  c.in_ok-capture_key.ensures.kept ∙ c.loop-observation.invariant.1,
  c.in_ok-capture_key.ensures.counted ∙ c.loop-observation.invariant.2,
)

pub returns-clause-captures : goal.returns-clause-captures
returns-clause-captures g c =
    subst (λ reading. Captures (g.D.Disk.holds c.args.disk.now) c.args.partial.now c.loop-observation.partial (Ok tt) (λ t found. AgreesOnReading found t.entries reading)) c.as_slice-observation-items.ensures
    (all_turns c.as_slice-observation-items.result.now (λ t found (o : Observation). Agree o.key found t.entries) (g.D.Disk.holds c.args.disk.now) c.args.partial.now c.loop-observation.partial
    c.loop-observation.observation-index c.loop-observation-test.false c.loop-observation.invariant.0)
