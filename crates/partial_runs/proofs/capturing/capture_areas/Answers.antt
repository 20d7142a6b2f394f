use Rattle.std.proofs.Common.{◌∙◌, Ok, Err, refl, subst, sym, get_or, take}
use Rattle.std.proofs.lemmas.List.{get_or_default}
use Rattle.unit_paths.specs.declared.place.Place.TheVariants.{Etc}
use Rattle.link_tree.proofs.Stops.{returned}
use Rattle.disk.specs.Partials.{IsIn, AreCaptured}
use Rattle.disk.specs.declared.partial.Area.{Area}
use Rattle.disk.specs.declared.partial.Area.TheVariants.{Units}
use Rattle.partial_runs.specs.Captures.{AreAllCaptured, Captures}
use Rattle.partial_runs.proofs.Captured.{captured_stay, captures_last}
use Rattle.partial_runs.proofs.Turns.{OfEach, none_yet, one_turn, all_turns}
use Rattle.partial_runs.proofs.capturing.capture_areas.Goals as goal

pub loop-area-init : goal.loop-area-init
loop-area-init g c = (none_yet c.args.areas.now (λ t found (area : Area). AreCaptured t found (IsIn area)) (g.D.Disk.holds c.args.disk.now) c.args.partial.now, refl, refl)

pub returns-in_err-capture_area-clause-captures : goal.returns-in_err-capture_area-clause-captures
returns-in_err-capture_area-clause-captures g c =
    let tree = g.D.Disk.holds c.args.disk.now in
    let e = c.in_err-capture_area.field-0.0 in
    let area = get_or c.args.areas.now c.loop-area.area-index (Units Etc) in
    let now = subst (λ tree. Captures tree c.loop-area.partial c.capture_area.new.partial (Err e) (λ t found. AreCaptured t found (IsIn area))) c.loop-area.invariant.1 c.in_err-capture_area.ensures.captures in
    subst (λ r. Captures tree c.args.partial.now c.capture_area.new.partial r (λ t found. AreAllCaptured t found c.args.areas.now)) (sym (returned c.from_residual.result e c.from_residual.ensures))
    (captures_last tree c.args.partial.now c.loop-area.partial c.capture_area.new.partial (Err e)
    (OfEach c.args.areas.now (λ t found (area : Area). AreCaptured t found (IsIn area)) (take c.loop-area.area-index c.args.areas.now)) (λ t found. AreCaptured t found (IsIn area)) c.loop-area.invariant.0 now)

pub loop-area-preserved : goal.loop-area-preserved
loop-area-preserved g c =
    let area = get_or c.args.areas.now c.loop-area.area-index (Units Etc) in (
      one_turn c.args.areas.now (λ t found (area : Area). AreCaptured t found (IsIn area)) (λ t f g grows within (area : Area) captured q this. captured_stay t f g grows within q (captured q this))
          (g.D.Disk.holds c.args.disk.now) c.args.partial.now c.loop-area.partial c.capture_area.new.partial c.loop-area.area-index area (get_or_default c.args.areas.now c.loop-area.area-index (Units Etc) _ c.loop-area-test.true) c.loop-area-test.true
          c.loop-area.invariant.0
          (subst (λ tree. Captures tree c.loop-area.partial c.capture_area.new.partial (Ok tt) (λ t found. AreCaptured t found (IsIn area))) c.loop-area.invariant.1 c.in_ok-capture_area.ensures.captures),
      c.in_ok-capture_area.ensures.kept ∙ c.loop-area.invariant.1,
      c.in_ok-capture_area.ensures.counted ∙ c.loop-area.invariant.2,
    )

pub returns-clause-captures : goal.returns-clause-captures
returns-clause-captures g c =
    all_turns c.args.areas.now (λ t found (area : Area). AreCaptured t found (IsIn area)) (g.D.Disk.holds c.args.disk.now) c.args.partial.now c.loop-area.partial
    c.loop-area.area-index c.loop-area-test.false c.loop-area.invariant.0
