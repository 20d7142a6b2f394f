use Rattle.std.proofs.Common.{◌∙◌, Ok, Err, refl, subst, sym, take}
use Rattle.link_tree.proofs.Stops.{returned}
use Rattle.tree_access.specs.Keys.{AgreeOn}
use Rattle.tree_access.specs.Readings.{keys_of}
use Rattle.history.specs.declared.row.Row.{Row}
use Rattle.disk.specs.Partials.{found_in}
use Rattle.partial_trees.specs.Parts.{AgreeOnRows}
use Rattle.partial_runs.specs.Captures.{AgreesOnReading, Captures}
use Rattle.partial_runs.proofs.Captured.{captures_last, captures_so}
use Rattle.partial_runs.proofs.OnKeys.{keys_stay}
use Rattle.partial_runs.proofs.Turns.{OfEach, on_keys, none_yet, one_turn, all_turns}
use Rattle.partial_runs.proofs.capturing.capture_rows.Goals as goal

pub loop-row-init : goal.loop-row-init
loop-row-init g c =
    (none_yet c.args.rows.now (λ t found (row : Row g.row.O.Denot). AgreeOn (keys_of row.reading) found t.entries) (g.D.Disk.holds c.args.disk.now) c.args.partial.now, refl, refl)

pub returns-in_err-capture_reading-clause-captures : goal.returns-in_err-capture_reading-clause-captures
returns-in_err-capture_reading-clause-captures g c =
    let tree = g.D.Disk.holds c.args.disk.now in
    let e = c.in_err-capture_reading.field-0.0 in
    let reading = c.row-item.result.reading in
    let now = subst (λ tree. Captures tree c.loop-row.partial c.capture_reading.new.partial (Err e) (λ t found. AgreesOnReading found t.entries reading)) c.loop-row.invariant.1 c.in_err-capture_reading.ensures.captures in
    subst (λ r. Captures tree c.args.partial.now c.capture_reading.new.partial r (λ t found. AgreeOnRows c.args.rows.now found t.entries)) (sym (returned c.from_residual.result e c.from_residual.ensures))
    (captures_last tree c.args.partial.now c.loop-row.partial c.capture_reading.new.partial (Err e)
    (OfEach c.args.rows.now (λ t found (row : Row g.row.O.Denot). AgreeOn (keys_of row.reading) found t.entries) (take c.loop-row.row-index c.args.rows.now)) (λ t found. AgreesOnReading found t.entries reading) c.loop-row.invariant.0 now)

pub loop-row-preserved : goal.loop-row-preserved
loop-row-preserved g c =
    let tree = g.D.Disk.holds c.args.disk.now in
    let row = c.row-item.result in
    let now = subst (λ tree. Captures tree c.loop-row.partial c.capture_reading.new.partial (Ok tt) (λ t found. AgreesOnReading found t.entries row.reading)) c.loop-row.invariant.1 c.in_ok-capture_reading.ensures.captures in (
      one_turn c.args.rows.now (λ t found (row : Row g.row.O.Denot). AgreeOn (keys_of row.reading) found t.entries) (λ t old new grows within (row : Row g.row.O.Denot). keys_stay t.entries old new grows within (keys_of row.reading))
          tree c.args.partial.now c.loop-row.partial c.capture_reading.new.partial c.loop-row.row-index row c.row-item.is c.loop-row-test.true
          c.loop-row.invariant.0
          (captures_so tree c.loop-row.partial c.capture_reading.new.partial (Ok tt) (λ t found. AgreesOnReading found t.entries row.reading) (λ t found. AgreeOn (keys_of row.reading) found t.entries)
          (λ t is agree. on_keys (found_in c.capture_reading.new.partial) t.entries row.reading agree) now),
      c.in_ok-capture_reading.ensures.kept ∙ c.loop-row.invariant.1,
      c.in_ok-capture_reading.ensures.counted ∙ c.loop-row.invariant.2,
    )

pub returns-clause-captures : goal.returns-clause-captures
returns-clause-captures g c =
    all_turns c.args.rows.now (λ t found (row : Row g.row.O.Denot). AgreeOn (keys_of row.reading) found t.entries) (g.D.Disk.holds c.args.disk.now) c.args.partial.now c.loop-row.partial
    c.loop-row.row-index c.loop-row-test.false c.loop-row.invariant.0
