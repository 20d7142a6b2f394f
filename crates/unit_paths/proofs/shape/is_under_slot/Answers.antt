use Rattle.std.proofs.Common.{◌≡◌, ◌&&◌, false, take, drop, sym, ◌∙◌, ap, get_or}
use Rattle.std.specs.Prelude.{is_some}
use Rattle.std.proofs.lemmas.Bool.{ne_eqb, and_left, and_right}
use Rattle.std.proofs.Math.ListN.{drop_of_length-le}
use Rattle.unit_paths.specs.Paths.{is_slash}
use Rattle.unit_paths.specs.Slots.{is_slot}
use Rattle.unit_paths.proofs.Unders.{under-here, under-on, under-none}
use Rattle.unit_paths.proofs.shape.is_under_slot.Goals as goal
use Rattle.unit_paths.proofs.shape.is_under_slot.Goals.{else-path-i-eq47-via-then-path-i-eq47+else-is_some, else-path-i-eq47-via-else-path-i-eq47}

pub returns-then-is_some : goal.returns-then-is_some
returns-then-is_some c = sym (under-here c.args.path.now c.loop-i.i c.loop-i-test.true c.if-path-i-eq47.true (ap is_some (sym c.slot_of.ensures) ∙ sym c.is_some.ensures ∙ c.if-is_some.true)) ∙ c.loop-i.invariant

pub loop-i-preserved : goal.loop-i-preserved
loop-i-preserved c =
    let none : (is_slash (get_or c.args.path.now c.loop-i.i 0) && is_slot (take c.loop-i.i c.args.path.now)) ≡ false = elim c.else-path-i-eq47.branch [
      | else-path-i-eq47-via-then-path-i-eq47+else-is_some w ↦ and_right _ _ (ap is_some (sym w.slot_of.ensures) ∙ sym w.is_some.ensures ∙ w.if-is_some.false)
      | else-path-i-eq47-via-else-path-i-eq47 w ↦ and_left _ _ (ne_eqb _ 47 w.if-path-i-eq47.false)
    ] in
    sym (under-on c.args.path.now c.loop-i.i c.loop-i-test.true none) ∙ c.loop-i.invariant

pub returns : goal.returns
returns c = sym (under-none (drop c.loop-i.i c.args.path.now) (take c.loop-i.i c.args.path.now) (drop_of_length-le c.args.path.now c.loop-i-test.false)) ∙ c.loop-i.invariant
