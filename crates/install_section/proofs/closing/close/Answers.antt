use Rattle.std.proofs.Common.{◌≡◌, ◌+◌, ◌-◌, ◌∙◌, Ok, Some, ap, arith}
use Rattle.install_section.specs.Closure.{closed_from}
use Rattle.install_section.proofs.ClosureSteps.{past_the_last, past_a_unit, past_too_many, past_all}
use Rattle.install_section.proofs.closing.close.Goals as goal

pub returns-in-None : goal.returns-in-None
returns-in-None c =
    past_the_last c.args.tree.now c.args.cells.now (closed_from 1024 0 c.args.closed.now) c.loop-place.cells (1024 - c.loop-place.place) c.loop-place.place c.loop-place.closed
    (omega arith) c.loop-place.invariant.goes c.in-None.ensures

pub returns-in-Err : goal.returns-in-Err
returns-in-Err c =
    past_too_many c.args.tree.now c.args.cells.now (closed_from 1024 0 c.args.closed.now) c.loop-place.cells (1024 - c.loop-place.place) c.loop-place.place c.loop-place.closed
    (omega arith) c.loop-place.invariant.goes c.in_ok-unit-in-Some.unit c.add_unit.new.cells c.in-Err.fault
    (ap (λ unit. Some unit) c.in_ok-unit-in-Some.ensures ∙ c.in-Some.ensures) (rw c.in-Err.is at c.in_ok-fault.ensures)

pub loop-place-preserved : goal.loop-place-preserved
loop-place-preserved c = record {
  within = omega arith;
  goes =
      let left : 1024 - (c.loop-place.place + 1) ≡ 1024 - c.loop-place.place - 1 = omega arith in
      let next =
      past_a_unit c.args.tree.now c.args.cells.now (closed_from 1024 0 c.args.closed.now) c.loop-place.cells (1024 - c.loop-place.place) c.loop-place.place c.loop-place.closed
      (omega arith) c.loop-place.invariant.goes c.in_ok-unit-in-Some.unit c.add_unit.new.cells (Ok c.add_unit.new.closed)
      (ap (λ unit. Some unit) c.in_ok-unit-in-Some.ensures ∙ c.in-Some.ensures) (rw c.in-Ok.is at c.in_ok-fault.ensures) in
      rw left next;
}

pub returns : goal.returns
returns c =
    past_all c.args.tree.now c.args.cells.now (closed_from 1024 0 c.args.closed.now) c.loop-place.cells (1024 - c.loop-place.place) c.loop-place.place c.loop-place.closed
    (omega arith) c.loop-place.invariant.goes
