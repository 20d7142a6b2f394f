use Rattle.std.proofs.Common.{◌≡◌, ◌+◌, ◌-◌, ◌<◌, zero, length, take, drop, subst, sym, ap, ◌∙◌, arith}
use Rattle.disk.specs.Events.{way_back, with_steps}
use Rattle.disk.specs.Steps.{failures_with}
use Rattle.disk.specs.Applied.{WereMade}
use Rattle.disk.proofs.Ways.{one_back, back_due}
use Rattle.disk.proofs.Doing.{one_done_back}
use Rattle.disk.proofs.applying.take_all_back.Goals as goal

pub returns-in-Err-clause-back : goal.returns-in-Err-clause-back
returns-in-Err-clause-back g c =
    let steps = c.args.steps.now in
    let made = c.loop-made.made in
    let some : 0 < made = c.loop-made-test.true in
    let within : made - 1 < length steps = omega (arith, some, c.loop-made.invariant.0) in
    let again : made - 1 + 1 ≡ made = omega (arith, some) in (
      some,
      c.loop-made.invariant.0,
      λ old all.
          let here = c.loop-made.invariant.1 old all in (
            c.in-Err.ensures.makes.1 ∙ here.1,
            back_due steps (made - 1) c.index-steps-made.result c.index-steps-made.is within old (g.D.Disk.holds c.loop-made.disk) _ c.in-Err.why (subst (λ n. WereMade old (g.D.Disk.holds c.loop-made.disk) (take n steps)) (sym again) here) c.in-Err.ensures.makes,
          ),
    )

pub returns-in-Err-clause-some_done : goal.returns-in-Err-clause-some_done
returns-in-Err-clause-some_done g c = c.in-Err.ensures.done ∙ c.loop-made.invariant.2

pub returns-in-Err-clause-counted : goal.returns-in-Err-clause-counted
returns-in-Err-clause-counted g c = c.in-Err.ensures.counted ∙ ap (λ n. failures_with n c.in-Err.why) c.loop-made.invariant.3

pub returns-clause-done : goal.returns-clause-done
returns-clause-done g c =
    let last : c.loop-made.made ≡ zero = omega (arith, c.loop-made-test.false) in
    c.loop-made.invariant.2 ∙ ap (λ n. with_steps (g.D.Disk.done c.args.disk.now) (way_back (drop n c.args.steps.now))) last

pub loop-made-preserved : goal.loop-made-preserved
loop-made-preserved g c =
    let steps = c.args.steps.now in
    let made = c.loop-made.made in
    let some : 0 < made = c.loop-made-test.true in
    let within : made - 1 < length steps = omega (arith, some, c.loop-made.invariant.0) in
    let again : made - 1 + 1 ≡ made = omega (arith, some) in (
      omega (arith, within),
      λ old all. one_back steps (made - 1) c.index-steps-made.result c.index-steps-made.is within old (g.D.Disk.holds c.loop-made.disk) _ (subst (λ n. WereMade old (g.D.Disk.holds c.loop-made.disk) (take n steps)) (sym again) (c.loop-made.invariant.1 old all)) c.in_default.ensures.makes,
      one_done_back steps (made - 1) c.index-steps-made.result c.index-steps-made.is within (g.D.Disk.done c.args.disk.now) (g.D.Disk.done c.loop-made.disk) _
          (subst (λ n. g.D.Disk.done c.loop-made.disk ≡ with_steps (g.D.Disk.done c.args.disk.now) (way_back (drop n steps))) (sym again) c.loop-made.invariant.2) c.in_default.ensures.done,
      c.in_default.ensures.counted ∙ c.loop-made.invariant.3,
    )
