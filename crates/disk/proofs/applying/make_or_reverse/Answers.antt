use Rattle.std.proofs.Common.{◌≤◌, take, subst, ◌∙◌, ap, inr}
use Rattle.std.specs.Option.{option_map}
use Rattle.std.proofs.lemmas.List.{length-take-le}
use Rattle.disk.specs.Events.{way_back}
use Rattle.disk.specs.Steps.{failures_with}
use Rattle.disk.specs.Applied.{after_steps}
use Rattle.disk.proofs.Ways.{take_front}
use Rattle.disk.proofs.Doing.{more_steps}
use Rattle.disk.proofs.applying.make_or_reverse.Goals as goal

pub returns-in-Ok-take_all_back-clause-applies : goal.returns-in-Ok-take_all_back-clause-applies
returns-in-Ok-take_all_back-clause-applies g c =
    (c.in-Ok-take_all_back.ensures.back (g.D.Disk.holds c.args.disk.now) c.in-Err.ensures.some.1, c.in-Err.ensures.stops)

pub returns-in-Ok-take_all_back-clause-done : goal.returns-in-Ok-take_all_back-clause-done
returns-in-Ok-take_all_back-clause-done g c =
    let front = take c.in-Err.field-0.step c.args.steps.now in
    inr (more_steps (g.D.Disk.done c.args.disk.now) _ _ front (way_back front) c.in-Err.ensures.some_done c.in-Ok-take_all_back.ensures.done)

pub returns-in-Ok-take_all_back-clause-counted : goal.returns-in-Ok-take_all_back-clause-counted
returns-in-Ok-take_all_back-clause-counted g c = c.in-Ok-take_all_back.ensures.counted ∙ c.in-Err.ensures.counted

pub returns-in-Err-take_all_back-clause-applies : goal.returns-in-Err-take_all_back-clause-applies
returns-in-Err-take_all_back-clause-applies g c =
    let old = g.D.Disk.holds c.args.disk.now in
    let steps = c.args.steps.now in
    let step = c.in-Err.field-0.step in
    let left = c.in-Err-take_all_back.left.made in
    let back = c.in-Err-take_all_back.ensures.back in
    let few : left ≤ step = subst (λ n. left ≤ n) (length-take-le step steps c.in-Err.ensures.some.0) back.1 in
    let stays = back.2 old c.in-Err.ensures.some.1 in (
      stays.0 ∙ ap (λ front. option_map (after_steps front) old) (take_front left step steps few),
      back.0,
      few,
      c.in-Err.ensures.stops,
      stays.1,
    )

pub returns-in-Err-take_all_back-clause-done : goal.returns-in-Err-take_all_back-clause-done
returns-in-Err-take_all_back-clause-done g c =
    let front = take c.in-Err.field-0.step c.args.steps.now in
    more_steps (g.D.Disk.done c.args.disk.now) _ _ front _ c.in-Err.ensures.some_done c.in-Err-take_all_back.ensures.some_done

pub returns-in-Err-take_all_back-clause-counted : goal.returns-in-Err-take_all_back-clause-counted
returns-in-Err-take_all_back-clause-counted g c =
    c.in-Err-take_all_back.ensures.counted ∙ ap (λ n. failures_with n c.in-Err-take_all_back.left.why) c.in-Err.ensures.counted
