use Rattle.std.proofs.Common.{sym, ap, subst, ◌∙◌}
use Rattle.std.specs.Prelude.{IsPermutation}
use Rattle.std.specs.FinMap as map
use Rattle.states.specs.Reaching.{with_step}
use Rattle.states.proofs.Ended.{none_ended, one_ended, other_ended, all_ended}
use Rattle.states.proofs.ends.Ends.of.Goals as goal

pub loop-path-init : goal.loop-path-init
loop-path-init c = none_ended c.args.reverse c.none-ends.result c.into_iter-path-iterator.result c.none-ends.ensures

pub loop-path-preserved-in-Continue-branch-3 : goal.loop-path-preserved-in-Continue-branch-3
loop-path-preserved-in-Continue-branch-3 c =
    one_ended c.args.reverse c.loop-path.ends c.add.new.self c.loop-path.path-iterator c.next.new.self c.into_iter-path-iterator.result c.in-Some.path.now c.in-Some.entry.now c.in-Some-2.step
    c.in-Some.ensures.steps (sym c.in_ok-step.ensures ∙ c.in-Some-2.is) (c.in_ok-add.ensures ∙ ap (with_step c.loop-path.ends) c.turn.ensures) c.loop-path.invariant

pub loop-path-preserved : goal.loop-path-preserved
loop-path-preserved c =
    other_ended c.args.reverse c.loop-path.ends c.loop-path.path-iterator c.next.new.self c.into_iter-path-iterator.result c.in-Some.path.now c.in-Some.entry.now
    c.in-Some.ensures.steps (sym c.in_ok-step.ensures ∙ c.in_default.is) c.loop-path.invariant

pub returns : goal.returns
returns c =
    all_ended c.args.reverse c.loop-path.ends c.loop-path.path-iterator c.into_iter-path-iterator.result c.args.links.now c.in-None.ensures.steps.0
    (subst (λ xs. IsPermutation xs (map.entries c.args.links.now)) (sym c.into_iter-path-iterator.ensures.into_iter_gives) c.iter-path-items.ensures.entries) c.loop-path.invariant
