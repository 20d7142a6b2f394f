use Rattle.std.proofs.Common.{subst, ap, inl, ◌∙◌}
use Rattle.disk.specs.Applied.{Applies, AppliesAs, failures_after_apply}
use Rattle.disk.proofs.Ways.{were_seen}
use Rattle.disk.proofs.applying.apply.Goals as goal

pub returns-in-Ok-clause-applies : goal.returns-in-Ok-clause-applies
returns-in-Ok-clause-applies g c =
    subst (λ h. Applies h (g.D.Disk.holds c.make_or_reverse.new.disk) c.make_or_reverse.result c.args.steps.now) c.in-Ok.ensures.kept c.make_or_reverse.ensures.applies

pub returns-in-Ok-clause-done : goal.returns-in-Ok-clause-done
returns-in-Ok-clause-done g c =
    subst (λ o. AppliesAs o (g.D.Disk.done c.make_or_reverse.new.disk) c.make_or_reverse.result c.args.steps.now) c.in-Ok.ensures.done c.make_or_reverse.ensures.done

pub returns-in-Ok-clause-counted : goal.returns-in-Ok-clause-counted
returns-in-Ok-clause-counted g c = c.make_or_reverse.ensures.counted ∙ ap (λ n. failures_after_apply n c.make_or_reverse.result) c.in-Ok.ensures.counted

pub returns-in-Err-clause-applies : goal.returns-in-Err-clause-applies
returns-in-Err-clause-applies g c = (c.in-Err.ensures.kept, c.in-Err.ensures.stops)

pub returns-in-Err-clause-done : goal.returns-in-Err-clause-done
returns-in-Err-clause-done g c = inl c.in-Err.ensures.done

pub returns-in-Ok-clause-looked : goal.returns-in-Ok-clause-looked
returns-in-Ok-clause-looked g c = were_seen (g.D.Disk.holds c.args.disk.now) c.make_or_reverse.result c.args.steps.now c.in-Ok.ensures.looked
