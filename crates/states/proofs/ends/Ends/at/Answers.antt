use Rattle.std.proofs.Common.{sym, ap, ◌∙◌, option_copied}
use Rattle.std.specs.FinMap as map
use Rattle.states.proofs.Ended.{found_at}
use Rattle.states.specs.Reaching.{or_none, ends_at}
use Rattle.states.proofs.ends.Ends.at.Goals as goal

pub returns-in-Some : goal.returns-in-Some
unfolding ends_at
returns-in-Some c =
    c.as_slice.ensures
    ∙ sym (ap or_none (sym (ap (λ m. map.get m c.args.name.now) c.self.view_is) ∙ found_at c.self.inside.by_name.entries c.args.name.now ∙ sym c.get.ensures.value ∙ ap option_copied c.in-Some.is))

pub returns-in-None : goal.returns-in-None
unfolding ends_at
returns-in-None c =
    sym (ap or_none (sym (ap (λ m. map.get m c.args.name.now) c.self.view_is) ∙ found_at c.self.inside.by_name.entries c.args.name.now ∙ sym c.get.ensures.value ∙ ap option_copied c.in-None.is))
