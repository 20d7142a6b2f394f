use Rattle.std.proofs.Common.{◌≡◌, ◌++◌, sym, ap, ◌∙◌}
use Rattle.std.proofs.lemmas.List.{append-nil}
use Rattle.states.proofs.Ordered.{names_again}
use Rattle.states.proofs.reaching.in_order.Goals as goal

pub returns : goal.returns
returns c =
    let sorted : c.into_iter-name-iterator.result ≡ c.args.set.keys = c.into_iter-name-iterator.ensures.into_iter_gives.0 in
    sym (append-nil c.loop-name.names) ∙ ap (λ rest. c.loop-name.names ++ rest) (sym c.in-None.ensures.steps.0) ∙ c.loop-name.invariant
    ∙ sorted ∙ sym (names_again c.args.set.keys c.into_iter-name-iterator.ensures.into_iter_gives.4)
