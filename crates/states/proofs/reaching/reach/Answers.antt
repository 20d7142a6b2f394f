use Rattle.std.proofs.Common.{sym, ap, ◌∙◌, Some, option_copied}
use Rattle.states.specs.Dependencies.{next_names}
use Rattle.states.specs.Reaching.{ends_at, with_names}
use Rattle.states.proofs.Walks.{none_past, one_past, all_past}
use Rattle.states.proofs.reaching.reach.Goals as goal

pub loop-name-init : goal.loop-name-init
loop-name-init c =
    let next = next_names c.args.reverse (ends_at c.args.ends.now) in
    none_past next c.args.from.now c.add_next.new.self (c.in_ok-add_next.ensures ∙ ap (λ names. with_names names (next c.args.from.now)) c.none-found.ensures)

pub loop-name-preserved : goal.loop-name-preserved
loop-name-preserved c =
    let next = next_names c.args.reverse (ends_at c.args.ends.now) in
    one_past next c.args.from.now c.loop-name.found c.add_next-in-Some.new.self c.loop-name.place c.in_ok-name.name
    (sym c.get.ensures.name ∙ ap option_copied c.in-Some.is ∙ ap (λ name. Some name) (sym c.in_ok-name.ensures)) c.in_ok-add_next-2.ensures c.loop-name.invariant

pub returns : goal.returns
returns c =
    let next = next_names c.args.reverse (ends_at c.args.ends.now) in
    all_past next c.args.from.now c.loop-name.found c.loop-name.place (sym c.get.ensures.name ∙ ap option_copied c.in_default.is) c.loop-name.invariant
