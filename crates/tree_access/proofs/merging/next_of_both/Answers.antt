use Rattle.std.proofs.Common.{◌≡◌, Less, Equal, Greater, sym, ◌∙◌}
use Rattle.link_tree.specs.Trees.{after_changes}
use Rattle.tree_access.specs.Merging.{turn}
use Rattle.tree_access.proofs.Merged.{left_after, next_of_first, next_of_both, next_of_second, next_is_none}
use Rattle.tree_access.proofs.merging.next_of_both.Goals as goal

pub returns-in_err-before-in-Some-clause-second : goal.returns-in_err-before-in-Some-clause-second
returns-in_err-before-in-Some-clause-second c =
    left_after (after_changes c.args.changes.now c.args.tree.now) c.next-in-Greater.result c.args.second.now c.next-in-Greater.new.self c.next-in-Greater.ensures.steps c.requires.second

pub returns-in-Less-clause-next : goal.returns-in-Less-clause-next
returns-in-Less-clause-next c =
    let less : turn c.args.first.now c.args.second.now ≡ Less = (λ i. turn (sym c.as_slice.ensures i) (sym c.as_slice-2.ensures i)) ∙ sym c.turn.ensures ∙ c.in-Less.is in
    next_of_first c.args.tree.now (after_changes c.args.changes.now c.args.tree.now) c.next.result c.args.first.now c.next.new.self c.args.second.now c.next.ensures.steps c.requires.first c.requires.second less

pub returns-in-Less-clause-first : goal.returns-in-Less-clause-first
returns-in-Less-clause-first c = left_after c.args.tree.now c.next.result c.args.first.now c.next.new.self c.next.ensures.steps c.requires.first

pub returns-in-Equal-clause-next : goal.returns-in-Equal-clause-next
returns-in-Equal-clause-next c =
    let equal : turn c.args.first.now c.args.second.now ≡ Equal = (λ i. turn (sym c.as_slice.ensures i) (sym c.as_slice-2.ensures i)) ∙ sym c.turn.ensures ∙ c.in-Equal.is in
    next_of_both c.args.tree.now (after_changes c.args.changes.now c.args.tree.now) c.next-in-Equal-2.result c.next-in-Equal.result c.args.first.now c.next-in-Equal-2.new.self c.args.second.now c.next-in-Equal.new.self
    c.next-in-Equal-2.ensures.steps c.next-in-Equal.ensures.steps c.requires.first c.requires.second equal

pub returns-in-Equal-clause-first : goal.returns-in-Equal-clause-first
returns-in-Equal-clause-first c = left_after c.args.tree.now c.next-in-Equal-2.result c.args.first.now c.next-in-Equal-2.new.self c.next-in-Equal-2.ensures.steps c.requires.first

pub returns-in-Equal-clause-second : goal.returns-in-Equal-clause-second
returns-in-Equal-clause-second c =
    left_after (after_changes c.args.changes.now c.args.tree.now) c.next-in-Equal.result c.args.second.now c.next-in-Equal.new.self c.next-in-Equal.ensures.steps c.requires.second

pub returns-in_ok-before-in-Some-clause-next : goal.returns-in_ok-before-in-Some-clause-next
returns-in_ok-before-in-Some-clause-next c =
    let greater : turn c.args.first.now c.args.second.now ≡ Greater = (λ i. turn (sym c.as_slice.ensures i) (sym c.as_slice-2.ensures i)) ∙ sym c.turn.ensures ∙ c.in-Greater.is in
    next_of_second c.args.tree.now (after_changes c.args.changes.now c.args.tree.now) c.in-Some.observation c.in_ok-before-in-Some.field-0 c.args.first.now c.args.second.now c.next-in-Greater.new.self
    c.in-Some.ensures.steps c.in_ok-before-in-Some.ensures c.requires.first c.requires.second greater

pub returns-in_ok-before-in-Some-clause-second : goal.returns-in_ok-before-in-Some-clause-second
returns-in_ok-before-in-Some-clause-second c =
    left_after (after_changes c.args.changes.now c.args.tree.now) c.next-in-Greater.result c.args.second.now c.next-in-Greater.new.self c.next-in-Greater.ensures.steps c.requires.second

pub returns-in-None-clause-next : goal.returns-in-None-clause-next
returns-in-None-clause-next c =
    let greater : turn c.args.first.now c.args.second.now ≡ Greater = (λ i. turn (sym c.as_slice.ensures i) (sym c.as_slice-2.ensures i)) ∙ sym c.turn.ensures ∙ c.in-Greater.is in
    next_is_none c.args.tree.now (after_changes c.args.changes.now c.args.tree.now) c.args.first.now c.args.second.now c.in-None.ensures.steps.0 greater
