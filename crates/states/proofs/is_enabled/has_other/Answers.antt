use Rattle.std.proofs.Common.{◌≡◌, true, sym, ap, subst, ◌∙◌}
use Rattle.std.specs.Prelude.{not, IsPermutation}
use Rattle.std.specs.FinMap as map
use Rattle.std.specs.List.{list_any}
use Rattle.std.specs.Str.{bytes_eq}
use Rattle.std.proofs.lemmas.Bool.{or_left}
use Rattle.states.proofs.Others.{is_other, same_in_order}
use Rattle.states.proofs.is_enabled.has_other.Goals as goal

pub returns-then-ne : goal.returns-then-ne
returns-then-ne c =
    let all = same_in_order c.args.own.now c.args.links.now c.into_iter-path-iterator.result
    (subst (λ xs. IsPermutation xs (map.entries c.args.links.now)) (sym c.into_iter-path-iterator.ensures.into_iter_gives) c.iter-path-items.ensures.entries) in
    let hit : not (bytes_eq c.in-Some.path.now c.args.own.now) ≡ true =
    (λ i. not (bytes_eq (sym c.text.ensures.text i) (sym c.text-in-loop-path.ensures.text i))) ∙ sym c.if-ne.ensures in
    sym (or_left (is_other c.args.own.now (c.in-Some.path.now, c.in-Some._link.now)) (list_any (is_other c.args.own.now) c.next.new.self) hit)
    ∙ ap (list_any (is_other c.args.own.now)) (sym c.in-Some.ensures.steps) ∙ c.loop-path.invariant ∙ all

pub returns : goal.returns
returns c =
    let all = same_in_order c.args.own.now c.args.links.now c.into_iter-path-iterator.result
    (subst (λ xs. IsPermutation xs (map.entries c.args.links.now)) (sym c.into_iter-path-iterator.ensures.into_iter_gives) c.iter-path-items.ensures.entries) in
    ap (list_any (is_other c.args.own.now)) (sym c.in-None.ensures.steps.0) ∙ c.loop-path.invariant ∙ all
