use Rattle.std.proofs.Common.{sym, ap, subst, ◌∙◌}
use Rattle.std.specs.Prelude.{IsPermutation}
use Rattle.std.specs.FinMap as map
use Rattle.states.specs.Dependencies.{set_of}
use Rattle.unit_lists.proofs.Texts.{with_texts, all_texts}
use Rattle.unit_lists.proofs.listing.order_texts.Goals as goal

pub loop-path-preserved : goal.loop-path-preserved
loop-path-preserved c =
    ap (λ texts. with_texts texts c.next.new.self) c.in_ok-add_at.ensures
    ∙ ap (with_texts (set_of c.loop-path.texts.keys)) (sym c.in-Some.ensures.steps)
    ∙ c.loop-path.invariant

pub returns : goal.returns
returns c =
    ap (with_texts (set_of c.loop-path.texts.keys)) (sym c.in-None.ensures.steps.0) ∙ c.loop-path.invariant
    ∙ ap (λ keys. with_texts (set_of keys) c.into_iter-path-iterator.result) c.new-texts.ensures.empty
    ∙ all_texts c.args.tree.now c.into_iter-path-iterator.result
    (subst (λ xs. IsPermutation xs (map.entries c.args.tree.now)) (sym c.into_iter-path-iterator.ensures.into_iter_gives) c.iter-path-items.ensures.entries)
