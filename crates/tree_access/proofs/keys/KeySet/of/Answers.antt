use Rattle.std.proofs.Common.{◌∙◌, sym, subst}
use Rattle.std.specs.FinMap as map
use Rattle.tree_access.proofs.KeySets.{AreGathered, none_gathered, one_gathered, all_gathered}
use Rattle.tree_access.proofs.keys.KeySet.of.Goals as goal

pub loop-key-init : goal.loop-key-init
loop-key-init c =
    subst (λ these. AreGathered these c.into_iter-key-iterator.result c.args.keys) (sym c.none-these.ensures)
    (subst (λ rest. AreGathered map.empty rest c.args.keys) (sym (c.into_iter-key-iterator.ensures.into_iter_gives.0 ∙ c.keys.view_is)) (none_gathered c.args.keys))

pub loop-key-preserved : goal.loop-key-preserved
loop-key-preserved c =
    subst (λ these. AreGathered these c.next.new.self c.args.keys) (sym c.in_ok-insert.ensures)
    (one_gathered c.loop-key.these c.in-Some.key c.next.new.self c.args.keys
    (subst (λ rest. AreGathered c.loop-key.these rest c.args.keys) c.in-Some.ensures.steps c.loop-key.invariant))

pub returns : goal.returns
returns c = all_gathered c.loop-key.these c.args.keys (subst (λ rest. AreGathered c.loop-key.these rest c.args.keys) c.in-None.ensures.steps.0 c.loop-key.invariant)
