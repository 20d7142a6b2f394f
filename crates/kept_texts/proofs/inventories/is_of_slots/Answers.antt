use Rattle.std.proofs.Common.{◌≡◌, true, sym, subst, ◌∙◌}
use Rattle.std.specs.Prelude.{IsPermutation}
use Rattle.std.specs.FinMap as map
use Rattle.unit_paths.specs.Slots.{is_slot}
use Rattle.tree_steps.specs.Walks.{Standing}
use Rattle.tree_steps.proofs.Alike.{AreChecked, one_checked, all_checked}
use Rattle.kept_texts.proofs.inventories.is_of_slots.Goals as goal

pub loop-path-preserved : goal.loop-path-preserved
loop-path-preserved c =
    let P : Standing → Type 0 = (λ (x : Standing). is_slot x.0 ≡ true) in
    one_checked P (c.in-Some.path.now, c.in-Some._entry.now) c.next.new.self c.into_iter-path-iterator.result (sym c.is_slot.ensures ∙ cc (c.if-not-is_slot.false))
    (subst (λ rest. AreChecked P rest c.into_iter-path-iterator.result) c.in-Some.ensures.steps c.loop-path.invariant)

pub returns : goal.returns
returns c h path entry here =
    let P : Standing → Type 0 = (λ (x : Standing). is_slot x.0 ≡ true) in
    all_checked P c.args.tree.now c.into_iter-path-iterator.result (subst (λ xs. IsPermutation xs (map.entries c.args.tree.now)) (sym c.into_iter-path-iterator.ensures.into_iter_gives) c.iter-path-items.ensures.entries) (subst (λ rest. AreChecked P rest c.into_iter-path-iterator.result) c.in-None.ensures.steps.0 c.loop-path.invariant) path entry here
