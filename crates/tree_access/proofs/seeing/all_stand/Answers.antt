use Rattle.std.proofs.Common.{◌≡◌, true, Some, sym, subst}
use Rattle.std.specs.Prelude.{IsPermutation}
use Rattle.std.specs.FinMap as map
use Rattle.tree_access.specs.Keys.{selects}
use Rattle.tree_access.proofs.Those.{Standing}
use Rattle.tree_access.proofs.Parts.{AreChecked, one_checked, one_stands, all_checked}
use Rattle.tree_access.proofs.seeing.all_stand.Goals as goal

pub returns-then-not-stands_if_selected-clause-no : goal.returns-then-not-stands_if_selected-clause-no
returns-then-not-stands_if_selected-clause-no c all =
    let P : Standing → Type 0 = (λ (x : Standing). selects c.args.key.now x.0 x.1 ≡ true → map.get c.args.other.now x.0 ≡ Some x.1) in
    let stands = one_stands P c.args.tree.now c.into_iter-path-iterator.result (c.in-Some.path.now, c.in-Some.entry.now) c.next.new.self
    (subst (λ xs. IsPermutation xs (map.entries c.args.tree.now)) (sym c.into_iter-path-iterator.ensures.into_iter_gives) c.iter-path-items.ensures.entries)
    (subst (λ rest. AreChecked P rest c.into_iter-path-iterator.result) c.in-Some.ensures.steps c.loop-path.invariant) in
    cc (c.stands_if_selected.ensures.no (all c.in-Some.path.now c.in-Some.entry.now stands), c.if-not-stands_if_selected.true)

pub loop-path-preserved : goal.loop-path-preserved
loop-path-preserved c =
    let P : Standing → Type 0 = (λ (x : Standing). selects c.args.key.now x.0 x.1 ≡ true → map.get c.args.other.now x.0 ≡ Some x.1) in
    one_checked P (c.in-Some.path.now, c.in-Some.entry.now) c.next.new.self c.into_iter-path-iterator.result (c.stands_if_selected.ensures.yes (cc (c.if-not-stands_if_selected.false)))
    (subst (λ rest. AreChecked P rest c.into_iter-path-iterator.result) c.in-Some.ensures.steps c.loop-path.invariant)

pub returns-clause-yes : goal.returns-clause-yes
returns-clause-yes c h path entry here =
    let P : Standing → Type 0 = (λ (x : Standing). selects c.args.key.now x.0 x.1 ≡ true → map.get c.args.other.now x.0 ≡ Some x.1) in
    all_checked P c.args.tree.now c.into_iter-path-iterator.result (subst (λ xs. IsPermutation xs (map.entries c.args.tree.now)) (sym c.into_iter-path-iterator.ensures.into_iter_gives) c.iter-path-items.ensures.entries) (subst (λ rest. AreChecked P rest c.into_iter-path-iterator.result) c.in-None.ensures.steps.0 c.loop-path.invariant) path entry here
