use Rattle.std.proofs.Common.{sym, ap, ◌∙◌, subst}
use Rattle.std.specs.FinMap as map
use Rattle.unit_file.specs.Notices.{joined, notice_line, AreAtTheirLines}
use Rattle.unit_file.proofs.NoticeMaps.{AreToBeAdded, entries_again, all_to_be_added, first_line, one_added, all_added}
use Rattle.unit_file.proofs.notices.Notices.insert_all.Goals as goal

pub loop-line-init : goal.loop-line-init
loop-line-init c =
    let es = c.others.inside.by_line.entries in
    let entries = sym (ap (λ m. map.entries m) c.others.view_is) ∙ entries_again es c.iter-line-items.ensures.ordered in
    all_to_be_added c.args.self.now c.args.others.now _ (subst AreAtTheirLines c.others.view_is c.others.invariant)
    (entries ∙ sym (c.into_iter-line-iterator.ensures.into_iter_gives ∙ c.iter-line-items.ensures.rest))

pub insert-requires : goal.insert-requires
insert-requires c =
    let all = joined c.args.self.now c.args.others.now in
    let left = subst (λ left. AreToBeAdded left c.loop-line.self all) c.in-Some.ensures.steps c.loop-line.invariant in
    c.in_ok-copy.ensures ∙ first_line (c.in-Some.line.now, c.in-Some.notice.now) c.next.new.self c.loop-line.self all left ∙ ap notice_line (sym c.in_ok-copy-2.ensures)

pub loop-line-preserved : goal.loop-line-preserved
loop-line-preserved c =
    let all = joined c.args.self.now c.args.others.now in
    let left = subst (λ left. AreToBeAdded left c.loop-line.self all) c.in-Some.ensures.steps c.loop-line.invariant in
    let added = c.in_ok-insert.ensures.ok ∙ (λ i. map.insert c.loop-line.self (c.in_ok-copy.ensures i) (c.in_ok-copy-2.ensures i)) in
    subst (λ notices. AreToBeAdded c.next.new.self notices all) (sym added) (one_added (c.in-Some.line.now, c.in-Some.notice.now) c.next.new.self c.loop-line.self all left)

pub returns : goal.returns
returns c =
    let all = joined c.args.self.now c.args.others.now in
    all_added c.loop-line.self all (subst (λ left. AreToBeAdded left c.loop-line.self all) c.in-None.ensures.steps.0 c.loop-line.invariant)
