use Rattle.std.proofs.Common.{ap, sym, ◌∙◌, subst}
use Rattle.std.specs.Prelude.{IsPermutation}
use Rattle.std.specs.Option.{option_copied}
use Rattle.std.specs.FinMap as map
use Rattle.link_tree.specs.Trees.{set_entry}
use Rattle.link_tree.specs.Differences.{with_change, differences}
use Rattle.link_tree.proofs.Differences.{differences-set}
use Rattle.tree_steps.specs.Walks.{made_alike}
use Rattle.tree_steps.proofs.differing.note_all.Goals as goal

pub loop-path-preserved : goal.loop-path-preserved
loop-path-preserved c now before =
    let so_far = c.loop-path.invariant now before in
    let p = c.in-Some.path.now in
    let next = set_entry so_far.0 p (map.get c.args.new.now p) in (
      next,
      c.in_ok-note.ensures
          ∙ ap (λ there. with_change c.loop-path.net p there (option_copied c.get-in-loop-path.result)) c.get.ensures
          ∙ ap (λ there. with_change c.loop-path.net p (map.get c.args.old.now p) there) c.get-in-loop-path.ensures
          ∙ ap (λ net. with_change net p (map.get c.args.old.now p) (map.get c.args.new.now p)) so_far.1
          ∙ differences-set c.args.old.now so_far.0 p (map.get c.args.new.now p),
      sym (ap (λ left. made_alike left c.args.new.now so_far.0) c.in-Some.ensures.steps) ∙ so_far.2,
    )

pub returns : goal.returns
returns c now before =
    let so_far = c.loop-path.invariant now before in (
      c.into_iter-path-iterator.result,
      subst (λ xs. IsPermutation xs (map.entries c.args.walked.now)) (sym c.into_iter-path-iterator.ensures.into_iter_gives) c.iter-path-items.ensures.entries,
      so_far.1 ∙ ap (differences c.args.old.now) (sym (sym so_far.2 ∙ ap (λ left. made_alike left c.args.new.now so_far.0) c.in-None.ensures.steps.0)),
    )
