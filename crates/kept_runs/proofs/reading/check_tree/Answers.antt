use Rattle.std.proofs.Common.{◌≡◌, length, sym, ap, inr, subst, ◌∙◌}
use Rattle.std.specs.Prelude.{IfSome}
use Rattle.kept_texts.specs.Texts.{sum_of_slots}
use Rattle.unit_script.specs.Machine.{replay}
use Rattle.kept_runs.specs.declared.errors.KeptError.TheVariants as keeps
use Rattle.kept_runs.proofs.Ruled.{same_sums, other_sums}
use Rattle.kept_runs.proofs.reading.check_tree.Goals as goal

pub returns-then-ne-clause-err : goal.returns-then-ne-clause-err
returns-then-ne-clause-err c = inr (
  ap keeps.TreeDiffers (ap length c.rows.ensures.rows),
  c.rows.ensures.countable,
  (c.in-Some.last.now, sym c.in-Some.ensures.value, λ same. other_sums c.in_ok-sum_of_slots.field-0 c.in-Some.last.now.tree (sym c.ne.ensures ∙ c.if-ne.true) (same ∙ sym (c.in_ok-sum_of_slots.ensures ∙ ap sum_of_slots c.tree.ensures.tree))),
)

pub returns-clause-ok : goal.returns-clause-ok
returns-clause-ok c =
    subst (λ last. IfSome last (λ run. run.tree ≡ sum_of_slots (replay c.args.history.now.first c.args.history.now.rows))) c.in-Some.ensures.value
    (same_sums c.in_ok-sum_of_slots.field-0 c.in-Some.last.now.tree (sym c.ne.ensures ∙ c.if-ne.false) ∙ c.in_ok-sum_of_slots.ensures ∙ ap sum_of_slots c.tree.ensures.tree)
