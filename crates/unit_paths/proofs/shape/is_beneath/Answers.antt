use Rattle.std.proofs.Common.{sym, ◌∙◌, ap, Some, None}
use Rattle.std.proofs.lemmas.Slice.Eq.{strip_prefix_is}
use Rattle.std.proofs.lemmas.Bool.Decides.{Decides-eqb}
use Rattle.unit_paths.specs.Shape.{is_beneath}
use Rattle.unit_paths.proofs.Shapes.{beneath-after, not-beneath}
use Rattle.unit_paths.proofs.shape.is_beneath.Goals as goal

pub returns-in-Some : goal.returns-in-Some
returns-in-Some c = c.begins_with_slash.ensures ∙ sym (beneath-after c.args.above.now c.in-Some.rest.now)
    ∙ ap (λ p. is_beneath p c.args.above.now) (sym (strip_prefix_is Decides-eqb c.args.path.now c.args.above.now (Some c.in-Some.rest) c.in-Some.ensures.cases))

pub returns-in-None : goal.returns-in-None
returns-in-None c = sym (not-beneath c.args.path.now c.args.above.now (strip_prefix_is Decides-eqb c.args.path.now c.args.above.now None c.in-None.ensures.cases))
