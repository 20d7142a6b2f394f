use Rattle.std.proofs.Common.{◌∙◌, arith}
use Rattle.std.proofs.lemmas.List.{length-set}
use Rattle.kept_texts.proofs.Times.{form_more, form_is_whole}
use Rattle.kept_texts.proofs.time.form_of_all.Goals as goal

pub loop-i-preserved : goal.loop-i-preserved
loop-i-preserved c = (
  length-set _ _ _ ∙ c.loop-i.invariant.0,
  form_more _ _ _ c.loop-i.invariant.1 _ (omega arith) (omega arith) c.form_of.ensures,
)

pub returns : goal.returns
returns c = form_is_whole _ _ _ c.loop-i.invariant.1 (omega arith) (omega arith)
