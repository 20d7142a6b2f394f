use Rattle.history.proofs.Padded.{written_over}
use Rattle.history.proofs.operator.padded.Goals as goal

pub returns : goal.returns
returns c = written_over _ _ c.copy_from_slice.ensures.after
