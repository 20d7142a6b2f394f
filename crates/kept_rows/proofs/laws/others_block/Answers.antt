use Rattle.kept_rows.proofs.Refusals.{others_block}
use Rattle.kept_rows.proofs.laws.others_block.Goals as goal

pub returns : goal.returns
returns c = others_block
