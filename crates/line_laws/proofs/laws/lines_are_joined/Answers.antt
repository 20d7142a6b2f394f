use Rattle.line_laws.proofs.JoinedBlocks.{lines_joined}
use Rattle.line_laws.proofs.laws.lines_are_joined.Goals as goal

pub returns : goal.returns
returns c = lines_joined
