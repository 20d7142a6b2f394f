use Rattle.std.proofs.Common.{ap, ◌∙◌}
use Rattle.link_tree.specs.Pieces.{joined}
use Rattle.link_tree.proofs.Whole.{whole, none_whole}
use Rattle.link_tree.proofs.pieces.Pieces.none.Goals as goal

pub returns : goal.returns
returns c = ap (λ pieces. whole (joined pieces)) c.new.ensures.items ∙ none_whole
