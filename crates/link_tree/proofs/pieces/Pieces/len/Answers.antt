use Rattle.std.proofs.Common.{ap, sym, ◌∙◌}
use Rattle.std.specs.FinMap as map
use Rattle.link_tree.proofs.Whole.{len_whole}
use Rattle.link_tree.proofs.pieces.Pieces.len.Goals as goal

pub returns : goal.returns
returns c = c.self.invariant.1 ∙ sym (len_whole c.self.inside.pieces.items c.self.invariant.0) ∙ ap (λ m. map.len m) c.self.view_is
