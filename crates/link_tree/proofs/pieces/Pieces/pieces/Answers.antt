use Rattle.std.proofs.Common.{ap, sym, ◌∙◌}
use Rattle.std.specs.FinMap as map
use Rattle.link_tree.specs.Pieces.{joined}
use Rattle.link_tree.proofs.Whole.{entries_whole}
use Rattle.link_tree.proofs.pieces.Pieces.pieces.Goals as goal

pub returns-clause-entries : goal.returns-clause-entries
returns-clause-entries c = ap joined c.deref.ensures.value ∙ sym (entries_whole c.self.inside.pieces.items c.self.invariant.0) ∙ ap (λ m. map.entries m) c.self.view_is
