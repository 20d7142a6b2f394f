use Rattle.std.proofs.Common.{ap, ◌∙◌}
use Rattle.std.specs.FinMap as map
use Rattle.tree_access.proofs.KeySets.{one_more}
use Rattle.tree_access.proofs.keys.KeySet.insert.Goals as goal

pub returns : goal.returns
returns c = one_more c.self.inside.keys c.insert.new.self c.args.key c.in_ok-insert.ensures.updates.0 ∙ ap (λ these. map.insert these c.args.key tt) c.self.view_is
