use Rattle.std.proofs.Common.{ap, ◌∙◌}
use Rattle.std.specs.FinMap as map
use Rattle.link_tree.proofs.Maps.{one_removed}
use Rattle.footprint.proofs.net.NetChanges.remove.Goals as goal

pub returns : goal.returns
returns c = one_removed c.self.inside.by_path.entries c.remove.new.self.entries c.args.path.now c.remove.ensures.updates.0
    ∙ ap (λ m. map.remove m c.args.path.now) c.self.view_is
