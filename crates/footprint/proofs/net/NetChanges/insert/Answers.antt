use Rattle.std.proofs.Common.{ap, ◌∙◌}
use Rattle.std.specs.FinMap as map
use Rattle.link_tree.proofs.Maps.{one_set}
use Rattle.footprint.proofs.net.NetChanges.insert.Goals as goal

pub returns : goal.returns
returns c = one_set c.self.inside.by_path.entries c.insert.new.self.entries c.args.path c.args.change c.in_ok-insert.ensures.updates.0
    ∙ ap (λ m. map.insert m c.args.path c.args.change) c.self.view_is
