use Rattle.std.proofs.Common.{ap, ◌∙◌}
use Rattle.std.specs.FinMap as map
use Rattle.link_tree.proofs.Maps.{one_set}
use Rattle.preset_rules.proofs.winners.Winners.insert.Goals as goal

pub returns : goal.returns
returns c = one_set c.self.inside.by_name.entries c.insert.new.self.entries c.args.name c.args.path c.in_ok-insert.ensures.updates.0
    ∙ ap (λ m. map.insert m c.args.name c.args.path) c.self.view_is
