use Rattle.std.proofs.Common.{sym, ap, ◌∙◌}
use Rattle.std.specs.FinMap as map
use Rattle.link_tree.proofs.Maps.{get_entry}
use Rattle.preset_rules.proofs.winners.Winners.get.Goals as goal

pub returns : goal.returns
returns c = c.get.ensures.value ∙ sym (get_entry c.self.inside.by_name.entries c.args.name.now) ∙ ap (λ m. map.get m c.args.name.now) c.self.view_is
