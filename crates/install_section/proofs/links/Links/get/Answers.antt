use Rattle.std.proofs.Common.{sym, ap, ◌∙◌}
use Rattle.std.specs.FinMap as map
use Rattle.link_tree.proofs.Maps.{get_entry}
use Rattle.install_section.proofs.links.Links.get.Goals as goal

pub returns : goal.returns
returns c = c.get.ensures.value ∙ sym (get_entry c.self.inside.by_path.entries c.args.path.now) ∙ ap (λ m. map.get m c.args.path.now) c.self.view_is
