use Rattle.std.proofs.Common.{length, sym, ap, ◌∙◌}
use Rattle.std.specs.FinMap as map
use Rattle.link_tree.proofs.Maps.{entries_again}
use Rattle.install_section.proofs.links.Links.len.Goals as goal

pub returns : goal.returns
returns c =
    c.len.ensures.len ∙ sym (map.len-entries _ ∙ ap length (entries_again c.self.inside.by_path.entries c.len.ensures.ordered)) ∙ ap (λ m. map.len m) c.self.view_is
