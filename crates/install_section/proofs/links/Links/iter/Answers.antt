use Rattle.std.proofs.Common.{sym, ap, subst, ◌∙◌}
use Rattle.std.specs.FinMap as map
use Rattle.link_tree.proofs.Maps.{entries_again}
use Rattle.install_section.specs.LinkSlots.{AreAtSlots}
use Rattle.install_section.proofs.LinkMaps.{listed_at_slots}
use Rattle.install_section.proofs.links.Links.iter.Goals as goal

pub returns-clause-links : goal.returns-clause-links
returns-clause-links c = c.iter.ensures.rest ∙ sym (entries_again c.self.inside.by_path.entries c.iter.ensures.ordered) ∙ ap (λ m. map.entries m) c.self.view_is

pub returns-clause-slots : goal.returns-clause-slots
returns-clause-slots c = listed_at_slots c.args.self.now (subst AreAtSlots c.self.view_is c.self.invariant)
