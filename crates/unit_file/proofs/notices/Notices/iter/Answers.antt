use Rattle.std.proofs.Common.{sym, ap, ◌∙◌, map as list_map}
use Rattle.std.specs.FinMap as map
use Rattle.unit_file.proofs.NoticeMaps.{entries_again}
use Rattle.unit_file.proofs.notices.Notices.iter.Goals as goal

pub returns-clause-notices : goal.returns-clause-notices
returns-clause-notices c = c.values.ensures.rest ∙ ap (list_map (λ e. e.1)) (sym (entries_again c.self.inside.by_line.entries c.values.ensures.ordered)) ∙ ap (λ m. map.values m) c.self.view_is
