use Rattle.std.proofs.Common.{sym, ap, ◌∙◌}
use Rattle.std.specs.FinMap as map
use Rattle.unit_file.proofs.NoticeMaps.{len_again}
use Rattle.unit_file.proofs.notices.Notices.len.Goals as goal

pub returns : goal.returns
returns c = c.len.ensures.len ∙ sym (len_again c.self.inside.by_line.entries c.len.ensures.ordered) ∙ ap (λ m. map.len m) c.self.view_is
