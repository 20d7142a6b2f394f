use Rattle.std.proofs.Common.{ap, ◌∙◌}
use Rattle.unit_file.specs.Notices.{joined}
use Rattle.unit_file.proofs.NoticeMaps.{none-joined}
use Rattle.unit_file.proofs.notices.Notices.copy.Goals as goal

pub returns : goal.returns
returns c = c.in_ok-insert_all.ensures ∙ ap (λ none. joined none c.args.self.now) c.none-copy.ensures ∙ none-joined c.args.self.now
