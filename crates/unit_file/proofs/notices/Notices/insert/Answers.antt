use Rattle.std.proofs.Common.{ap, ◌∙◌, sym, subst}
use Rattle.std.specs.FinMap as map
use Rattle.unit_file.specs.Notices.{line_cmp, AreAtTheirLines}
use Rattle.unit_file.proofs.NoticeMaps.{one_set, one_at_line}
use Rattle.unit_file.proofs.notices.Notices.insert.Goals as goal

pub returns-clause-ok : goal.returns-clause-ok
returns-clause-ok c = one_set c.self.inside.by_line.entries c.insert.new.self.entries c.args.line c.args.notice c.in_ok-insert.ensures.updates.0
    ∙ ap (λ m. map.insert m c.args.line c.args.notice) c.self.view_is

pub invariant_of-self-2 : goal.invariant_of-self-2
invariant_of-self-2 c =
    let now = one_set c.self.inside.by_line.entries c.insert.new.self.entries c.args.line c.args.notice c.in_ok-insert.ensures.updates.0 in
    let line = ap (λ line. map.insert (map.from_entries {R = line_cmp} c.self.inside.by_line.entries) line c.args.notice) c.requires in
    subst AreAtTheirLines (sym (now ∙ line)) (one_at_line (map.from_entries c.self.inside.by_line.entries) c.args.notice c.self.invariant)
