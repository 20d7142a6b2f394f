use Rattle.std.proofs.Common.{sym, ap, ◌∙◌, subst}
use Rattle.std.specs.FinMap as map
use Rattle.link_tree.proofs.Maps.{one_set}
use Rattle.transaction.specs.Edits.{AreAtSlots}
use Rattle.transaction.proofs.Making.{one_at_slots}
use Rattle.transaction.proofs.wanted.WantedLinks.want.Goals as goal

pub invariant_of-self-2 : goal.invariant_of-self-2
invariant_of-self-2 c =
    let es = c.self.inside.by_path.entries in
    subst AreAtSlots (sym (one_set es c.insert.new.self.entries c.args.slot c.args.file c.in_ok-insert.ensures.updates.0))
    (one_at_slots (map.from_entries es) c.args.slot c.args.file c.requires c.self.invariant)

pub returns-clause-ok : goal.returns-clause-ok
returns-clause-ok c =
    one_set c.self.inside.by_path.entries c.insert.new.self.entries c.args.slot c.args.file c.in_ok-insert.ensures.updates.0
    ∙ ap (λ m. map.insert m c.args.slot c.args.file) c.self.view_is
