use Rattle.std.proofs.Common.{sym, ap, ◌∙◌, subst}
use Rattle.std.specs.FinMap as map
use Rattle.link_tree.proofs.Maps.{one_removed}
use Rattle.transaction.specs.Edits.{AreAtSlots}
use Rattle.transaction.proofs.Making.{fewer_at_slots}
use Rattle.transaction.proofs.wanted.WantedLinks.leave.Goals as goal

pub invariant_of-self : goal.invariant_of-self
invariant_of-self c =
    let es = c.self.inside.by_path.entries in
    subst AreAtSlots (sym (one_removed es c.remove.new.self.entries c.args.slot.now c.remove.ensures.updates.0))
    (fewer_at_slots (map.from_entries es) c.args.slot.now c.self.invariant)

pub returns : goal.returns
returns c =
    one_removed c.self.inside.by_path.entries c.remove.new.self.entries c.args.slot.now c.remove.ensures.updates.0
    ∙ ap (λ m. map.remove m c.args.slot.now) c.self.view_is
