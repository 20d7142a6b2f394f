use Rattle.std.proofs.Common.{sym, ap, ◌∙◌, subst}
use Rattle.std.specs.FinMap as map
use Rattle.link_tree.proofs.Maps.{entries_again}
use Rattle.tree_access.specs.Placing.{wanted_at}
use Rattle.footprint.proofs.Wishes.{Link}
use Rattle.transaction.specs.Edits.{AreAtSlots}
use Rattle.transaction.proofs.Edited.{one_more}
use Rattle.transaction.proofs.Making.{listed_at_slots, AreComing, none_made, at_slot, one_made}
use Rattle.transaction.proofs.wanted.WantedLinks.place_each.Goals as goal

pub loop-slot-init : goal.loop-slot-init
loop-slot-init c =
    let es = c.self.inside.by_path.entries in
    let listed = c.into_iter-slot-iterator.ensures.into_iter_gives ∙ c.iter-slot-items.ensures.rest ∙ sym (entries_again es c.iter-slot-items.ensures.ordered) ∙ ap (λ m. map.entries m) c.self.view_is in
    (none_made c.args.tree.now _ _ listed (listed_at_slots c.args.self.now (subst AreAtSlots c.self.view_is c.self.invariant)), c.requires.edit)

pub put_noted-requires : goal.put_noted-requires
put_noted-requires c =
    let before = c.args.tree.now in
    let now = c.loop-slot.tree in
    let all = map.entries c.args.self.now in
    let link : Link = (c.in-Some.slot.now, c.in-Some.file.now) in
    at_slot before now link c.next.new.self all (subst (λ rest. AreComing before now rest all) c.in-Some.ensures.steps c.loop-slot.invariant.0)

pub loop-slot-preserved : goal.loop-slot-preserved
loop-slot-preserved c =
    let before = c.args.tree.now in
    let now = c.loop-slot.tree in
    let all = map.entries c.args.self.now in
    let slot = c.in-Some.slot.now in
    let link : Link = (slot, c.in-Some.file.now) in
    let come = subst (λ rest. AreComing before now rest all) c.in-Some.ensures.steps c.loop-slot.invariant.0 in
    let here = (λ i. wanted_at (c.as_ref.ensures.value i) slot (c.get.ensures i)) ∙ ap (λ m. wanted_at c.in-Some.file.now slot (map.get m slot)) c.requires.same in
    rw (c.in_ok-put_noted.ensures.put, c.in_ok-put_noted.ensures.noted) (
      one_made before now link c.next.new.self all come c.in_ok-entry.entry (sym here ∙ c.in_ok-entry.ensures),
      one_more c.args.first.now now c.loop-slot.changes c.loop-slot.invariant.1 slot c.in_ok-entry.entry (at_slot before now link c.next.new.self all come),
    )

pub returns : goal.returns
returns c =
    let before = c.args.tree.now in
    let all = map.entries c.args.self.now in
    let come = subst (λ rest. AreComing before c.loop-slot.tree rest all) c.in-None.ensures.steps.0 c.loop-slot.invariant.0 in
    (c.loop-slot.invariant.1, sym come.leave)
