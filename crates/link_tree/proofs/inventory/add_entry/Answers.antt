use Rattle.std.proofs.Common.{◌≡◌, ◌+◌, true, sym, ap, subst, ◌∙◌}
use Rattle.std.specs.Prelude.{is_some}
use Rattle.unit_paths.specs.Slots.{is_slot}
use Rattle.link_tree.specs.Pending.{ArePending, place_all, with_entry}
use Rattle.link_tree.specs.declared.pending.PendingEntry.{PendingEntry}
use Rattle.link_tree.proofs.Flushing.{one_pending, all_pending, none_pending}
use Rattle.link_tree.proofs.Shapes.{fits_from}
use Rattle.unit_paths.proofs.Slots.{slot_shape}
use Rattle.link_tree.proofs.Stops.{place_refused}
use Rattle.link_tree.proofs.inventory.add_entry.Goals as goal
use Rattle.link_tree.proofs.Stops.{place_refused}
use Rattle.link_tree.proofs.inventory.add_entry.Goals.{then-len-most_pending+in_ok-flush, else-len-most_pending}

-- with room for one more, the result is the same and the entry is pending
same_given : (c : goal.In-Ok) → place_all c.if-len-most_pending.tree c.if-len-most_pending.pending.items ≡ place_all c.args.tree.now c.args.pending.now.items
same_given c = elim c.if-len-most_pending.branch [
  | then-len-most_pending+in_ok-flush w ↦ ap (λ m. place_all m c.if-len-most_pending.pending.items) w.tree-is ∙ ap (λ v. place_all w.flush.new.tree v.items) w.pending-is ∙ ap (place_all w.flush.new.tree) w.in_ok-flush.ensures.empty ∙ w.in_ok-flush.ensures.tree
  | else-len-most_pending w ↦ ap (λ m. place_all m c.if-len-most_pending.pending.items) w.tree-is ∙ ap (λ v. place_all c.args.tree.now v.items) w.pending-is
]

same_pending : (c : goal.In-Ok) → ArePending c.args.number c.if-len-most_pending.pending.items
same_pending c = elim c.if-len-most_pending.branch [
  | then-len-most_pending+in_ok-flush w ↦ subst (ArePending c.args.number) (sym (ap (λ v. v.items) w.pending-is ∙ w.in_ok-flush.ensures.empty)) (none_pending c.args.number)
  | else-len-most_pending w ↦ subst (ArePending c.args.number) (sym (ap (λ v. v.items) w.pending-is)) c.requires
]

abbrev one : (c : goal.In-Ok) → PendingEntry
one c = record { path = c.args.path; entry = c.args.entry; number = c.args.number }

pub returns-in-Ok-clause-read : goal.returns-in-Ok-clause-read
returns-in-Ok-clause-read c =
    ap (place_all c.if-len-most_pending.tree) c.in-Ok.ensures.items
    ∙ one_pending c.if-len-most_pending.tree c.if-len-most_pending.pending.items (one c)
    ∙ ap (λ read. with_entry read c.args.number (c.args.path, c.args.entry)) (same_given c)

pub returns-in-Ok-clause-pending : goal.returns-in-Ok-clause-pending
returns-in-Ok-clause-pending c =
    let slot : is_slot c.args.path ≡ true = ap is_some (sym c.of.ensures) ∙ sym c.is_some.ensures ∙ c.if-is_some.true in
    let fits = fits_from c.args.path c.args.entry c.text-path.ensures.path c.bytes-valid.ensures.entry (slot_shape c.args.path slot) in
    subst (ArePending (c.args.number + 1)) (sym c.in-Ok.ensures.items) (all_pending c.if-len-most_pending.pending.items (one c) (slot, fits) (same_pending c))

pub returns-in-Err-place-clause-fault : goal.returns-in-Err-place-clause-fault
returns-in-Err-place-clause-fault c = rw c.in_entry.ensures (place_refused c.in-Err-place.e c.args.number _ c.flush-2.new.tree _ c.in-Err-place.ensures c.in_ok-flush-2.ensures.tree)
