use Rattle.std.proofs.Common.{◌≡◌, true, sym, ap, ◌∙◌, subst}
use Rattle.unit_paths.specs.Paths.{is_path}
use Rattle.unit_paths.specs.Slots.{is_slot}
use Rattle.unit_paths.proofs.Slots.{slot_shape}
use Rattle.link_tree.specs.Shape.{fits_at}
use Rattle.link_tree.specs.Values.{is_entry}
use Rattle.link_tree.proofs.Free.{slot_free}
use Rattle.link_tree.proofs.Shapes.{fits_from}
use Rattle.link_tree.proofs.tree_part.TreePart.share_in.Goals as goal

pub put-requires-clause-fits : goal.put-requires-clause-fits
put-requires-clause-fits c =
    let path = c.args.placed.now.0 in
    let entry = c.args.placed.now.1 in
    subst (λ e. fits_at e.0 e.1 ≡ true) (sym c.in_ok-clone.ensures.cases)
    (fits_from path entry (ap is_path (sym c.path.ensures) ∙ c.text-path.ensures.path) (ap is_entry (sym c.entry.ensures) ∙ c.bytes-valid.ensures.entry) (slot_shape path c.requires))

pub put-requires-clause-apart : goal.put-requires-clause-apart
put-requires-clause-apart c =
    let at : c.in_ok-clone.field-0.0 ≡ c.args.placed.now.0 = ap (λ e. e.0) c.in_ok-clone.ensures.cases in
    slot_free c.args.self.now c.in_ok-clone.field-0.0 c.shape.ensures (ap is_slot at ∙ c.requires)
