use Rattle.std.proofs.Common.{sym, ◌∙◌, ap}
use Rattle.std.specs.Prelude.{is_some}
use Rattle.unit_paths.specs.Slots.{unit_slot, slot_of}
use Rattle.unit_paths.proofs.UnitSlots.{unit_slot_path, unit_slot_is, found_path, text_of}
use Rattle.unit_paths.proofs.place.Place.slot.Goals as goal

pub unwrap-requires : goal.unwrap-requires
unwrap-requires c =
    let same = c.in_ok-text.ensures ∙ ap (unit_slot c.args.self) c.text.ensures.text in
    ap is_some (found_path _ _ c.of_text.result same c.of_text.ensures (unit_slot_path c.args.self c.args.name.now c.text.ensures.test))

pub returns-clause-slot : goal.returns-clause-slot
returns-clause-slot c =
    let same = c.in_ok-text.ensures ∙ ap (unit_slot c.args.self) c.text.ensures.text in
    let found = found_path _ _ c.of_text.result same c.of_text.ensures (unit_slot_path c.args.self c.args.name.now c.text.ensures.test) in
    ap (λ o. slot_of (text_of o)) (sym c.unwrap.ensures ∙ found) ∙ unit_slot_is c.args.self c.args.name.now c.text.ensures.test
