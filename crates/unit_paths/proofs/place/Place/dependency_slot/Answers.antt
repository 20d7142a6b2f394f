use Rattle.std.proofs.Common.{◌≡◌, sym, ◌∙◌, ap}
use Rattle.std.specs.Prelude.{is_some}
use Rattle.unit_paths.specs.Slots.{dependency_slot, slot_of}
use Rattle.unit_paths.proofs.UnitSlots.{found_path, text_of}
use Rattle.unit_paths.proofs.DependencySlots.{dependency_slot_path, dependency_slot_is}
use Rattle.unit_paths.proofs.place.Place.dependency_slot.Goals as goal

pub unwrap-requires : goal.unwrap-requires
unwrap-requires c =
    let same : c.in_ok-text.text.items ≡ dependency_slot c.args.self c.args.dependency c.args.of.now c.args.name.now = c.in_ok-text.ensures ∙ (λ i. dependency_slot c.args.self c.args.dependency (c.text.ensures.text i) (c.text-2.ensures.text i)) in
    ap is_some (found_path _ _ c.of_text.result same c.of_text.ensures (dependency_slot_path c.args.self c.args.dependency c.args.of.now c.args.name.now c.text.ensures.test c.text-2.ensures.test))

pub returns-clause-slot : goal.returns-clause-slot
returns-clause-slot c =
    let same : c.in_ok-text.text.items ≡ dependency_slot c.args.self c.args.dependency c.args.of.now c.args.name.now = c.in_ok-text.ensures ∙ (λ i. dependency_slot c.args.self c.args.dependency (c.text.ensures.text i) (c.text-2.ensures.text i)) in
    let found = found_path _ _ c.of_text.result same c.of_text.ensures (dependency_slot_path c.args.self c.args.dependency c.args.of.now c.args.name.now c.text.ensures.test c.text-2.ensures.test) in
    ap (λ o. slot_of (text_of o)) (sym c.unwrap.ensures ∙ found) ∙ dependency_slot_is c.args.self c.args.dependency c.args.of.now c.args.name.now c.text.ensures.test c.text-2.ensures.test
