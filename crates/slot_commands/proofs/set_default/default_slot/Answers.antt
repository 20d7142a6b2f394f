use Rattle.std.proofs.Common.{ap, ◌∙◌, sym, Err}
use Rattle.std.proofs.lemmas.Bool.{false≢true}
use Rattle.unit_paths.specs.Slots.{is_slot}
use Rattle.slot_commands.proofs.Targets.{default_path, default_is_slot}
use Rattle.slot_commands.proofs.set_default.default_slot.Goals as goal

pub unreachable-requires : goal.unreachable-requires
unreachable-requires c = false≢true (sym (c.parse.ensures.bad (c.in-Err-BadPath.is ∙ ap Err c.in-Err-BadPath.field-0-is)) ∙ default_path)

pub returns-in-Ok-clause-slot : goal.returns-in-Ok-clause-slot
returns-in-Ok-clause-slot c = ap is_slot c.in-Ok.ensures.path.0 ∙ default_is_slot
