use Rattle.std.proofs.Common.{ap, ◌∙◌, sym, Err}
use Rattle.std.proofs.lemmas.Bool.{false≢true}
use Rattle.unit_paths.specs.Paths.{is_target, is_text_byte}
use Rattle.slot_commands.proofs.mask.mask_link.Goals as goal

pub unreachable-requires : goal.unreachable-requires
unfolding is_target is_text_byte
unreachable-requires c = false≢true (sym (c.link.ensures.bad (c.in-Err-BadTarget.is ∙ ap Err c.in-Err-BadTarget.field-0-is)))
