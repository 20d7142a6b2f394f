use Rattle.kept_rows.proofs.Leading.{others_lead}
use Rattle.kept_rows.proofs.SlotsAlone.{slots_are_taken, captured_is_reached}
use Rattle.kept_rows.proofs.laws.others_lead.Goals as goal

pub returns : goal.returns
returns c = record { rows = others_lead; slots = slots_are_taken; captured = captured_is_reached }
