use Rattle.notice_laws.proofs.Silent.{add_silent, check_silent, default_silent, link_silent, mask_silent, place_silent, remove_silent, unmask_silent}
use Rattle.notice_laws.proofs.laws.commands_on_slots_report_nothing.Goals as goal

pub returns : goal.returns
returns c = record { mask = mask_silent; unmask = unmask_silent; link = link_silent; add = add_silent; set_default = default_silent; place = place_silent; remove = remove_silent; check = check_silent }
