use Rattle.unit_file.proofs.NoticeMaps.{added_in_any_order, added_once, get-joined, joined-joined, joined-none, none-joined}
use Rattle.unit_file.proofs.laws.notices_are_a_set.Goals as goal

pub returns : goal.returns
returns c = record {
  any_order = added_in_any_order;
  once = added_once;
  by_line = get-joined;
  in_steps = joined-joined;
  none = λ notices. (joined-none notices, none-joined notices);
}
