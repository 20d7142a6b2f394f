use Rattle.std.proofs.Common.{◌≤◌}
use Rattle.link_tree.proofs.Lengths.{Goes}
use Rattle.link_tree.proofs.entry_line.value_of.Given as goal

-- the remaining digits after the number so far give the number of all digits
abbrev pub invariant-loop-digit : goal.invariant-loop-digit
invariant-loop-digit l = record {
  few : l.value ≤ 1048577;
  goes : Goes l.digits l.digit-index l.value;
}
