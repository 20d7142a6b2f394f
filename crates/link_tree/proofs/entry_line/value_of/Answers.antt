use Rattle.std.proofs.Common.{◌∙◌, ◌+◌, ◌*◌, min, ap, arith}
use Rattle.link_tree.proofs.Lengths.{value_goes}
use Rattle.link_tree.proofs.entry_line.value_of.Goals as goal

pub loop-digit-preserved : goal.loop-digit-preserved
loop-digit-preserved c = record {
  few = omega (arith, c.min-value.ensures);
  goes = value_goes _ _ _ c.loop-digit.invariant.goes c.loop-digit-test.true c.min-value.result (c.min-value.ensures ∙ ap (λ d. min (c.loop-digit.value * 10 + d) 1048577) c.from.ensures);
}
