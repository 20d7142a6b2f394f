use Rattle.std.proofs.Common.{sym, ◌∙◌}
use Rattle.link_tree.proofs.Lengths.{length_digits}
use Rattle.link_tree.proofs.entry_line.length_of.Goals as goal

pub value_of-requires : goal.value_of-requires
value_of-requires c = length_digits _ (sym c.is_length.ensures ∙ c.if-is_length.true)
