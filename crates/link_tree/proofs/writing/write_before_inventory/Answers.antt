use Rattle.std.proofs.Common.{arith}
use Rattle.link_tree.proofs.Counted.{text_is_counted}
use Rattle.link_tree.proofs.writing.write_before_inventory.Goals as goal

pub write_both-requires-clause-counted : goal.write_both-requires-clause-counted
write_both-requires-clause-counted g c = text_is_counted c.args.text.now c.args.tree.now c.shape.ensures (omega (arith, c.if-len-gt-MOST_ENTRIES.false, c.len.ensures)) (omega (arith, c.if-text-gt-MOST_BYTES.false))
