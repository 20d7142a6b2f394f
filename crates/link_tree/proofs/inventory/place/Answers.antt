use Rattle.std.proofs.Common.{sym, ◌∙◌}
use Rattle.link_tree.proofs.Shapes.{fits_from}
use Rattle.link_tree.proofs.inventory.place.Goals as goal

pub insert-requires-clause-fits : goal.insert-requires-clause-fits
insert-requires-clause-fits c = fits_from c.args.path c.args.entry c.text-path.ensures.path c.bytes-valid.ensures.entry (sym c.is_bad_shape.ensures ∙ c.if-is_bad_shape.false)
