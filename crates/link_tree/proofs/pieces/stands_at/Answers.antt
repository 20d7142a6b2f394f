use Rattle.std.proofs.Common.{sym, ap, ◌∙◌}
use Rattle.std.specs.Ordering.{eq_by_cmp}
use Rattle.link_tree.specs.Trees.{path_cmp}
use Rattle.link_tree.specs.Pieces.{behind}
use Rattle.link_tree.proofs.Aboves.{same_test}
use Rattle.link_tree.proofs.Spots.{first_is}
use Rattle.link_tree.proofs.pieces.stands_at.Goals as goal

pub returns-in-Some : goal.returns-in-Some
returns-in-Some c =
    c.eq.ensures ∙ sym (same_test c.args.path.now c.path.result.now) ∙ ap (eq_by_cmp path_cmp c.args.path.now) c.path.ensures
    ∙ first_is c.args.path.now c.in-Some.item.now (behind c.args.pieces.now c.args.spot.piece c.args.spot.at) (sym c.in-Some.ensures)
