use Rattle.std.proofs.Common.{◌∙◌, sym}
use Rattle.link_tree.proofs.Beneaths.{crowded_or, found_first, found_second}
use Rattle.link_tree.proofs.tree_part.TreePart.is_crowded.Goals as goal

pub returns-then-branch : goal.returns-then-branch
returns-then-branch c = found_first c.in_ok-has_above.field-0 _ _ c.if-branch.true c.in_ok-has_above.ensures ∙ sym (crowded_or c.args.self.now c.args.path.now)

pub returns-in_ok-has_beneath : goal.returns-in_ok-has_beneath
returns-in_ok-has_beneath c =
    found_second c.in_ok-has_above.field-0 _ _ _ c.if-branch.false c.in_ok-has_above.ensures c.in_ok-has_beneath.ensures ∙ sym (crowded_or c.args.self.now c.args.path.now)
