use Rattle.std.proofs.Common.{◌≡◌, ap, ◌∙◌, sym, subst, inl, inr}
use Rattle.std.specs.FinMap as map
use Rattle.std.specs.Result.{is_ok}
use Rattle.link_tree.proofs.Results.{either_way}
use Rattle.link_tree.proofs.Shapes.{removed_tree}
use Rattle.link_tree.specs.Shape.{IsTree}
use Rattle.link_tree.proofs.tree_part.TreePart.remove.Goals as goal

pub invariant_of-self-2 : goal.invariant_of-self-2
invariant_of-self-2 c =
    let old = c.in_ok-make_mut.field-0.now in
    let own : old ≡ c.args.self.now = elim c.in_ok-make_mut.ensures.value [ inl same ↦ same ∙ c.self.view_is | inr copied ↦ copied ∙ c.self.view_is ] in
    let was : IsTree old = subst IsTree (sym own) (subst IsTree c.self.view_is c.self.invariant) in
    subst IsTree (sym (c.make_mut.follows.holds c.remove.new.self (ap is_ok c.in_ok-make_mut.was)))
    (either_way c.remove.result IsTree old c.remove.new.self (map.remove old c.args.path.now) c.remove.ensures.ok c.remove.ensures.err (removed_tree old c.args.path.now was) was)
