use Rattle.std.proofs.Common.{◌≡◌, ap, ◌∙◌, sym, subst, inl, inr}
use Rattle.std.specs.FinMap as map
use Rattle.std.specs.Result.{is_ok}
use Rattle.link_tree.proofs.Results.{either_way}
use Rattle.link_tree.proofs.Shapes.{grown_tree}
use Rattle.link_tree.specs.Shape.{IsTree}
use Rattle.link_tree.proofs.tree_part.TreePart.put.Goals as goal

pub invariant_of-self-2 : goal.invariant_of-self-2
invariant_of-self-2 c =
    let old = c.in_ok-make_mut.field-0.now in
    let own : old ≡ c.args.self.now = elim c.in_ok-make_mut.ensures.value [ inl same ↦ same ∙ c.self.view_is | inr copied ↦ copied ∙ c.self.view_is ] in
    let was : IsTree old = subst IsTree (sym own) (subst IsTree c.self.view_is c.self.invariant) in
    let grown = subst IsTree (ap (λ m. map.insert m c.args.placed.0 c.args.placed.1) (sym own)) (grown_tree c.args.self.now c.args.placed.0 c.args.placed.1 (subst IsTree c.self.view_is c.self.invariant) c.requires.fits c.requires.apart) in
    subst IsTree (sym (ap (λ m. m) (c.make_mut.follows.holds c.put.new.self (ap is_ok c.in_ok-make_mut.was))))
    (either_way c.put.result IsTree old c.put.new.self (map.insert old c.args.placed.0 c.args.placed.1) c.put.ensures.ok c.put.ensures.err grown was)
