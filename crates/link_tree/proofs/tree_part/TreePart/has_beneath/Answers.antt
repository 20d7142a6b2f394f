use Rattle.std.proofs.Common.{◌≡◌, Some, None, rules, sym, ap, ◌∙◌}
use Rattle.std.specs.List.{filter}
use Rattle.std.specs.Ordering.{is_le}
use Rattle.link_tree.specs.Trees.{path_cmp}
use Rattle.link_tree.specs.Pieces.{Item, first_of}
use Rattle.std.specs.FinMap as map
use Rattle.unit_paths.specs.Shape.{is_beneath}
use Rattle.link_tree.proofs.Aboves.{key_path}
use Rattle.link_tree.proofs.Beneaths.{first_is, first_found, none_beneath}
use Rattle.link_tree.proofs.tree_part.TreePart.has_beneath.Goals as goal

pub returns-in_default : goal.returns-in_default
returns-in_default c =
    let m = c.args.self.now in
    sym (none_beneath c.args.path.now (map.keys m) c.first_beneath.ensures.path (sym c.in_ok-first.ensures.first ∙ c.in_default.is) (λ key some. key_path m key c.requires some))

pub returns-in-Some-first_from : goal.returns-in-Some-first_from
returns-in-Some-first_from c =
    let m = c.args.self.now in
    let path = c.args.path.now in
    let from : first_of (filter (λ (item : Item). is_le (path_cmp c.in-Some.first item.0)) (map.entries m)) ≡ Some c.in-Some-first_from.item.now = search rules in
    c.is_beneath.ensures ∙ ap (λ below. is_beneath below path) c.path.ensures ∙ ap (first_is path) (sym from) ∙ first_found path c.in-Some.first m c.requires (sym c.in_ok-first.ensures.first ∙ c.in-Some.is)

pub returns : goal.returns
returns c =
    let m = c.args.self.now in
    let path = c.args.path.now in
    let from : first_of (filter (λ (item : Item). is_le (path_cmp c.in-Some.first item.0)) (map.entries m)) ≡ None = search rules in
    ap (first_is path) (sym from) ∙ first_found path c.in-Some.first m c.requires (sym c.in_ok-first.ensures.first ∙ c.in-Some.is)
