use Rattle.std.proofs.Common.{◌≡◌, ap, ◌∙◌, sym, false, rules, tests, ◌||◌}
use Rattle.std.specs.Prelude.{is_some}
use Rattle.std.specs.List.{list_any}
use Rattle.std.specs.FinMap as map
use Rattle.unit_paths.specs.Shape.{is_beneath}
use Rattle.link_tree.proofs.Aboves.{found_above, found-parent}
use Rattle.link_tree.proofs.tree_part.TreePart.has_above.Goals as goal

pub above-init : goal.above-init
above-init c =
    let m = c.args.self.now in
    ap (found_above m) c.into_parent-above.ensures.parent
    ∙ found-parent m c.in_ok-path.path c.requires c.into_parent-above.ensures.path
    ∙ ap (λ path. list_any (is_beneath path) (map.keys m)) c.in_ok-path.ensures

pub above-preserved : goal.above-preserved
above-preserved c =
    let m = c.args.self.now in
    let dir = c.in-Some.dir in
    let none : is_some (map.get m dir) ≡ false = search (rules, tests) in
    ap (found_above m) c.into_parent-above-in-Some.ensures.parent
    ∙ found-parent m dir c.requires c.into_parent-above-in-Some.ensures.path
    ∙ sym (ap (λ b. b || list_any (is_beneath dir) (map.keys m)) none)
    ∙ ap (found_above m) (sym c.in-Some.is)
    ∙ c.above.invariant
