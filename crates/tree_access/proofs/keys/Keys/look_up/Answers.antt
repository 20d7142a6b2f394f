use Rattle.std.proofs.Common.{◌≡◌, [], drop, sym, ◌∙◌, ap, rules, arith}
use Rattle.std.specs.FinMap as map
use Rattle.std.proofs.lemmas.List.{drop_all}
use Rattle.tree_access.specs.Keys.{any_selects}
use Rattle.tree_access.specs.Seeing.{taken_for}
use Rattle.tree_access.proofs.LookedUp.{looked_up_those}
use Rattle.tree_access.proofs.keys.Keys.look_up.Goals as goal

pub returns : goal.returns
returns c =
    let keys = c.args.self.now in
    let t = c.args.tree.now in
    let items = c.as_slice-key-items.result.now in
    let done : drop c.loop-key.key-index items ≡ [] = drop_all c.loop-key.key-index items (search (rules, arith)) in
    sym (ap (λ left. taken_for (any_selects keys) t left c.loop-key.found) done)
    ∙ c.loop-key.invariant
    ∙ ap (λ these. taken_for (any_selects keys) t these map.empty) c.as_slice-key-items.ensures
    ∙ looked_up_those keys t c.requires
