use Rattle.std.proofs.Common.{◌≡◌, List, [], ◌∷◌, ◌++◌, ap, ◌∙◌}
use Rattle.std.proofs.lemmas.Result.{IfOk-weaker}
use Rattle.link_tree.specs.Trees.{Entries}
use Rattle.tree_access.specs.declared.key.Key.{Key}
use Rattle.tree_access.specs.Keys.{any_selects, those, part}
use Rattle.tree_access.proofs.LookedUp.{those_of_one}
use Rattle.tree_access.proofs.key.Key.entries.Goals as goal

pub returns : goal.returns
returns c =
    let key = c.args.self.now in
    let t = c.args.tree.now in
    let one : c.push.new.self ≡ key ∷ [] = c.in_ok-push.ensures.ok ∙ ap (λ (keys : List Key). keys ++ c.in_ok-copy.field-0 ∷ []) c.none-keys.ensures ∙ ap (λ (k : Key). k ∷ []) c.in_ok-copy.ensures in
    IfOk-weaker c.look_up.result (λ (found : Entries). found ≡ those (any_selects c.push.new.self) t) (λ (found : Entries). found ≡ part key t)
    (λ found is. is ∙ ap (λ (keys : List Key). those (any_selects keys) t) one ∙ those_of_one key t)
    c.look_up.ensures
