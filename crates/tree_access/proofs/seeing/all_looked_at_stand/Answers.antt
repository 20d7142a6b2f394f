use Rattle.std.proofs.Common.{All, sym, subst}
use Rattle.link_tree.specs.Belonging.{belonging}
use Rattle.tree_access.specs.Seeing.{AllStand, StandsIn}
use Rattle.tree_access.proofs.LookedUp.{listed_stand}
use Rattle.tree_access.proofs.seeing.all_looked_at_stand.Goals as goal

pub returns-in-Marked-clause-yes : goal.returns-in-Marked-clause-yes
returns-in-Marked-clause-yes c h =
    let t = c.args.tree.now in
    let u = c.args.other.now in
    let scope = c.in-Marked.scope in
    let name = c.in-Marked.name in
    subst (λ key. AllStand key t u) (sym c.in-Marked.is)
    (listed_stand scope name t u
    (subst (λ key. All (StandsIn key t u) (belonging scope name t)) c.in-Marked.is
    (subst (All (StandsIn c.args.key.now t u)) c.belonging.ensures (c.each_stands.ensures.yes h))))
