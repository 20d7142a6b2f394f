-- Changes that are recorded one after another.
use Rattle.std.proofs.Common.{◌≡◌, List, [], ◌∷◌, refl, sym, ◌∙◌, ap}
use Rattle.std.specs.FinMap as map
use Rattle.link_tree.specs.declared.change.Change.{Change}
use Rattle.link_tree.specs.Trees.{Entries, set_entry, after_changes}
use Rattle.link_tree.specs.Differences.{differences, changes_between}
use Rattle.link_tree.proofs.Differences.{differences-same, differences-set}
use Rattle.footprint.specs.Net.{net, noted}
use Rattle.footprint.proofs.NetLaws.{net_between}
use Rattle.footprint.specs.Operations.{AreChanges}

-- recording changes that start from a tree
noted_after : (t u : Entries) (cs : List Change) → noted (differences t u) t cs ≡ differences t (after_changes cs u)
noted_after t u [] = refl
noted_after t u (c ∷ cs) = ap (λ net. noted net t cs) (differences-set t u c.path c.after) ∙ noted_after t (set_entry u c.path c.after) cs

-- the recorded changes of both lists are the net changes
pub net_noted : (t : Entries) (cs ds : List Change) → AreChanges t cs → AreChanges (after_changes cs t) ds → map.values (noted (noted map.empty t cs) t ds) ≡ net cs ds
unfolding changes_between
net_noted t cs ds first second =
    ap (λ m. map.values m) (ap (λ m. noted (noted m t cs) t ds) (sym (differences-same t)) ∙ ap (λ m. noted m t ds) (noted_after t t cs) ∙ noted_after t (after_changes cs t) ds)
    ∙ sym (net_between t cs ds first second)
