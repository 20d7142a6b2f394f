use Rattle.std.proofs.Common.{List, All, ◌≡◌, false, sym, ap, ◌∙◌, subst}
use Rattle.std.proofs.lemmas.Result.{IfOk-weaker}
use Rattle.link_tree.specs.Trees.{Entries}
use Rattle.tree_access.specs.declared.key.Key.{Key}
use Rattle.tree_access.specs.Keys.{is_cell, those, any_selects}
use Rattle.tree_access.specs.Seeing.{SeesTheSame}
use Rattle.tree_access.proofs.Gathered.{no_cells, gathered_shows}
use Rattle.tree_access.proofs.keys.Keys.gather.Goals as goal

pub walk-requires : goal.walk-requires
walk-requires c = subst (All (λ key. is_cell key ≡ false)) (sym c.in_ok-walkers.ensures) (no_cells c.args.self.now)

pub returns : goal.returns
returns c =
    IfOk-weaker c.walk.result
    (λ (found : Entries). found ≡ those (any_selects c.in_ok-walkers.walkers) c.entries-2.result.now)
    (λ (found : Entries). All (SeesTheSame found c.args.tree.now) c.args.self.now)
    (λ gathered is. subst (λ (t : Entries). All (SeesTheSame t c.args.tree.now) c.args.self.now)
    (sym (is ∙ ap (λ (t : Entries). those (any_selects c.in_ok-walkers.walkers) t) c.entries-2.ensures ∙ ap (λ (walkers : List Key). those (any_selects walkers) c.args.tree.now) c.in_ok-walkers.ensures))
    (gathered_shows c.args.self.now c.args.tree.now))
    c.walk.ensures
