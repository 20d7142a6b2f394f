use Rattle.std.proofs.Common.{ap, ◌∙◌, sym, ◌++◌, map as list_map}
use Rattle.std.specs.FinMap as map
use Rattle.std.proofs.lemmas.List.{append-nil}
use Rattle.link_tree.proofs.Maps.{entries_again}
use Rattle.footprint.proofs.net.NetChanges.into_changes.Goals as goal

pub returns : goal.returns
returns c =
    let es = c.self.inside.by_path.entries in
    sym (append-nil c.loop-path.changes)
    ∙ ap (λ left. c.loop-path.changes ++ list_map (λ e. e.1) left) (sym c.in-None.ensures.steps.0)
    ∙ c.loop-path.invariant
    ∙ ap (list_map (λ e. e.1)) (c.into_iter-path-iterator.ensures.into_iter_gives.0 ∙ sym (entries_again es c.into_iter-path-iterator.ensures.into_iter_gives.5))
    ∙ ap (λ m. map.values m) c.self.view_is
