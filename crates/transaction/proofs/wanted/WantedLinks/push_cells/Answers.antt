use Rattle.std.proofs.Common.{◌++◌, sym, ap, ◌∙◌, map as list_map}
use Rattle.std.specs.FinMap as map
use Rattle.std.proofs.lemmas.List.{append-nil}
use Rattle.link_tree.proofs.Maps.{entries_again}
use Rattle.tree_access.specs.declared.key.Key.TheVariants.{Cell}
use Rattle.transaction.proofs.wanted.WantedLinks.push_cells.Goals as goal

pub returns : goal.returns
returns c =
    let es = c.self.inside.by_path.entries in
    let slots = c.keys-slot-items.ensures.rest ∙ ap (list_map (λ e. e.0)) (sym (entries_again es c.keys-slot-items.ensures.ordered)) ∙ ap (λ m. map.keys m) c.self.view_is in
    sym (append-nil c.loop-slot.keys)
    ∙ ap (λ left. c.loop-slot.keys ++ list_map Cell left) (sym c.in-None.ensures.steps.0)
    ∙ c.loop-slot.invariant
    ∙ ap (λ left. c.args.keys.now ++ list_map Cell left) (c.into_iter-slot-iterator.ensures.into_iter_gives ∙ slots)
