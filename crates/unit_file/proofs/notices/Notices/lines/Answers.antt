use Rattle.std.proofs.Common.{◌++◌, sym, ap, ◌∙◌, map as list_map}
use Rattle.std.specs.List.{concat}
use Rattle.std.specs.FinMap as map
use Rattle.std.proofs.lemmas.List.{append-nil}
use Rattle.unit_file.proofs.NoticeMaps.{entries_again}
use Rattle.unit_file.proofs.notices.Notices.lines.Goals as goal

pub returns : goal.returns
returns c =
    let es = c.self.inside.by_line.entries in
    let lines = c.keys-line-items.ensures.rest ∙ ap (list_map (λ e. e.0)) (sym (entries_again es c.keys-line-items.ensures.ordered)) ∙ ap (λ m. map.keys m) c.self.view_is in
    sym (append-nil c.loop-line.out.items)
    ∙ ap (λ left. c.loop-line.out.items ++ concat left) (sym c.in-None.ensures.steps.0)
    ∙ c.loop-line.invariant
    ∙ ap concat (c.into_iter-line-iterator.ensures.into_iter_gives ∙ lines)
