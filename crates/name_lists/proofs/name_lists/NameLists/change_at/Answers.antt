use Rattle.std.proofs.Common.{◌&&◌, [], cond, ap, ◌∙◌}
use Rattle.std.specs.Prelude.{◌==◌}
use Rattle.std.specs.Str.{bytes_eq}
use Rattle.std.specs.Result.{is_ok}
use Rattle.std.specs.Vec.{with_item}
use Rattle.std.proofs.lemmas.List.{get_or_default}
use Rattle.name_lists.specs.Lists.{list_on, list_at, changed}
use Rattle.name_lists.proofs.Places.{among_shelves}
use Rattle.name_lists.proofs.Results.{on_err}
use Rattle.name_lists.proofs.Rows.{same_row, written_alike}
use Rattle.name_lists.proofs.name_lists.NameLists.change_at.Goals as goal

pub returns-clause-ok : goal.returns-clause-ok
returns-clause-ok c j k text =
    let h = changed c.args.listing in
    let name = c.args.name.now in
    let i = c.args.shelf in
    let bucket = c.args.bucket in
    let old = c.in_ok-shelves.shelves.now.items in
    let grown = c.reach.new.shelves.items in
    let own = same_row c.in_ok-shelves.ensures.value ∙ c.self.view_is in
    ap (λ m. list_at m.items j k text) (c.make_mut.follows.holds (with_item c.reach.new.shelves i c.change.new.self) (ap is_ok c.in_ok-shelves.was))
    ∙ among_shelves old grown i bucket c.change.new.self name h c.in_ok-reach.ensures.there c.reach.ensures.same
    (λ k other. c.in_ok-change.ensures.ok k other ∙ ap (λ shelf. cond (k == bucket && bytes_eq other name) (h (list_on shelf k other)) (list_on shelf k other)) (c.index_mut.ensures.value ∙ get_or_default grown i c.index_mut.result.now [] c.in_ok-reach.ensures.there)) j k text
    ∙ ap (λ lists. cond (j == i && (k == bucket && bytes_eq text name)) (h (list_at lists j k text)) (list_at lists j k text)) own

pub returns-in_err-change-clause-err : goal.returns-in_err-change-clause-err
returns-in_err-change-clause-err c = on_err c.from_residual-in_err-change.result (λ j k text.
    let i = c.args.shelf in
    let grown = c.reach.new.shelves.items in
    let own = same_row c.in_ok-shelves.ensures.value ∙ c.self.view_is in
    ap (λ m. list_at m.items j k text) (c.make_mut.follows.holds (with_item c.reach.new.shelves i c.change.new.self) (ap is_ok c.in_ok-shelves.was))
    ∙ written_alike (λ shelf. list_on shelf k text) grown i c.change.new.self [] c.in_ok-reach.ensures.there
    (c.in_err-change.ensures.err k text ∙ ap (λ shelf. list_on shelf k text) (c.index_mut.ensures.value ∙ get_or_default grown i c.index_mut.result.now [] c.in_ok-reach.ensures.there)) j
    ∙ ap (λ shelf. list_on shelf k text) (c.reach.ensures.same j)
    ∙ ap (λ lists. list_at lists j k text) own)
