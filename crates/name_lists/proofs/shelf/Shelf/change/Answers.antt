use Rattle.std.proofs.Common.{◌&&◌, ℕ, List, [], cond, ap, ◌∙◌}
use Rattle.std.specs.Prelude.{◌==◌}
use Rattle.std.specs.Str.{bytes_eq}
use Rattle.std.specs.Result.{is_ok}
use Rattle.std.specs.Vec.{with_item}
use Rattle.std.proofs.lemmas.List.{get_or_default}
use Rattle.name_lists.specs.Lists.{list_in, list_on, changed}
use Rattle.name_lists.proofs.Places.{on_shelf}
use Rattle.name_lists.proofs.Results.{on_err}
use Rattle.name_lists.proofs.Rows.{same_row, written_alike}
use Rattle.name_lists.proofs.shelf.Shelf.change.Goals as goal

pub returns-clause-ok : goal.returns-clause-ok
returns-clause-ok c k text =
    let h = changed c.args.listing in
    let name = c.args.name.now in
    let i = c.args.bucket in
    let old = c.in_ok-buckets.buckets.now.items in
    let grown = c.reach.new.buckets.items in
    let own = same_row c.in_ok-buckets.ensures.value ∙ c.self.view_is in
    ap (λ m. list_on m.items k text) (c.make_mut.follows.holds (with_item c.reach.new.buckets i c.change.new.self) (ap is_ok c.in_ok-buckets.was))
    ∙ on_shelf old grown i c.change.new.self name h c.in_ok-reach.ensures.there c.reach.ensures.same
    (λ (other : List ℕ). c.in_ok-change.ensures.ok other ∙ ap (λ bucket. cond (bytes_eq other name) (h (list_in bucket other)) (list_in bucket other)) (c.index_mut.ensures.value ∙ get_or_default grown i c.index_mut.result.now [] c.in_ok-reach.ensures.there)) k text
    ∙ ap (λ shelf. cond (k == i && bytes_eq text name) (h (list_on shelf k text)) (list_on shelf k text)) own

pub returns-in_err-change-clause-err : goal.returns-in_err-change-clause-err
returns-in_err-change-clause-err c = on_err c.from_residual-in_err-change.result (λ k text.
    let i = c.args.bucket in
    let grown = c.reach.new.buckets.items in
    let own = same_row c.in_ok-buckets.ensures.value ∙ c.self.view_is in
    ap (λ m. list_on m.items k text) (c.make_mut.follows.holds (with_item c.reach.new.buckets i c.change.new.self) (ap is_ok c.in_ok-buckets.was))
    ∙ written_alike (λ bucket. list_in bucket text) grown i c.change.new.self [] c.in_ok-reach.ensures.there
    (c.in_err-change.ensures.err text ∙ ap (λ bucket. list_in bucket text) (c.index_mut.ensures.value ∙ get_or_default grown i c.index_mut.result.now [] c.in_ok-reach.ensures.there)) k
    ∙ ap (λ bucket. list_in bucket text) (c.reach.ensures.same k)
    ∙ ap (λ shelf. list_on shelf k text) own)
