use Rattle.std.proofs.Common.{cond, ap, ◌∙◌}
use Rattle.std.specs.Str.{bytes_eq}
use Rattle.std.specs.List.{each_same}
use Rattle.std.specs.Result.{is_ok}
use Rattle.name_lists.specs.Lists.{by_texts, list_in, changed}
use Rattle.name_lists.proofs.Results.{on_err, from_err}
use Rattle.name_lists.proofs.Texts.{same_names}
use Rattle.name_lists.proofs.bucket.Bucket.change.Goals as goal

pub returns-clause-ok : goal.returns-clause-ok
returns-clause-ok c text =
    let h = changed c.args.listing in
    let name = c.args.name.now in
    let own = same_names (λ x y h. each_same x.items y.items h.0) (λ v w h. h) _ c.in_ok-by_name.by_name.now c.in_ok-by_name.ensures.value ∙ c.self.view_is in
    ap (λ m. list_in (by_texts (λ name. name.items) m.entries) text) (c.make_mut.follows.holds c.change_in.new.by_name (ap is_ok c.in_ok-by_name.was))
    ∙ c.in_ok-change_in.ensures.ok text
    ∙ ap (λ bucket. cond (bytes_eq text name) (h (list_in bucket text)) (list_in bucket text)) own

pub returns-in_err-change_in-clause-err : goal.returns-in_err-change_in-clause-err
returns-in_err-change_in-clause-err c = on_err c.from_residual-in_err-change_in.result (λ text.
    let own = same_names (λ x y h. each_same x.items y.items h.0) (λ v w h. h) _ c.in_ok-by_name.by_name.now c.in_ok-by_name.ensures.value ∙ c.self.view_is in
    ap (λ m. list_in (by_texts (λ name. name.items) m.entries) text) (c.make_mut.follows.holds c.change_in.new.by_name (ap is_ok c.in_ok-by_name.was))
    ∙ c.in_err-change_in.ensures.err text
    ∙ ap (λ bucket. list_in bucket text) own)

pub returns-in_err-by_name-clause-err : goal.returns-in_err-by_name-clause-err
returns-in_err-by_name-clause-err c = on_err c.from_residual.result (λ text.
    ap (λ bucket. list_in bucket text) (same_names (λ x y h. each_same x.items y.items h.0) (λ v w h. h) _ _ (from_err c.in_err-by_name.was c.make_mut.follows.holds-at-none) ∙ c.self.view_is))
