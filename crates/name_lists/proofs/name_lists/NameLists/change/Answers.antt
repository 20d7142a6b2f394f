use Rattle.std.proofs.Common.{◌&&◌, ℕ, cond, ap, ◌∙◌}
use Rattle.std.specs.Prelude.{◌==◌}
use Rattle.std.specs.Str.{bytes_eq}
use Rattle.name_lists.specs.Lists.{list_at, listed, changed, shelf_of, bucket_of}
use Rattle.name_lists.proofs.Places.{at_its_place}
use Rattle.name_lists.proofs.Results.{on_err}
use Rattle.name_lists.proofs.name_lists.NameLists.change.Goals as goal

pub returns-clause-ok : goal.returns-clause-ok
returns-clause-ok c =
    let old = c.args.self.now in
    let new = c.change_at.new.self in
    let name = c.args.name.now in
    let h = changed c.args.listing in
    at_its_place old new name h (λ j k text.
    c.in_ok-change_at.ensures.ok j k text
    ∙ ap (λ (i : ℕ). cond (j == i && (k == c.bucket_of.result && bytes_eq text name)) (h (list_at old j k text)) (list_at old j k text)) c.shelf_of.ensures.shelf
    ∙ ap (λ (i : ℕ). cond (j == shelf_of name && (k == i && bytes_eq text name)) (h (list_at old j k text)) (list_at old j k text)) c.bucket_of.ensures.bucket)

pub returns-in_err-change_at-clause-err : goal.returns-in_err-change_at-clause-err
unfolding listed
returns-in_err-change_at-clause-err c = on_err c.from_residual.result (λ text. c.in_err-change_at.ensures.err (shelf_of text) (bucket_of text) text)
