use Rattle.std.proofs.Common.{sym, ap, ◌∙◌, Some, None}
use Rattle.name_lists.specs.Lists.{by_texts, list_in}
use Rattle.name_lists.proofs.Texts.{list_was}
use Rattle.name_lists.proofs.bucket.Bucket.get.Goals as goal

pub returns-in-Some : goal.returns-in-Some
returns-in-Some c =
    c.paths.ensures ∙ list_was c.deref.result.now.entries c.args.name.now (Some c.in-Some.list.now) (sym c.in-Some.ensures.value)
    ∙ ap (λ bucket. list_in bucket c.args.name.now) (ap (λ m. by_texts (λ name. name.items) m.entries) c.deref.ensures ∙ c.self.view_is)

pub returns-in-None : goal.returns-in-None
returns-in-None c =
    list_was c.deref.result.now.entries c.args.name.now None (sym c.in-None.ensures.value)
    ∙ ap (λ bucket. list_in bucket c.args.name.now) (ap (λ m. by_texts (λ name. name.items) m.entries) c.deref.ensures ∙ c.self.view_is)
