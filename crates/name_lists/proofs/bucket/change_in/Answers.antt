use Rattle.std.proofs.Common.{sym, ap, ◌∙◌}
use Rattle.std.specs.BTreeMap.{insert_entry}
use Rattle.name_lists.specs.Lists.{text_cmp, changed}
use Rattle.name_lists.proofs.Texts.{list_changed, list_come, list_kept}
use Rattle.name_lists.proofs.bucket.change_in.Goals as goal

pub returns-in-Ok-clause-ok : goal.returns-in-Ok-clause-ok
returns-in-Ok-clause-ok c =
    list_changed c.args.by_name.now.entries (c.get_mut.follows.lender c.change.new.self).entries c.args.name.now (changed c.args.listing) c.change.new.self c.in-Some.list.now
    (sym c.in-Some.ensures.value) (c.get_mut.follows.holds c.change.new.self).0 c.in-Ok.ensures.ok

pub returns-in-Err-clause-err : goal.returns-in-Err-clause-err
returns-in-Err-clause-err c =
    list_kept c.args.by_name.now.entries (c.get_mut.follows.lender c.change.new.self).entries c.args.name.now c.change.new.self c.in-Some.list.now
    (sym c.in-Some.ensures.value) (c.get_mut.follows.holds c.change.new.self).0 c.in-Err.ensures.err

pub returns-in_ok-insert-in-None-clause-ok : goal.returns-in_ok-insert-in-None-clause-ok
returns-in_ok-insert-in-None-clause-ok c =
    list_come c.args.by_name.now.entries c.insert.new.self.entries c.args.name.now (changed c.args.listing) c.in_ok-list-in-None.list c.in_ok-text-in-None.text
    c.in_ok-text-in-None.ensures.items (sym c.in-None.ensures.value)
    (c.in_ok-insert-in-None.ensures.entries ∙ ap (λ m. insert_entry (λ i j. text_cmp i.items j.items) m.entries c.in_ok-text-in-None.text c.in_ok-list-in-None.list) c.get_mut.follows.holds-at-none)
    c.in_ok-list-in-None.ensures
