use Rattle.std.proofs.Common.{◌∙◌, sym, ap, cond, ◌||◌}
use Rattle.std.specs.BTreeMap.{is_at}
use Rattle.std.specs.Ordering.{nat_cmp}
use Rattle.link_tree.specs.Trees.{path_cmp}
use Rattle.readers.specs.Numbers.{has, numbers_at}
use Rattle.readers.proofs.Listings.{view, after_insert, one_more}
use Rattle.readers.proofs.numbers.Listed.add_first.Goals as goal

pub returns-clause-ok : goal.returns-clause-ok
returns-clause-ok c =
    let text = c.args.text.now in
    let w = c.add.new.self in
    one_more c.args.self.now _ text w c.args.n
    (λ t. ap (λ es. numbers_at (view (λ k. k.items) es) t) c.in_ok-insert.ensures.entries ∙ after_insert (λ k. k.items) c.self.inside.by_text.entries c.in_ok-text.text t w
    ∙ ap (λ u. cond (is_at (path_cmp t) u) w (numbers_at (view (λ k. k.items) c.self.inside.by_text.entries) t)) c.in_ok-text.ensures.items
    ∙ ap (λ l. cond (is_at (path_cmp t) text) w (numbers_at l t)) c.self.view_is)
    (λ i. c.in_ok-add.ensures.ok i ∙ ap (λ ns. is_at (nat_cmp c.args.n) i || has ns i) (c.none-numbers.ensures ∙ sym c.requires))
