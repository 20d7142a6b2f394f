use Rattle.std.proofs.Common.{◌≡◌, ◌∙◌, sym, ap, cond, ◌||◌}
use Rattle.std.specs.BTreeMap.{is_at}
use Rattle.std.specs.Ordering.{nat_cmp}
use Rattle.std.proofs.lemmas.Map.Steps.{set_value_same}
use Rattle.link_tree.specs.Trees.{path_cmp}
use Rattle.readers.specs.Numbers.{has, numbers_at}
use Rattle.std.specs.Map.{set_value}
use Rattle.readers.proofs.Listings.{on_err, view, by, after_set, no_numbers, numbers_found, one_more}
use Rattle.readers.proofs.numbers.Listed.add.Goals as goal

pub add_first-requires : goal.add_first-requires
add_first-requires c = ap (λ m. numbers_at (view (λ k. k.items) m.entries) c.args.text.now) c.get_mut.follows.holds-at-none ∙ no_numbers (λ k. k.items) c.self.inside.by_text.entries c.args.text.now (sym c.in-None.ensures.value)

pub returns-in_ok-add-in-Some-clause-ok : goal.returns-in_ok-add-in-Some-clause-ok
returns-in_ok-add-in-Some-clause-ok c =
    let text = c.args.text.now in
    let w = c.add.new.self in
    let es = c.self.inside.by_text.entries in
    let found = sym c.in-Some.ensures.value in
    one_more c.args.self.now _ text w c.args.n
    (λ t. ap (λ fs. numbers_at (view (λ k. k.items) fs) t) (c.get_mut.follows.holds w).0 ∙ after_set (λ k. k.items) es text t w c.in-Some.numbers.now found
    ∙ ap (λ l. cond (is_at (path_cmp t) text) w (numbers_at l t)) c.self.view_is)
    (λ i. c.in_ok-add-in-Some.ensures.ok i ∙ ap (λ ns. is_at (nat_cmp c.args.n) i || has ns i) (sym (numbers_found (λ k. k.items) es text c.in-Some.numbers.now found) ∙ ap (λ l. numbers_at l text) c.self.view_is))

pub returns-in_err-add-in-Some-clause-err : goal.returns-in_err-add-in-Some-clause-err
returns-in_err-add-in-Some-clause-err c =
    let es = c.self.inside.by_text.entries in
    let same : c.add.new.self ≡ c.in-Some.numbers.now = c.in_err-add-in-Some.ensures.err in
    on_err c.from_residual.result
    (ap (view (λ k. k.items)) ((c.get_mut.follows.holds c.add.new.self).0 ∙ ap (set_value (is_at (by (λ k. k.items) c.args.text.now)) es) same
    ∙ set_value_same (is_at (by (λ k. k.items) c.args.text.now)) es c.in-Some.numbers.now (sym c.in-Some.ensures.value))
    ∙ c.self.view_is)
