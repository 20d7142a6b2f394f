use Rattle.std.proofs.Common.{◌∙◌, sym, ap, cond, ◌&&◌}
use Rattle.std.specs.Prelude.{not}
use Rattle.std.specs.BTreeMap.{is_at}
use Rattle.std.specs.Ordering.{nat_cmp}
use Rattle.link_tree.specs.Trees.{path_cmp}
use Rattle.readers.specs.Numbers.{has, numbers_at}
use Rattle.readers.proofs.Listings.{view, after_set, no_numbers, numbers_found, one_less, none_less}
use Rattle.readers.proofs.numbers.Listed.remove.Goals as goal
use Rattle.readers.proofs.numbers.Listed.remove.Goals.{in-Some, in-None}

pub returns : goal.returns
returns c =
    let text = c.args.text.now in
    let es = c.self.inside.by_text.entries in
    elim c.match-get_mut.branch [
      | in-Some w ↦
          let found = sym w.in-Some.ensures.value in
          one_less c.args.self.now _ text w.remove.new.self c.args.n
          (λ t. ap (λ s. numbers_at (view (λ k. k.items) s.by_text.entries) t) w.self-inside-is
          ∙ ap (λ fs. numbers_at (view (λ k. k.items) fs) t) (c.get_mut.follows.holds w.remove.new.self).0 ∙ after_set (λ k. k.items) es text t w.remove.new.self w.in-Some.numbers.now found
          ∙ ap (λ l. cond (is_at (path_cmp t) text) w.remove.new.self (numbers_at l t)) c.self.view_is)
          (λ i. w.remove.ensures i ∙ ap (λ ns. not (is_at (nat_cmp c.args.n) i) && has ns i) (sym (numbers_found (λ k. k.items) es text w.in-Some.numbers.now found) ∙ ap (λ l. numbers_at l text) c.self.view_is))
      | in-None w ↦ λ t i.
          ap (λ s. has (numbers_at (view (λ k. k.items) s.by_text.entries) t) i) w.self-inside-is
          ∙ ap (λ m. has (numbers_at (view (λ k. k.items) m.entries) t) i) c.get_mut.follows.holds-at-none
          ∙ ap (λ l. has (numbers_at l t) i) c.self.view_is
          ∙ none_less c.args.self.now text c.args.n (ap (λ l. numbers_at l text) (sym c.self.view_is) ∙ no_numbers (λ k. k.items) es text (sym w.in-None.ensures.value)) t i
    ]
