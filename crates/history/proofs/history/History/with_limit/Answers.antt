use Rattle.std.proofs.Common.{◌≡◌, ℕ, zero, suc, List, [], None, refl, sym, ap, subst, ◌∙◌, arith}
use Rattle.std.proofs.lemmas.List.Elements.{All-nil}
use Rattle.link_tree.specs.Trees.{Entries}
use Rattle.history.specs.declared.row.Row.{Row}
use Rattle.history.specs.Rows.{row_at, ChangesSlots, IsKept}
use Rattle.history.specs.Indexes.{is_reader}
use Rattle.history.specs.Toggles.{toggled_at, link_at, AreLinked}
use Rattle.history.proofs.history.History.with_limit.Goals as goal

-- without rows there is none of any number
no_row : {O : Type 0} → (i : ℕ) → row_at {O = O} [] i ≡ None
no_row zero = refl
no_row (suc i) = refl

no_links : {O : Type 0} → AreLinked {O = O} [] []
no_links {O = O} = record { each = refl; back = λ n. tt; last = none }
  where
    none : (n : ℕ) → toggled_at (row_at {O = O} [] n) ≡ None → link_at [] n ≡ 0
    none zero h = refl
    none (suc zero) h = refl
    none (suc (suc i)) h = refl

pub invariant_of-result : goal.invariant_of-result
invariant_of-result g c =
    let kept : IsKept g.O.Operation.asks g.O.Operation.meaning c.args.tree c.args.tree [] c.args.limit = record {
      legal = refl;
      tree_is = refl;
      slots = All-nil ChangesSlots;
      few = omega arith;
      bounded = c.requires.few;
    } in (
      subst (λ (first : Entries). IsKept g.O.Operation.asks g.O.Operation.meaning first c.args.tree c.new.result.items c.args.limit) (sym c.in_ok-share.ensures)
          (subst (λ (rows : List (Row _)). IsKept g.O.Operation.asks g.O.Operation.meaning c.args.tree c.args.tree rows c.args.limit) (sym c.new.ensures.items) kept),
      (λ key i. c.none.ensures key i ∙ sym (ap (λ (rows : List (Row _)). is_reader g.O.Operation.asks (row_at rows i) key) c.new.ensures.items ∙ ap (λ row. is_reader g.O.Operation.asks row key) (no_row i))),
      rw (c.new.ensures.items, c.new-2.ensures.items) no_links,
    )
