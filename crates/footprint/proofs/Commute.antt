-- Two commands that touch nothing at which the other looks can be swapped.
use Rattle.std.proofs.Common.{◌≡◌, Bool, List, sym, ap, subst, ◌∙◌}
use Rattle.link_tree.specs.declared.change.Change.{Change}
use Rattle.link_tree.specs.Trees.{Entries, AreFrom, after_changes, inverse_of}
use Rattle.link_tree.proofs.Changed.{inverse_undoes, inverse_from}
use Rattle.tree_access.specs.Keys.{Untouched}
use Rattle.footprint.specs.Inquiry.{Inquiry}
use Rattle.footprint.specs.Operations.{Effect, outcome_of, OperationLaws}
use Rattle.footprint.specs.Laws.{MayChangePlaces}
use Rattle.footprint.proofs.Outcomes.{outcome_agrees}
use Rattle.tree_access.proofs.ReadingKeys.{untouched_keys}
use Rattle.tree_access.proofs.Untouched.{agree_on_untouched, untouched-inverse, apart_from, changes_apart}

module _ {A B : Type 0} {asks_a : A → Bool} {asks_b : B → Bool} {first : A → Inquiry Effect} {second : B → Inquiry Effect} where
  pub may_change_places : OperationLaws asks_a first → OperationLaws asks_b second → MayChangePlaces first second
  may_change_places one two a b t seen_free seen_back =
      let cs = (outcome_of first a t).changes in
      let u : Entries = after_changes cs t in
      let free = untouched_keys cs ((second b).keys u) u seen_free in
      let back = untouched_keys (outcome_of second b u).changes ((first a).keys t) t seen_back in
      let from : AreFrom t cs = (one.changes a t).from in
      let undone : after_changes (inverse_of cs) u ≡ t = inverse_undoes t cs from in
      let agree = agree_on_untouched ((second b).keys u) (inverse_of cs) u (inverse_from t cs from) (untouched-inverse cs ((second b).keys u) free) in
      let same : outcome_of second b u ≡ outcome_of second b t = outcome_agrees second b u (after_changes (inverse_of cs) u) agree ∙ ap (outcome_of second b) undone in
      let ds = (outcome_of second b t).changes in
      let ds_are : (outcome_of second b u).changes ≡ ds = ap (λ o. o.changes) same in
      let back_too : Untouched ds ((first a).keys t) = subst (λ (xs : List Change). Untouched xs ((first a).keys t)) ds_are back in
      let v : Entries = after_changes ds t in
      let again : outcome_of first a t ≡ outcome_of first a v =
      outcome_agrees first a t v (agree_on_untouched ((first a).keys t) ds t (two.changes b t).from back_too) in
      let apart = apart_from ((second b).keys u) (outcome_of second b u).changes cs (two.confinement b u) free in (
        sym same,
        sym again,
        ap (λ o. after_changes o.changes v) (sym again) ∙ ap (λ (xs : List Change). after_changes cs (after_changes xs t)) (sym ds_are)
            ∙ sym (changes_apart (outcome_of second b u).changes cs t apart),
      )
