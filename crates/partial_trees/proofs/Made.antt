-- The changes of the surviving rows, one after another: what a replay makes.
use Rattle.std.proofs.Common.{◌≡◌, ℕ, Bool, false, cond, List, [], ◌∷◌, ◌++◌, Option, Some, None, All, Contains, refl, sym, ap, subst, ◌∙◌, inl, inr}
use Rattle.std.specs.FinMap as map
use Rattle.std.proofs.lemmas.Bool.{cases_Bool}
use Rattle.std.proofs.lemmas.List.Elements.{All-head, All-tail, All-nil, All-append, All-weaker, All-contains}
use Rattle.link_tree.specs.declared.change.Change.{Change}
use Rattle.link_tree.specs.declared.entry.Entry.{Entry}
use Rattle.link_tree.specs.Trees.{Entries, after_change, after_changes}
use Rattle.link_tree.specs.Differences.{same, change, changes_between}
use Rattle.link_tree.proofs.Changed.{after_at, get-after_changes}
use Rattle.link_tree.proofs.Differences.{change_at, get-differences, same_differences, same-itself}
use Rattle.tree_access.specs.declared.key.Key.{Key}
use Rattle.tree_access.specs.declared.key.Key.TheVariants.{Cell}
use Rattle.tree_access.specs.declared.reading.Observation.{Observation}
use Rattle.footprint.specs.Inquiry.{Inquiry}
use Rattle.tree_access.specs.Keys.{Agree, AgreeOn}
use Rattle.tree_access.proofs.KeyLaws.{same_there, is_changed, unchanged, at_changed}
use Rattle.footprint.specs.Operations.{Effect, outcome_of, OperationLaws}
use Rattle.tree_access.specs.Readings.{keys_of}
use Rattle.tree_access.proofs.KeySets.{in_order-All}
use Rattle.tree_access.proofs.ReadingKeys.{keys_of_reading}
use Rattle.history.specs.declared.row.Row.{Row}
use Rattle.history.specs.Rows.{survivor, after, replay, AnswersHere, AnswersAlike}
use Rattle.partial_trees.specs.Parts.{AgreeOnRows}

after_changes-append : (cs ds : List Change) (t : Entries) → after_changes (cs ++ ds) t ≡ after_changes ds (after_changes cs t)
after_changes-append [] ds t = refl
after_changes-append (c ∷ cs) ds t = after_changes-append cs ds (after_change c t)

-- Both trees have the same at the path of a change.
abbrev pub SameBefore : Entries → Entries → Change → Type 0
SameBefore part whole change = map.get part change.path ≡ map.get whole change.path

module _ (part whole : Entries) (cs : List Change) (alike : All (SameBefore part whole) cs) where
  -- what these changes change at a path in all, by what is there
  abbrev net_at : List ℕ → Option Entry → Option Change
  net_at q there = cond (same there (after_at cs q there)) None (Some (change q there (after_at cs q there)))

  net_is : (t : Entries) (q : List ℕ) → change_at t (after_changes cs t) q ≡ net_at q (map.get t q)
  net_is t q = ap (λ now. cond (same (map.get t q) now) None (Some (change q (map.get t q) now))) (get-after_changes cs t q)

  no_net : (q : List ℕ) (there : Option Entry) → is_changed cs q ≡ false → net_at q there ≡ None
  no_net q there away =
      ap (λ now. cond (same there now) None (Some (change q there now))) (unchanged cs q there away)
      ∙ ap (λ b. cond b None (Some (change q there there))) (same-itself there)

  same_net : (q : List ℕ) → net_at q (map.get whole q) ≡ net_at q (map.get part q)
  same_net q = elim (cases_Bool (is_changed cs q)) [
    | inl here ↦ ap (net_at q) (sym (at_changed (λ path. map.get part path ≡ map.get whole path) cs q alike here))
    | inr away ↦ no_net q (map.get whole q) away ∙ sym (no_net q (map.get part q) away)
  ]

  -- The same changes change the same in all, in trees that have the same at their paths.
  pub same_changes : changes_between whole (after_changes cs whole) ≡ changes_between part (after_changes cs part)
  unfolding changes_between
  same_changes = ap (λ m. map.values m) (same_differences _ _ (λ q.
      get-differences whole (after_changes cs whole) q ∙ net_is whole q ∙ same_net q ∙ sym (net_is part q) ∙ sym (get-differences part (after_changes cs part) q)))

module _ {O : Type 0} (asks : O → Bool) where
  abbrev changes_by : Option O → List Change → List Change
  changes_by None changes = []
  changes_by (Some c) changes = changes

  -- the changes of the survivors, in order
  abbrev pub made : List (Row O) → List Change
  made [] = []
  made (row ∷ rows) = changes_by (survivor asks row) row.changes ++ made rows

  module _ (meaning : O → Inquiry Effect) where
    after_is : (o : Option O) (t : Entries) (row : Row O) → AnswersHere asks meaning o t row → after asks meaning o t ≡ after_changes (changes_by o row.changes) t
    after_is None t row h = refl
    after_is (Some c) t row h = ap (λ (cs : List Change). after_changes cs t) (sym h.1)

    -- if the survivors do what their rows say, the replay makes exactly these
    pub replay_made : (rows : List (Row O)) (t : Entries) → AnswersAlike asks meaning t rows → replay asks meaning t rows ≡ after_changes (made rows) t
    replay_made [] t h = refl
    replay_made (row ∷ rows) t h =
        replay_made rows (after asks meaning (survivor asks row) t) h.1
        ∙ ap (after_changes (made rows)) (after_is (survivor asks row) t row h.0)
        ∙ sym (after_changes-append (changes_by (survivor asks row) row.changes) (made rows) t)

module _ {O : Type 0} {asks : O → Bool} {meaning : O → Inquiry Effect} (laws : OperationLaws asks meaning) where
  -- Trees that agree on what a row looked at have the same at each path that it changed.
  cells_of_row : (part whole t : Entries) (o : Option O) (row : Row O) → AnswersHere asks meaning o t row → AgreeOn (keys_of row.reading) part whole
      → All (SameBefore part whole) (changes_by asks o row.changes)
  cells_of_row part whole t None row h agree = All-nil (SameBefore part whole)
  cells_of_row part whole t (Some c) row h agree =
      let keys = (meaning c).keys t in
      let P : Key → Type 0 = λ key. Agree key part whole in
      let read : All P (keys_of (outcome_of meaning c t).reading) = subst (λ (r : List Observation). All P (keys_of r)) h.2 agree in
      let on : All P keys = in_order-All P keys (subst (All P) (keys_of_reading keys t) read) in
      subst (All (SameBefore part whole)) (sym h.1)
      (All-weaker (λ change. Contains keys (Cell change.path)) (SameBefore part whole)
      (λ change here. same_there change.path part whole (All-contains P keys (Cell change.path) on here))
      (outcome_of meaning c t).changes (laws.confinement c t))

  pub cells_made : (part whole t : Entries) (rows : List (Row O)) → AnswersAlike asks meaning t rows → AgreeOnRows rows part whole → All (SameBefore part whole) (made asks rows)
  cells_made part whole t [] h agree = All-nil (SameBefore part whole)
  cells_made part whole t (row ∷ rows) h agree =
      let P : Row O → Type 0 = λ row. AgreeOn (keys_of row.reading) part whole in
      All-append (SameBefore part whole) (changes_by asks (survivor asks row) row.changes) (made asks rows)
      (cells_of_row part whole t (survivor asks row) row h.0 (All-head P row rows agree))
      (cells_made part whole (after asks meaning (survivor asks row) t) rows h.1 (All-tail P row rows agree))
