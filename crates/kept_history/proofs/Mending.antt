-- What the due steps leave in a root, whatever is there.
use Rattle.std.proofs.Common.{◌≡◌, ℕ, Bool, true, false, cond, List, [], ◌∷◌, Option, refl, sym, ap, ◌∙◌, subst, inl, inr}
use Rattle.std.specs.List.{filter}
use Rattle.std.specs.Str.{bytes_eq}
use Rattle.std.specs.FinMap as map
use Rattle.std.proofs.lemmas.Bool.{cases_Bool, false≢true, or_parts}
use Rattle.link_tree.specs.declared.entry.Entry.{Entry}
use Rattle.link_tree.specs.declared.change.Change.{Change}
use Rattle.link_tree.specs.Trees.{Entries, KeepsPath, AreFrom, after_changes}
use Rattle.link_tree.specs.Differences.{same}
use Rattle.link_tree.proofs.Changed.{same_tree, same_bytes, after_at, after_at-kept, get-after_changes}
use Rattle.link_tree.proofs.Differences.{same_is, same-itself}
use Rattle.tree_steps.specs.Steps.{steps_between, IsOnTheWay}
use Rattle.tree_steps.proofs.Turns.{steps_from, steps_to}
use Rattle.kept_history.specs.Roots.{has_path}
use Rattle.kept_history.specs.Recovery.{is_due, due_steps}
use Rattle.kept_history.specs.Laws.{Mends}

-- which of two holds by a test
pub cond_same : {A : Type 0} (b : Bool) (x : A) → cond b x x ≡ x
cond_same true x = refl
cond_same false x = refl

-- what is left of changes of other paths is of other paths
keeps_filter : (test : Change → Bool) (q : List ℕ) (cs : List Change) → KeepsPath q cs → KeepsPath q (filter test cs)
keeps_filter test q [] h = tt
keeps_filter test q (c ∷ cs) h = elim (cases_Bool (test c)) [
  | inl stays ↦ rw stays (h.0, keeps_filter test q cs h.1)
  | inr goes ↦ rw goes (keeps_filter test q cs h.1)
]

module _ (root : Entries) where
  -- the due ones of some changes
  abbrev due_of : List Change → List Change
  due_of cs = filter (is_due root) cs

  -- a change of another path, made or not, leaves what is at a path
  passed_over : (q : List ℕ) (c : Change) (cs : List Change) (o : Option Entry) → bytes_eq q c.path ≡ false → after_at (due_of (c ∷ cs)) q o ≡ after_at (due_of cs) q o
  passed_over q c cs o away = elim (cases_Bool (is_due root c)) [
    | inl due ↦ ap (λ b. after_at (cond b (c ∷ due_of cs) (due_of cs)) q o) due ∙ ap (λ b. after_at (due_of cs) q (cond b c.after o)) away
    | inr made ↦ ap (λ b. after_at (cond b (c ∷ due_of cs) (due_of cs)) q o) made
  ]

  -- the change of a path is made if what it is from is there
  made_there : (q : List ℕ) (c : Change) (cs : List Change) (o : Option Entry) → bytes_eq q c.path ≡ true → KeepsPath q cs
      → after_at (due_of (c ∷ cs)) q o ≡ cond (is_due root c) c.after o
  made_there q c cs o here apart = elim (cases_Bool (is_due root c)) [
    | inl due ↦
        ap (λ b. after_at (cond b (c ∷ due_of cs) (due_of cs)) q o) due
        ∙ ap (λ b. after_at (due_of cs) q (cond b c.after o)) here
        ∙ after_at-kept (due_of cs) q c.after (keeps_filter (is_due root) q cs apart)
        ∙ sym (ap (λ b. cond b c.after o) due)
    | inr made ↦
        ap (λ b. after_at (cond b (c ∷ due_of cs) (due_of cs)) q o) made
        ∙ after_at-kept (due_of cs) q o (keeps_filter (is_due root) q cs apart)
        ∙ sym (ap (λ b. cond b c.after o) made)
  ]

  -- what the due changes leave at a path: what all of them leave there, if the old entry is there, and
  -- else what is there
  due_leaves : (old : Entries) (cs : List Change) (q : List ℕ) (there : Option Entry) → AreFrom old cs → map.get root q ≡ there
      → after_at (filter (is_due root) cs) q there ≡ cond (same there (map.get old q)) (after_at cs q there) there
  due_leaves old [] q there from stands = sym (cond_same (same there (map.get old q)) there)
  due_leaves old (c ∷ cs) q there from stands = elim (cases_Bool (bytes_eq q c.path)) [
    | inl here ↦ (
        let at : q ≡ c.path = same_bytes q c.path here in
        let apart : KeepsPath q cs = subst (λ p. KeepsPath p cs) (sym at) from.1 in
        let is : is_due root c ≡ same there (map.get old q) = ap (λ o. same o c.before) (sym (ap (map.get root) at) ∙ stands) ∙ ap (same there) (sym from.0 ∙ sym (ap (map.get old) at)) in
        made_there q c cs there here apart
        ∙ ap (λ b. cond b c.after there) is
        ∙ ap (λ o. cond (same there (map.get old q)) o there) (sym (ap (λ b. after_at cs q (cond b c.after there)) here ∙ after_at-kept cs q c.after apart)))
    | inr away ↦
        passed_over q c cs there away
        ∙ due_leaves old cs q there from.2 stands
        ∙ ap (λ o. cond (same there (map.get old q)) o there) (sym (ap (λ b. after_at cs q (cond b c.after there)) away))
  ]

module _ (old new root : Entries) where
  -- each path has the new entry if it had the old one, and else what was there
  mended_at : (q : List ℕ) → map.get (after_changes (due_steps old new root) root) q ≡ cond (same (map.get root q) (map.get old q)) (after_at (steps_between old new) q (map.get root q)) (map.get root q)
  mended_at q =
      get-after_changes (due_steps old new root) root q
      ∙ due_leaves root old (steps_between old new) q (map.get root q) (steps_from old new) refl

  -- what the steps leave if the old entry was there
  stepped : (q : List ℕ) → after_at (steps_between old new) q (map.get old q) ≡ map.get new q
  stepped q = sym (get-after_changes (steps_between old new) old q) ∙ ap (λ t. map.get t q) (steps_to old new)

  pub mends : Mends old new root (after_changes (due_steps old new root) root)
  mends = record {
    put = λ q was.
        mended_at q
        ∙ ap (λ b. cond b (after_at (steps_between old new) q (map.get root q)) (map.get root q)) (ap (λ o. same o (map.get old q)) was ∙ same-itself (map.get old q))
        ∙ ap (after_at (steps_between old new) q) was
        ∙ stepped q;
    left = λ q other. mended_at q ∙ elim (cases_Bool (same (map.get root q) (map.get old q))) [
      | inl was ↦ absurd (other (same_is (map.get root q) (map.get old q) was))
      | inr is ↦ ap (λ b. cond b (after_at (steps_between old new) q (map.get root q)) (map.get root q)) is
    ];
  }

  -- a root that is on the way becomes the new tree
  pub mended_way : IsOnTheWay old new root → after_changes (due_steps old new root) root ≡ new
  mended_way way = same_tree _ _ (λ q. elim (cases_Bool (same (map.get root q) (map.get old q))) [
    | inl was ↦ mends.put q (same_is (map.get root q) (map.get old q) was)
    | inr is ↦ elim (way q) [
      | inl was ↦ absurd (false≢true (sym is ∙ ap (λ o. same o (map.get old q)) was ∙ same-itself (map.get old q)))
      | inr made ↦ mends.left q (λ was. false≢true (sym is ∙ ap (λ o. same o (map.get old q)) was ∙ same-itself (map.get old q))) ∙ made
    ]
  ])

-- no step is at this path
keeps_absent : (q : List ℕ) (cs : List Change) → has_path q cs ≡ false → KeepsPath q cs
keeps_absent q [] none = tt
keeps_absent q (c ∷ cs) none =
    let parts = or_parts (bytes_eq q c.path) (has_path q cs) none in
    (parts.0, keeps_absent q cs parts.1)

module _ (old new : Entries) where
  -- where no step is, both trees have the same
  unchanged : (q : List ℕ) → has_path q (steps_between old new) ≡ false → map.get old q ≡ map.get new q
  unchanged q none = sym (after_at-kept (steps_between old new) q (map.get old q) (keeps_absent q (steps_between old new) none)) ∙ stepped old new old q

  settled : (t : Entries) (q : List ℕ) → IsOnTheWay old new t → has_path q (steps_between old new) ≡ false → map.get t q ≡ map.get new q
  settled t q way none = elim (way q) [ inl was ↦ was ∙ unchanged q none | inr is ↦ is ]

  -- two roots on the way that have the same at all steps are equal
  pub same_on_way : (one other : Entries) → IsOnTheWay old new one → IsOnTheWay old new other
      → ((q : List ℕ) → has_path q (steps_between old new) ≡ true → map.get one q ≡ map.get other q) → one ≡ other
  same_on_way one other way ways agree = same_tree one other (λ q. elim (cases_Bool (has_path q (steps_between old new))) [
    | inl step ↦ agree q step
    | inr none ↦ settled one q way none ∙ sym (settled other q ways none)
  ])
