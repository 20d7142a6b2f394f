-- What a power failure leaves of two lists of events, by what the second one syncs.
use Rattle.std.proofs.Common.{◌≡◌, ℕ, Bool, true, false, cond, List, [], ◌∷◌, ◌++◌, Option, Some, None, refl, sym, ap, ◌∙◌, inl, inr}
use Rattle.std.specs.List.{list_any}
use Rattle.std.specs.Str.{bytes_eq}
use Rattle.std.specs.FinMap as map
use Rattle.std.proofs.lemmas.Bool.{cases_Bool, false≢true, true≢false, or_parts}
use Rattle.link_tree.proofs.Changed.{same_bytes, get-set, get-set_other}
use Rattle.disk.specs.Events.{Event, Promise, Commit, Withdraw, SyncHistory, Make, SyncSteps, Clear}
use Rattle.kept_history.specs.Roots.{KeptRoot, committed, after, after_all, syncs_history, syncs_path, is_synced, MayLeave}

committed_entries : (u : KeptRoot) (next : Option (List ℕ)) → (committed u next).entries ≡ u.entries
committed_entries u None = refl
committed_entries u (Some text) = refl

-- what is at a path afterwards depends on what was there alone
module _ (path : List ℕ) where
  same_at : (events : List Event) (v w : KeptRoot) → map.get v.entries path ≡ map.get w.entries path → map.get (after_all events v).entries path ≡ map.get (after_all events w).entries path
  same_at [] v w same = same
  same_at (Promise text ∷ events) v w same = same_at events _ _ same
  same_at (Commit ∷ events) v w same =
      same_at events (after Commit v) (after Commit w)
      (ap (λ t. map.get t path) (committed_entries v v.next) ∙ same ∙ sym (ap (λ t. map.get t path) (committed_entries w w.next)))
  same_at (Withdraw ∷ events) v w same = same_at events _ _ same
  same_at (SyncHistory ∷ events) v w same = same_at events v w same
  same_at (Make step ∷ events) v w same =
      same_at events (after (Make step) v) (after (Make step) w)
      (get-set v.entries step.path step.after path ∙ ap (cond (bytes_eq path step.path) step.after) same ∙ sym (get-set w.entries step.path step.after path))
  same_at (SyncSteps steps ∷ events) v w same = same_at events v w same
  same_at (Clear steps ∷ events) v w same = same_at events v w same

-- the same texts
abbrev pub SameTexts : KeptRoot → KeptRoot → Type 0
SameTexts v w = (v.history ≡ w.history) × (v.next ≡ w.next)

-- and the texts depend on the texts alone
same_texts : (events : List Event) (v w : KeptRoot) → SameTexts v w → SameTexts (after_all events v) (after_all events w)
same_texts [] v w same = same
same_texts (Promise text ∷ events) v w same = same_texts events _ _ (same.0, refl)
same_texts (Commit ∷ events) v w same = same_texts events (after Commit v) (after Commit w) (committed_texts v.next w.next same.1)
  where
    committed_texts : (one other : Option (List ℕ)) → one ≡ other → SameTexts (committed v one) (committed w other)
    committed_texts None None at = same
    committed_texts None (Some text) at = cc
    committed_texts (Some text) None at = cc
    committed_texts (Some text) (Some more) at = (some_is at, refl)
      where
        some_is : {y z : List ℕ} → Some y ≡ Some z → y ≡ z
        some_is h = cc
same_texts (Withdraw ∷ events) v w same = same_texts events _ _ (same.0, refl)
same_texts (SyncHistory ∷ events) v w same = same_texts events v w same
same_texts (Make step ∷ events) v w same = same_texts events _ _ same
same_texts (SyncSteps steps ∷ events) v w same = same_texts events v w same
same_texts (Clear steps ∷ events) v w same = same_texts events v w same

-- nothing has to be lost
pub nothing_lost : (events : List Event) (w : KeptRoot) → MayLeave w events (after_all events w)
nothing_lost [] w = refl
nothing_lost (event ∷ events) w = inl (nothing_lost events (after event w))

any-append : (test : Event → Bool) (before later : List Event) → list_any test (before ++ later) ≡ false → (list_any test before ≡ false) × (list_any test later ≡ false)
any-append test [] later none = (refl, none)
any-append test (e ∷ before) later none =
    let parts = or_parts (test e) (list_any test (before ++ later)) none in
    let rest = any-append test before later parts.1 in
    (rw parts.0 rest.0, rest.1)

-- what was done before is there, if it is synced later
pub record Kept (before later : List Event) (w v : KeptRoot) : Type 0 where
  pub entries : (path : List ℕ) → list_any (syncs_path path) later ≡ true → map.get v.entries path ≡ map.get (after_all before w).entries path
  pub texts : list_any syncs_history later ≡ true → SameTexts v (after_all before w)

module _ (before later : List Event) (w v : KeptRoot) (kept : Kept before later w v) where
  -- an event that writes the history and changes no entry
  missing_text : (e : Event) → (after e w).entries ≡ w.entries → list_any syncs_history (before ++ later) ≡ false
      → (list_any syncs_history before ≡ false) × Kept (e ∷ before) later w v
  missing_text e same none =
      let parts = any-append syncs_history before later none in (
        parts.0,
        record {
          entries = λ path synced. kept.entries path synced ∙ same_at path before w (after e w) (ap (λ t. map.get t path) (sym same));
          texts = λ synced. absurd (false≢true (sym parts.1 ∙ synced));
        },
      )

  -- an event that was not synced, neither then nor later
  missing_event : (e : Event) → is_synced e (before ++ later) ≡ false → (is_synced e before ≡ false) × Kept (e ∷ before) later w v
  missing_event (Promise text) none = missing_text (Promise text) refl none
  missing_event Commit none = missing_text Commit (committed_entries w w.next) none
  missing_event Withdraw none = missing_text Withdraw refl none
  missing_event (Make step) none =
      let parts = any-append (syncs_path step.path) before later none in
      let same = same_texts before w (after (Make step) w) (refl, refl) in (
        parts.0,
        record {
          entries = λ path synced. elim (cases_Bool (bytes_eq path step.path)) [
            | inl here ↦ absurd (false≢true (sym parts.1 ∙ ap (λ p. list_any (syncs_path p) later) (sym (same_bytes path step.path here)) ∙ synced))
            | inr away ↦ kept.entries path synced ∙ same_at path before w (after (Make step) w) (sym (get-set_other w.entries step.path step.after path away))
          ];
          texts = λ synced. let here = kept.texts synced in (here.0 ∙ same.0, here.1 ∙ same.1);
        },
      )
  missing_event SyncHistory none = absurd (true≢false none)
  missing_event (SyncSteps steps) none = absurd (true≢false none)
  missing_event (Clear steps) none = absurd (true≢false none)

-- what is left of two lists of events is left of the second on what is left of the first
pub in_two : (before later : List Event) (w left : KeptRoot) → MayLeave w (before ++ later) left → (v : KeptRoot) × MayLeave w before v × MayLeave v later left × Kept before later w v
in_two [] later w left h = (w, refl, h, record { entries = λ path synced. refl; texts = λ synced. (refl, refl) })
in_two (e ∷ before) later w left (inl h) =
    let rest = in_two before later (after e w) left h in
    (rest.0, inl rest.1, rest.2, record { entries = rest.3.entries; texts = rest.3.texts })
in_two (e ∷ before) later w left (inr h) =
    let rest = in_two before later w left h.1 in
    let missed = missing_event before later w rest.0 rest.3 e h.0 in
    (rest.0, inr (missed.0, rest.1), rest.2, missed.1)
