-- The replay after a row is added, after a survivor that no row blocks is undone, and after changes
-- are made before rows that didn't look at what they touch.
use Rattle.std.proofs.Common.{◌≡◌, ◌+◌, ◌&&◌, ◌||◌, ℕ, zero, suc, Bool, true, false, cond, List, [], ◌∷◌, ◌++◌, Option, Some, None, is_some, slice_get, drop, length, refl, sym, ap, subst, ◌∙◌, All, ◌⊎◌, inl, inr}
use Rattle.std.specs.List.{list_any}
use Rattle.std.proofs.lemmas.Bool.{cases_Bool, or_parts, false≢true}
use Rattle.std.proofs.lemmas.List.Elements.{All-cons, All-nil, All-map, All-weaker}
use Rattle.link_tree.specs.declared.change.Change.{Change}
use Rattle.link_tree.specs.Trees.{Entries, AreFrom, after_changes, inverse_of}
use Rattle.link_tree.proofs.Changed.{inverse_from, inverse_undoes}
use Rattle.tree_access.specs.declared.key.Key.{Key}
use Rattle.footprint.specs.declared.outcome.Outcome.{Outcome}
use Rattle.tree_access.specs.declared.reading.Observation.{Observation}
use Rattle.footprint.specs.Inquiry.{Inquiry}
use Rattle.tree_access.specs.Keys.{touches, Untouched}
use Rattle.footprint.specs.Operations.{Effect, is_refused, outcome_of, OperationLaws}
use Rattle.tree_access.specs.Readings.{keys_of, reading_of}
use Rattle.tree_access.proofs.ReadingKeys.{untouched_keys}
use Rattle.tree_access.proofs.Untouched.{untouched-inverse}
use Rattle.footprint.proofs.Outcomes.{untouched_step}
use Rattle.history.specs.declared.row.UndoRefusal.{UndoRefusal}
use Rattle.history.specs.declared.row.RedoRefusal.{RedoRefusal}
use Rattle.history.specs.declared.row.Row.{Row}
use Rattle.history.specs.declared.row.Request.TheVariants.{Do, Undo, Redo}
use Rattle.history.specs.declared.row.RowReply.TheVariants.{Answered, Undid, UndoRefused, Redid, RedoRefused}
use Rattle.history.specs.Rows.{Call, calls_of, unless_undone, meets, answered, row_of_undo, row_of_redo, mark, undone, redone, rows_undone, rows_redone, redo_refusal, or_blocked, row_refusal, accepted, with_command, survivor, survivors, first_met, blocker_at, refusal_at, undo_refusal, after, after_commands, replay, AnswersHere, AnswersAlike, rows_after, run}

module _ {O : Type 0} where
  calls-push : (rows : List (Row O)) (row : Row O) → calls_of (rows ++ row ∷ []) ≡ calls_of rows ++ (row.operator, row.request) ∷ []
  calls-push [] row = refl
  calls-push (r ∷ rows) row = ap (λ cs. (r.operator, r.request) ∷ cs) (calls-push rows row)

  calls-mark : (rows : List (Row O)) (k : ℕ) (by : Option ℕ) → calls_of (mark rows k by) ≡ calls_of rows
  calls-mark [] k by = refl
  calls-mark (r ∷ rows) zero by = refl
  calls-mark (r ∷ rows) (suc k) by = ap (λ cs. (r.operator, r.request) ∷ cs) (calls-mark rows k by)

  calls-undone : (rows : List (Row O)) (n by : ℕ) → calls_of (undone rows n by) ≡ calls_of rows
  calls-undone rows zero by = refl
  calls-undone rows (suc k) by = calls-mark rows k (Some by)

  calls-redone : (rows : List (Row O)) (n : ℕ) → calls_of (redone rows n) ≡ calls_of rows
  calls-redone rows zero = refl
  calls-redone rows (suc k) = calls-mark rows k None

  calls-rows_undone : (operator : List ℕ) (rows : List (Row O)) (n : ℕ) (u : Option UndoRefusal) → calls_of (rows_undone operator rows n u) ≡ calls_of rows ++ (operator, Undo n) ∷ []
  calls-rows_undone operator rows n None =
      calls-push (undone rows n (length rows + 1)) (row_of_undo operator n (Undid n)) ∙ ap (λ (cs : List (Call O)). cs ++ (operator, Undo n) ∷ []) (calls-undone rows n (length rows + 1))
  calls-rows_undone operator rows n (Some u) = calls-push rows (row_of_undo operator n (UndoRefused u))

  calls-rows_redone : (operator : List ℕ) (rows : List (Row O)) (n : ℕ) (u : Option RedoRefusal) → calls_of (rows_redone operator rows n u) ≡ calls_of rows ++ (operator, Redo n) ∷ []
  calls-rows_redone operator rows n None =
      calls-push (redone rows n) (row_of_redo operator n (Redid n)) ∙ ap (λ (cs : List (Call O)). cs ++ (operator, Redo n) ∷ []) (calls-redone rows n)
  calls-rows_redone operator rows n (Some u) = calls-push rows (row_of_redo operator n (RedoRefused u))

  pub length-mark : (rows : List (Row O)) (k : ℕ) (by : Option ℕ) → length (mark rows k by) ≡ length rows
  length-mark [] k by = refl
  length-mark (row ∷ rows) zero by = refl
  length-mark (row ∷ rows) (suc k) by = ap suc (length-mark rows k by)

-- what it means if a test finds no row
pub not_first : (b : Bool) (at : ℕ) (rest : Option ℕ) → cond b (Some at) rest ≡ None → (b ≡ false) × (rest ≡ None)
not_first true at rest h = cc
not_first false at rest h = (refl, h)

none_any : {A : Type 0} (p : A → Bool) (xs : List A) → list_any p xs ≡ false → All (λ x. p x ≡ false) xs
none_any p [] h = All-nil (λ x. p x ≡ false)
none_any p (x ∷ xs) h = let parts = or_parts (p x) (list_any p xs) h in All-cons (λ x. p x ≡ false) x xs parts.0 (none_any p xs parts.1)

pub not_meeting : (changes : List Change) (reading : List Observation) → meets changes reading ≡ false → Untouched changes (keys_of reading)
not_meeting changes reading h =
    All-map (λ key. All (λ change. touches change key ≡ false) changes) (λ (o : Observation). o.key) reading
    (All-weaker (λ (o : Observation). list_any (λ change. touches change o.key) changes ≡ false) (λ (o : Observation). All (λ change. touches change o.key ≡ false) changes)
    (λ o none. none_any (λ change. touches change o.key) changes none) reading (none_any (λ (o : Observation). list_any (λ change. touches change o.key) changes) reading h))

some_of : {A : Type 0} (o : Option A) → is_some o ≡ true → (a : A) × (o ≡ Some a)
some_of None h = absurd (false≢true h)
some_of (Some a) h = (a, refl)

-- what it means if there is no refusal
unrefused : (a : Option UndoRefusal) (b : Option ℕ) → or_blocked a b ≡ None → (a ≡ None) × (b ≡ None)
unrefused (Some u) b h = cc
unrefused None (Some m) h = cc
unrefused None None h = (refl, refl)

free_command : {O : Type 0} (command : Option O) (by : Option ℕ) → row_refusal command by ≡ None → (is_some (unless_undone by command) ≡ true) × (by ≡ None)
free_command None by h = cc
free_command (Some c) None h = (refl, refl)
free_command (Some c) (Some by) h = cc

module _ {O : Type 0} (asks : O → Bool) where
  -- a row that may be undone: a survivor that no row blocks
  pub record IsFree (rows : List (Row O)) (k : ℕ) (row : Row O) : Type 0 where
    pub here : slice_get rows k ≡ Some row
    pub stands : is_some (survivor asks row) ≡ true
    pub unmarked : row.undone_by ≡ None
    pub unblocked : first_met asks row.changes (drop (suc k) rows) (suc k + 1) ≡ None

  unblocked_at : (rows : List (Row O)) (n : ℕ) (row : Row O) → is_some (survivor asks row) ≡ true → blocker_at asks rows n (Some row) ≡ None → first_met asks row.changes (drop n rows) (n + 1) ≡ None
  unblocked_at rows n row stands none = sym (ap (λ (b : Bool). cond b (first_met asks row.changes (drop n rows) (n + 1)) None) stands) ∙ none

  free_at : (rows : List (Row O)) (k : ℕ) (o : Option (Row O)) → slice_get rows k ≡ o → refusal_at asks rows (suc k) o ≡ None → (row : Row O) × IsFree rows k row
  free_at rows k None is h = cc
  free_at rows k (Some row) is h =
      let both = unrefused (row_refusal (accepted asks row.request row.reply) row.undone_by) (blocker_at asks rows (suc k) (Some row)) h in
      let free = free_command (accepted asks row.request row.reply) row.undone_by both.0 in
      (row, record { here = is; stands = free.0; unmarked = free.1; unblocked = unblocked_at rows (suc k) row free.0 both.1 })

  -- an undo that isn't refused is of such a row
  pub free_row : (rows : List (Row O)) (k : ℕ) → undo_refusal asks rows (suc k) ≡ None → (row : Row O) × IsFree rows k row
  free_row rows k h = free_at rows k (slice_get rows k) refl h

  module _ (meaning : O → Inquiry Effect) where
    -- the replay runs the commands of the survivors
    replay_command : (command : Option O) (commands : List O) (t : Entries) → after_commands meaning commands (after asks meaning command t) ≡ after_commands meaning (with_command command commands) t
    replay_command None commands t = refl
    replay_command (Some c) commands t = refl

    pub replay_survivors : (t : Entries) (rows : List (Row O)) → replay asks meaning t rows ≡ after_commands meaning (survivors asks rows) t
    replay_survivors t [] = refl
    replay_survivors t (row ∷ rows) =
        replay_survivors (after asks meaning (survivor asks row) t) rows ∙ replay_command (survivor asks row) (survivors asks rows) t

    pub calls-after : (first : Entries) (rows : List (Row O)) (call : Call O) → calls_of (rows_after asks meaning first rows call) ≡ calls_of rows ++ call ∷ []
    calls-after first rows (operator, Do c) = calls-push rows (answered operator c (outcome_of meaning c (replay asks meaning first rows)))
    calls-after first rows (operator, Undo n) = calls-rows_undone operator rows n (undo_refusal asks rows n)
    calls-after first rows (operator, Redo n) = calls-rows_redone operator rows n (redo_refusal asks rows n)

    pub run-push : (first : Entries) (rows : List (Row O)) (calls : List (Call O)) (call : Call O) → run asks meaning first rows (calls ++ call ∷ []) ≡ rows_after asks meaning first (run asks meaning first rows calls) call
    run-push first rows [] call = refl
    run-push first rows (c ∷ calls) call = run-push first (rows_after asks meaning first rows c) calls call

    -- after one more call of the state machine, the rows are still the state machine's
    pub legal-after : (first : Entries) (rows : List (Row O)) (call : Call O) → rows ≡ run asks meaning first [] (calls_of rows)
        → rows_after asks meaning first rows call ≡ run asks meaning first [] (calls_of (rows_after asks meaning first rows call))
    legal-after first rows call legal =
        ap (λ (rs : List (Row O)). rows_after asks meaning first rs call) legal ∙ sym (run-push first [] (calls_of rows) call)
        ∙ ap (run asks meaning first []) (sym (calls-after first rows call))

    pub replay-push : (t : Entries) (rows : List (Row O)) (row : Row O) → replay asks meaning t (rows ++ row ∷ []) ≡ after asks meaning (survivor asks row) (replay asks meaning t rows)
    replay-push t [] row = refl
    replay-push t (r ∷ rows) row = replay-push (after asks meaning (survivor asks r) t) rows row

    pub alike-push : (t : Entries) (rows : List (Row O)) (row : Row O) → AnswersAlike asks meaning t rows → AnswersHere asks meaning (survivor asks row) (replay asks meaning t rows) row
        → AnswersAlike asks meaning t (rows ++ row ∷ [])
    alike-push t [] row h here = (here, tt)
    alike-push t (r ∷ rows) row h here = (h.0, alike-push (after asks meaning (survivor asks r) t) rows row h.1 here)

module _ {O : Type 0} {asks : O → Bool} {meaning : O → Inquiry Effect} (laws : OperationLaws asks meaning) where
  or_cases : (a b : Bool) → (a || b) ≡ true → (a ≡ true) ⊎ (b ≡ true)
  or_cases true b h = inl refl
  or_cases false b h = inr h

  -- a refused call or a question has no changes
  pub no_changes : (c : O) (t : Entries) → (asks c || is_refused (outcome_of meaning c t).answer) ≡ true → (outcome_of meaning c t).changes ≡ []
  no_changes c t idle = elim (or_cases (asks c) (is_refused (outcome_of meaning c t).answer) idle) [
    | inl question ↦ laws.question c t question
    | inr refused ↦ laws.refusal c t refused
  ]

  -- the new row survives if it is an accepted command, and otherwise changes nothing
  pub new_row : (operator : List ℕ) (c : O) (t : Entries)
      → (after asks meaning (survivor asks (answered operator c (outcome_of meaning c t))) t ≡ after_changes (outcome_of meaning c t).changes t)
      × AnswersHere asks meaning (survivor asks (answered operator c (outcome_of meaning c t))) t (answered operator c (outcome_of meaning c t))
  new_row operator c t =
      let done = outcome_of meaning c t in
      let Goal : Bool → Type 0 = λ idle. (after asks meaning (cond idle None (Some c)) t ≡ after_changes done.changes t) × AnswersHere asks meaning (cond idle None (Some c)) t (answered operator c done) in
      elim (cases_Bool (asks c || is_refused done.answer)) [
        | inl idle ↦ subst Goal (sym idle) (ap (λ (cs : List Change). after_changes cs t) (sym (no_changes c t idle)), tt)
        | inr away ↦ subst Goal (sym away) (refl, (refl, refl, refl))
      ]

  -- Changes before rows that didn't look at what they touch: `ds` is made, and `cs`, which is `ds`
  -- or its inverse, touches nothing that is looked at.
  module _ (cs ds : List Change) (same_keys : (keys : List Key) → Untouched cs keys → Untouched ds keys) where
    -- one command does the same after them, and they can be made after it
    row_apart : (o : Option O) (t : Entries) (row : Row O) → AnswersHere asks meaning o t row → AreFrom t ds → (is_some o && meets cs row.reading) ≡ false
        → AnswersHere asks meaning o (after_changes ds t) row
        × (after asks meaning o (after_changes ds t) ≡ after_changes ds (after asks meaning o t))
        × AreFrom (after asks meaning o t) ds
    row_apart None t row h from apart = (tt, refl, from)
    row_apart (Some c) t row h from apart =
        let keys = (meaning c).keys t in
        let seen : Untouched cs (keys_of (reading_of keys t)) = subst (λ (r : List Observation). Untouched cs (keys_of r)) h.2 (not_meeting cs row.reading apart) in
        let one = untouched_step laws ds c t from (same_keys keys (untouched_keys cs keys t seen)) in
        let u : Entries = after_changes ds t in (
          (h.0 ∙ ap (λ (o : Outcome). Answered o.answer) one.0, h.1 ∙ ap (λ (o : Outcome). o.changes) one.0, h.2 ∙ ap (λ (o : Outcome). o.reading) one.0),
          ap (λ (o : Outcome). after_changes o.changes u) (sym one.0) ∙ one.1,
          one.2,
        )

    -- the rows have the same answers after them, and the final tree is the same with them
    pub rows_apart : (rows : List (Row O)) (t : Entries) (at : ℕ) → AnswersAlike asks meaning t rows → AreFrom t ds → first_met asks cs rows at ≡ None
        → AnswersAlike asks meaning (after_changes ds t) rows
        × (replay asks meaning (after_changes ds t) rows ≡ after_changes ds (replay asks meaning t rows))
        × AreFrom (replay asks meaning t rows) ds
    rows_apart [] t at h from none = (tt, refl, from)
    rows_apart (row ∷ rows) t at h from none =
        let parts = not_first (is_some (survivor asks row) && meets cs row.reading) at (first_met asks cs rows (at + 1)) none in
        let one = row_apart (survivor asks row) t row h.0 from parts.0 in
        let rest = rows_apart rows (after asks meaning (survivor asks row) t) (at + 1) h.1 one.2 parts.1 in
        ((one.0, subst (λ (u : Entries). AnswersAlike asks meaning u rows) (sym one.1) rest.0), ap (λ (u : Entries). replay asks meaning u rows) one.1 ∙ rest.1, rest.2)

  removed_first : (rows : List (Row O)) (t : Entries) (at : ℕ) (r : Row O) (c : O) → survivor asks r ≡ Some c → AnswersAlike asks meaning t (r ∷ rows) → first_met asks r.changes rows at ≡ None
      → AnswersAlike asks meaning t rows
      × (replay asks meaning t rows ≡ after_changes (inverse_of r.changes) (replay asks meaning t (r ∷ rows)))
      × AreFrom (replay asks meaning t (r ∷ rows)) (inverse_of r.changes)
  removed_first rows t at r c there h none =
      let here = subst (λ (o : Option O). AnswersHere asks meaning o t r) there h.0 in
      let cs = r.changes in
      let from : AreFrom t cs = subst (AreFrom t) (sym here.1) (laws.changes c t).from in
      let u : Entries = after_changes cs t in
      let u_is : after asks meaning (survivor asks r) t ≡ u = ap (λ (o : Option O). after asks meaning o t) there ∙ ap (λ (xs : List Change). after_changes xs t) (sym here.1) in
      let rest = rows_apart cs (inverse_of cs) (untouched-inverse cs) rows u at (subst (λ (x : Entries). AnswersAlike asks meaning x rows) u_is h.1) (inverse_from t cs from) none in
      let back : after_changes (inverse_of cs) u ≡ t = inverse_undoes t cs from in (
        subst (λ (x : Entries). AnswersAlike asks meaning x rows) back rest.0,
        ap (λ (x : Entries). replay asks meaning x rows) (sym back) ∙ rest.1 ∙ ap (λ (x : Entries). after_changes (inverse_of cs) (replay asks meaning x rows)) (sym u_is),
        subst (λ (x : Entries). AreFrom (replay asks meaning x rows) (inverse_of cs)) (sym u_is) rest.2,
      )

  -- THE REMOVAL: if no later survivor looked at what a survivor changed, reverting its changes in
  -- the tree gives the replay without it, and every other survivor has its answer.
  pub removed : (rows : List (Row O)) (t : Entries) (k at by : ℕ) (row : Row O) → AnswersAlike asks meaning t rows → slice_get rows k ≡ Some row → is_some (survivor asks row) ≡ true
      → first_met asks row.changes (drop (suc k) rows) at ≡ None
      → AnswersAlike asks meaning t (mark rows k (Some by))
      × (replay asks meaning t (mark rows k (Some by)) ≡ after_changes (inverse_of row.changes) (replay asks meaning t rows))
      × AreFrom (replay asks meaning t rows) (inverse_of row.changes)
  removed [] t k at by row h is stands none = cc
  removed (r ∷ rows) t zero at by row h is stands none =
      let same : row ≡ r = cc in
      let some = some_of (survivor asks r) (subst (λ (x : Row O). is_some (survivor asks x) ≡ true) same stands) in
      let one = removed_first rows t at r some.0 some.1 h (subst (λ (x : Row O). first_met asks x.changes rows at ≡ None) same none) in
      ((tt, one.0), one.1 ∙ ap (λ (x : Row O). after_changes (inverse_of x.changes) (replay asks meaning t (r ∷ rows))) (sym same), subst (λ (x : Row O). AreFrom (replay asks meaning t (r ∷ rows)) (inverse_of x.changes)) (sym same) one.2)
  removed (r ∷ rows) t (suc k) at by row h is stands none =
      let rest = removed rows (after asks meaning (survivor asks r) t) k at by row h.1 is stands none in
      ((h.0, rest.0), rest.1, rest.2)
