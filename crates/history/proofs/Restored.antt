-- The replay after an undone command that no row hinders is put back at its place.
use Rattle.std.proofs.Common.{◌≡◌, ◌+◌, ◌-◌, ◌<◌, ◌&&◌, ℕ, zero, suc, Bool, false, List, [], ◌∷◌, Option, Some, None, is_some, slice_get, take, drop, refl, sym, ap, subst, ◌∙◌, arith}
use Rattle.std.proofs.lemmas.List.Elements.{All-head, All-tail, All-cons, All-nil}
use Rattle.link_tree.specs.declared.change.Change.{Change}
use Rattle.link_tree.specs.Trees.{Entries, AreFrom, after_changes}
use Rattle.tree_access.specs.declared.key.Key.{Key}
use Rattle.footprint.specs.declared.outcome.Outcome.{Outcome}
use Rattle.tree_access.specs.declared.reading.Observation.{Observation}
use Rattle.footprint.specs.Inquiry.{Inquiry}
use Rattle.tree_access.specs.Keys.{Agree, AgreeOn, Untouched}
use Rattle.tree_access.proofs.KeyLaws.{agree_on_after}
use Rattle.footprint.specs.Operations.{Effect, outcome_of, OperationLaws}
use Rattle.tree_access.specs.Readings.{keys_of}
use Rattle.footprint.proofs.Outcomes.{comes_to_the_same}
use Rattle.tree_access.proofs.Untouched.{agree_on_untouched}
use Rattle.history.specs.declared.row.RedoRefusal.{RedoRefusal}
use Rattle.history.specs.declared.row.Row.{Row}
use Rattle.history.specs.declared.row.RowReply.TheVariants.{Answered}
use Rattle.history.specs.Rows.{unless_undone, meets, mark, accepted, survivor, undone_command, or_hindered, or_later, row_redo_refusal, differ, has_flipped, first_flipped, first_met, undoer_before, hindrance_since, hindrance_at, redo_refusal_at, redo_refusal, after, replay, AnswersHere, AnswersAlike}
use Rattle.history.proofs.Replayed.{not_first, not_meeting, rows_apart}

-- ---- rows with the marks of another moment
module _ {O : Type 0} where
  -- the rows, numbered from `at` on, each with the mark of its number
  abbrev pub remark : (ℕ → Option ℕ) → List (Row O) → ℕ → List (Row O)
  remark marks [] at = []
  remark marks (row ∷ rows) at = record row { undone_by = marks at } ∷ remark marks rows (at + 1)

unhindered : (a : Option RedoRefusal) (b : Option ℕ) → or_hindered a b ≡ None → (a ≡ None) × (b ≡ None)
unhindered (Some u) b h = cc
unhindered None (Some m) h = cc
unhindered None None h = (refl, refl)

neither : (a b : Option ℕ) → or_later a b ≡ None → (a ≡ None) × (b ≡ None)
neither (Some m) b h = cc
neither None b h = (refl, h)

agree_over : (keys : List Key) (t u w : Entries) → AgreeOn keys t u → AgreeOn keys u w → AgreeOn keys t w
agree_over [] t u w one other = All-nil (λ key. Agree key t w)
agree_over (key ∷ keys) t u w one other =
    All-cons (λ key. Agree key t w) key keys (All-head (λ key. Agree key t u) key keys one ∙ All-head (λ key. Agree key u w) key keys other)
    (agree_over keys t u w (All-tail (λ key. Agree key t u) key keys one) (All-tail (λ key. Agree key u w) key keys other))

agree_back : (keys : List Key) (t u : Entries) → AgreeOn keys t u → AgreeOn keys u t
agree_back [] t u agree = All-nil (λ key. Agree key u t)
agree_back (key ∷ keys) t u agree =
    All-cons (λ key. Agree key u t) key keys (sym (All-head (λ key. Agree key t u) key keys agree)) (agree_back keys t u (All-tail (λ key. Agree key t u) key keys agree))

agree_itself : (keys : List Key) (t : Entries) → AgreeOn keys t t
agree_itself [] t = All-nil (λ key. Agree key t t)
agree_itself (key ∷ keys) t = All-cons (λ key. Agree key t t) key keys refl (agree_itself keys t)

module _ {O : Type 0} (asks : O → Bool) where
  -- a row that may be redone: an undone command that no row hinders
  pub record IsRedoable (rows : List (Row O)) (k : ℕ) (row : Row O) : Type 0 where
    pub command : O
    pub by : ℕ
    pub here : slice_get rows k ≡ Some row
    pub is : accepted asks row.request row.reply ≡ Some command
    pub undone : row.undone_by ≡ Some by
    pub unflipped : first_flipped asks (undoer_before rows by) row.reading (take k rows) 1 ≡ None
    pub unmet : first_met asks row.changes (drop (suc k) rows) (suc k + 1) ≡ None

  -- the hindrance of a row whose command and mark are known
  unhindered_at : (rows : List (Row O)) (k : ℕ) (row : Row O) (c : O) (by : ℕ) → accepted asks row.request row.reply ≡ Some c → row.undone_by ≡ Some by
      → hindrance_at asks rows (suc k) (Some row) ≡ None
      → (first_flipped asks (undoer_before rows by) row.reading (take k rows) 1 ≡ None) × (first_met asks row.changes (drop (suc k) rows) (suc k + 1) ≡ None)
  unhindered_at rows k row c by is undone none =
      let place : suc k - 1 ≡ k = omega arith in
      let parts = neither (first_flipped asks (undoer_before rows by) row.reading (take (suc k - 1) rows) 1) (first_met asks row.changes (drop (suc k) rows) (suc k + 1))
      (sym (ap (λ (o : Option O). hindrance_since asks rows (suc k) row (undone_command o row.undone_by)) is ∙ ap (hindrance_since asks rows (suc k) row) undone) ∙ none) in
      (subst (λ (i : ℕ). first_flipped asks (undoer_before rows by) row.reading (take i rows) 1 ≡ None) place parts.0, parts.1)

  pub free_hindrance : (rows : List (Row O)) (k : ℕ) (row : Row O) (c : O) (by : ℕ) → slice_get rows k ≡ Some row → accepted asks row.request row.reply ≡ Some c → row.undone_by ≡ Some by
      → hindrance_at asks rows (suc k) (Some row) ≡ None → IsRedoable rows k row
  free_hindrance rows k row c by here is undone none =
      let parts = unhindered_at rows k row c by is undone none in
      record { command = c; by = by; here = here; is = is; undone = undone; unflipped = parts.0; unmet = parts.1 }

  redoable_by : (rows : List (Row O)) (k : ℕ) (row : Row O) → slice_get rows k ≡ Some row → (command : Option O) → accepted asks row.request row.reply ≡ command → (by : Option ℕ) → row.undone_by ≡ by
      → or_hindered (row_redo_refusal command by) (hindrance_at asks rows (suc k) (Some row)) ≡ None → IsRedoable rows k row
  redoable_by rows k row here None is by undone h = cc
  redoable_by rows k row here (Some c) is None undone h = cc
  redoable_by rows k row here (Some c) is (Some by) undone h = free_hindrance rows k row c by here is undone (unhindered None (hindrance_at asks rows (suc k) (Some row)) h).1

  redoable_at : (rows : List (Row O)) (k : ℕ) (o : Option (Row O)) → slice_get rows k ≡ o → redo_refusal_at asks rows (suc k) o ≡ None → (row : Row O) × IsRedoable rows k row
  redoable_at rows k None is h = cc
  redoable_at rows k (Some row) is h = (row, redoable_by rows k row is (accepted asks row.request row.reply) refl row.undone_by refl h)

  -- a redo that isn't refused is of such a row
  pub free_redo : (rows : List (Row O)) (k : ℕ) → redo_refusal asks rows (suc k) ≡ None → (row : Row O) × IsRedoable rows k row
  free_redo rows k h = redoable_at rows k (slice_get rows k) refl h

module _ {O : Type 0} {asks : O → Bool} {meaning : O → Inquiry Effect} (laws : OperationLaws asks meaning) where
  -- the answer, changes and reading of a row don't depend on its mark
  unmarked_answers : (o : Option O) (t : Entries) (row : Row O) (by : Option ℕ) → AnswersHere asks meaning o t (record row { undone_by = by }) → AnswersHere asks meaning o t row
  unmarked_answers None t row by h = tt
  unmarked_answers (Some c) t row by h = h

  marked_answers : (o : Option O) (t : Entries) (row : Row O) (by : Option ℕ) → AnswersHere asks meaning o t row → AnswersHere asks meaning o t (record row { undone_by = by })
  marked_answers None t row by h = tt
  marked_answers (Some c) t row by h = h

  -- the rows before an index have their answers too
  pub alike_front : (rows : List (Row O)) (t : Entries) (k : ℕ) → AnswersAlike asks meaning t rows → AnswersAlike asks meaning t (take k rows)
  alike_front rows t zero h = tt
  alike_front [] t (suc k) h = tt
  alike_front (r ∷ rows) t (suc k) h = (h.0, alike_front rows (after asks meaning (survivor asks r) t) k h.1)

  -- the answer of a row at another moment, and the rows before it
  pub alike_then : (marks : ℕ → Option ℕ) (rows : List (Row O)) (t : Entries) (at v k : ℕ) (row : Row O) → k < v → slice_get rows k ≡ Some row → AnswersAlike asks meaning t (remark marks (take v rows) at)
      → AnswersAlike asks meaning t (remark marks (take k rows) at)
      × AnswersHere asks meaning (unless_undone (marks (at + k)) (accepted asks row.request row.reply)) (replay asks meaning t (remark marks (take k rows) at)) row
  alike_then marks rows t at zero k row lt is h = absurd (omega (arith, lt))
  alike_then marks [] t at (suc v) k row lt is h = cc
  alike_then marks (r ∷ rows) t at (suc v) zero row lt is h =
      let same : r ≡ row = cc in
      let number : at ≡ at + 0 = omega arith in (
        tt,
        subst (λ (i : ℕ). AnswersHere asks meaning (unless_undone (marks i) (accepted asks row.request row.reply)) t row) number
            (subst (λ (x : Row O). AnswersHere asks meaning (unless_undone (marks at) (accepted asks x.request x.reply)) t x) same
            (unmarked_answers (unless_undone (marks at) (accepted asks r.request r.reply)) t r (marks at) h.0)),
      )
  alike_then marks (r ∷ rows) t at (suc v) (suc k) row lt is h =
      let number : at + 1 + k ≡ at + suc k = omega arith in
      let old : Row O = record r { undone_by = marks at } in
      let u = after asks meaning (survivor asks old) t in
      let rest = alike_then marks rows u (at + 1) v k row (omega (arith, lt)) is h.1 in
      ((h.0, rest.0), subst (λ (i : ℕ). AnswersHere asks meaning (unless_undone (marks i) (accepted asks row.request row.reply)) (replay asks meaning u (remark marks (take k rows) (at + 1))) row) number rest.1)

  module _ (marks : ℕ → Option ℕ) (reading : List Observation) where
    -- a row has the same effect on the values of the reading's keys, now and then
    row_alike : (row : Row O) (c : Option O) (now was : Option ℕ) (t u : Entries) → AgreeOn (keys_of reading) t u
        → AnswersHere asks meaning (unless_undone now c) t row → AnswersHere asks meaning (unless_undone was c) u row
        → ((is_some c && differ was now) && meets row.changes reading) ≡ false
        → AgreeOn (keys_of reading) (after asks meaning (unless_undone now c) t) (after asks meaning (unless_undone was c) u)
    row_alike row None None None t u agree here there off = agree
    row_alike row None None (Some m) t u agree here there off = agree
    row_alike row None (Some m) None t u agree here there off = agree
    row_alike row None (Some m) (Some l) t u agree here there off = agree
    row_alike row (Some c) None None t u agree here there off =
        subst (λ (cs : List Change). AgreeOn (keys_of reading) (after_changes cs t) (after_changes (outcome_of meaning c u).changes u)) here.1
        (subst (λ (cs : List Change). AgreeOn (keys_of reading) (after_changes row.changes t) (after_changes cs u)) there.1 (agree_on_after (keys_of reading) row.changes t u agree))
    row_alike row (Some c) None (Some m) t u agree here there off =
        let cs = (outcome_of meaning c t).changes in
        let free = agree_on_untouched (keys_of reading) cs t (laws.changes c t).from (subst (λ (xs : List Change). Untouched xs (keys_of reading)) here.1 (not_meeting row.changes reading off)) in
        agree_over (keys_of reading) (after_changes cs t) t u (agree_back (keys_of reading) t (after_changes cs t) free) agree
    row_alike row (Some c) (Some m) None t u agree here there off =
        let cs = (outcome_of meaning c u).changes in
        let free = agree_on_untouched (keys_of reading) cs u (laws.changes c u).from (subst (λ (xs : List Change). Untouched xs (keys_of reading)) there.1 (not_meeting row.changes reading off)) in
        agree_over (keys_of reading) t u (after_changes cs u) agree free
    row_alike row (Some c) (Some m) (Some l) t u agree here there off = agree

    -- The view: the values of a reading's keys in the replay depend only on those commands that
    -- touch one of them, so if none of these has flipped, the values are the same.
    pub seen_alike : (rows : List (Row O)) (at : ℕ) (t u : Entries) → AgreeOn (keys_of reading) t u → AnswersAlike asks meaning t rows → AnswersAlike asks meaning u (remark marks rows at)
        → first_flipped asks marks reading rows at ≡ None → AgreeOn (keys_of reading) (replay asks meaning t rows) (replay asks meaning u (remark marks rows at))
    seen_alike [] at t u agree now was none = agree
    seen_alike (row ∷ rows) at t u agree now was none =
        let parts = not_first (has_flipped asks (marks at) row && meets row.changes reading) at (first_flipped asks marks reading rows (at + 1)) none in
        let c = accepted asks row.request row.reply in
        seen_alike rows (at + 1) (after asks meaning (unless_undone row.undone_by c) t) (after asks meaning (unless_undone (marks at) c) u)
        (row_alike row c row.undone_by (marks at) t u agree now.0 (unmarked_answers (unless_undone (marks at) c) u row (marks at) was.0) parts.0) now.1 was.1 parts.1

  -- So a command has the same answer now as then.
  pub answers_again : (marks : ℕ → Option ℕ) (rows : List (Row O)) (first : Entries) (v k : ℕ) (row : Row O) (c : O) → k < v → slice_get rows k ≡ Some row
      → accepted asks row.request row.reply ≡ Some c → marks (1 + k) ≡ None → AnswersAlike asks meaning first rows → AnswersAlike asks meaning first (remark marks (take v rows) 1)
      → first_flipped asks marks row.reading (take k rows) 1 ≡ None → AnswersHere asks meaning (Some c) (replay asks meaning first (take k rows)) row
  answers_again marks rows first v k row c lt here is stood now was none =
      let old = alike_then marks rows first 1 v k row lt here was in
      let t = replay asks meaning first (take k rows) in
      let u = replay asks meaning first (remark marks (take k rows) 1) in
      let there : AnswersHere asks meaning (Some c) u row =
      subst (λ (o : Option O). AnswersHere asks meaning o u row) (ap (λ (by : Option ℕ). unless_undone by (accepted asks row.request row.reply)) stood ∙ is) old.1 in
      let agree : AgreeOn (keys_of row.reading) t u =
      seen_alike marks row.reading (take k rows) 1 first first (agree_itself (keys_of row.reading) first) (alike_front rows first k now) old.0 none in
      let same : outcome_of meaning c u ≡ outcome_of meaning c t =
      comes_to_the_same meaning c u t (subst (λ (r : List Observation). AgreeOn (keys_of r) u t) there.2 (agree_back (keys_of row.reading) t u agree)) in
      (there.0 ∙ ap (λ (o : Outcome). Answered o.answer) same, there.1 ∙ ap (λ (o : Outcome). o.changes) same, there.2 ∙ ap (λ (o : Outcome). o.reading) same)

  restored_first : (rows : List (Row O)) (t : Entries) (at : ℕ) (r : Row O) (c : O) → accepted asks r.request r.reply ≡ Some c → AnswersHere asks meaning (Some c) t r
      → AnswersAlike asks meaning t rows → first_met asks r.changes rows at ≡ None
      → AnswersAlike asks meaning t (record r { undone_by = None } ∷ rows)
      × (replay asks meaning t (record r { undone_by = None } ∷ rows) ≡ after_changes r.changes (replay asks meaning t rows))
      × AreFrom (replay asks meaning t rows) r.changes
  restored_first rows t at r c is here h none =
      let cs = r.changes in
      let from : AreFrom t cs = subst (AreFrom t) (sym here.1) (laws.changes c t).from in
      let rest = rows_apart laws cs cs (λ keys free. free) rows t at h from none in
      let after_is : after asks meaning (accepted asks r.request r.reply) t ≡ after_changes cs t =
      ap (λ (o : Option O). after asks meaning o t) is ∙ ap (λ (xs : List Change). after_changes xs t) (sym here.1) in (
        (marked_answers (accepted asks r.request r.reply) t r None (subst (λ (o : Option O). AnswersHere asks meaning o t r) (sym is) here), subst (λ (u : Entries). AnswersAlike asks meaning u rows) (sym after_is) rest.0),
        ap (λ (u : Entries). replay asks meaning u rows) after_is ∙ rest.1,
        rest.2,
      )

  -- The return: if a command has its answer at its place, and no later survivor looked at what it
  -- changed, making its changes in the tree gives the replay with it, and every survivor has its
  -- answer.
  pub restored : (rows : List (Row O)) (t : Entries) (k at : ℕ) (row : Row O) (c : O) (by : ℕ) → AnswersAlike asks meaning t rows → slice_get rows k ≡ Some row
      → accepted asks row.request row.reply ≡ Some c → row.undone_by ≡ Some by → AnswersHere asks meaning (Some c) (replay asks meaning t (take k rows)) row
      → first_met asks row.changes (drop (suc k) rows) at ≡ None
      → AnswersAlike asks meaning t (mark rows k None)
      × (replay asks meaning t (mark rows k None) ≡ after_changes row.changes (replay asks meaning t rows))
      × AreFrom (replay asks meaning t rows) row.changes
  restored [] t k at row c by h there is undone here none = cc
  restored (r ∷ rows) t zero at row c by h there is undone here none =
      let same : row ≡ r = cc in
      let gone : survivor asks r ≡ None =
      subst (λ (x : Row O). survivor asks x ≡ None) same (ap (λ (o : Option ℕ). unless_undone o (accepted asks row.request row.reply)) undone) in
      let rest : AnswersAlike asks meaning t rows = subst (λ (o : Option O). AnswersAlike asks meaning (after asks meaning o t) rows) gone h.1 in
      let one = restored_first rows t at row c is here rest none in
      let tree_is : replay asks meaning t (r ∷ rows) ≡ replay asks meaning t rows = ap (λ (o : Option O). replay asks meaning (after asks meaning o t) rows) gone in (
        subst (λ (x : Row O). AnswersAlike asks meaning t (record x { undone_by = None } ∷ rows)) same one.0,
        ap (λ (x : Row O). replay asks meaning t (record x { undone_by = None } ∷ rows)) (sym same) ∙ one.1 ∙ ap (after_changes row.changes) (sym tree_is),
        subst (λ (u : Entries). AreFrom u row.changes) (sym tree_is) one.2,
      )
  restored (r ∷ rows) t (suc k) at row c by h there is undone here none =
      let rest = restored rows (after asks meaning (survivor asks r) t) k at row c by h.1 there is undone here none in
      ((h.0, rest.0), rest.1, rest.2)
