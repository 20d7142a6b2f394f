-- Calls preserve the history's invariant: its rows are the state machine's, and its tree is the
-- replay.
use Rattle.std.proofs.Common.{◌≡◌, ◌+◌, ◌-◌, ◌<◌, ◌≤◌, ℕ, zero, suc, Bool, true, List, [], ◌∷◌, ◌++◌, Option, Some, None, is_some, slice_get, get_or, set, length-append, length, refl, sym, ap, subst, ◌∙◌, arith, All}
use Rattle.std.proofs.lemmas.Option.{slice_get_within, slice_get_read}
use Rattle.std.proofs.lemmas.List.Elements.{All-head, All-tail, All-cons, All-nil, All-append}
use Rattle.unit_paths.specs.Slots.{is_slot}
use Rattle.link_tree.specs.Trees.{Entries, AreFrom, after_changes, inverse_of}
use Rattle.footprint.specs.Inquiry.{Inquiry}
use Rattle.footprint.specs.Operations.{Effect, outcome_of, OperationLaws}
use Rattle.history.specs.declared.row.UndoRefusal.{UndoRefusal}
use Rattle.history.specs.declared.row.RedoRefusal.{RedoRefusal}
use Rattle.history.specs.declared.row.Row.{Row}
use Rattle.history.specs.declared.row.Request.TheVariants.{Do, Undo, Redo}
use Rattle.history.specs.declared.row.RowReply.TheVariants.{Undid, UndoRefused, Redid, RedoRefused}
use Rattle.history.specs.Logs.{Log}
use Rattle.history.specs.Rows.{row_at, answered, row_of_undo, row_of_redo, mark, undone, redone, rows_undone, rows_redone, ChangesSlots, accepted, survivor, undo_refusal, redo_refusal, after, calls_of, run, AnswersAlike, IsKept}
use Rattle.history.proofs.Replayed.{length-mark, free_row, legal-after, replay-push, new_row, removed}
use Rattle.history.proofs.Restored.{free_redo}
use Rattle.history.proofs.Moments.{alike_now, put_back, remembers-legal}

module _ {O : Type 0} where
  slots-push : (rows : List (Row O)) (row : Row O) → All (ChangesSlots {O = O}) rows → ChangesSlots row → All (ChangesSlots {O = O}) (rows ++ row ∷ [])
  slots-push rows row all here = All-append (ChangesSlots {O = O}) rows (row ∷ []) all (All-cons (ChangesSlots {O = O}) row [] here (All-nil (ChangesSlots {O = O})))

  -- marking a row doesn't change its changes
  mark_slots : (rows : List (Row O)) (k : ℕ) (by : Option ℕ) → All (ChangesSlots {O = O}) rows → All (ChangesSlots {O = O}) (mark rows k by)
  mark_slots [] k by all = all
  mark_slots (row ∷ rows) zero by all =
      All-cons (ChangesSlots {O = O}) (record row { undone_by = by }) rows (All-head (ChangesSlots {O = O}) row rows all) (All-tail (ChangesSlots {O = O}) row rows all)
  mark_slots (row ∷ rows) (suc k) by all =
      All-cons (ChangesSlots {O = O}) row (mark rows k by) (All-head (ChangesSlots {O = O}) row rows all) (mark_slots rows k by (All-tail (ChangesSlots {O = O}) row rows all))

  slots_at : (rows : List (Row O)) (k : ℕ) (row : Row O) → All (ChangesSlots {O = O}) rows → slice_get rows k ≡ Some row → ChangesSlots row
  slots_at [] k row all h = cc
  slots_at (r ∷ rows) zero row all h = let same : r ≡ row = cc in subst (ChangesSlots {O = O}) same (All-head (ChangesSlots {O = O}) r rows all)
  slots_at (r ∷ rows) (suc k) row all h = slots_at rows k row (All-tail (ChangesSlots {O = O}) r rows all) h

  -- row n, from 1 on, is the one at index n - 1
  row_at_is : (rows : List (Row O)) (n : ℕ) → 0 < n → slice_get rows (n - 1) ≡ row_at rows n
  row_at_is rows zero h = absurd (omega arith)
  row_at_is rows (suc k) h = let one : suc k - 1 ≡ k = omega arith in ap (slice_get rows) one

  -- the row that is read at index n - 1
  pub row_at_read : (rows : List (Row O)) (n : ℕ) (row : Row O) → 0 < n → n ≤ length rows → row ≡ get_or rows (n - 1) row → row_at rows n ≡ Some row
  row_at_read rows n row pos le is = sym (row_at_is rows n pos) ∙ slice_get_read rows (length rows) (n - 1) row refl (omega arith) is

  undone_is : (rows : List (Row O)) (n by : ℕ) → 0 < n → mark rows (n - 1) (Some by) ≡ undone rows n by
  undone_is rows zero by h = absurd (omega arith)
  undone_is rows (suc k) by h = let one : suc k - 1 ≡ k = omega arith in ap (λ (j : ℕ). mark rows j (Some by)) one

  redone_is : (rows : List (Row O)) (n : ℕ) → 0 < n → mark rows (n - 1) None ≡ redone rows n
  redone_is rows zero h = absurd (omega arith)
  redone_is rows (suc k) h = let one : suc k - 1 ≡ k = omega arith in ap (λ (j : ℕ). mark rows j None) one

  -- a row is marked after another was added
  mark_pushed : (rows : List (Row O)) (k : ℕ) (by : Option ℕ) (row last : Row O) → slice_get rows k ≡ Some row
      → set (rows ++ last ∷ []) k (record row { undone_by = by }) ≡ mark rows k by ++ last ∷ []
  mark_pushed [] k by row last h = cc
  mark_pushed (r ∷ rows) zero by row last h = let same : r ≡ row = cc in ap (λ (x : Row O). record x { undone_by = by } ∷ (rows ++ last ∷ [])) (sym same)
  mark_pushed (r ∷ rows) (suc k) by row last h = ap (λ rs. r ∷ rs) (mark_pushed rows k by row last h)

  front_of_push : (rows : List (Row O)) (k : ℕ) (row last : Row O) → k < length rows → slice_get (rows ++ last ∷ []) k ≡ Some row → slice_get rows k ≡ Some row
  front_of_push [] k row last lt h = absurd (omega arith)
  front_of_push (r ∷ rows) zero row last lt h = h
  front_of_push (r ∷ rows) (suc k) row last lt h = front_of_push rows k row last (omega arith) h

  -- the row that is read at an index after another was added and it was marked
  module _ (rows pushed : List (Row O)) (n : ℕ) (row last : Row O) (is : pushed ≡ rows ++ last ∷ []) (pos : 0 < n) (le : n ≤ length rows) (read : row ≡ get_or pushed (n - 1) row) where
    set_read : (by : Option ℕ) → set pushed (n - 1) (record row { undone_by = by }) ≡ mark rows (n - 1) by ++ last ∷ []
    set_read by =
        let at : slice_get pushed (n - 1) ≡ Some row = slice_get_read pushed (length pushed) (n - 1) row refl (omega (arith, ap length is, length-append rows (last ∷ []))) read in
        let here : slice_get rows (n - 1) ≡ Some row = front_of_push rows (n - 1) row last (omega arith) (rw is at at) in
        ap (λ (rs : List (Row O)). set rs (n - 1) (record row { undone_by = by })) is ∙ mark_pushed rows (n - 1) by row last here

    pub marked_read : (by : ℕ) → by ≡ length pushed → set pushed (n - 1) (record row { undone_by = Some by }) ≡ undone rows n (length rows + 1) ++ last ∷ []
    marked_read by count =
        let many : by ≡ length rows + 1 = omega (arith, ap length is, length-append rows (last ∷ [])) in
        set_read (Some by) ∙ ap (λ (b : ℕ). mark rows (n - 1) (Some b) ++ last ∷ []) many ∙ ap (λ (rs : List (Row O)). rs ++ last ∷ []) (undone_is rows n (length rows + 1) pos)

    pub unmarked_read : set pushed (n - 1) (record row { undone_by = None }) ≡ redone rows n ++ last ∷ []
    unmarked_read = set_read None ∙ ap (λ (rs : List (Row O)). rs ++ last ∷ []) (redone_is rows n pos)

module _ {O : Type 0} {asks : O → Bool} {meaning : O → Inquiry Effect} where
  -- a refused undo preserves the invariant
  pub kept-refuse : (operator : List ℕ) (first tree : Entries) (rows : List (Row O)) (limit n : ℕ) (u : UndoRefusal) → length rows < limit → undo_refusal asks rows n ≡ Some u → IsKept asks meaning first tree rows limit
      → IsKept asks meaning first tree (rows ++ row_of_undo operator n (UndoRefused u) ∷ []) limit
  kept-refuse operator first tree rows limit n u room is kept =
      let row = row_of_undo {O = O} operator n (UndoRefused u) in
      record {
        legal = subst (λ (o : Option UndoRefusal). rows_undone operator rows n o ≡ run asks meaning first [] (calls_of (rows_undone operator rows n o))) is
            (legal-after asks meaning first rows (operator, Undo n) kept.legal);
        tree_is = kept.tree_is ∙ sym (replay-push asks meaning first rows row);
        slots = slots-push rows row kept.slots (All-nil (λ change. is_slot change.path ≡ true));
        few = omega (arith, length-append rows (row ∷ []));
        bounded = kept.bounded;
      }

  -- and so does a refused redo
  pub kept-refuse_redo : (operator : List ℕ) (first tree : Entries) (rows : List (Row O)) (limit n : ℕ) (u : RedoRefusal) → length rows < limit → redo_refusal asks rows n ≡ Some u → IsKept asks meaning first tree rows limit
      → IsKept asks meaning first tree (rows ++ row_of_redo operator n (RedoRefused u) ∷ []) limit
  kept-refuse_redo operator first tree rows limit n u room is kept =
      let row = row_of_redo {O = O} operator n (RedoRefused u) in
      record {
        legal = subst (λ (o : Option RedoRefusal). rows_redone operator rows n o ≡ run asks meaning first [] (calls_of (rows_redone operator rows n o))) is
            (legal-after asks meaning first rows (operator, Redo n) kept.legal);
        tree_is = kept.tree_is ∙ sym (replay-push asks meaning first rows row);
        slots = slots-push rows row kept.slots (All-nil (λ change. is_slot change.path ≡ true));
        few = omega (arith, length-append rows (row ∷ []));
        bounded = kept.bounded;
      }

module _ {O : Type 0} {asks : O → Bool} {meaning : O → Inquiry Effect} (laws : OperationLaws asks meaning) where
  -- what the rows of a history imply
  pub alike_kept : (first : Entries) (rows : List (Row O)) → rows ≡ run asks meaning first [] (calls_of rows) → AnswersAlike asks meaning first rows
  alike_kept first rows legal = alike_now asks meaning first rows (remembers-legal laws first rows (calls_of rows) legal)

  -- an operation preserves the invariant
  pub kept-call : (operator : List ℕ) (c : O) (first tree : Entries) (rows : List (Row O)) (limit : ℕ) → length rows < limit
      → All (λ change. is_slot change.path ≡ true) (outcome_of meaning c tree).changes → IsKept asks meaning first tree rows limit
      → IsKept asks meaning first (after_changes (outcome_of meaning c tree).changes tree) (rows ++ answered operator c (outcome_of meaning c tree) ∷ []) limit
  kept-call operator c first tree rows limit room slots kept =
      let row = answered operator c (outcome_of meaning c tree) in
      record {
        legal = subst (λ (t : Entries). rows ++ answered operator c (outcome_of meaning c t) ∷ [] ≡ run asks meaning first [] (calls_of (rows ++ answered operator c (outcome_of meaning c t) ∷ []))) (sym kept.tree_is)
            (legal-after asks meaning first rows (operator, Do c) kept.legal);
        tree_is = sym (new_row laws operator c tree).0 ∙ ap (after asks meaning (survivor asks row)) kept.tree_is ∙ sym (replay-push asks meaning first rows row);
        slots = slots-push rows row kept.slots slots;
        few = omega (arith, length-append rows (row ∷ []));
        bounded = kept.bounded;
      }

  -- what holds for an undo that isn't refused: the changes of its row can be reverted, and that
  -- preserves the invariant
  pub record CanBeTakenBack (operator : List ℕ) (first tree : Entries) (rows : List (Row O)) (limit n : ℕ) (row : Row O) : Type 0 where
    pub stands : is_some (survivor asks row) ≡ true
    pub slots : ChangesSlots row
    pub from : AreFrom tree (inverse_of row.changes)
    pub kept : IsKept asks meaning first (after_changes (inverse_of row.changes) tree) (undone rows n (length rows + 1) ++ row_of_undo operator n (Undid n) ∷ []) limit

  can_be_taken_back : (operator : List ℕ) (first tree : Entries) (rows : List (Row O)) (limit n : ℕ) (row : Row O) → length rows < limit → IsKept asks meaning first tree rows limit → undo_refusal asks rows n ≡ None → row_at rows n ≡ Some row
      → CanBeTakenBack operator first tree rows limit n row
  can_be_taken_back operator first tree rows limit zero row room kept is here = cc
  can_be_taken_back operator first tree rows limit (suc k) row room kept is here =
      let found = free_row asks rows k is in
      let free = found.1 in
      let same : found.0 ≡ row = cc (free.here, here) in
      let by = length rows + 1 in
      let last = row_of_undo {O = O} operator (suc k) (Undid (suc k)) in
      let parts = removed laws rows first k (suc k + 1) by found.0 (alike_kept first rows kept.legal) free.here free.stands free.unblocked in
      subst (CanBeTakenBack operator first tree rows limit (suc k)) same (record {
        stands = free.stands;
        slots = slots_at rows k found.0 kept.slots free.here;
        from = subst (λ (u : Entries). AreFrom u (inverse_of found.0.changes)) (sym kept.tree_is) parts.2;
        kept = record {
          legal = subst (λ (o : Option UndoRefusal). rows_undone operator rows (suc k) o ≡ run asks meaning first [] (calls_of (rows_undone operator rows (suc k) o))) is
              (legal-after asks meaning first rows (operator, Undo (suc k)) kept.legal);
          tree_is = ap (after_changes (inverse_of found.0.changes)) kept.tree_is ∙ sym parts.1 ∙ sym (replay-push asks meaning first (mark rows k (Some by)) last);
          slots = slots-push (mark rows k (Some by)) last (mark_slots rows k (Some by) kept.slots) (All-nil (λ change. is_slot change.path ≡ true));
          few = omega (arith, length-append (mark rows k (Some by)) (last ∷ []), length-mark rows k (Some by));
          bounded = kept.bounded;
        };
      })

  within : (rows : List (Row O)) (n : ℕ) → undo_refusal asks rows n ≡ None → (0 < n) × (n ≤ length rows)
  within rows zero h = cc
  within rows (suc k) h = let found = free_row asks rows k h in (omega arith, omega (arith, slice_get_within rows k found.0 found.1.here))

  -- the same for the row that is read, with the history as a whole
  pub undo_seen : (operator : List ℕ) (first tree : Entries) (rows : List (Row O)) (limit : ℕ) (seen : Log O) (n : ℕ) (row : Row O) → ◌≡◌ {A = Log O} (record { first = first; rows = rows; limit = limit }) seen
      → length seen.rows < seen.limit → undo_refusal asks seen.rows n ≡ None → IsKept asks meaning first tree rows limit → row ≡ get_or rows (n - 1) row
      → (0 < n) × (n ≤ length rows) × CanBeTakenBack operator first tree rows limit n row
  undo_seen operator first tree rows limit seen n row is room free kept read =
      let few : length rows < limit = subst (λ (v : Log O). length v.rows < v.limit) (sym is) room in
      let may : undo_refusal asks rows n ≡ None = subst (λ (v : Log O). undo_refusal asks v.rows n ≡ None) (sym is) free in
      let there = within rows n may in
      (there.0, there.1, can_be_taken_back operator first tree rows limit n row few kept may (row_at_read rows n row there.0 there.1 read))

  -- what holds for a redo that isn't refused: the changes of its row can be made again, and that
  -- preserves the invariant
  pub record CanBeMadeAgain (operator : List ℕ) (first tree : Entries) (rows : List (Row O)) (limit n : ℕ) (row : Row O) : Type 0 where
    pub command : O
    pub by : ℕ
    pub is : accepted asks row.request row.reply ≡ Some command
    pub undone : row.undone_by ≡ Some by
    pub slots : ChangesSlots row
    pub from : AreFrom tree row.changes
    pub kept : IsKept asks meaning first (after_changes row.changes tree) (redone rows n ++ row_of_redo operator n (Redid n) ∷ []) limit

  can_be_made_again : (operator : List ℕ) (first tree : Entries) (rows : List (Row O)) (limit n : ℕ) (row : Row O) → length rows < limit → IsKept asks meaning first tree rows limit → redo_refusal asks rows n ≡ None → row_at rows n ≡ Some row
      → CanBeMadeAgain operator first tree rows limit n row
  can_be_made_again operator first tree rows limit zero row room kept is here = cc
  can_be_made_again operator first tree rows limit (suc k) row room kept is here =
      let free = free_redo asks rows k is in
      let same : free.0 ≡ row = cc (free.1.here, here) in
      let last = row_of_redo {O = O} operator (suc k) (Redid (suc k)) in
      let parts = put_back laws first rows k free.0 free.1 (remembers-legal laws first rows (calls_of rows) kept.legal) in
      subst (CanBeMadeAgain operator first tree rows limit (suc k)) same (record {
        command = free.1.command;
        by = free.1.by;
        is = free.1.is;
        undone = free.1.undone;
        slots = slots_at rows k free.0 kept.slots free.1.here;
        from = subst (λ (u : Entries). AreFrom u free.0.changes) (sym kept.tree_is) parts.2;
        kept = record {
          legal = subst (λ (o : Option RedoRefusal). rows_redone operator rows (suc k) o ≡ run asks meaning first [] (calls_of (rows_redone operator rows (suc k) o))) is
              (legal-after asks meaning first rows (operator, Redo (suc k)) kept.legal);
          tree_is = ap (after_changes free.0.changes) kept.tree_is ∙ sym parts.1 ∙ sym (replay-push asks meaning first (mark rows k None) last);
          slots = slots-push (mark rows k None) last (mark_slots rows k None kept.slots) (All-nil (λ change. is_slot change.path ≡ true));
          few = omega (arith, length-append (mark rows k None) (last ∷ []), length-mark rows k None);
          bounded = kept.bounded;
        };
      })

  within_redo : (rows : List (Row O)) (n : ℕ) → redo_refusal asks rows n ≡ None → (0 < n) × (n ≤ length rows)
  within_redo rows zero h = cc
  within_redo rows (suc k) h = let free = free_redo asks rows k h in (omega arith, omega (arith, slice_get_within rows k free.0 free.1.here))

  -- the same for the row that is read, with the history as a whole
  pub redo_seen : (operator : List ℕ) (first tree : Entries) (rows : List (Row O)) (limit : ℕ) (seen : Log O) (n : ℕ) (row : Row O) → ◌≡◌ {A = Log O} (record { first = first; rows = rows; limit = limit }) seen
      → length seen.rows < seen.limit → redo_refusal asks seen.rows n ≡ None → IsKept asks meaning first tree rows limit → row ≡ get_or rows (n - 1) row
      → (0 < n) × (n ≤ length rows) × CanBeMadeAgain operator first tree rows limit n row
  redo_seen operator first tree rows limit seen n row is room free kept read =
      let few : length rows < limit = subst (λ (v : Log O). length v.rows < v.limit) (sym is) room in
      let may : redo_refusal asks rows n ≡ None = subst (λ (v : Log O). redo_refusal asks v.rows n ≡ None) (sym is) free in
      let there = within_redo rows n may in
      (there.0, there.1, can_be_made_again operator first tree rows limit n row few kept may (row_at_read rows n row there.0 there.1 read))
