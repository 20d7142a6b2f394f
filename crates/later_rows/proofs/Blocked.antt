-- Later rows that block an undo or hinder a redo, or leave both free.
use Rattle.std.proofs.Common.{◌≡◌, ◌<◌, ◌≤◌, ◌+◌, ◌-◌, ◌&&◌, ℕ, zero, suc, Bool, true, cond, List, [], ◌∷◌, ◌++◌, length, take, drop, Option, Some, None, is_some, slice_get, refl, sym, ap, ◌∙◌, subst, inl, inr, arith}
use Rattle.std.proofs.lemmas.Bool.{cases_Bool, false≢true}
use Rattle.std.proofs.lemmas.List.{take-append-le}
use Rattle.std.proofs.lemmas.Option.{slice_get_within}
use Rattle.link_tree.specs.declared.change.Change.{Change}
use Rattle.history.specs.declared.row.Row.{Row}
use Rattle.history.specs.declared.row.UndoRefusal.{UndoRefusal}
use Rattle.history.specs.Rows.{row_at, survivor, unless_undone, accepted, meets, undoer, undoer_before, AreMarked, undo_refusal, refusal_at, row_refusal, or_blocked, blocker_at, first_met, undone_command, first_flipped, or_later, hindrance_since, hindrance_at, row_redo_refusal, or_hindered, redo_refusal_at, redo_refusal}
use Rattle.history.proofs.Replayed.{free_row, IsFree}
use Rattle.history.proofs.Restored.{free_redo, IsRedoable}
use Rattle.later_rows.specs.Laws.{SomeMeet, NoneMeets, LaterReadersBlock, LaterReadersHinder, OtherRowsLeaveFree}

module _ {O : Type 0} (asks : O → Bool) where
  abbrev meets_here : List Change → Row O → Bool
  meets_here changes row = is_some (survivor asks row) && meets changes row.reading

  -- the first that is met among rows that are met
  first_found : (changes : List Change) (rows : List (Row O)) (at : ℕ) → SomeMeet asks changes rows → (m : ℕ) × (first_met asks changes rows at ≡ Some m) × (at ≤ m)
  first_found changes [] at none = absurd none
  first_found changes (row ∷ rows) at some = elim (cases_Bool (meets_here changes row)) [
    | inl met ↦ (at, ap (λ b. cond b (Some at) (first_met asks changes rows (at + 1))) met, omega arith)
    | inr not ↦ (
        let later : SomeMeet asks changes rows = elim some [ inl met ↦ absurd (false≢true (sym not ∙ met)) | inr later ↦ later ] in
        let found = first_found changes rows (at + 1) later in
        let within : at + 1 ≤ found.0 = found.2 in
        (found.0, ap (λ b. cond b (Some at) (first_met asks changes rows (at + 1))) not ∙ found.1, omega (arith, within)))
  ]

  -- if none of the first rows is met, the first is one of the others
  first-append : (changes : List Change) (rows more : List (Row O)) (at : ℕ) → first_met asks changes rows at ≡ None → first_met asks changes (rows ++ more) at ≡ first_met asks changes more (at + length rows)
  first-append changes [] more at none = let same : at ≡ at + length {A = Row O} [] = omega arith in ap (first_met asks changes more) same
  first-append changes (row ∷ rows) more at none = elim (cases_Bool (meets_here changes row)) [
    | inl met ↦ (let found : Some at ≡ None = sym (ap (λ b. cond b (Some at) (first_met asks changes rows (at + 1))) met) ∙ none in cc)
    | inr not ↦ (
        let rest : first_met asks changes rows (at + 1) ≡ None = sym (ap (λ b. cond b (Some at) (first_met asks changes rows (at + 1))) not) ∙ none in
        let same : at + 1 + length rows ≡ at + length (row ∷ rows) = omega arith in
        ap (λ b. cond b (Some at) (first_met asks changes (rows ++ more) (at + 1))) not ∙ first-append changes rows more (at + 1) rest ∙ ap (first_met asks changes more) same)
  ]

  get-append : (rows more : List (Row O)) (k : ℕ) (row : Row O) → slice_get rows k ≡ Some row → slice_get (rows ++ more) k ≡ Some row
  get-append [] more zero row here = cc
  get-append [] more (suc k) row here = cc
  get-append (r ∷ rows) more zero row here = here
  get-append (r ∷ rows) more (suc k) row here = get-append rows more k row here

  -- what is after a row, with more after that
  drop-more : (rows more : List (Row O)) (k : ℕ) (row : Row O) → slice_get rows k ≡ Some row → (drop (suc k) (rows ++ more) ≡ drop (suc k) rows ++ more) × (length (drop (suc k) rows) + suc k ≡ length rows)
  drop-more [] more zero row here = cc
  drop-more [] more (suc k) row here = cc
  drop-more (r ∷ rows) more zero row here = let all : length rows + 1 ≡ length (r ∷ rows) = omega arith in (refl, all)
  drop-more (r ∷ rows) more (suc k) row here =
      let rest = drop-more rows more k row here in
      let all : length (drop (suc k) rows) + suc k ≡ length rows = rest.1 in
      let same : length (drop (suc k) rows) + suc (suc k) ≡ length (r ∷ rows) = omega (arith, all) in
      (rest.0, same)

  unrefused : (command : Option O) (by : Option ℕ) → is_some command ≡ true → by ≡ None → row_refusal command by ≡ None
  unrefused None by some none = absurd (false≢true some)
  unrefused (Some c) (Some k) some none = cc
  unrefused (Some c) None some none = refl

  -- a survivor is an accepted command
  is_accepted : (command : Option O) (by : Option ℕ) → by ≡ None → is_some (unless_undone by command) ≡ true → is_some command ≡ true
  is_accepted command None none h = h
  is_accepted command (Some k) none h = cc

  some_is : {A : Type 0} {x y : A} → Some x ≡ Some y → x ≡ y
  some_is h = cc

  -- the first row behind all others that is met by the changes of a row, if none of the others is
  first_later : (rows more : List (Row O)) (k : ℕ) (row : Row O) → slice_get rows k ≡ Some row → first_met asks row.changes (drop (suc k) rows) (suc k + 1) ≡ None → SomeMeet asks row.changes more
      → (m : ℕ) × (first_met asks row.changes (drop (suc k) (rows ++ more)) (suc k + 1) ≡ Some m) × (length rows < m)
  first_later rows more k row here unmet some =
      let behind = drop-more rows more k row here in
      let all : length (drop (suc k) rows) + suc k ≡ length rows = behind.1 in
      let at : ℕ = suc k + 1 + length (drop (suc k) rows) in
      let found = first_found row.changes more at some in
      let within : at ≤ found.0 = found.2 in (
        found.0,
        ap (λ behind. first_met asks row.changes behind (suc k + 1)) behind.0 ∙ first-append row.changes (drop (suc k) rows) more (suc k + 1) unmet ∙ found.1,
        omega (arith, all, within),
      )

  -- the refusal of a free row with more rows behind, by the first row that is met
  undo_behind : (rows more : List (Row O)) (k : ℕ) (row : Row O) → IsFree asks rows k row → (met : Option ℕ) → first_met asks row.changes (drop (suc k) (rows ++ more)) (suc k + 1) ≡ met
      → undo_refusal asks (rows ++ more) (suc k) ≡ or_blocked None met
  undo_behind rows more k row free met is =
      let command = accepted asks row.request row.reply in
      let blocker : blocker_at asks (rows ++ more) (suc k) (Some row) ≡ met =
      ap (λ b. cond b (first_met asks row.changes (drop (suc k) (rows ++ more)) (suc k + 1)) None) free.stands ∙ is in
      ap (refusal_at asks (rows ++ more) (suc k)) (get-append rows more k row free.here)
      ∙ ap (or_blocked (row_refusal command row.undone_by)) blocker
      ∙ ap (λ (r : Option UndoRefusal). or_blocked r met) (unrefused command row.undone_by (is_accepted command row.undone_by free.unmarked free.stands) free.unmarked)

  pub later_readers_block : LaterReadersBlock asks
  later_readers_block rows more zero row here free some = cc
  later_readers_block rows more (suc k) row here free some =
      let found = free_row asks rows k free in
      let same : found.0 ≡ row = some_is (sym found.1.here ∙ here) in
      let is_free = subst (IsFree asks rows k) same found.1 in
      let later = first_later rows more k row is_free.here is_free.unblocked some in
      (later.0, undo_behind rows more k row is_free (Some later.0) later.1, later.2)

  -- the row that a mark names is one of the rows
  within_rows : (rows : List (Row O)) (m : ℕ) (row : Row O) → row_at rows m ≡ Some row → m ≤ length rows
  within_rows rows zero row here = cc
  within_rows rows (suc j) row here = omega (arith, slice_get_within rows j row here)

  -- what an earlier row was is the same with more rows behind
  still_unflipped : (rows more : List (Row O)) (k by : ℕ) (row : Row O) → by ≤ length rows → k ≤ length rows → first_flipped asks (undoer_before rows by) row.reading (take k rows) 1 ≡ None
      → first_flipped asks (undoer_before (rows ++ more) by) row.reading (take (suc k - 1) (rows ++ more)) 1 ≡ None
  still_unflipped rows more k by row within le none =
      let place : suc k - 1 ≡ k = omega arith in
      ap (λ (i : ℕ). first_flipped asks (undoer_before (rows ++ more) by) row.reading (take i (rows ++ more)) 1) place
      ∙ ap (λ (rs : List (Row O)). first_flipped asks (undoer_before (rows ++ more) by) row.reading rs 1) (take-append-le k rows more le)
      ∙ ap (λ (rs : List (Row O)). first_flipped asks (undoer rs) row.reading (take k rows) 1) (take-append-le (by - 1) rows more (omega (arith, within)))
      ∙ none

  -- the refusal of a redo that was free with more rows behind, by the first row that is met
  redo_behind : (rows more : List (Row O)) (k : ℕ) (row : Row O) (free : IsRedoable asks rows k row) → free.by ≤ length rows → (met : Option ℕ)
      → first_met asks row.changes (drop (suc k) (rows ++ more)) (suc k + 1) ≡ met → redo_refusal asks (rows ++ more) (suc k) ≡ or_hindered None met
  redo_behind rows more k row free within met is =
      let all : List (Row O) = rows ++ more in
      let unflipped = still_unflipped rows more k free.by row within (omega (arith, slice_get_within rows k row free.here)) free.unflipped in
      let hindrance : hindrance_at asks all (suc k) (Some row) ≡ met =
      ap (λ (o : Option O). hindrance_since asks all (suc k) row (undone_command o row.undone_by)) free.is
      ∙ ap (hindrance_since asks all (suc k) row) free.undone
      ∙ ap (λ (o : Option ℕ). or_later o (first_met asks row.changes (drop (suc k) all) (suc k + 1))) unflipped
      ∙ is in
      ap (redo_refusal_at asks all (suc k)) (get-append rows more k row free.here)
      ∙ ap (or_hindered (row_redo_refusal (accepted asks row.request row.reply) row.undone_by)) hindrance
      ∙ ap (λ (o : Option O). or_hindered (row_redo_refusal o row.undone_by) met) free.is
      ∙ ap (λ (by : Option ℕ). or_hindered (row_redo_refusal (Some free.command) by) met) free.undone

  -- such a row, by its number
  redoable : (rows : List (Row O)) (k : ℕ) (row : Row O) → AreMarked rows → slice_get rows k ≡ Some row → redo_refusal asks rows (suc k) ≡ None
      → (free : IsRedoable asks rows k row) × (free.by ≤ length rows)
  redoable rows k row marks here none =
      let found = free_redo asks rows k none in
      let same : found.0 ≡ row = some_is (sym found.1.here ∙ here) in
      let undoes = ((marks.marked (suc k) found.1.by found.0 found.1.here).0 found.1.undone).0 in
      subst (λ (r : Row O). (free : IsRedoable asks rows k r) × (free.by ≤ length rows)) same (found.1, within_rows rows found.1.by undoes.0 undoes.1)

  pub later_readers_hinder : LaterReadersHinder asks
  later_readers_hinder rows more zero row marks here free some = cc
  later_readers_hinder rows more (suc k) row marks here none some =
      let free = redoable rows k row marks here none in
      let later = first_later rows more k row free.0.here free.0.unmet some in
      (later.0, redo_behind rows more k row free.0 free.1 (Some later.0) later.1, later.2)

  -- none is met if none meets
  none_found : (changes : List Change) (rows : List (Row O)) (at : ℕ) → NoneMeets asks changes rows → first_met asks changes rows at ≡ None
  none_found changes [] at none = refl
  none_found changes (row ∷ rows) at none =
      ap (λ b. cond b (Some at) (first_met asks changes rows (at + 1))) none.0 ∙ none_found changes rows (at + 1) none.1

  none_later : (rows more : List (Row O)) (k : ℕ) (row : Row O) → slice_get rows k ≡ Some row → first_met asks row.changes (drop (suc k) rows) (suc k + 1) ≡ None → NoneMeets asks row.changes more
      → first_met asks row.changes (drop (suc k) (rows ++ more)) (suc k + 1) ≡ None
  none_later rows more k row here unmet none =
      ap (λ behind. first_met asks row.changes behind (suc k + 1)) (drop-more rows more k row here).0
      ∙ first-append row.changes (drop (suc k) rows) more (suc k + 1) unmet
      ∙ none_found row.changes more (suc k + 1 + length (drop (suc k) rows)) none

  pub other_rows_leave_free : OtherRowsLeaveFree asks
  other_rows_leave_free rows more zero row here none = cc
  other_rows_leave_free rows more (suc k) row here none = (
    λ unrefused.
        let found = free_row asks rows k unrefused in
        let same : found.0 ≡ row = some_is (sym found.1.here ∙ here) in
        let free = subst (IsFree asks rows k) same found.1 in
        undo_behind rows more k row free None (none_later rows more k row free.here free.unblocked none),
    λ marks unrefused.
        let free = redoable rows k row marks here unrefused in
        redo_behind rows more k row free.0 free.1 None (none_later rows more k row free.0.here free.0.unmet none),
  )
