-- What is read from rows to determine whether one may be undone or redone.
use Rattle.std.proofs.Common.{◌≡◌, ◌+◌, ◌-◌, ◌≤◌, length, ℕ, Bool, true, false, cond, List, Option, Some, None, is_some, take, drop, refl, sym, ap, ◌∙◌}
use Rattle.link_tree.specs.declared.change.Change.{Change}
use Rattle.history.specs.declared.row.UndoRefusal.{UndoRefusal}
use Rattle.history.specs.declared.row.RedoRefusal.{RedoRefusal}
use Rattle.history.specs.declared.row.Row.{Row}
use Rattle.history.proofs.Marks.{mark_range}
use Rattle.history.specs.Rows.{MarksAgree, row_at, or_blocked, row_refusal, undone_command, or_hindered, or_later, row_redo_refusal, accepted, survivor, first_met, blocker_at, blocker, refusal_at, undo_refusal, undoer_before, first_flipped, hindrance_since, hindrance_at, hindrance, redo_refusal_at, redo_refusal}

pub undone_command_is : {O : Type 0} (command : Option O) (by : Option ℕ) (u : ℕ) → undone_command command by ≡ Some u → (is_some command ≡ true) × (by ≡ Some u)
undone_command_is None by u h = cc
undone_command_is (Some c) by u h = (refl, h)

module _ {O : Type 0} (asks : O → Bool) (rows : List (Row O)) (n : ℕ) (row : Row O) (here : row_at rows n ≡ Some row) where
  -- the blocker of a survivor is the first later survivor that its changes meet
  pub met_read : (changes : List Change) (found : Option ℕ) → true ≡ is_some (survivor asks row) → changes ≡ row.changes
      → found ≡ first_met asks changes (drop n rows) (n + 1) → found ≡ blocker asks rows n
  met_read changes found stands is met =
      met
      ∙ ap (λ (cs : List Change). first_met asks cs (drop n rows) (n + 1)) is
      ∙ ap (λ (b : Bool). cond b (first_met asks row.changes (drop n rows) (n + 1)) None) stands
      ∙ sym (ap (blocker_at asks rows n) here)

  -- a row that isn't a survivor has no blocker
  pub none_read : false ≡ is_some (survivor asks row) → None ≡ blocker asks rows n
  none_read gone = ap (λ (b : Bool). cond b (first_met asks row.changes (drop n rows) (n + 1)) None) gone ∙ sym (ap (blocker_at asks rows n) here)

  -- an undo of a row that can't be undone
  pub refused_read : (u : UndoRefusal) → row_refusal (accepted asks row.request row.reply) row.undone_by ≡ Some u → Some u ≡ undo_refusal asks rows n
  refused_read u is = sym (ap (refusal_at asks rows n) here ∙ ap (λ (a : Option UndoRefusal). or_blocked a (blocker_at asks rows n (Some row))) is)

  -- an undo of a row that may be blocked
  pub blocked_read : (found : Option ℕ) → row_refusal (accepted asks row.request row.reply) row.undone_by ≡ None → found ≡ blocker asks rows n → or_blocked None found ≡ undo_refusal asks rows n
  blocked_read found free is =
      ap (or_blocked None) (is ∙ ap (blocker_at asks rows n) here)
      ∙ sym (ap (refusal_at asks rows n) here ∙ ap (λ (a : Option UndoRefusal). or_blocked a (blocker_at asks rows n (Some row))) free)

  -- the hindrance of a row by its mark
  hindrance_read : (by : Option ℕ) → by ≡ undone_command (accepted asks row.request row.reply) row.undone_by → hindrance_since asks rows n row by ≡ hindrance asks rows n
  hindrance_read by is = ap (hindrance_since asks rows n row) is ∙ sym (ap (hindrance_at asks rows n) here)

  -- nothing hinders a row that isn't an undone command
  pub unhindered_read : None ≡ undone_command (accepted asks row.request row.reply) row.undone_by → None ≡ hindrance asks rows n
  unhindered_read is = hindrance_read None is

  -- its hindrance is the first row that has flipped
  pub flipped_read : (by k : ℕ) → Some by ≡ undone_command (accepted asks row.request row.reply) row.undone_by
      → Some k ≡ first_flipped asks (undoer_before rows by) row.reading (take (n - 1) rows) 1 → Some k ≡ hindrance asks rows n
  flipped_read by k is flipped = ap (λ (o : Option ℕ). or_later o (first_met asks row.changes (drop n rows) (n + 1))) flipped ∙ hindrance_read (Some by) is

  -- or else the first later survivor that its changes meet
  pub unflipped_read : (by : ℕ) (found : Option ℕ) → Some by ≡ undone_command (accepted asks row.request row.reply) row.undone_by
      → None ≡ first_flipped asks (undoer_before rows by) row.reading (take (n - 1) rows) 1 → found ≡ first_met asks row.changes (drop n rows) (n + 1) → found ≡ hindrance asks rows n
  unflipped_read by found is none met =
      met ∙ ap (λ (o : Option ℕ). or_later o (first_met asks row.changes (drop n rows) (n + 1))) none ∙ hindrance_read (Some by) is

  -- a redo of a row that can't be redone
  pub redo_refused_read : (u : RedoRefusal) → row_redo_refusal (accepted asks row.request row.reply) row.undone_by ≡ Some u → Some u ≡ redo_refusal asks rows n
  redo_refused_read u is = sym (ap (redo_refusal_at asks rows n) here ∙ ap (λ (a : Option RedoRefusal). or_hindered a (hindrance_at asks rows n (Some row))) is)

  -- a redo of a row that may be hindered
  pub hindered_read : (found : Option ℕ) → row_redo_refusal (accepted asks row.request row.reply) row.undone_by ≡ None → found ≡ hindrance asks rows n → or_hindered None found ≡ redo_refusal asks rows n
  hindered_read found free is =
      ap (or_hindered None) (is ∙ ap (hindrance_at asks rows n) here)
      ∙ sym (ap (redo_refusal_at asks rows n) here ∙ ap (λ (a : Option RedoRefusal). or_hindered a (hindrance_at asks rows n (Some row))) free)

  -- the row that undid it is one of the rows
  pub undoer_range : (u : ℕ) → MarksAgree rows → undone_command (accepted asks row.request row.reply) row.undone_by ≡ Some u → (1 ≤ u) × (u ≤ length rows)
  undoer_range u marked is = mark_range rows n row u marked here (undone_command_is (accepted asks row.request row.reply) row.undone_by u is).1
