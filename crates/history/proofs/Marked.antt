-- What the marks of rows mean for their undos and redos, one by one.
use Rattle.std.proofs.Common.{◌≡◌, ◌+◌, ◌<◌, ◌==◌, ◌↔◌, ◌⊎◌, ℕ, zero, suc, Bool, true, cond, List, [], ◌∷◌, ◌++◌, Option, Some, None, is_some, slice_get, length, refl, sym, ap, subst, ◌∙◌, arith, inl, inr}
use Rattle.std.proofs.lemmas.Bool.{cases_Bool, false≢true}
use Rattle.std.proofs.lemmas.Bool.Decides.{Decides-eqb}
use Rattle.link_tree.specs.Trees.{Entries}
use Rattle.footprint.specs.Inquiry.{Inquiry}
use Rattle.footprint.specs.Operations.{Effect, outcome_of}
use Rattle.history.specs.declared.row.UndoRefusal.{UndoRefusal}
use Rattle.history.specs.declared.row.RedoRefusal.{RedoRefusal}
use Rattle.history.specs.declared.row.Row.{Row}
use Rattle.history.specs.declared.row.Request.TheVariants.{Do, Undo, Redo}
use Rattle.history.specs.declared.row.RowReply.{RowReply}
use Rattle.history.specs.declared.row.RowReply.TheVariants.{Answered, Undid, UndoRefused, Redid, RedoRefused}
use Rattle.history.specs.Rows.{Call, row_at, answered, row_of_undo, row_of_redo, mark, toggled, undoer_then, undoer_from, undone_by_at, MarksAgree, Undoes, Toggles, AreMarked, rows_undone, rows_redone, undo_refusal, redo_refusal, replay, rows_after, run}
use Rattle.history.proofs.Replayed.{free_row}
use Rattle.history.proofs.Restored.{free_redo}
use Rattle.history.proofs.Marks.{marks-run}

-- a reply doesn't name the row, or undoes it, or redoes it
then_cases : (reply : RowReply) (at n : ℕ) (by : Option ℕ)
    → ((toggled reply ≡ Some n → ⊥) × (undoer_then reply at n by ≡ by)) ⊎ (((reply ≡ Undid n) × (undoer_then reply at n by ≡ Some at)) ⊎ ((reply ≡ Redid n) × (undoer_then reply at n by ≡ None)))
then_cases (Answered answer) at n by = inl (λ t. cc, refl)
then_cases (Undid k) at n by = elim (cases_Bool (k == n)) [
  | inl same ↦ inr (inl (ap (λ i. Undid i) ((Decides-eqb k n).0 same), ap (λ b. cond b (Some at) by) same))
  | inr other ↦ inl (λ t. let number : k ≡ n = cc in false≢true (sym other ∙ (Decides-eqb k n).1 number), ap (λ b. cond b (Some at) by) other)
]
then_cases (UndoRefused refusal) at n by = inl (λ t. cc, refl)
then_cases (Redid k) at n by = elim (cases_Bool (k == n)) [
  | inl same ↦ inr (inr (ap (λ i. Redid i) ((Decides-eqb k n).0 same), ap (λ b. cond b None by) same))
  | inr other ↦ inl (λ t. let number : k ≡ n = cc in false≢true (sym other ∙ (Decides-eqb k n).1 number), ap (λ b. cond b None by) other)
]
then_cases (RedoRefused refusal) at n by = inl (λ t. cc, refl)

no_mark : {P : Type 0} (m : ℕ) → None ≡ Some m → P
no_mark m h = cc

module _ {O : Type 0} where
  -- no row undoes or redoes row n
  abbrev Untoggled : List (Row O) → ℕ → Type 0
  Untoggled rows n = (i : ℕ) (s : Row O) → slice_get rows i ≡ Some s → toggled s.reply ≡ Some n → ⊥

  -- the one at index j undoes it, and none after it undoes or redoes it
  pub record IsLastUndo (rows : List (Row O)) (n j : ℕ) : Type 0 where
    pub undo : Row O
    pub here : slice_get rows j ≡ Some undo
    pub undoes : undo.reply ≡ Undid n
    pub last : (i : ℕ) (s : Row O) → j < i → slice_get rows i ≡ Some s → toggled s.reply ≡ Some n → ⊥

  untoggled_first : (row : Row O) (rows : List (Row O)) (n : ℕ) → (toggled row.reply ≡ Some n → ⊥) → Untoggled rows n → Untoggled (row ∷ rows) n
  untoggled_first row rows n off none zero s is t = let same : s ≡ row = cc in off (ap (λ (r : Row O). toggled r.reply) (sym same) ∙ t)
  untoggled_first row rows n off none (suc i) s is t = none i s is t

  none_after : (row : Row O) (rows : List (Row O)) (n : ℕ) → Untoggled rows n → (i : ℕ) (s : Row O) → 0 < i → slice_get (row ∷ rows) i ≡ Some s → toggled s.reply ≡ Some n → ⊥
  none_after row rows n none zero s lt is t = omega (arith, lt)
  none_after row rows n none (suc i) s lt is t = none i s is t

  last_after : (row : Row O) (rows : List (Row O)) (n j : ℕ) → ((i : ℕ) (s : Row O) → j < i → slice_get rows i ≡ Some s → toggled s.reply ≡ Some n → ⊥)
      → (i : ℕ) (s : Row O) → suc j < i → slice_get (row ∷ rows) i ≡ Some s → toggled s.reply ≡ Some n → ⊥
  last_after row rows n j last zero s lt is t = omega (arith, lt)
  last_after row rows n j last (suc i) s lt is t = last i s (omega (arith, lt)) is t

  -- a mark is that of the last undo, or the earlier one
  undoer_says : (rows : List (Row O)) (at n : ℕ) (by : Option ℕ) (m : ℕ) → undoer_from rows at n by ≡ Some m → ((by ≡ Some m) × Untoggled rows n) ⊎ ((j : ℕ) × (m ≡ at + j) × IsLastUndo rows n j)
  undoer_says [] at n by m h = inl (h, λ i s is t. cc (is))
  undoer_says (row ∷ rows) at n by m h = elim (undoer_says rows (at + 1) n (undoer_then row.reply at n by) m h) [
    | inl before ↦ elim (then_cases row.reply at n by) [
      | inl other ↦ inl (sym other.1 ∙ before.0, untoggled_first row rows n other.0 before.1)
      | inr named ↦ elim named [
        | inl undo ↦
            let number : Some at ≡ Some m = sym undo.1 ∙ before.0 in
            let same : at ≡ m = cc in
            inr (0, omega (arith, same), record { undo = row; here = refl; undoes = undo.0; last = none_after row rows n before.1 })
        | inr redo ↦ no_mark m (sym redo.1 ∙ before.0)
      ]
    ]
    | inr (j, number, is) ↦ inr (suc j, omega (arith, number), record { undo = is.undo; here = is.here; undoes = is.undoes; last = last_after row rows n j is.last })
  ]

  undoer_stays : (rows : List (Row O)) (at n : ℕ) (by : Option ℕ) → Untoggled rows n → undoer_from rows at n by ≡ by
  undoer_stays [] at n by none = refl
  undoer_stays (row ∷ rows) at n by none = elim (then_cases row.reply at n by) [
    | inl other ↦ undoer_stays rows (at + 1) n (undoer_then row.reply at n by) (λ i s is t. none (suc i) s is t) ∙ other.1
    | inr named ↦ elim named [
      | inl undo ↦ absurd (none 0 row refl (ap toggled undo.0))
      | inr redo ↦ absurd (none 0 row refl (ap toggled redo.0))
    ]
  ]

  undoer_last : (rows : List (Row O)) (at n : ℕ) (by : Option ℕ) (j : ℕ) → IsLastUndo rows n j → undoer_from rows at n by ≡ Some (at + j)
  undoer_last [] at n by j is = cc (is.here)
  undoer_last (row ∷ rows) at n by zero is =
      let same : row ≡ is.undo = cc (is.here) in
      let reply : row.reply ≡ Undid n = ap (λ (r : Row O). r.reply) same ∙ is.undoes in
      let number : at ≡ at + 0 = omega arith in
      undoer_stays rows (at + 1) n (undoer_then row.reply at n by) (λ i s there t. is.last (suc i) s (omega arith) there t)
      ∙ (elim (then_cases row.reply at n by) [
        | inl other ↦ absurd (other.0 (ap toggled reply))
        | inr named ↦ elim named [
          | inl undo ↦ undo.1 ∙ ap (λ i. Some i) number
          | inr redo ↦ (let never : Undid n ≡ Redid n = sym reply ∙ redo.0 in cc)
        ]
      ])
  undoer_last (row ∷ rows) at n by (suc j) is =
      let number : at + 1 + j ≡ at + suc j = omega arith in
      undoer_last rows (at + 1) n (undoer_then row.reply at n by) j (record { undo = is.undo; here = is.here; undoes = is.undoes; last = λ i s lt there t. is.last (suc i) s (omega (arith, lt)) there t })
      ∙ ap (λ i. Some i) number

  -- the mark of a row is the number of its last undo, unless it was redone since
  abbrev IsUndoer : List (Row O) → ℕ → ℕ → Type 0
  IsUndoer rows n m = Undoes rows m n × ((l : ℕ) → m < l → Toggles rows l n → ⊥)

  undoer_of : (rows : List (Row O)) (n m j : ℕ) → m ≡ 1 + j → IsLastUndo rows n j → IsUndoer rows n m
  undoer_of rows n m j number is =
      let place : suc j ≡ m = omega (arith, number) in
      ((is.undo, ap (row_at rows) (sym place) ∙ is.here, is.undoes), λ l lt t. later l lt t)
    where
      later : (l : ℕ) → m < l → Toggles rows l n → ⊥
      later zero lt t = cc (t.1)
      later (suc i) lt t = is.last i t.0 (omega (arith, lt, number)) t.1 t.2

  of_undoer : (rows : List (Row O)) (n m : ℕ) → IsUndoer rows n m → (j : ℕ) × (m ≡ 1 + j) × IsLastUndo rows n j
  of_undoer rows n zero is = cc (is.0.1)
  of_undoer rows n (suc j) is =
      let number : suc j ≡ 1 + j = omega arith in
      (j, number, record { undo = is.0.0; here = is.0.1; undoes = is.0.2; last = λ i s lt there t. is.1 (suc i) (omega (arith, lt)) (s, there, t) })

  marked_is : (rows : List (Row O)) → MarksAgree rows → (n m : ℕ) (row : Row O) → row_at rows n ≡ Some row → (row.undone_by ≡ Some m) ↔ IsUndoer rows n m
  marked_is rows agree n m row is = (
    λ by. elim (undoer_says rows 1 n None m (sym (agree n) ∙ ap (λ (o : Option (Row O)). undone_by_at o) is ∙ by)) [
      | inl never ↦ no_mark m never.0
      | inr (j, number, last) ↦ undoer_of rows n m j number last
    ],
    λ undoer_is. let found = of_undoer rows n m undoer_is in
        sym (ap (λ (o : Option (Row O)). undone_by_at o) is) ∙ agree n ∙ undoer_last rows 1 n None found.0 found.2 ∙ ap (λ i. Some i) (sym found.1),
  )

  -- ---- an undone or redone row is one of the rows
  abbrev AreOfRows : List (Row O) → Type 0
  AreOfRows rows = (m n : ℕ) → Toggles rows m n → is_some (row_at rows n) ≡ true

  in_push : (rows : List (Row O)) (last : Row O) (k : ℕ) (row : Row O) → slice_get (rows ++ last ∷ []) k ≡ Some row → (slice_get rows k ≡ Some row) ⊎ (row ≡ last)
  in_push [] last zero row h = inr cc
  in_push [] last (suc k) row h = cc
  in_push (r ∷ rows) last zero row h = inl h
  in_push (r ∷ rows) last (suc k) row h = in_push rows last k row h

  there_push : (rows : List (Row O)) (last : Row O) (k : ℕ) → is_some (slice_get rows k) ≡ true → is_some (slice_get (rows ++ last ∷ []) k) ≡ true
  there_push [] last zero h = refl
  there_push [] last (suc k) h = h
  there_push (r ∷ rows) last zero h = h
  there_push (r ∷ rows) last (suc k) h = there_push rows last k h

  row_there_push : (rows : List (Row O)) (last : Row O) (n : ℕ) → is_some (row_at rows n) ≡ true → is_some (row_at (rows ++ last ∷ []) n) ≡ true
  row_there_push rows last zero h = h
  row_there_push rows last (suc k) h = there_push rows last k h

  reply_back : (rows : List (Row O)) (k : ℕ) (by : Option ℕ) (j : ℕ) (y : Row O) → slice_get (mark rows k by) j ≡ Some y → (x : Row O) × (slice_get rows j ≡ Some x) × (x.reply ≡ y.reply)
  reply_back [] k by j y h = cc
  reply_back (r ∷ rows) zero by zero y h = let same : record r { undone_by = by } ≡ y = cc in (r, refl, ap (λ (x : Row O). x.reply) same)
  reply_back (r ∷ rows) zero by (suc j) y h = (y, h, refl)
  reply_back (r ∷ rows) (suc k) by zero y h = (y, h, refl)
  reply_back (r ∷ rows) (suc k) by (suc j) y h = reply_back rows k by j y h

  there_mark : (rows : List (Row O)) (k : ℕ) (by : Option ℕ) (j : ℕ) → is_some (slice_get rows j) ≡ true → is_some (slice_get (mark rows k by) j) ≡ true
  there_mark [] k by j h = h
  there_mark (r ∷ rows) zero by zero h = refl
  there_mark (r ∷ rows) zero by (suc j) h = h
  there_mark (r ∷ rows) (suc k) by zero h = h
  there_mark (r ∷ rows) (suc k) by (suc j) h = there_mark rows k by j h

  of_rows-push : (rows : List (Row O)) (last : Row O) → ((n : ℕ) → toggled last.reply ≡ Some n → is_some (row_at rows n) ≡ true) → AreOfRows rows → AreOfRows (rows ++ last ∷ [])
  of_rows-push rows last names h zero n t = cc (t.1)
  of_rows-push rows last names h (suc k) n t = elim (in_push rows last k t.0 t.1) [
    | inl old ↦ row_there_push rows last n (h (suc k) n (t.0, old, t.2))
    | inr new ↦ row_there_push rows last n (names n (ap (λ (r : Row O). toggled r.reply) (sym new) ∙ t.2))
  ]

  row_there_mark : (rows : List (Row O)) (k : ℕ) (by : Option ℕ) (n : ℕ) → is_some (row_at rows n) ≡ true → is_some (row_at (mark rows k by) n) ≡ true
  row_there_mark rows k by zero h = h
  row_there_mark rows k by (suc j) h = there_mark rows k by j h

  of_rows-mark : (rows : List (Row O)) (k : ℕ) (by : Option ℕ) → AreOfRows rows → AreOfRows (mark rows k by)
  of_rows-mark rows k by h zero n t = cc (t.1)
  of_rows-mark rows k by h (suc j) n t =
      let back = reply_back rows k by j t.0 t.1 in
      row_there_mark rows k by n (h (suc j) n (back.0, back.1, ap toggled back.2 ∙ t.2))

  marked_there : (rows : List (Row O)) (k : ℕ) (by : Option ℕ) (row : Row O) → slice_get rows k ≡ Some row → (n : ℕ) → Some (suc k) ≡ Some n → is_some (row_at (mark rows k by) n) ≡ true
  marked_there rows k by row is n same =
      let number : suc k ≡ n = cc in
      subst (λ (i : ℕ). is_some (row_at (mark rows k by) i) ≡ true) number (row_there_mark rows k by (suc k) (ap (λ (o : Option (Row O)). is_some o) is))

  module _ (asks : O → Bool) (meaning : O → Inquiry Effect) where
    of_rows-undo : (operator : List ℕ) (rows : List (Row O)) (n : ℕ) (u : Option UndoRefusal) → undo_refusal asks rows n ≡ u → AreOfRows rows → AreOfRows (rows_undone operator rows n u)
    of_rows-undo operator rows n (Some u) is h = of_rows-push rows (row_of_undo operator n (UndoRefused u)) (λ m t. cc) h
    of_rows-undo operator rows zero None is h = cc
    of_rows-undo operator rows (suc k) None is h =
        let free = free_row asks rows k is in
        let by = Some (length rows + 1) in
        of_rows-push (mark rows k by) (row_of_undo operator (suc k) (Undid (suc k))) (marked_there rows k by free.0 free.1.here) (of_rows-mark rows k by h)

    of_rows-redo : (operator : List ℕ) (rows : List (Row O)) (n : ℕ) (u : Option RedoRefusal) → redo_refusal asks rows n ≡ u → AreOfRows rows → AreOfRows (rows_redone operator rows n u)
    of_rows-redo operator rows n (Some u) is h = of_rows-push rows (row_of_redo operator n (RedoRefused u)) (λ m t. cc) h
    of_rows-redo operator rows zero None is h = cc
    of_rows-redo operator rows (suc k) None is h =
        let free = free_redo asks rows k is in
        of_rows-push (mark rows k None) (row_of_redo operator (suc k) (Redid (suc k))) (marked_there rows k None free.0 free.1.here) (of_rows-mark rows k None h)

    of_rows-after : (first : Entries) (rows : List (Row O)) (call : Call O) → AreOfRows rows → AreOfRows (rows_after asks meaning first rows call)
    of_rows-after first rows (operator, Do c) h = of_rows-push rows (answered operator c (outcome_of meaning c (replay asks meaning first rows))) (λ m t. cc) h
    of_rows-after first rows (operator, Undo n) h = of_rows-undo operator rows n (undo_refusal asks rows n) refl h
    of_rows-after first rows (operator, Redo n) h = of_rows-redo operator rows n (redo_refusal asks rows n) refl h

    of_rows-from : (first : Entries) (rows : List (Row O)) (calls : List (Call O)) → AreOfRows rows → AreOfRows (run asks meaning first rows calls)
    of_rows-from first rows [] h = h
    of_rows-from first rows (call ∷ calls) h = of_rows-from first (rows_after asks meaning first rows call) calls (of_rows-after first rows call h)

    none_of : (m n : ℕ) → Toggles {O = O} [] m n → is_some (row_at {O = O} [] n) ≡ true
    none_of zero n t = cc (t.1)
    none_of (suc k) n t = cc (t.1)

    pub are_marked : (first : Entries) (calls : List (Call O)) → AreMarked (run asks meaning first [] calls)
    are_marked first calls = record {
      marked = marked_is (run asks meaning first [] calls) (marks-run asks meaning first calls);
      of_row = of_rows-from first [] calls none_of;
    }
