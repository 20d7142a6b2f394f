-- What undos leave of the rows that survive.
use Rattle.std.proofs.Common.{◌≡◌, ◌+◌, ◌<◌, ◌==◌, ◌⊎◌, ℕ, zero, suc, Bool, true, false, List, [], ◌∷◌, ◌++◌, Option, Some, None, is_some, slice_get, length, refl, sym, ap, subst, ◌∙◌, arith, inl, inr}
use Rattle.std.specs.List.{Contains}
use Rattle.std.proofs.lemmas.Bool.{cases_Bool, false≢true}
use Rattle.std.proofs.lemmas.Bool.Decides.{Decides-eqb}
use Rattle.std.proofs.lemmas.List.Elements.{All-contains}
use Rattle.history.specs.declared.row.UndoRefusal.{UndoRefusal}
use Rattle.history.specs.declared.row.UndoRefusal.TheVariants.{NoSuchRow, NotACommand, AlreadyUndone, Blocked}
use Rattle.history.specs.declared.row.Row.{Row}
use Rattle.history.specs.declared.row.RowReply.{RowReply}
use Rattle.history.specs.declared.row.RowReply.TheVariants.{Undid, UndoRefused}
use Rattle.history.specs.Rows.{row_at, accepted, unless_undone, survivor, undone, row_of_undo, rows_undone, undo_refusal}
use Rattle.history.specs.Blocks.{Survives, Blocks, IsRefusedBy}
use Rattle.history.proofs.Blocking.{refusal_is}
use Rattle.history.proofs.Places.{row_pushed, no_row, row_undone, other_undone}
use Rattle.undo_orders.specs.ToUndo.{Falls, MustBeUndone, IsSurvivor, AreToUndo}
use Rattle.undo_orders.specs.ToUndo.MustBeUndone.{Itself, Blocking}
use Rattle.undo_orders.specs.Laws.{Undoing, numbers_of, after_undo, after_undos, IsUndone, UndoTheseAlone, OrderIsAccepted, EachIsNecessary}
use Rattle.undo_orders.proofs.Gathered.{in_first, in_later, in_cons, in_none, must_survive}

module _ {O : Type 0} (asks : O → Bool) where
  same_number : (m u : ℕ) → (m ≡ u) ⊎ (m ≡ u → ⊥)
  same_number m u = elim (cases_Bool (m == u)) [
    | inl same ↦ inl ((Decides-eqb m u).0 same)
    | inr other ↦ inr (λ same. false≢true (sym other ∙ (Decides-eqb m u).1 same))
  ]

  -- ---- a row that is added
  kept : (rows : List (Row O)) (last : Row O) (m : ℕ) (row : Row O) → row_at rows m ≡ Some row → row_at (rows ++ last ∷ []) m ≡ Some row
  kept rows last m row is = row_pushed rows last m (λ new. let never : None ≡ Some row = sym (no_row rows) ∙ ap (row_at rows) (sym new) ∙ is in cc) ∙ is

  in_push : (rows : List (Row O)) (last : Row O) (k : ℕ) (row : Row O) → slice_get (rows ++ last ∷ []) k ≡ Some row → (slice_get rows k ≡ Some row) ⊎ (last ≡ row)
  in_push [] last zero row h = inr cc
  in_push [] last (suc k) row h = cc
  in_push (r ∷ rows) last zero row h = inl h
  in_push (r ∷ rows) last (suc k) row h = in_push rows last k row h

  -- the row of an undo doesn't survive
  old_survives : (rows : List (Row O)) (operator : List ℕ) (u : ℕ) (reply : RowReply) (m : ℕ) (row : Row O) → Survives asks (rows ++ row_of_undo operator u reply ∷ []) m row → Survives asks rows m row
  old_survives rows operator u reply zero row survives = cc (survives.0)
  old_survives rows operator u reply (suc k) row survives = elim (in_push rows (row_of_undo operator u reply) k row survives.0) [
    | inl old ↦ (old, survives.1)
    | inr new ↦ absurd (false≢true (ap (λ (r : Row O). is_some (survivor asks r)) new ∙ survives.1))
  ]

  -- ---- an undo that is accepted
  -- a survivor is an accepted command that isn't undone
  parts_of_survivor : (command : Option O) (by : Option ℕ) → is_some (unless_undone by command) ≡ true → (is_some command ≡ true) × (by ≡ None)
  parts_of_survivor command None h = (h, refl)
  parts_of_survivor command (Some by) h = absurd (false≢true h)

  never_undone : (rows : List (Row O)) (m : ℕ) (row : Row O) → Survives asks rows m row → IsUndone asks rows m → ⊥
  never_undone rows m row survives (other, command, is_undone) =
      let both : Some row ≡ Some other = sym survives.0 ∙ command.0 in
      let same : row ≡ other = cc in
      let unmarked : row.undone_by ≡ None = (parts_of_survivor (accepted asks row.request row.reply) row.undone_by survives.1).1 in
      false≢true (ap (λ (by : Option ℕ). is_some by) (sym unmarked) ∙ ap (λ (r : Row O). is_some r.undone_by) same ∙ is_undone)

  -- if no row blocks a survivor, its undo isn't refused
  unrefused : (rows : List (Row O)) (n : ℕ) (row : Row O) → Survives asks rows n row → ((m : ℕ) → Blocks asks rows n m → ⊥)
      → (o : Option UndoRefusal) → IsRefusedBy asks rows n o → o ≡ None
  unrefused rows n row survives free None is = refl
  unrefused rows n row survives free (Some NoSuchRow) is = let never : None ≡ Some row = sym is ∙ survives.0 in cc
  unrefused rows n row survives free (Some NotACommand) (other, here, none) =
      let both : Some row ≡ Some other = sym survives.0 ∙ here in
      let same : other ≡ row = cc in
      let command = (parts_of_survivor (accepted asks row.request row.reply) row.undone_by survives.1).0 in
      absurd (false≢true (ap (λ (o : Option O). is_some o) (sym none) ∙ ap (λ (r : Row O). is_some (accepted asks r.request r.reply)) same ∙ command))
  unrefused rows n row survives free (Some (AlreadyUndone by)) (other, here, command, is) =
      let both : Some row ≡ Some other = sym survives.0 ∙ here in
      let same : row ≡ other = cc in
      let unmarked : row.undone_by ≡ None = (parts_of_survivor (accepted asks row.request row.reply) row.undone_by survives.1).1 in
      let never : None ≡ Some by = sym unmarked ∙ ap (λ (r : Row O). r.undone_by) same ∙ is in
      cc
  unrefused rows n row survives free (Some (Blocked m)) is = absurd (free m is.0)

  free_of : (rows : List (Row O)) (n : ℕ) → undo_refusal asks rows n ≡ None → IsRefusedBy asks rows n None
  free_of rows n is = subst (IsRefusedBy asks rows n) is (refusal_is asks rows n)

  module _ (rows : List (Row O)) (operator : List ℕ) (u : ℕ) (is : undo_refusal asks rows u ≡ None) where
    abbrev next : List (Row O)
    next = rows_undone operator rows u None

    -- the row itself
    pub undone_then : IsUndone asks next u
    undone_then =
        let free = free_of rows u is in
        let row = free.0 in
        let marked : Row O = record row { undone_by = Some (length rows + 1) } in
        let command = (parts_of_survivor (accepted asks row.request row.reply) row.undone_by free.1.1).0 in
        (marked, (kept (undone rows u (length rows + 1)) (row_of_undo operator u (Undid u)) u marked (row_undone rows u (length rows + 1) row free.1.0), command), refl)

    -- the other rows
    pub other_then : (m : ℕ) (row : Row O) → (m ≡ u → ⊥) → row_at rows m ≡ Some row → row_at next m ≡ Some row
    other_then m row other here = kept (undone rows u (length rows + 1)) (row_of_undo operator u (Undid u)) m row (other_undone rows u (length rows + 1) m other ∙ here)

    pub still_undone : (m : ℕ) → IsUndone asks rows m → IsUndone asks next m
    still_undone m undone_before = elim (same_number m u) [
      | inl same ↦ subst (IsUndone asks next) (sym same) undone_then
      | inr other ↦ (undone_before.0, (other_then m undone_before.0 other undone_before.1.0, undone_before.1.1), undone_before.2)
    ]

    pub survives_then : (m : ℕ) (row : Row O) → (m ≡ u → ⊥) → Survives asks rows m row → Survives asks next m row
    survives_then m row other survives = (other_then m row other survives.0, survives.1)

    pub survived : (m : ℕ) (row : Row O) → Survives asks next m row → Survives asks rows m row × (m ≡ u → ⊥)
    survived m row survives = elim (same_number m u) [
      | inl same ↦ absurd (never_undone next m row survives (subst (IsUndone asks next) (sym same) undone_then))
      | inr other ↦
          let old = old_survives (undone rows u (length rows + 1)) operator u (Undid u) m row survives in
          ((sym (other_undone rows u (length rows + 1) m other) ∙ old.0, old.1), other)
    ]

    pub blocks_then : (k m : ℕ) → (k ≡ u → ⊥) → (m ≡ u → ⊥) → Blocks asks rows k m → Blocks asks next k m
    blocks_then k m one other (row, later, stands, also, above, looked) = (row, later, survives_then k row one stands, survives_then m later other also, above, looked)

    pub blocked : (k m : ℕ) → Blocks asks next k m → Blocks asks rows k m × (m ≡ u → ⊥)
    blocked k m (row, later, stands, also, above, looked) =
        let old = survived m later also in
        ((row, later, (survived k row stands).0, old.0, above, looked), old.1)

  -- ---- an undo that is refused
  module _ (rows : List (Row O)) (last : Row O) where
    pub undone_beside : (m : ℕ) → IsUndone asks rows m → IsUndone asks (rows ++ last ∷ []) m
    undone_beside m before = (before.0, (kept rows last m before.0 before.1.0, before.1.1), before.2)

    pub blocks_beside : (k m : ℕ) → Blocks asks rows k m → Blocks asks (rows ++ last ∷ []) k m
    blocks_beside k m (row, later, stands, also, above, looked) = (row, later, (kept rows last k row stands.0, stands.1), (kept rows last m later also.0, also.1), above, looked)

  -- ---- several undos
  undone_after : (rows : List (Row O)) (operator : List ℕ) (u : ℕ) (o : Option UndoRefusal) → undo_refusal asks rows u ≡ o → (m : ℕ) → IsUndone asks rows m → IsUndone asks (rows_undone operator rows u o) m
  undone_after rows operator u None is m before = still_undone rows operator u is m before
  undone_after rows operator u (Some refusal) is m before = undone_beside rows (row_of_undo operator u (UndoRefused refusal)) m before

  stays_undone : (rows : List (Row O)) (undoings : List Undoing) (m : ℕ) → IsUndone asks rows m → IsUndone asks (after_undos asks rows undoings) m
  stays_undone rows [] m before = before
  stays_undone rows (undoing ∷ undoings) m before = stays_undone (after_undo asks rows undoing) undoings m (undone_after rows undoing.0 undoing.1 (undo_refusal asks rows undoing.1) refl m before)

  -- ---- each row that blocks one that is undone is undone first
  blocker_next : (rows : List (Row O)) (operator : List ℕ) (u : ℕ) (undoings : List Undoing) (k m : ℕ)
      → ((after : List (Row O)) → Blocks asks after k m → IsUndone asks (after_undos asks after undoings) k → IsUndone asks (after_undos asks after undoings) m)
      → (o : Option UndoRefusal) → undo_refusal asks rows u ≡ o → Blocks asks rows k m
      → IsUndone asks (after_undos asks (rows_undone operator rows u o) undoings) k → IsUndone asks (after_undos asks (rows_undone operator rows u o) undoings) m
  blocker_next rows operator u undoings k m later (Some refusal) is blocks undone_at_end =
      let last = row_of_undo operator u (UndoRefused refusal) in
      later (rows ++ last ∷ []) (blocks_beside rows last k m blocks) undone_at_end
  blocker_next rows operator u undoings k m later None is blocks undone_at_end = elim (same_number k u) [
    | inl same ↦ absurd ((free_of rows u is).2 m (subst (λ i. Blocks asks rows i m) same blocks))
    | inr one ↦ elim (same_number m u) [
      | inl same ↦ stays_undone (rows_undone operator rows u None) undoings m (subst (IsUndone asks (rows_undone operator rows u None)) (sym same) (undone_then rows operator u is))
      | inr other ↦ later (rows_undone operator rows u None) (blocks_then rows operator u is k m one other blocks) undone_at_end
    ]
  ]

  blocker_first : (rows : List (Row O)) (undoings : List Undoing) (k m : ℕ) → Blocks asks rows k m → IsUndone asks (after_undos asks rows undoings) k → IsUndone asks (after_undos asks rows undoings) m
  blocker_first rows [] k m blocks undone_at_end = absurd (never_undone rows k blocks.0 blocks.2 undone_at_end)
  blocker_first rows (undoing ∷ undoings) k m blocks undone_at_end =
      blocker_next rows undoing.0 undoing.1 undoings k m (λ after still at_end. blocker_first after undoings k m still at_end) (undo_refusal asks rows undoing.1) refl blocks undone_at_end

  must_first : (rows : List (Row O)) (n : ℕ) (undoings : List Undoing) → IsUndone asks (after_undos asks rows undoings) n → (m : ℕ) → MustBeUndone asks rows n m → IsUndone asks (after_undos asks rows undoings) m
  must_first rows n undoings undone_at_end m (Itself j same) = subst (IsUndone asks (after_undos asks rows undoings)) (sym same) undone_at_end
  must_first rows n undoings undone_at_end m (Blocking k j must blocks) = blocker_first rows undoings k j blocks (must_first rows n undoings undone_at_end k must)

  pub each_is_necessary : EachIsNecessary asks
  each_is_necessary rows n numbers undoings to_undo undone_at_end m here = must_first rows n undoings undone_at_end m ((to_undo.each m).0 here)

  -- ---- the order in which each is accepted
  -- These rows survive, from the last one to the first, and with each those that block it are there.
  record AreClosed (rows : List (Row O)) (numbers : List ℕ) : Type 0 where
    pub survive : (m : ℕ) → Contains numbers m → IsSurvivor asks rows m
    pub closed : (k m : ℕ) → Contains numbers k → Blocks asks rows k m → Contains numbers m
    pub falls : Falls numbers

  below_first : (k m : ℕ) (numbers : List ℕ) → Falls (k ∷ numbers) → Contains numbers m → m < k
  below_first k m numbers falls here = All-contains (λ i. i < k) numbers m falls.0 here

  -- nothing blocks the first of them
  first_free : (rows : List (Row O)) (k : ℕ) (numbers : List ℕ) → AreClosed rows (k ∷ numbers) → undo_refusal asks rows k ≡ None
  first_free rows k numbers closed =
      let survives = closed.survive k (in_first k numbers) in
      unrefused rows k survives.0 survives.1 none (undo_refusal asks rows k) (refusal_is asks rows k)
    where
      none : (m : ℕ) → Blocks asks rows k m → ⊥
      none m blocks = elim (in_cons k m numbers (closed.closed k m (in_first k numbers) blocks)) [
        | inl same ↦ let above : k < m = blocks.4 in omega (arith, same, above)
        | inr later ↦ let above : k < m = blocks.4 in omega (arith, above, below_first k m numbers closed.falls later)
      ]

  -- and after its undo the others are so
  rest_closed : (rows : List (Row O)) (operator : List ℕ) (k : ℕ) (numbers : List ℕ) → AreClosed rows (k ∷ numbers) → (is : undo_refusal asks rows k ≡ None) → AreClosed (rows_undone operator rows k None) numbers
  rest_closed rows operator k numbers closed is = record {
    survive = λ m here. let old = closed.survive m (in_later k m numbers here) in (old.0, survives_then rows operator k is m old.0 (away m here) old.1);
    closed = λ j m here blocks. let old = blocked rows operator k is j m blocks in
        elim (in_cons k m numbers (closed.closed j m (in_later k j numbers here) old.0)) [ inl same ↦ absurd (old.1 (sym same)) | inr later ↦ later ];
    falls = closed.falls.1;
  }
    where
      away : (m : ℕ) → Contains numbers m → m ≡ k → ⊥
      away m here same = omega (arith, same, below_first k m numbers closed.falls here)

  undone_next : (rows : List (Row O)) (undoing : Undoing) (undoings : List Undoing) → undo_refusal asks rows undoing.1 ≡ None
      → UndoTheseAlone asks (rows_undone undoing.0 rows undoing.1 None) (numbers_of undoings) undoings → UndoTheseAlone asks rows (numbers_of (undoing ∷ undoings)) (undoing ∷ undoings)
  undone_next rows undoing undoings is rest =
      let u = undoing.1 in
      let numbers = numbers_of undoings in
      let then : UndoTheseAlone asks (after_undo asks rows undoing) numbers undoings = subst (λ o. UndoTheseAlone asks (rows_undone undoing.0 rows u o) numbers undoings) (sym is) rest in
      record {
        accepted = (is, then.accepted);
        undone = λ m here. elim (in_cons u m numbers here) [
          | inl same ↦
              let at : IsUndone asks (rows_undone undoing.0 rows u None) m = subst (IsUndone asks (rows_undone undoing.0 rows u None)) same (undone_then rows undoing.0 u is) in
              stays_undone (after_undo asks rows undoing) undoings m (subst (λ o. IsUndone asks (rows_undone undoing.0 rows u o) m) (sym is) at)
          | inr later ↦ then.undone m later
        ];
        others = λ m row. (
          λ survives.
              let old = (then.others m row).0 survives in
              let first = survived rows undoing.0 u is m row (subst (λ o. Survives asks (rows_undone undoing.0 rows u o) m row) is old.0) in
              (first.0, λ here. elim (in_cons u m numbers here) [ inl same ↦ first.1 (sym same) | inr later ↦ old.1 later ]),
          λ both.
              let away : m ≡ u → ⊥ = λ same. both.1 (subst (Contains (u ∷ numbers)) (sym same) (in_first u numbers)) in
              let kept_one = survives_then rows undoing.0 u is m row away both.0 in
              (then.others m row).1 (subst (λ o. Survives asks (rows_undone undoing.0 rows u o) m row) (sym is) kept_one, λ later. both.1 (in_later u m numbers later)),
        );
      }

  undone_alone : (rows : List (Row O)) (undoings : List Undoing) → AreClosed rows (numbers_of undoings) → UndoTheseAlone asks rows (numbers_of undoings) undoings
  undone_alone rows [] closed = record {
    accepted = tt;
    undone = λ m here. absurd (in_none m here);
    others = λ m row. (λ survives. (survives, in_none m), λ both. both.0);
  }
  undone_alone rows (undoing ∷ undoings) closed =
      let is = first_free rows undoing.1 (numbers_of undoings) closed in
      undone_next rows undoing undoings is (undone_alone (rows_undone undoing.0 rows undoing.1 None) undoings (rest_closed rows undoing.0 undoing.1 (numbers_of undoings) closed is))

  closed_of : (rows : List (Row O)) (n : ℕ) (numbers : List ℕ) → AreToUndo asks rows n numbers → AreClosed rows numbers
  closed_of rows n numbers to_undo = record {
    survive = λ m here. must_survive asks rows n to_undo.survives m ((to_undo.each m).0 here);
    closed = λ k m here blocks. (to_undo.each m).1 (Blocking k m ((to_undo.each k).0 here) blocks);
    falls = to_undo.falls;
  }

  pub order_is_accepted : OrderIsAccepted asks
  order_is_accepted rows n numbers undoings to_undo same =
      subst (λ ns. UndoTheseAlone asks rows ns undoings) same (undone_alone rows undoings (subst (AreClosed rows) (sym same) (closed_of rows n numbers to_undo)))
