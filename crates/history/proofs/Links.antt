-- The links of rows after a call, and what they imply for the rows from an index on.
use Rattle.std.proofs.Common.{◌≡◌, ◌+◌, ◌-◌, ◌<◌, ◌==◌, ℕ, zero, suc, Bool, true, false, cond, List, [], ◌∷◌, ◌++◌, Option, Some, None, is_some, slice_get, get_or, set, length, length-append, refl, sym, ap, subst, ◌∙◌, arith, inl, inr}
use Rattle.std.proofs.lemmas.Bool.{cases_Bool, false≢true}
use Rattle.std.proofs.lemmas.Bool.Decides.{Decides-eqb}
use Rattle.std.proofs.lemmas.List.{get_or-set_same, get_or-set_other, length-set}
use Rattle.std.proofs.lemmas.Option.{slice_get_within}
use Rattle.history.specs.declared.row.Row.{Row}
use Rattle.history.specs.declared.row.Request.{Request}
use Rattle.history.specs.declared.row.Request.TheVariants.{Do, Undo, Redo}
use Rattle.history.specs.declared.row.RowReply.{RowReply}
use Rattle.history.specs.declared.row.RowReply.TheVariants.{Answered, Undid, UndoRefused, Redid, RedoRefused}
use Rattle.history.specs.Rows.{row_at, toggled, mark, undone, redone, row_of_undo, row_of_redo, unless_undone, accepted, survivor}
use Rattle.history.specs.Toggles.{toggled_at, toggle_then, last_toggle_from, last_toggle, link_at, LinksBack, AreLinked, relinked}
use Rattle.history.proofs.Places.{row_new}
use Rattle.history.proofs.Replayed.{length-mark}

-- ---- lists of numbers
get_none : (k : ℕ) → get_or {A = ℕ} [] k 0 ≡ 0
get_none zero = refl
get_none (suc k) = refl

-- one more 0 is the default
get_push-zero : (links : List ℕ) (k : ℕ) → get_or (links ++ 0 ∷ []) k 0 ≡ get_or links k 0
get_push-zero [] zero = refl
get_push-zero [] (suc k) = get_none k
get_push-zero (link ∷ links) zero = refl
get_push-zero (link ∷ links) (suc k) = get_push-zero links k

get_push-other : (links : List ℕ) (last k : ℕ) → (k ≡ length links → ⊥) → get_or (links ++ last ∷ []) k 0 ≡ get_or links k 0
get_push-other [] last zero away = absurd (away refl)
get_push-other [] last (suc k) away = get_none k
get_push-other (link ∷ links) last zero away = refl
get_push-other (link ∷ links) last (suc k) away = get_push-other links last k (λ same. away (ap suc same))

link_at-zero : (links : List ℕ) (n : ℕ) → link_at (links ++ 0 ∷ []) n ≡ link_at links n
link_at-zero links zero = refl
link_at-zero links (suc k) = get_push-zero links k

module _ {O : Type 0} where
  -- ---- the last toggle
  toggle_push : (rows : List (Row O)) (row : Row O) (at n last : ℕ)
      → last_toggle_from (rows ++ row ∷ []) at n last ≡ toggle_then (toggled row.reply) (at + length rows) n (last_toggle_from rows at n last)
  toggle_push [] row at n last = let same : at ≡ at + 0 = omega arith in ap (λ (i : ℕ). toggle_then (toggled row.reply) i n last) same
  toggle_push (r ∷ rows) row at n last =
      let same : at + 1 + length rows ≡ at + suc (length rows) = omega arith in
      toggle_push rows row (at + 1) n (toggle_then (toggled r.reply) at n last)
      ∙ ap (λ (i : ℕ). toggle_then (toggled row.reply) i n (last_toggle_from rows (at + 1) n (toggle_then (toggled r.reply) at n last))) same

  toggle_mark : (rows : List (Row O)) (k : ℕ) (by : Option ℕ) (at n last : ℕ) → last_toggle_from (mark rows k by) at n last ≡ last_toggle_from rows at n last
  toggle_mark [] k by at n last = refl
  toggle_mark (r ∷ rows) zero by at n last = refl
  toggle_mark (r ∷ rows) (suc k) by at n last = toggle_mark rows k by (at + 1) n (toggle_then (toggled r.reply) at n last)

  -- ---- toggles that link back
  back-push : (n : ℕ) (rows : List (Row O)) (links : List ℕ) (row : Row O) (link at last : ℕ) → length links ≡ length rows → LinksBack n rows links at last
      → (toggled row.reply ≡ Some n → link ≡ last_toggle_from rows at n last) → LinksBack n (rows ++ row ∷ []) (links ++ link ∷ []) at last
  back-push n [] [] row link at last each back here = (here, tt)
  back-push n [] (l ∷ links) row link at last each back here = absurd (omega (arith, each))
  back-push n (r ∷ rows) [] row link at last each back here = absurd back
  back-push n (r ∷ rows) (l ∷ links) row link at last each back here =
      (back.0, back-push n rows links row link (at + 1) (toggle_then (toggled r.reply) at n last) (omega (arith, each)) back.1 here)

  back-mark : (n : ℕ) (rows : List (Row O)) (links : List ℕ) (k : ℕ) (by : Option ℕ) (at last : ℕ) → LinksBack n rows links at last → LinksBack n (mark rows k by) links at last
  back-mark n [] links k by at last back = back
  back-mark n (r ∷ rows) [] zero by at last back = back
  back-mark n (r ∷ rows) [] (suc k) by at last back = back
  back-mark n (r ∷ rows) (l ∷ links) zero by at last back = back
  back-mark n (r ∷ rows) (l ∷ links) (suc k) by at last back = (back.0, back-mark n rows links k by (at + 1) (toggle_then (toggled r.reply) at n last) back.1)

  -- the link of a row that isn't a toggle implies nothing about them
  back-set : (n : ℕ) (rows : List (Row O)) (links : List ℕ) (k m at last : ℕ) → toggled_at (slice_get rows k) ≡ None → LinksBack n rows links at last → LinksBack n rows (set links k m) at last
  back-set n [] links k m at last off back = tt
  back-set n (r ∷ rows) [] zero m at last off back = absurd back
  back-set n (r ∷ rows) [] (suc k) m at last off back = absurd back
  back-set n (r ∷ rows) (l ∷ links) zero m at last off back = (λ is. let never : None ≡ Some n = sym off ∙ is in cc, back.1)
  back-set n (r ∷ rows) (l ∷ links) (suc k) m at last off back = (back.0, back-set n rows links k m (at + 1) (toggle_then (toggled r.reply) at n last) off back.1)

  -- ---- which rows are toggles
  toggled-mark : (rows : List (Row O)) (k : ℕ) (by : Option ℕ) (i : ℕ) → toggled_at (slice_get (mark rows k by) i) ≡ toggled_at (slice_get rows i)
  toggled-mark [] k by i = refl
  toggled-mark (r ∷ rows) zero by zero = refl
  toggled-mark (r ∷ rows) zero by (suc i) = refl
  toggled-mark (r ∷ rows) (suc k) by zero = refl
  toggled-mark (r ∷ rows) (suc k) by (suc i) = toggled-mark rows k by i

  -- one more row that isn't a toggle, or that is after the rows in question
  toggled-push : (rows : List (Row O)) (row : Row O) (i : ℕ) → (i ≡ length rows → toggled row.reply ≡ None) → toggled_at (slice_get (rows ++ row ∷ []) i) ≡ toggled_at (slice_get rows i)
  toggled-push [] row zero off = off refl
  toggled-push [] row (suc i) off = refl
  toggled-push (r ∷ rows) row zero off = refl
  toggled-push (r ∷ rows) row (suc i) off = toggled-push rows row i (λ same. off (ap suc same))

  toggled_row-push : (rows : List (Row O)) (row : Row O) (n : ℕ) → (n ≡ length rows + 1 → toggled row.reply ≡ None) → toggled_at (row_at (rows ++ row ∷ []) n) ≡ toggled_at (row_at rows n)
  toggled_row-push rows row zero off = refl
  toggled_row-push rows row (suc i) off = toggled-push rows row i (λ same. off (omega (arith, same)))

  toggled_row-mark : (rows : List (Row O)) (k : ℕ) (by : Option ℕ) (n : ℕ) → toggled_at (row_at (mark rows k by) n) ≡ toggled_at (row_at rows n)
  toggled_row-mark rows k by zero = refl
  toggled_row-mark rows k by (suc i) = toggled-mark rows k by i

  -- ---- one more row that isn't a toggle
  pub linked_push : (links : List ℕ) (rows : List (Row O)) (row : Row O) → toggled row.reply ≡ None → AreLinked links rows → AreLinked (links ++ 0 ∷ []) (rows ++ row ∷ [])
  linked_push links rows row off linked = record {
    each = omega (arith, linked.each, length-append links (0 ∷ []), length-append rows (row ∷ []));
    back = λ n. back-push n rows links row 0 1 0 linked.each (linked.back n) (λ is. let never : None ≡ Some n = sym off ∙ is in cc);
    last = λ n none.
        link_at-zero links n ∙ linked.last n (sym (toggled_row-push rows row n (λ same. off)) ∙ none)
        ∙ sym (toggle_push rows row 1 n 0 ∙ ap (λ (o : Option ℕ). toggle_then o (1 + length rows) n (last_toggle rows n)) off);
  }

  -- ---- one more toggle, of row suc k
  module _ (links : List ℕ) (rows : List (Row O)) (k : ℕ) (by : Option ℕ) (row last : Row O) (here : slice_get rows k ≡ Some row) (no_toggle : toggled row.reply ≡ None)
      (names : toggled last.reply ≡ Some (suc k)) (linked : AreLinked links rows) where
    abbrev m : ℕ
    m = length rows + 1

    within : k < length rows
    within = slice_get_within rows k row here

    off : toggled_at (slice_get rows k) ≡ None
    off = ap (λ (o : Option (Row O)). toggled_at o) here ∙ no_toggle

    -- the last toggle of each row now
    last_is : (n : ℕ) → last_toggle (mark rows k by ++ last ∷ []) n ≡ cond (suc k == n) m (last_toggle rows n)
    last_is n =
        let number : 1 + length (mark rows k by) ≡ m = omega (arith, length-mark rows k by) in
        toggle_push (mark rows k by) last 1 n 0
        ∙ ap (λ (i : ℕ). toggle_then (toggled last.reply) i n (last_toggle (mark rows k by) n)) number
        ∙ ap (λ (o : Option ℕ). toggle_then o m n (last_toggle (mark rows k by) n)) names
        ∙ ap (λ (old : ℕ). cond (suc k == n) m old) (toggle_mark rows k by 1 n 0)

    -- its own link was the last toggle of row suc k
    link_is : (n : ℕ) → toggled last.reply ≡ Some n → get_or links k 0 ≡ last_toggle_from (mark rows k by) 1 n 0
    link_is n is =
        let same : Some (suc k) ≡ Some n = sym names ∙ is in
        let number : suc k ≡ n = cc in
        linked.last (suc k) off ∙ ap (last_toggle rows) number ∙ sym (toggle_mark rows k by 1 n 0)

    own_link : get_or (set links k m ++ get_or links k 0 ∷ []) k 0 ≡ m
    own_link =
        let place : k < length links = omega (arith, within, linked.each) in
        get_push-other (set links k m) (get_or links k 0) k (λ same. omega (arith, same, place, length-set links k m)) ∙ get_or-set_same links k m 0 place

    other_link : (j : ℕ) → (j ≡ k → ⊥) → (j ≡ length rows → ⊥) → get_or (set links k m ++ get_or links k 0 ∷ []) j 0 ≡ get_or links j 0
    other_link j away past =
        get_push-other (set links k m) (get_or links k 0) j (λ same. past (omega (arith, same, linked.each, length-set links k m))) ∙ get_or-set_other links k j m 0 away

    -- the toggle itself is one
    new_is : toggled_at (row_at (mark rows k by ++ last ∷ []) m) ≡ Some (suc k)
    new_is =
        let number : length (mark rows k by) + 1 ≡ m = omega (arith, length-mark rows k by) in
        ap (λ (i : ℕ). toggled_at (row_at (mark rows k by ++ last ∷ []) i)) (sym number) ∙ ap (λ (o : Option (Row O)). toggled_at o) (row_new (mark rows k by) last) ∙ names

    last_of : (n : ℕ) → toggled_at (row_at (mark rows k by ++ last ∷ []) n) ≡ None → link_at (set links k m ++ get_or links k 0 ∷ []) n ≡ last_toggle (mark rows k by ++ last ∷ []) n
    last_of zero none =
        linked.last zero refl ∙ ap (λ b. cond b m (last_toggle rows zero)) (sym (zero_differs)) ∙ sym (last_is zero)
      where
        zero_differs : (suc k == zero) ≡ false
        zero_differs = elim (cases_Bool (suc k == zero)) [
          | inl same ↦ (let number : suc k ≡ zero = (Decides-eqb (suc k) zero).0 same in absurd (omega (arith, number)))
          | inr other ↦ other
        ]
    last_of (suc j) none = elim (cases_Bool (suc k == suc j)) [
      | inl same ↦
          let number : suc k ≡ suc j = (Decides-eqb (suc k) (suc j)).0 same in
          let place : j ≡ k = omega (arith, number) in
          ap (λ (i : ℕ). get_or (set links k m ++ get_or links k 0 ∷ []) i 0) place ∙ own_link
          ∙ ap (λ b. cond b m (last_toggle rows (suc j))) (sym same) ∙ sym (last_is (suc j))
      | inr other ↦
          let away : j ≡ k → ⊥ = λ is. false≢true (sym other ∙ (Decides-eqb (suc k) (suc j)).1 (ap suc (sym is))) in
          let past : j ≡ length rows → ⊥ = λ is.
          (let number : suc j ≡ m = omega (arith, is) in
          let never : None ≡ Some (suc k) = sym none ∙ ap (λ (i : ℕ). toggled_at (row_at (mark rows k by ++ last ∷ []) i)) number ∙ new_is in
          cc) in
          let before : toggled_at (row_at rows (suc j)) ≡ None =
          sym (toggled_row-push (mark rows k by) last (suc j) (λ is. absurd (past (omega (arith, is, length-mark rows k by)))) ∙ toggled_row-mark rows k by (suc j)) ∙ none in
          other_link j away past ∙ linked.last (suc j) before
          ∙ ap (λ b. cond b m (last_toggle rows (suc j))) (sym other) ∙ sym (last_is (suc j))
    ]

    pub linked_toggle : AreLinked (set links k m ++ get_or links k 0 ∷ []) (mark rows k by ++ last ∷ [])
    linked_toggle = record {
      each = omega (arith, linked.each, length-set links k m, length-append (set links k m) (get_or links k 0 ∷ []), length-append (mark rows k by) (last ∷ []), length-mark rows k by);
      back = λ n.
          back-push n (mark rows k by) (set links k m) last (get_or links k 0) 1 0 (omega (arith, linked.each, length-set links k m, length-mark rows k by))
          (back-mark n rows (set links k m) k by 1 0 (back-set n rows links k m 1 0 off (linked.back n))) (link_is n);
      last = last_of;
    }

module _ {O : Type 0} (asks : O → Bool) where
  -- a command isn't a toggle
  no_toggle : (request : Request O) (reply : RowReply) → is_some (accepted asks request reply) ≡ true → toggled reply ≡ None
  no_toggle (Do c) (Answered answer) h = refl
  no_toggle (Do c) (Undid n) h = absurd (false≢true h)
  no_toggle (Do c) (UndoRefused refusal) h = refl
  no_toggle (Do c) (Redid n) h = absurd (false≢true h)
  no_toggle (Do c) (RedoRefused refusal) h = refl
  no_toggle (Undo n) reply h = absurd (false≢true h)
  no_toggle (Redo n) reply h = absurd (false≢true h)

  command_of_survivor : (by : Option ℕ) (command : Option O) → is_some (unless_undone by command) ≡ true → is_some command ≡ true
  command_of_survivor None command h = h
  command_of_survivor (Some by) command h = absurd (false≢true h)

  -- the links after an undo
  pub linked_undone : (links : List ℕ) (rows : List (Row O)) (operator : List ℕ) (n by : ℕ) (row : Row O) → row_at rows n ≡ Some row → is_some (survivor asks row) ≡ true
      → by ≡ length rows + 1 → AreLinked links rows → AreLinked (relinked links n by) (undone rows n (length rows + 1) ++ row_of_undo operator n (Undid n) ∷ [])
  linked_undone links rows operator zero by row here stands is linked = cc
  linked_undone links rows operator (suc k) by row here stands is linked =
      let new : List (Row O) = undone rows (suc k) (length rows + 1) ++ row_of_undo operator (suc k) (Undid (suc k)) ∷ [] in
      let one : suc k - 1 ≡ k = omega arith in
      subst (λ (j : ℕ). AreLinked (set links j by ++ get_or links k 0 ∷ []) new) (sym one) (subst (λ (i : ℕ). AreLinked (set links k i ++ get_or links k 0 ∷ []) new) (sym is)
      (linked_toggle links rows k (Some (length rows + 1)) row (row_of_undo operator (suc k) (Undid (suc k))) here
      (no_toggle row.request row.reply (command_of_survivor row.undone_by (accepted asks row.request row.reply) stands)) refl linked))

  -- and those after a redo
  pub linked_redone : (links : List ℕ) (rows : List (Row O)) (operator : List ℕ) (n by : ℕ) (row : Row O) (c : O) → row_at rows n ≡ Some row → accepted asks row.request row.reply ≡ Some c
      → by ≡ length rows + 1 → AreLinked links rows → AreLinked (relinked links n by) (redone rows n ++ row_of_redo operator n (Redid n) ∷ [])
  linked_redone links rows operator zero by row c here command is linked = cc
  linked_redone links rows operator (suc k) by row c here command is linked =
      let new : List (Row O) = redone rows (suc k) ++ row_of_redo operator (suc k) (Redid (suc k)) ∷ [] in
      let one : suc k - 1 ≡ k = omega arith in
      subst (λ (j : ℕ). AreLinked (set links j by ++ get_or links k 0 ∷ []) new) (sym one) (subst (λ (i : ℕ). AreLinked (set links k i ++ get_or links k 0 ∷ []) new) (sym is)
      (linked_toggle links rows k None row (row_of_redo operator (suc k) (Redid (suc k))) here
      (no_toggle row.request row.reply (ap (λ (o : Option O). is_some o) command)) refl linked))
