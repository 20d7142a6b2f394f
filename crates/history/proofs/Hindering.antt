-- The row that is found to hinder a redo is the first that does.
use Rattle.std.proofs.Common.{◌≡◌, ◌≢◌, ◌+◌, ◌<◌, ◌≤◌, ◌-◌, ◌&&◌, ◌⊎◌, ℕ, zero, suc, Bool, true, false, List, [], ◌∷◌, Option, Some, None, is_some, slice_get, take, drop, refl, sym, ap, subst, ◌∙◌, arith, inl, inr}
use Rattle.std.proofs.lemmas.Bool.{cases_Bool, and_parts, true≢false, false≢true}
use Rattle.history.specs.declared.row.RedoRefusal.{RedoRefusal}
use Rattle.history.specs.declared.row.Row.{Row}
use Rattle.history.specs.declared.row.RowReply.TheVariants.{Redid, RedoRefused}
use Rattle.history.specs.Rows.{row_at, first_where, meets, unless_undone, undone_command, or_hindered, or_later, row_redo_refusal, differ, accepted, has_flipped, first_flipped, first_met, undoer_before, hindrance_since, hindrance_at, hindrance, redo_refusal_at, redo_refusal, row_of_redo, redone, rows_redone}
use Rattle.history.specs.Blocks.{LookedAt}
use Rattle.history.specs.Hindrances.{redo_refusal_told, IsCommand, HasFlipped, IsInTheWay, Hinders, IsFirstToHinder, IsRedoRefusedBy, TellsRedoRefusal}
use Rattle.history.proofs.Blocking.{Met, Outcome, first_met-is, met_of, met_stands, meets-looked, looked-meets, get_nil, last_is}

-- ---- the first row that passes a test
module _ {O : Type 0} (test : ℕ → Row O → Bool) where
  -- The row at this index passes.
  abbrev pub Passes : List (Row O) → ℕ → ℕ → Type 0
  Passes rows at j = (row : Row O) × (slice_get rows j ≡ Some row) × (test (at + j) row ≡ true)

  abbrev pub IsFirst : List (Row O) → ℕ → Option ℕ → Type 0
  IsFirst rows at None = (j : ℕ) → Passes rows at j → ⊥
  IsFirst rows at (Some m) = (j : ℕ) × (m ≡ at + j) × Passes rows at j × ((i : ℕ) → Passes rows at i → j ≤ i)

  passes_later : (row : Row O) (rows : List (Row O)) (at : ℕ) → test at row ≡ false → (j : ℕ) → Passes (row ∷ rows) at j → (i : ℕ) × (j ≡ suc i) × Passes rows (at + 1) i
  passes_later row rows at off zero (r, is, holds) =
      let same : r ≡ row = cc in
      let number : at + 0 ≡ at = omega arith in
      absurd (true≢false (sym holds ∙ ap (λ i. test i r) number ∙ ap (test at) same ∙ off))
  passes_later row rows at off (suc i) (r, is, holds) =
      let number : at + 1 + i ≡ at + suc i = omega arith in
      (i, refl, (r, is, ap (λ k. test k r) number ∙ holds))

  first_later : (row : Row O) (rows : List (Row O)) (at : ℕ) (o : Option ℕ) → test at row ≡ false → IsFirst rows (at + 1) o → IsFirst (row ∷ rows) at o
  first_later row rows at None off rest = λ j passes. let next = passes_later row rows at off j passes in rest next.0 next.2
  first_later row rows at (Some m) off (k, is, (r, here, holds), least) =
      let number : at + suc k ≡ at + 1 + k = omega arith in (
        suc k,
        omega (arith, is),
        (r, here, ap (λ i. test i r) number ∙ holds),
        λ j passes. let next = passes_later row rows at off j passes in let also = least next.0 next.2 in omega (arith, also, next.1),
      )

  passes_nil : (at j : ℕ) → Passes [] at j → ⊥
  passes_nil at j (r, is, holds) = let never : None ≡ Some r = sym (get_nil j) ∙ is in cc

  pub first_where-is : (rows : List (Row O)) (at : ℕ) → IsFirst rows at (first_where test rows at)
  first_where-is [] at = λ j passes. passes_nil at j passes
  first_where-is (row ∷ rows) at = elim (cases_Bool (test at row)) [
    | inl on ↦ let number : at + 0 ≡ at = omega arith in rw on (0, omega arith, (row, refl, ap (λ i. test i row) number ∙ on), λ j passes. omega arith)
    | inr off ↦ rw off (first_later row rows at (first_where test rows (at + 1)) off (first_where-is rows (at + 1)))
  ]

pub get_take_in : {A : Type 0} (v : ℕ) (xs : List A) (j : ℕ) (x : A) → slice_get (take v xs) j ≡ Some x → (j < v) × (slice_get xs j ≡ Some x)
get_take_in zero xs j x is = let never : None ≡ Some x = sym (get_nil j) ∙ is in cc
get_take_in (suc v) [] j x is = let never : None ≡ Some x = sym (get_nil j) ∙ is in cc
get_take_in (suc v) (y ∷ xs) zero x is = (omega arith, is)
get_take_in (suc v) (y ∷ xs) (suc j) x is = let rest = get_take_in v xs j x is in (omega (arith, rest.0), rest.1)

pub get_take_out : {A : Type 0} (v : ℕ) (xs : List A) (j : ℕ) (x : A) → j < v → slice_get xs j ≡ Some x → slice_get (take v xs) j ≡ Some x
get_take_out zero xs j x lt is = absurd (omega (arith, lt))
get_take_out (suc v) [] j x lt is = is
get_take_out (suc v) (y ∷ xs) zero x lt is = is
get_take_out (suc v) (y ∷ xs) (suc j) x lt is = get_take_out v xs j x (omega (arith, lt)) is

module _ {O : Type 0} where
  flipped_says : (command : Option O) (was now : Option ℕ) → (is_some command && differ was now) ≡ true
      → (is_some command ≡ true) × (((now ≡ None) × (was ≢ None)) ⊎ ((now ≢ None) × (was ≡ None)))
  flipped_says None was now h = absurd (false≢true h)
  flipped_says (Some c) None None h = absurd (false≢true h)
  flipped_says (Some c) None (Some m) h = (refl, inr (λ none. cc, refl))
  flipped_says (Some c) (Some m) None h = (refl, inl (refl, λ none. cc))
  flipped_says (Some c) (Some m) (Some l) h = absurd (false≢true h)

  says_flipped : (command : Option O) (was now : Option ℕ) → is_some command ≡ true → (((now ≡ None) × (was ≢ None)) ⊎ ((now ≢ None) × (was ≡ None)))
      → (is_some command && differ was now) ≡ true
  says_flipped None was now some h = absurd (false≢true some)
  says_flipped (Some c) None None some (inl (here, off)) = absurd (off refl)
  says_flipped (Some c) None None some (inr (off, here)) = absurd (off refl)
  says_flipped (Some c) None (Some m) some h = refl
  says_flipped (Some c) (Some m) None some h = refl
  says_flipped (Some c) (Some m) (Some l) some (inl (here, off)) = cc (here)
  says_flipped (Some c) (Some m) (Some l) some (inr (off, here)) = cc (here)

module _ {O : Type 0} (asks : O → Bool) (rows : List (Row O)) (n u : ℕ) (row : Row O) (here : row_at rows n ≡ Some row) (command : is_some (accepted asks row.request row.reply) ≡ true) (undone : row.undone_by ≡ Some u) where
  abbrev in_the_way : ℕ → Row O → Bool
  in_the_way i other = has_flipped asks (undoer_before rows u i) other && meets other.changes row.reading

  same_parts : (one : Row O) (w : ℕ) → row_at rows n ≡ Some one → one.undone_by ≡ Some w → (one ≡ row) × (w ≡ u)
  same_parts one w is by =
      let same : Some one ≡ Some row = sym is ∙ here in
      let rows_same : one ≡ row = cc in
      let marks : Some w ≡ Some u = sym by ∙ ap (λ (r : Row O). r.undone_by) rows_same ∙ undone in
      (rows_same, cc)

  -- an earlier command that is found
  earlier : (j : ℕ) → Passes in_the_way (take (n - 1) rows) 1 j → Hinders asks rows n (1 + j)
  earlier j (other, is, holds) =
      let place = get_take_in (n - 1) rows j other is in
      let parts = and_parts (has_flipped asks (undoer_before rows u (1 + j)) other) (meets other.changes row.reading) holds in
      let flipped = flipped_says (accepted asks other.request other.reply) (undoer_before rows u (1 + j)) other.undone_by parts.0 in
      let number : 1 + j ≡ suc j = omega arith in
      let there : row_at rows (1 + j) ≡ Some other = ap (row_at rows) number ∙ place.1 in
      (row, other, u, (here, command), undone, inr ((there, flipped.0), omega (arith, place.0), flipped.1, meets-looked other.changes row.reading parts.1))

  -- and it is one that hinders
  found_earlier : (m : ℕ) (other : Row O) → IsCommand asks rows m other → m < n → HasFlipped asks rows u m other → LookedAt other row → (j : ℕ) × (m ≡ 1 + j) × Passes in_the_way (take (n - 1) rows) 1 j
  found_earlier zero other is lt flipped looked = cc (is.0)
  found_earlier (suc j) other is lt flipped looked =
      let number : 1 + j ≡ suc j = omega arith in
      let both : in_the_way (suc j) other ≡ true =
      ap (λ b. b && meets other.changes row.reading) (says_flipped (accepted asks other.request other.reply) (undoer_before rows u (suc j)) other.undone_by is.1 flipped) ∙ looked-meets other.changes row.reading looked in
      (j, sym number, (other, get_take_out (n - 1) rows j other (omega (arith, lt)) is.0, ap (λ i. in_the_way i other) number ∙ both))

  later : (m k : ℕ) → m ≡ n + 1 + k → Met asks row.changes (drop n rows) k → Hinders asks rows n m
  later m k is met =
      let found = met_stands asks rows n k m row is met in
      (row, found.0, u, (here, command), undone, inl (found.1, omega (arith, is), found.2))

  -- each row that hinders is of one of the two kinds
  kind : (m : ℕ) → Hinders asks rows n m → (other : Row O) × IsInTheWay asks rows n u m row other
  kind m (one, other, w, is, by, way) =
      let same = same_parts one w is.0 by in
      (other, subst (λ (r : Row O). IsInTheWay asks rows n u m r other) same.0 (subst (λ i. IsInTheWay asks rows n i m one other) same.1 way))

  first_of : (flipped met : Option ℕ) → IsFirst in_the_way (take (n - 1) rows) 1 flipped → Outcome asks row.changes (drop n rows) (n + 1) met → IsFirstToHinder asks rows n (or_later flipped met)
  first_of (Some k) met (j, is, passes, least) outcome = (
    subst (Hinders asks rows n) (sym is) (earlier j passes),
    λ m hinders. by_kind m (kind m hinders),
  )
    where
      by_kind : (m : ℕ) → ((other : Row O) × IsInTheWay asks rows n u m row other) → k ≤ m
      by_kind m (other, inl (stands, above, looked)) = let place = get_take_in (n - 1) rows j passes.0 passes.1 in omega (arith, above, place.0, is)
      by_kind m (other, inr (is_command, below, flipped, looked)) =
          let found = found_earlier m other is_command below flipped looked in
          let less = least found.0 found.2 in
          omega (arith, less, is, found.1)
  first_of None (Some m) none (k, is, met, least) = (
    later m k is met,
    λ i hinders. by_kind i (kind i hinders),
  )
    where
      by_kind : (i : ℕ) → ((other : Row O) × IsInTheWay asks rows n u i row other) → m ≤ i
      by_kind i (other, inl (stands, above, looked)) =
          let found = met_of asks rows n i row other here stands.0 stands.1 above looked in
          let less = least found.0 found.2 in
          omega (arith, less, is, found.1)
      by_kind i (other, inr (is_command, below, flipped, looked)) = let found = found_earlier i other is_command below flipped looked in absurd (none found.0 found.2)
  first_of None None none unmet = λ i hinders. by_kind i (kind i hinders)
    where
      by_kind : (i : ℕ) → ((other : Row O) × IsInTheWay asks rows n u i row other) → ⊥
      by_kind i (other, inl (stands, above, looked)) = let found = met_of asks rows n i row other here stands.0 stands.1 above looked in unmet found.0 found.2
      by_kind i (other, inr (is_command, below, flipped, looked)) = let found = found_earlier i other is_command below flipped looked in none found.0 found.2

  first_to_hinder : IsFirstToHinder asks rows n (hindrance_since asks rows n row (Some u))
  first_to_hinder =
      first_of (first_flipped asks (undoer_before rows u) row.reading (take (n - 1) rows) 1) (first_met asks row.changes (drop n rows) (n + 1))
      (first_where-is in_the_way (take (n - 1) rows) 1) (first_met-is asks row.changes (drop n rows) (n + 1))

module _ {O : Type 0} (asks : O → Bool) (rows : List (Row O)) where
  none_hinders : (n : ℕ) (row : Row O) → row_at rows n ≡ Some row → ((u : ℕ) → is_some (accepted asks row.request row.reply) ≡ true → row.undone_by ≡ Some u → ⊥) → (m : ℕ) → Hinders asks rows n m → ⊥
  none_hinders n row at off m (one, other, u, is, by, way) =
      let same : Some row ≡ Some one = sym at ∙ is.0 in
      let rows_same : one ≡ row = cc in
      off u (ap (λ (r : Row O). is_some (accepted asks r.request r.reply)) (sym rows_same) ∙ is.1) (ap (λ (r : Row O). r.undone_by) (sym rows_same) ∙ by)

  by_parts : (n : ℕ) (row : Row O) → row_at rows n ≡ Some row → (command : Option O) → accepted asks row.request row.reply ≡ command → (by : Option ℕ) → row.undone_by ≡ by
      → IsFirstToHinder asks rows n (hindrance_since asks rows n row (undone_command command by))
  by_parts n row at None is by undone = none_hinders n row at (λ u some also. false≢true (sym (ap (λ (o : Option O). is_some o) is) ∙ some))
  by_parts n row at (Some c) is None undone = none_hinders n row at (λ u some also. let never : None ≡ Some u = sym undone ∙ also in cc)
  by_parts n row at (Some c) is (Some u) undone = first_to_hinder asks rows n u row at (ap (λ (o : Option O). is_some o) is) undone

  by_row : (n : ℕ) (o : Option (Row O)) → row_at rows n ≡ o → IsFirstToHinder asks rows n (hindrance_at asks rows n o)
  by_row n None at = λ m (row, other, u, is, by, way). let never : None ≡ Some row = sym at ∙ is.0 in cc
  by_row n (Some row) at = by_parts n row at (accepted asks row.request row.reply) refl row.undone_by refl

  pub hindrance_is : (n : ℕ) → IsFirstToHinder asks rows n (hindrance asks rows n)
  hindrance_is n = by_row n (row_at rows n) refl

  -- what each refusal means
  refused_by : (n : ℕ) (row : Row O) (hindered : Option ℕ) → row_at rows n ≡ Some row → IsFirstToHinder asks rows n hindered
      → (command : Option O) → accepted asks row.request row.reply ≡ command → (by : Option ℕ) → row.undone_by ≡ by
      → IsRedoRefusedBy asks rows n (or_hindered (row_redo_refusal command by) hindered)
  refused_by n row hindered here first None is by undone = (row, here, is)
  refused_by n row hindered here first (Some c) is None undone = (row, (here, ap (λ (o : Option O). is_some o) (ap (λ u. unless_undone u (accepted asks row.request row.reply)) undone ∙ is)))
  refused_by n row None here first (Some c) is (Some u) undone = (row, u, (here, ap (λ (o : Option O). is_some o) is), undone, first)
  refused_by n row (Some m) here first (Some c) is (Some u) undone = first

  refused_at : (n : ℕ) (o : Option (Row O)) → row_at rows n ≡ o → IsRedoRefusedBy asks rows n (redo_refusal_at asks rows n o)
  refused_at n None at = at
  refused_at n (Some row) at = refused_by n row (hindrance_at asks rows n (Some row)) at (by_row n (Some row) at) (accepted asks row.request row.reply) refl row.undone_by refl

  told_at : (operator : List ℕ) (n : ℕ) (o : Option RedoRefusal) → IsRedoRefusedBy asks rows n o → TellsRedoRefusal asks rows (rows_redone operator rows n o) n
  told_at operator n None is row last = subst (λ (r : Row O). IsRedoRefusedBy asks rows n (redo_refusal_told r.reply)) (last_is asks rows (redone rows n) (row_of_redo operator n (Redid n)) row last) is
  told_at operator n (Some refusal) is row last = subst (λ (r : Row O). IsRedoRefusedBy asks rows n (redo_refusal_told r.reply)) (last_is asks rows rows (row_of_redo operator n (RedoRefused refusal)) row last) is

  pub redo_refusal_told_is : (operator : List ℕ) (n : ℕ) → TellsRedoRefusal asks rows (rows_redone operator rows n (redo_refusal asks rows n)) n
  redo_refusal_told_is operator n = told_at operator n (redo_refusal asks rows n) (refused_at n (row_at rows n) refl)
