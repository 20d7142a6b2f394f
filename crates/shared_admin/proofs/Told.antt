-- Entries that match an operator's rows, one after another.
use Rattle.std.proofs.Common.{◌≡◌, ℕ, zero, suc, ◌+◌, ◌<◌, ◌≤◌, Bool, true, false, List, [], ◌∷◌, ◌++◌, All, Some, None, length, take, drop, slice_get, get_or, refl, sym, ap, subst, ◌∙◌, cond, arith}
use Rattle.std.specs.Str.{bytes_eq}
use Rattle.std.proofs.lemmas.List.{drop_more}
use Rattle.history.specs.declared.row.Row.{Row}
use Rattle.shared_admin.specs.declared.log.LogEntry.{LogEntry}
use Rattle.shared_admin.specs.declared.log.SessionLog.{SessionLog}
use Rattle.shared_admin.specs.Closing.{Numbered, rows_of, entries_of, Tells, AreTold, DiffersAt, IsTold, IsFirstMismatch}
use Rattle.shared_admin.proofs.Firsts.{cut_at}

module _ {O : Type 0} where
  -- The operator's rows before this one match this number of entries; whether the other entries
  -- match the other rows decides whether all match all.
  pub record HasTold (operator : List ℕ) (entries : List (LogEntry O)) (rows : List (Row O)) (told number index : ℕ) : Type 0 where
    pub few : told ≤ index
    pub number_is : number ≡ index + 1
    pub within : told ≤ length entries
    pub all_told : AreTold (drop told entries) (rows_of operator number (drop index rows)) → AreTold entries (rows_of operator 1 rows)
    pub one_differs : (place : ℕ) → DiffersAt place (drop told entries) (rows_of operator number (drop index rows)) → DiffersAt (told + place) entries (rows_of operator 1 rows)

  pub begun : (operator : List ℕ) (entries : List (LogEntry O)) (rows : List (Row O)) → HasTold operator entries rows 0 1 0
  begun operator entries rows = record { few = omega arith; number_is = refl; within = omega arith; all_told = λ told. told; one_differs = λ place differs. (let same : place ≡ 0 + place = omega arith in subst (λ k. DiffersAt k entries (rows_of operator 1 rows)) same differs) }

  differs_later : (place : ℕ) (entry : LogEntry O) (entries : List (LogEntry O)) (row : Numbered O) (rows : List (Numbered O)) → Tells entry row → DiffersAt place entries rows → DiffersAt (suc place) (entry ∷ entries) (row ∷ rows)
  differs_later zero entry entries row rows tells differs = absurd differs
  differs_later (suc place) entry entries row rows tells differs = (tells, differs)

  -- the position of the next entry
  rest_is : (entries : List (LogEntry O)) (told : ℕ) (entry : LogEntry O) → slice_get entries told ≡ Some entry → drop told entries ≡ entry ∷ drop (suc told) entries
  rest_is [] told entry there = cc
  rest_is (e ∷ es) zero entry there = ap (λ x. x ∷ es) (let same : e ≡ entry = cc in same)
  rest_is (e ∷ es) (suc told) entry there = rest_is es told entry there

  told_within : (entries : List (LogEntry O)) (told : ℕ) (entry : LogEntry O) → slice_get entries told ≡ Some entry → told < length entries
  told_within [] told entry there = cc
  told_within (e ∷ es) zero entry there = omega arith
  told_within (e ∷ es) (suc told) entry there = omega (arith, told_within es told entry there)

  module _ (operator : List ℕ) (entries : List (LogEntry O)) (rows : List (Row O)) (told number index : ℕ) (row : Row O) (is : row ≡ get_or rows index row) (in_rows : index < length rows) (before : HasTold operator entries rows told number index) where
    left : drop index rows ≡ row ∷ drop (index + 1) rows
    left = drop_more rows index row in_rows ∙ ap (λ r. r ∷ drop (index + 1) rows) (sym is)

    rows_left : rows_of operator number (drop index rows) ≡ cond (bytes_eq operator row.operator) ((number, row) ∷ rows_of operator (number + 1) (drop (index + 1) rows)) (rows_of operator (number + 1) (drop (index + 1) rows))
    rows_left = ap (rows_of operator number) left

    rows_here : bytes_eq operator row.operator ≡ true → rows_of operator number (drop index rows) ≡ (number, row) ∷ rows_of operator (number + 1) (drop (index + 1) rows)
    rows_here here = rows_left ∙ ap (λ b. cond b ((number, row) ∷ rows_of operator (number + 1) (drop (index + 1) rows)) (rows_of operator (number + 1) (drop (index + 1) rows))) here

    rows_away : bytes_eq operator row.operator ≡ false → rows_of operator number (drop index rows) ≡ rows_of operator (number + 1) (drop (index + 1) rows)
    rows_away away = rows_left ∙ ap (λ b. cond b ((number, row) ∷ rows_of operator (number + 1) (drop (index + 1) rows)) (rows_of operator (number + 1) (drop (index + 1) rows))) away

    -- a row of another operator
    pub passed : bytes_eq operator row.operator ≡ false → HasTold operator entries rows told (number + 1) (index + 1)
    passed away = record {
      few = omega (arith, before.few);
      number_is = omega (arith, before.number_is);
      within = before.within;
      all_told = λ all. before.all_told (subst (AreTold (drop told entries)) (sym (rows_away away)) all);
      one_differs = λ place differs. before.one_differs place (subst (DiffersAt place (drop told entries)) (sym (rows_away away)) differs);
    }

    -- a row that the next entry matches
    pub told_one : bytes_eq operator row.operator ≡ true → (entry : LogEntry O) → slice_get entries told ≡ Some entry → Tells entry (number, row) → HasTold operator entries rows (told + 1) (number + 1) (index + 1)
    told_one here entry there tells =
        let rest = rows_of operator (number + 1) (drop (index + 1) rows) in
        let on : suc told ≡ told + 1 = omega arith in
        let split : drop told entries ≡ entry ∷ drop (told + 1) entries = rest_is entries told entry there ∙ ap (λ k. entry ∷ drop k entries) on in record {
          few = omega (arith, before.few);
          number_is = omega (arith, before.number_is);
          within = omega (arith, told_within entries told entry there);
          all_told = λ all. before.all_told (subst (AreTold (drop told entries)) (sym (rows_here here)) (subst (λ es. AreTold es ((number, row) ∷ rest)) (sym split) (tells, all)));
          one_differs = λ place differs.
              let next : told + suc place ≡ told + 1 + place = omega arith in
              subst (λ k. DiffersAt k entries (rows_of operator 1 rows)) next
              (before.one_differs (suc place) (subst (DiffersAt (suc place) (drop told entries)) (sym (rows_here here)) (subst (λ es. DiffersAt (suc place) es ((number, row) ∷ rest)) (sym split) (differs_later place entry (drop (told + 1) entries) (number, row) rest tells differs))));
        }

    off_here : (es : List (LogEntry O)) (at : Numbered O) (rest : List (Numbered O)) → ((entry : LogEntry O) (more : List (LogEntry O)) → es ≡ entry ∷ more → ¬ Tells entry at) → DiffersAt 1 es (at ∷ rest)
    off_here [] at rest off = tt
    off_here (entry ∷ es) at rest off = off entry es refl

    get_rest : (es : List (LogEntry O)) (k : ℕ) (entry : LogEntry O) (more : List (LogEntry O)) → drop k es ≡ entry ∷ more → slice_get es k ≡ Some entry
    get_rest [] zero entry more is = cc
    get_rest [] (suc k) entry more is = cc
    get_rest (e ∷ es) zero entry more is = cc
    get_rest (e ∷ es) (suc k) entry more is = get_rest es k entry more is

    -- a row that the next entry, if any, doesn't match
    pub untold : bytes_eq operator row.operator ≡ true → ((entry : LogEntry O) → slice_get entries told ≡ Some entry → ¬ Tells entry (number, row)) → DiffersAt (told + 1) entries (rows_of operator 1 rows)
    untold here off =
        before.one_differs 1 (subst (DiffersAt 1 (drop told entries)) (sym (rows_here here))
        (off_here (drop told entries) (number, row) (rows_of operator (number + 1) (drop (index + 1) rows)) (λ entry more is. off entry (get_rest entries told entry more is))))

  none_left : (rows : List (Row O)) (index : ℕ) → length rows ≤ index → drop index rows ≡ []
  none_left [] zero h = refl
  none_left [] (suc index) h = refl
  none_left (row ∷ rows) zero h = absurd (omega arith)
  none_left (row ∷ rows) (suc index) h = none_left rows index (omega arith)

  some_left : (entries : List (LogEntry O)) (told : ℕ) → told < length entries → DiffersAt 1 (drop told entries) []
  some_left [] told h = absurd (omega arith)
  some_left (entry ∷ entries) zero h = tt
  some_left (entry ∷ entries) (suc told) h = some_left entries told (omega arith)

  no_entries : (entries : List (LogEntry O)) (told : ℕ) → length entries ≤ told → drop told entries ≡ []
  no_entries [] zero h = refl
  no_entries [] (suc told) h = refl
  no_entries (entry ∷ entries) zero h = absurd (omega arith)
  no_entries (entry ∷ entries) (suc told) h = no_entries entries told (omega arith)

  module _ (operator : List ℕ) (entries : List (LogEntry O)) (rows : List (Row O)) (told number index : ℕ) (through : length rows ≤ index) (before : HasTold operator entries rows told number index) where
    -- all rows are matched, and an entry remains
    pub one_over : told < length entries → DiffersAt (told + 1) entries (rows_of operator 1 rows)
    one_over more = before.one_differs 1 (subst (λ rs. DiffersAt 1 (drop told entries) (rows_of operator number rs)) (sym (none_left rows index through)) (some_left entries told more))

    -- all rows are matched
    pub ended : length entries ≤ told → AreTold entries (rows_of operator 1 rows)
    ended none = before.all_told (subst (λ rs. AreTold (drop told entries) (rows_of operator number rs)) (sym (none_left rows index through))
        (subst (λ es. AreTold es []) (sym (no_entries entries told none)) tt))

  module _ (logs : List (SessionLog O)) (rows : List (Row O)) (operators : List (List ℕ)) (index : ℕ) (operator : List ℕ) (is : operator ≡ get_or operators index operator) (within : index < length operators)
      (before : All (IsTold logs rows) (take index operators)) where
    -- the first operator whose log doesn't match its rows
    pub first_off : (place : ℕ) → DiffersAt place (entries_of logs operator) (rows_of operator 1 rows) → IsFirstMismatch operators logs rows operator place
    first_off place differs = (take index operators, drop (index + 1) operators, cut_at operators index operator is within, before, differs)
