-- What the index contains for rows: which ones it finds, and that it agrees with the rows after
-- each call.
use Rattle.std.proofs.Common.{◌≡◌, ◌+◌, ◌-◌, ◌≤◌, ℕ, zero, suc, Bool, true, false, cond, ◌&&◌, ◌||◌, List, [], ◌∷◌, ◌++◌, Option, Some, None, is_some, slice_get, drop, length, refl, sym, ap, subst, ◌∙◌, arith, inl, inr}
use Rattle.std.specs.Prelude.{not}
use Rattle.std.specs.BTreeMap.{is_at}
use Rattle.std.specs.Ordering.{nat_cmp, is_eq}
use Rattle.std.specs.declared.cmp.Ordering.{Ordering}
use Rattle.std.specs.declared.cmp.Ordering.TheVariants.{Less, Equal, Greater}
use Rattle.std.proofs.lemmas.Map.Lookups.{exact_unsigned}
use Rattle.std.proofs.lemmas.Cmp.{tied_itself, nat_cmp_total}
use Rattle.std.specs.List.{list_any}
use Rattle.std.proofs.lemmas.Bool.{cases_Bool, false≢true}
use Rattle.link_tree.specs.declared.change.Change.{Change}
use Rattle.tree_access.specs.declared.key.Key.{Key}
use Rattle.tree_access.specs.declared.reading.Observation.{Observation}
use Rattle.readers.specs.declared.readers.Readers.{Readers}
use Rattle.tree_access.specs.Keys.{touches}
use Rattle.readers.specs.Numbers.{IsNext, AreAllAfter}
use Rattle.readers.specs.Readers.{reads, is_read, is_touched_in}
use Rattle.readers.proofs.Touched.{touched, same_touched, touched_none, touched_and, touched_read}
use Rattle.history.specs.declared.row.Row.{Row}
use Rattle.history.specs.Indexes.{is_reader, Agrees}
use Rattle.history.specs.Rows.{row_at, row_of_undo, row_of_redo, unless_undone, accepted, undone, redone, meets, survivor, first_met, readers_from, readers_of}
use Rattle.history.specs.declared.row.RowReply.{RowReply}
use Rattle.history.proofs.Places.{row_pushed, row_new, no_row, row_undone, other_undone, row_redone, other_redone}

or_false : (b : Bool) → (b || false) ≡ b
or_false true = refl
or_false false = refl

and_false : (b : Bool) → (b && false) ≡ false
and_false true = refl
and_false false = refl

and_or : (x a b : Bool) → (x && (a || b)) ≡ ((x && a) || (x && b))
and_or true a b = refl
and_or false a b = refl

mixed : (a b c d : Bool) → ((a || b) || (c || d)) ≡ ((a || c) || (b || d))
mixed true b c d = refl
mixed false true true d = refl
mixed false true false d = refl
mixed false false true d = refl
mixed false false false d = refl

any_none : {X : Type 0} (xs : List X) → list_any (λ x. false) xs ≡ false
any_none [] = refl
any_none (x ∷ xs) = any_none xs

any_or : {X : Type 0} (f g : X → Bool) (xs : List X) → list_any (λ x. f x || g x) xs ≡ (list_any f xs || list_any g xs)
any_or f g [] = refl
any_or f g (x ∷ xs) = ap (λ b. (f x || g x) || b) (any_or f g xs) ∙ mixed (f x) (g x) (list_any f xs) (list_any g xs)

is_equal : (r : Ordering) → is_eq r ≡ true → r ≡ Equal
is_equal Less h = absurd (false≢true h)
is_equal Equal h = refl
is_equal Greater h = absurd (false≢true h)

pub same_number : (n i : ℕ) → is_at (nat_cmp n) i ≡ true → n ≡ i
same_number n i h = exact_unsigned n i (is_equal (nat_cmp n i) h)

number_is : (n i : ℕ) → n ≡ i → is_at (nat_cmp n) i ≡ true
number_is n i same = subst (λ j. is_at (nat_cmp n) j ≡ true) same (ap is_eq (tied_itself nat_cmp_total n))

module _ {O : Type 0} (asks : O → Bool) where
  -- whether a row is a survivor with a key in its reading that changes touch
  abbrev pub is_met : List Change → Option (Row O) → Bool
  is_met changes None = false
  is_met changes (Some row) = is_some (survivor asks row) && meets changes row.reading

  one_met : (change : Change) (row : Option (Row O)) → touched (is_reader asks row) change ≡ is_met (change ∷ []) row
  one_met change None = touched_none change
  one_met change (Some row) =
      let stands = is_some (survivor asks row) in
      touched_and stands (is_read row.reading) change
      ∙ ap (λ b. stands && b) (touched_read row.reading change ∙ (λ j. list_any (λ (o : Observation). sym (or_false (touches change o.key)) j) row.reading))

  -- what the index lists at the keys that a change touches are the survivors that it meets
  pub touched_met : (r : Readers) (rows : List (Row O)) → Agrees asks r rows → (change : Change) (i : ℕ) → is_touched_in r change i ≡ is_met (change ∷ []) (row_at rows i)
  touched_met r rows agrees change i = same_touched r change i ∙ (λ j. touched (λ k. agrees k i j) change) ∙ one_met change (row_at rows i)

  more_met : (c : Change) (cs : List Change) (row : Option (Row O)) → (is_met (c ∷ []) row || is_met cs row) ≡ is_met (c ∷ cs) row
  more_met c cs None = refl
  more_met c cs (Some row) =
      let stands = is_some (survivor asks row) in
      sym (and_or stands (meets (c ∷ []) row.reading) (meets cs row.reading))
      ∙ ap (λ b. stands && b) ((λ j. list_any (λ (o : Observation). or_false (touches c o.key) j) row.reading || meets cs row.reading)
      ∙ sym (any_or (λ (o : Observation). touches c o.key) (λ (o : Observation). list_any (λ change. touches change o.key) cs) row.reading))

  none_met : (row : Option (Row O)) → false ≡ is_met [] row
  none_met None = refl
  none_met (Some row) = sym (ap (λ b. is_some (survivor asks row) && b) (any_none row.reading) ∙ and_false (is_some (survivor asks row)))

  -- and the same for several changes
  pub all_met : (r : Readers) (rows : List (Row O)) → Agrees asks r rows → (changes : List Change) (i : ℕ) → list_any (λ change. is_touched_in r change i) changes ≡ is_met changes (row_at rows i)
  all_met r rows agrees [] i = none_met (row_at rows i)
  all_met r rows agrees (c ∷ cs) i =
      ap (λ b. b || list_any (λ change. is_touched_in r change i) cs) (touched_met r rows agrees c i) ∙ ap (λ b. is_met (c ∷ []) (row_at rows i) || b) (all_met r rows agrees cs i)
      ∙ more_met c cs (row_at rows i)

  -- ---- the first row that is met
  -- the least number from `at` on that passes a test
  abbrev IsFrom : (ℕ → Bool) → ℕ → Option ℕ → Type 0
  IsFrom test at None = (i : ℕ) → at ≤ i → test i ≡ false
  IsFrom test at (Some m) = (at ≤ m) × (test m ≡ true) × ((i : ℕ) → at ≤ i → test i ≡ true → m ≤ i)

  above_by : (test : ℕ → Bool) (at i j : ℕ) → test at ≡ false → test i ≡ true → at + j ≡ i → at + 1 ≤ i
  above_by test at i zero none holds is = let same : at ≡ i = omega (arith, is) in absurd (false≢true (sym none ∙ ap test same ∙ holds))
  above_by test at i (suc j) none holds is = omega (arith, is)

  above : (test : ℕ → Bool) (at i : ℕ) → test at ≡ false → at ≤ i → test i ≡ true → at + 1 ≤ i
  above test at i none after holds = let place : at + (i - at) ≡ i = omega arith in above_by test at i (i - at) none holds place

  further : (test : ℕ → Bool) (at : ℕ) → test at ≡ false → (found : Option ℕ) → IsFrom test (at + 1) found → IsFrom test at found
  further test at none None h = λ i after. elim (cases_Bool (test i)) [
    | inl holds ↦ h i (above test at i none after holds)
    | inr away ↦ away
  ]
  further test at none (Some m) h = (omega (arith, h.0), h.1, λ i after holds. h.2 i (above test at i none after holds) holds)

  from_is : (changes : List Change) (rest : List (Row O)) (at : ℕ) (test : ℕ → Bool) → ((j : ℕ) → test (at + j) ≡ is_met changes (slice_get rest j)) → IsFrom test at (first_met asks changes rest at)
  from_is changes [] at test same = λ i after. let place : at + (i - at) ≡ i = omega arith in ap test (sym place) ∙ same (i - at)
  from_is changes (row ∷ rest) at test same =
      let start : at ≡ at + 0 = omega arith in
      let met = is_some (survivor asks row) && meets changes row.reading in
      (elim met as (λ b. met ≡ b → IsFrom test at (cond b (Some at) (first_met asks changes rest (at + 1)))) [
        | true ↦ λ here. (omega arith, ap test start ∙ same 0 ∙ here, λ i after holds. after)
        | false ↦ λ none. further test at (ap test start ∙ same 0 ∙ none) (first_met asks changes rest (at + 1))
            (from_is changes rest (at + 1) test (λ j. let next : at + 1 + j ≡ at + suc j = omega arith in ap test next ∙ same (suc j)))
      ]) refl

  -- only one number is the least
  one_least : (test : ℕ → Bool) (n : ℕ) (found other : Option ℕ) → IsNext test n found → IsFrom test (n + 1) other → found ≡ other
  one_least test n None None h k = refl
  one_least test n None (Some m) h k = absurd (false≢true (sym (h m (omega (arith, k.0))) ∙ k.1))
  one_least test n (Some m) None h k = absurd (false≢true (sym (k m (omega (arith, h.0))) ∙ h.1))
  one_least test n (Some m) (Some l) h k = let same : m ≡ l = omega (arith, h.2 l (omega (arith, k.0)) k.1, k.2 m (omega (arith, h.0)) h.1) in ap Some same

  dropped : (rs : List (Row O)) (k l m : ℕ) → k + l ≡ m → slice_get (drop k rs) l ≡ slice_get rs m
  dropped rs zero l m is = let same : l ≡ m = omega (arith, is) in ap (slice_get rs) same
  dropped [] (suc k) l m is = refl
  dropped (r ∷ rs) (suc k) l zero is = absurd (omega (arith, is))
  dropped (r ∷ rs) (suc k) l (suc m) is = dropped rs k l m (omega (arith, is))

  row_after : (rows : List (Row O)) (n j : ℕ) → slice_get (drop n rows) j ≡ row_at rows (n + 1 + j)
  row_after rows n j = let place : suc (n + j) ≡ n + 1 + j = omega arith in dropped rows n j (n + j) refl ∙ ap (row_at rows) place

  -- the least row after n that the index lists at a key that changes touch is the first that is met
  -- after n
  pub found_first : (r : Readers) (rows : List (Row O)) → Agrees asks r rows → (changes : List Change) (n : ℕ) (found : Option ℕ)
      → IsNext (λ i. list_any (λ change. is_touched_in r change i) changes) n found → found ≡ first_met asks changes (drop n rows) (n + 1)
  found_first r rows agrees changes n found h =
      one_least (λ i. list_any (λ change. is_touched_in r change i) changes) n found (first_met asks changes (drop n rows) (n + 1)) h
      (from_is changes (drop n rows) (n + 1) (λ i. list_any (λ change. is_touched_in r change i) changes)
      (λ j. all_met r rows agrees changes (n + 1 + j) ∙ ap (is_met changes) (sym (row_after rows n j))))

  -- ---- all rows that are met
  skipped : (test : ℕ → Bool) (n at : ℕ) (numbers : List ℕ) → n + 1 ≡ at → test at ≡ false → AreAllAfter test n numbers → AreAllAfter test at numbers
  skipped test n at [] next none h = λ i after. h i (omega (arith, next, after))
  skipped test n at (m ∷ ms) next none h =
      let from : at ≤ m = omega (arith, next, h.0.0) in
      let past : at + 1 ≤ m = above test at m none from h.0.1 in
      ((omega (arith, past), h.0.1, λ i after holds. h.0.2 i (omega (arith, next, after)) holds), h.1)

  -- the first number is that of the row here, which passes the test
  first_is : (change : Change) (rest : List (Row O)) (n at : ℕ) (test : ℕ → Bool) (numbers : List ℕ) → n + 1 ≡ at → test at ≡ true
      → ((ms : List ℕ) → AreAllAfter test at ms → ms ≡ readers_from asks change rest (at + 1)) → AreAllAfter test n numbers → numbers ≡ at ∷ readers_from asks change rest (at + 1)
  first_is change rest n at test [] next holds later h = absurd (false≢true (sym (h at (omega (arith, next))) ∙ holds))
  first_is change rest n at test (m ∷ ms) next holds later h =
      let first : m ≡ at = omega (arith, next, h.0.0, h.0.2 at (omega (arith, next)) holds) in
      ap (λ k. k ∷ ms) first ∙ ap (λ ks. at ∷ ks) (later ms (subst (λ k. AreAllAfter test k ms) first h.1))

  all_from : (change : Change) (rest : List (Row O)) (n at : ℕ) (test : ℕ → Bool) (numbers : List ℕ) → n + 1 ≡ at → ((j : ℕ) → test (at + j) ≡ is_met (change ∷ []) (slice_get rest j)) → AreAllAfter test n numbers
      → numbers ≡ readers_from asks change rest at
  all_from change [] n at test [] next same h = refl
  all_from change [] n at test (m ∷ ms) next same h =
      let place : at + (m - at) ≡ m = omega (arith, next, h.0.0) in
      absurd (false≢true (sym (ap test (sym place) ∙ same (m - at)) ∙ h.0.1))
  all_from change (row ∷ rest) n at test numbers next same h =
      let start : at ≡ at + 0 = omega arith in
      let met = is_some (survivor asks row) && meets (change ∷ []) row.reading in
      let later : (j : ℕ) → test (at + 1 + j) ≡ is_met (change ∷ []) (slice_get rest j) = λ j. let place : at + 1 + j ≡ at + suc j = omega arith in ap test place ∙ same (suc j) in
      (elim met as (λ b. met ≡ b → numbers ≡ cond b (at ∷ readers_from asks change rest (at + 1)) (readers_from asks change rest (at + 1))) [
        | true ↦ λ here. first_is change rest n at test numbers next (ap test start ∙ same 0 ∙ here) (λ ms. all_from change rest at (at + 1) test ms refl later) h
        | false ↦ λ none. all_from change rest at (at + 1) test numbers refl later (skipped test n at numbers next (ap test start ∙ same 0 ∙ none) h)
      ]) refl

  -- all rows that the index lists at a key that a change touches are the survivors that looked at
  -- what it touches
  pub all_found : (r : Readers) (rows : List (Row O)) → Agrees asks r rows → (change : Change) (numbers : List ℕ) → AreAllAfter (is_touched_in r change) 0 numbers → numbers ≡ readers_of asks rows change
  all_found r rows agrees change numbers h = all_from change rows 0 1 (is_touched_in r change) numbers refl (λ j. let place : 1 + j ≡ suc j = omega arith in touched_met r rows agrees change (1 + j) ∙ ap (λ i. is_met (change ∷ []) (row_at rows i)) place) h

  -- ---- the index of the rows after a call
  added : (s read : Bool) → ((s && (read && true)) || false) ≡ (s && read)
  added true true = refl
  added true false = refl
  added false read = refl

  unchanged : (s read old : Bool) → ((s && (read && false)) || old) ≡ old
  unchanged true true old = refl
  unchanged true false old = refl
  unchanged false read old = refl

  -- one more row, which is listed if it is a survivor
  pub agrees_pushed : (r new : Readers) (rows : List (Row O)) (row : Row O) (n : ℕ) → n ≡ length rows + 1 → Agrees asks r rows
      → ((k : Key) (i : ℕ) → reads new k i ≡ ((is_some (survivor asks row) && (is_read row.reading k && is_at (nat_cmp n) i)) || reads r k i))
      → Agrees asks new (rows ++ row ∷ [])
  agrees_pushed r new rows row n count agrees listed = λ k i.
      let s = is_some (survivor asks row) in
      let read = is_read row.reading k in
      listed k i ∙ (elim (cases_Bool (is_at (nat_cmp n) i)) [
        | inl here ↦
            let at : i ≡ length rows + 1 = sym (same_number n i here) ∙ count in
            ap (λ b. (s && (read && b)) || reads r k i) here
            ∙ ap (λ b. (s && (read && true)) || b) (agrees k i ∙ ap (λ o. is_reader asks o k) (ap (row_at rows) at ∙ no_row rows))
            ∙ added s read ∙ sym (ap (λ o. is_reader asks o k) (ap (row_at (rows ++ row ∷ [])) at ∙ row_new rows row))
        | inr away ↦
            let other : i ≡ length rows + 1 → ⊥ = λ at. false≢true (sym away ∙ number_is n i (count ∙ sym at)) in
            ap (λ b. (s && (read && b)) || reads r k i) away ∙ unchanged s read (reads r k i) ∙ agrees k i ∙ sym (ap (λ o. is_reader asks o k) (row_pushed rows row i other))
      ])

  -- one more row, of an undo, which isn't listed
  pub agrees_undo : (r : Readers) (rows : List (Row O)) (operator : List ℕ) (n : ℕ) (reply : RowReply) → Agrees asks r rows → Agrees asks r (rows ++ row_of_undo operator n reply ∷ [])
  agrees_undo r rows operator n reply agrees = agrees_pushed r r rows (row_of_undo operator n reply) (length rows + 1) refl agrees (λ k i. refl)

  -- and one of a redo
  pub agrees_redo : (r : Readers) (rows : List (Row O)) (operator : List ℕ) (n : ℕ) (reply : RowReply) → Agrees asks r rows → Agrees asks r (rows ++ row_of_redo operator n reply ∷ [])
  agrees_redo r rows operator n reply agrees = agrees_pushed r r rows (row_of_redo operator n reply) (length rows + 1) refl agrees (λ k i. refl)

  -- the same index, key by key and row by row
  pub agrees_alike : (r new : Readers) (rows : List (Row O)) → Agrees asks r rows → ((k : Key) (i : ℕ) → reads new k i ≡ reads r k i) → Agrees asks new rows
  agrees_alike r new rows agrees alike = λ k i. alike k i ∙ agrees k i

  removed : (s read : Bool) → (not (read && true) && (s && read)) ≡ false
  removed true true = refl
  removed true false = refl
  removed false read = and_false (not (read && true))

  left : (read old : Bool) → (not (read && false) && old) ≡ old
  left true old = refl
  left false old = refl

  -- a row that is undone, and is no longer listed
  pub agrees_undone : (r new : Readers) (rows : List (Row O)) (n by : ℕ) (row : Row O) → row_at rows n ≡ Some row → Agrees asks r rows
      → ((k : Key) (i : ℕ) → reads new k i ≡ (not (is_read row.reading k && is_at (nat_cmp n) i) && reads r k i))
      → Agrees asks new (undone rows n by)
  agrees_undone r new rows n by row is agrees unlisted = λ k i.
      let read = is_read row.reading k in
      unlisted k i ∙ (elim (cases_Bool (is_at (nat_cmp n) i)) [
        | inl here ↦
            let at : i ≡ n = sym (same_number n i here) in
            ap (λ b. not (read && b) && reads r k i) here
            ∙ ap (λ b. not (read && true) && b) (agrees k i ∙ ap (λ o. is_reader asks o k) (ap (row_at rows) at ∙ is))
            ∙ removed (is_some (survivor asks row)) read ∙ sym (ap (λ o. is_reader asks o k) (ap (row_at (undone rows n by)) at ∙ row_undone rows n by row is))
        | inr away ↦
            ap (λ b. not (read && b) && reads r k i) away ∙ left read (reads r k i) ∙ agrees k i
            ∙ sym (ap (λ o. is_reader asks o k) (other_undone rows n by i (λ at. false≢true (sym away ∙ number_is n i (sym at)))))
      ])

  put_in : (read : Bool) → ((read && true) || false) ≡ read
  put_in true = refl
  put_in false = refl

  beside : (read old : Bool) → ((read && false) || old) ≡ old
  beside true old = refl
  beside false old = refl

  -- a row that is no longer undone, and is listed again
  pub agrees_redone : (r new : Readers) (rows : List (Row O)) (n by : ℕ) (row : Row O) (c : O) → row_at rows n ≡ Some row → row.undone_by ≡ Some by → accepted asks row.request row.reply ≡ Some c → Agrees asks r rows
      → ((k : Key) (i : ℕ) → reads new k i ≡ ((is_read row.reading k && is_at (nat_cmp n) i) || reads r k i))
      → Agrees asks new (redone rows n)
  agrees_redone r new rows n by row c is undone command agrees listed = λ k i.
      let read = is_read row.reading k in
      listed k i ∙ (elim (cases_Bool (is_at (nat_cmp n) i)) [
        | inl here ↦
            let at : i ≡ n = sym (same_number n i here) in
            ap (λ b. (read && b) || reads r k i) here
            ∙ ap (λ b. (read && true) || b) (agrees k i ∙ ap (λ o. is_reader asks o k) (ap (row_at rows) at ∙ is))
            ∙ ap (λ (o : Option ℕ). (read && true) || (is_some (unless_undone o (accepted asks row.request row.reply)) && read)) undone
            ∙ put_in read
            ∙ ap (λ (o : Option O). is_some o && read) (sym command)
            ∙ sym (ap (λ o. is_reader asks o k) (ap (row_at (redone rows n)) at ∙ row_redone rows n row is))
        | inr away ↦
            ap (λ b. (read && b) || reads r k i) away ∙ beside read (reads r k i) ∙ agrees k i
            ∙ sym (ap (λ o. is_reader asks o k) (other_redone rows n i (λ at. false≢true (sym away ∙ number_is n i (sym at)))))
      ])

-- what was listed for a row that didn't exist yet is removed again
pub taken_back : (before after_add after_remove stands read at : Bool) → after_add ≡ ((stands && (read && at)) || before) → after_remove ≡ (not (read && at) && after_add) → (at ≡ true → before ≡ false) → after_remove ≡ before
taken_back before add rem stands read false is gone fresh = gone ∙ ap (λ b. not (b && false) && add) refl ∙ nothing read add ∙ is ∙ ap (λ b. b || before) (both_false stands read)
  where
    nothing : (r a : Bool) → (not (r && false) && a) ≡ a
    nothing true a = refl
    nothing false a = refl

    both_false : (s r : Bool) → (s && (r && false)) ≡ false
    both_false true true = refl
    both_false true false = refl
    both_false false r = refl
taken_back before add rem stands true true is gone fresh = gone ∙ sym (fresh refl)
taken_back before add rem stands false true is gone fresh = gone ∙ is ∙ ap (λ b. b || before) (and_false stands)

-- removing what was not listed for a row that didn't exist yet changes nothing
pub never_listed : (before after read at : Bool) → after ≡ (not (read && at) && before) → (at ≡ true → before ≡ false) → after ≡ before
never_listed before after true true gone fresh = gone ∙ sym (fresh refl)
never_listed before after true false gone fresh = gone
never_listed before after false at gone fresh = gone
