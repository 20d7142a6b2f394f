-- The walk over the toggles since a row finds the first command that has flipped since and is in
-- the way.
use Rattle.std.proofs.Common.{◌≡◌, ◌+◌, ◌-◌, ◌<◌, ◌≤◌, ◌==◌, ◌&&◌, ◌⊎◌, ℕ, zero, suc, Bool, true, false, cond, List, [], ◌∷◌, Option, Some, None, is_some, take, drop, refl, sym, ap, subst, ◌∙◌, arith, inl, inr}
use Rattle.std.specs.Prelude.{nat_lt, not}
use mathlib.Core.Bool.{beq}
use Rattle.std.proofs.lemmas.Bool.{cases_Bool, cases_lt, and_parts, ltb-true, lt-ltb, true≢false, false≢true}
use Rattle.std.proofs.lemmas.Bool.Decides.{Decides-eqb}
use Rattle.tree_access.specs.declared.reading.Observation.{Observation}
use Rattle.history.specs.declared.row.Row.{Row}
use Rattle.history.specs.declared.row.RowReply.{RowReply}
use Rattle.history.specs.declared.row.RowReply.TheVariants.{Answered, Undid, UndoRefused, Redid, RedoRefused}
use Rattle.history.specs.Rows.{row_at, meets, toggled, differ, accepted, has_flipped, first_flipped, undoer_then, undoer_from, undoer_before, undone_by_at, MarksAgree}
use Rattle.history.specs.Toggles.{was_undone, toggle_then, last_toggle_from, LinksBack, AreLinked, Alternates, AllAlternate, sooner_of, sooner, least_flipped, is_flipped, flipped_at, is_in_the_way}
use Rattle.history.proofs.Hindering.{Passes, IsFirst, first_where-is, get_take_in, get_take_out}

-- a reply that doesn't toggle row n, or one that does
pub record IsOther (reply : RowReply) (at n : ℕ) (by : Option ℕ) (last : ℕ) : Type 0 where
  pub names_none : toggled reply ≡ Some n → ⊥
  pub undoer_is : undoer_then reply at n by ≡ by
  pub last_is : toggle_then (toggled reply) at n last ≡ last

pub record IsToggle (reply : RowReply) (at n : ℕ) (by : Option ℕ) (last : ℕ) : Type 0 where
  pub names_it : toggled reply ≡ Some n
  pub last_is : toggle_then (toggled reply) at n last ≡ at
  -- it shows whether the row was undone before
  pub tells : (reply ≡ Undid n → by ≡ None) → (reply ≡ Redid n → is_some by ≡ true) → was_undone reply ≡ is_some by

reply_cases : (reply : RowReply) (at n : ℕ) (by : Option ℕ) (last : ℕ) → IsOther reply at n by last ⊎ IsToggle reply at n by last
reply_cases (Answered answer) at n by last = inl (record { names_none = λ is. cc; undoer_is = refl; last_is = refl })
reply_cases (Undid k) at n by last = elim (cases_Bool (k == n)) [
  | inl same ↦ inr (record {
    names_it = ap (λ i. Some i) ((Decides-eqb k n).0 same);
    last_is = ap (λ b. cond b at last) same;
    tells = λ undo redo. sym (ap (λ (o : Option ℕ). is_some o) (undo (ap (λ i. Undid i) ((Decides-eqb k n).0 same))));
  })
  | inr other ↦ inl (record {
    names_none = λ is. let number : k ≡ n = cc in false≢true (sym other ∙ (Decides-eqb k n).1 number);
    undoer_is = ap (λ b. cond b (Some at) by) other;
    last_is = ap (λ b. cond b at last) other;
  })
]
reply_cases (UndoRefused refusal) at n by last = inl (record { names_none = λ is. cc; undoer_is = refl; last_is = refl })
reply_cases (Redid k) at n by last = elim (cases_Bool (k == n)) [
  | inl same ↦ inr (record {
    names_it = ap (λ i. Some i) ((Decides-eqb k n).0 same);
    last_is = ap (λ b. cond b at last) same;
    tells = λ undo redo. sym (redo (ap (λ i. Redid i) ((Decides-eqb k n).0 same)));
  })
  | inr other ↦ inl (record {
    names_none = λ is. let number : k ≡ n = cc in false≢true (sym other ∙ (Decides-eqb k n).1 number);
    undoer_is = ap (λ b. cond b None by) other;
    last_is = ap (λ b. cond b at last) other;
  })
]
reply_cases (RedoRefused refusal) at n by last = inl (record { names_none = λ is. cc; undoer_is = refl; last_is = refl })

-- ---- one step
sooner_less : (test : Bool → ℕ → Bool) (u : ℕ) (named : Option ℕ) (was : Bool) (link least : ℕ)
    → (sooner_of test u named was link least ≤ least)
    × ((sooner_of test u named was link least ≡ least)
    ⊎ ((named ≡ Some (sooner_of test u named was link least)) × (link < u) × (test was (sooner_of test u named was link least) ≡ true)))
    × ((i : ℕ) → test was i ≡ true → named ≡ Some i → link < u → sooner_of test u named was link least ≤ i)
sooner_less test u None was link least = (omega arith, inl refl, λ i holds is new. cc)
sooner_less test u (Some k) was link least = elim (cases_Bool ((nat_lt k least && nat_lt link u) && test was k)) [
  | inl all ↦ rw all (
      let parts = and_parts (nat_lt k least && nat_lt link u) (test was k) all in
      let orders = and_parts (nat_lt k least) (nat_lt link u) parts.0 in
      (below k least orders.0, inr (refl, ltb-true link u orders.1, parts.1), λ i holds is new. let same : k ≡ i = cc in omega (arith, same))
      )
  | inr none ↦ rw none (omega arith, inl refl, λ i holds is new. let same : k ≡ i = cc in not_below i holds same new none)
]
  where
    below : (a b : ℕ) → nat_lt a b ≡ true → a ≤ b
    below a b h = let lt : a < b = ltb-true a b h in omega (arith, lt)

    not_below : (i : ℕ) → test was i ≡ true → k ≡ i → link < u → ((nat_lt k least && nat_lt link u) && test was k) ≡ false → least ≤ i
    not_below i holds same new none = elim (cases_lt i least) [
      | inl lt ↦
          let under : nat_lt k least ≡ true = lt-ltb k least (omega (arith, lt, same)) in
          let fresh : nat_lt link u ≡ true = lt-ltb link u new in
          absurd (true≢false (sym (ap (λ b. (b && nat_lt link u) && test was k) under ∙ ap (λ b. b && test was k) fresh ∙ ap (test was) same ∙ holds) ∙ none))
      | inr ge ↦ ge
    ]

module _ {O : Type 0} where
  -- One of these rows toggles row k for the first time since row u, and shows whether it was undone
  -- before.
  abbrev pub Finds : (u : ℕ) → List (Row O) → (links : List ℕ) → (k : ℕ) → (was : Bool) → Type 0
  Finds u [] links k was = ⊥
  Finds u (row ∷ rows) [] k was = ⊥
  Finds u (row ∷ rows) (link ∷ links) k was = ((toggled row.reply ≡ Some k) × (link < u) × (was_undone row.reply ≡ was)) ⊎ Finds u rows links k was

  -- ---- a toggle that is found shows the mark that the row had
  module _ (u k : ℕ) where
    -- after row k was toggled since row u, it is no longer toggled for the first time
    found_tells : (rows : List (Row O)) (links : List ℕ) (at : ℕ) (by : Option ℕ) (last : ℕ) (was : Bool) → u ≤ at → Alternates k rows at by → LinksBack k rows links at last
        → Finds u rows links k was → (last < u) × (was ≡ is_some by)
    found_tells [] links at by last was from alternate back never = absurd never
    found_tells (row ∷ rows) [] at by last was from alternate back never = absurd never
    found_tells (row ∷ rows) (link ∷ links) at by last was from alternate back found = elim (reply_cases row.reply at k by last) [
      | inl other ↦ elim found [
        | inl here ↦ absurd (other.names_none here.0)
        | inr later ↦
            let rest = found_tells rows links (at + 1) (undoer_then row.reply at k by) (toggle_then (toggled row.reply) at k last) was (omega (arith, from)) alternate.2 back.1 later in
            (omega (arith, rest.0, other.last_is), rest.1 ∙ ap (λ (o : Option ℕ). is_some o) other.undoer_is)
      ]
      | inr toggle ↦ elim found [
        | inl here ↦ (omega (arith, here.1, back.0 here.0), sym here.2 ∙ toggle.tells alternate.0 alternate.1)
        | inr later ↦
            let rest = found_tells rows links (at + 1) (undoer_then row.reply at k by) (toggle_then (toggled row.reply) at k last) was (omega (arith, from)) alternate.2 back.1 later in
            absurd (omega (arith, rest.0, toggle.last_is, from))
      ]
    ]

    -- and what has changed is found
    changed_found : (rows : List (Row O)) (links : List ℕ) (at : ℕ) (by : Option ℕ) (last : ℕ) → last < u → Alternates k rows at by → LinksBack k rows links at last
        → (is_some (undoer_from rows at k by) ≡ is_some by) ⊎ Finds u rows links k (is_some by)
    changed_found [] links at by last new alternate back = inl refl
    changed_found (row ∷ rows) [] at by last new alternate back = absurd back
    changed_found (row ∷ rows) (link ∷ links) at by last new alternate back = elim (reply_cases row.reply at k by last) [
      | inl other ↦ elim (changed_found rows links (at + 1) (undoer_then row.reply at k by) (toggle_then (toggled row.reply) at k last) (omega (arith, new, other.last_is)) alternate.2 back.1) [
        | inl same ↦ inl (same ∙ ap (λ (o : Option ℕ). is_some o) other.undoer_is)
        | inr later ↦ inr (inr (subst (λ (o : Option ℕ). Finds u rows links k (is_some o)) other.undoer_is later))
      ]
      | inr toggle ↦ inr (inl (toggle.names_it, omega (arith, new, back.0 toggle.names_it), toggle.tells alternate.0 alternate.1))
    ]

    -- ---- the rows from an index on
    alternates-drop : (v : ℕ) (rows : List (Row O)) (at : ℕ) (by : Option ℕ) → Alternates k rows at by → Alternates k (drop v rows) (at + v) (undoer_from (take v rows) at k by)
    alternates-drop zero rows at by h = let number : at ≡ at + 0 = omega arith in subst (λ (i : ℕ). Alternates k rows i by) number h
    alternates-drop (suc v) [] at by h = tt
    alternates-drop (suc v) (row ∷ rows) at by h =
        let number : at + 1 + v ≡ at + suc v = omega arith in
        subst (λ (i : ℕ). Alternates k (drop v rows) i (undoer_from (take v rows) (at + 1) k (undoer_then row.reply at k by))) number
        (alternates-drop v rows (at + 1) (undoer_then row.reply at k by) h.2)

    back-drop : (v : ℕ) (rows : List (Row O)) (links : List ℕ) (at last : ℕ) → LinksBack k rows links at last
        → LinksBack k (drop v rows) (drop v links) (at + v) (last_toggle_from (take v rows) at k last)
    back-drop zero rows links at last h = let number : at ≡ at + 0 = omega arith in subst (λ (i : ℕ). LinksBack k rows links i last) number h
    back-drop (suc v) [] links at last h = tt
    back-drop (suc v) (row ∷ rows) [] at last h = absurd h
    back-drop (suc v) (row ∷ rows) (link ∷ links) at last h =
        let number : at + 1 + v ≡ at + suc v = omega arith in
        subst (λ (i : ℕ). LinksBack k (drop v rows) (drop v links) i (last_toggle_from (take v rows) (at + 1) k (toggle_then (toggled row.reply) at k last))) number
        (back-drop v rows links (at + 1) (toggle_then (toggled row.reply) at k last) h.1)

    undoer-drop : (v : ℕ) (rows : List (Row O)) (at : ℕ) (by : Option ℕ) → undoer_from rows at k by ≡ undoer_from (drop v rows) (at + v) k (undoer_from (take v rows) at k by)
    undoer-drop zero rows at by = let number : at ≡ at + 0 = omega arith in ap (λ (i : ℕ). undoer_from rows i k by) number
    undoer-drop (suc v) [] at by = refl
    undoer-drop (suc v) (row ∷ rows) at by =
        let number : at + 1 + v ≡ at + suc v = omega arith in
        undoer-drop v rows (at + 1) (undoer_then row.reply at k by)
        ∙ ap (λ (i : ℕ). undoer_from (drop v rows) i k (undoer_from (take v rows) (at + 1) k (undoer_then row.reply at k by))) number

    -- a toggle has the number of its row
    toggle_below : (v : ℕ) (rows : List (Row O)) (at last : ℕ) → last < u → at + v ≤ u → last_toggle_from (take v rows) at k last < u
    toggle_below zero rows at last new le = new
    toggle_below (suc v) [] at last new le = new
    toggle_below (suc v) (row ∷ rows) at last new le = elim (reply_cases row.reply at k None last) [
      | inl other ↦ toggle_below v rows (at + 1) (toggle_then (toggled row.reply) at k last) (omega (arith, new, other.last_is)) (omega (arith, le))
      | inr toggle ↦ toggle_below v rows (at + 1) (toggle_then (toggled row.reply) at k last) (omega (arith, le, toggle.last_is)) (omega (arith, le))
    ]

  -- ---- the least that is found and passes
  pub record IsLeast (test : Bool → ℕ → Bool) (u : ℕ) (rows : List (Row O)) (links : List ℕ) (before found : ℕ) : Type 0 where
    pub less : found ≤ before
    pub passes : (found ≡ before) ⊎ ((was : Bool) × (test was found ≡ true) × Finds u rows links found was)
    pub least : (i : ℕ) (was : Bool) → test was i ≡ true → Finds u rows links i was → found ≤ i

  least_flipped-is : (test : Bool → ℕ → Bool) (u : ℕ) (rows : List (Row O)) (links : List ℕ) (before : ℕ) → IsLeast test u rows links before (least_flipped test u rows links before)
  least_flipped-is test u [] links before = record { less = omega arith; passes = inl refl; least = λ i was holds never. absurd never }
  least_flipped-is test u (row ∷ rows) [] before = record { less = omega arith; passes = inl refl; least = λ i was holds never. absurd never }
  least_flipped-is test u (row ∷ rows) (link ∷ links) before =
      let told = was_undone row.reply in
      let next = sooner test u row.reply link before in
      let here = sooner_less test u (toggled row.reply) told link before in
      let rest = least_flipped-is test u rows links next in
      let found = least_flipped test u rows links next in
      record {
        less = omega (arith, here.0, rest.less);
        passes = elim rest.passes [
          | inl same ↦ (elim here.1 [
            | inl first ↦ inl (same ∙ first)
            | inr names ↦ inr (told, ap (test told) same ∙ names.2, inl (names.0 ∙ ap (λ i. Some i) (sym same), names.1, refl))
          ])
          | inr later ↦ inr (later.0, later.1, inr later.2)
        ];
        least = λ i was holds is. elim is [
          | inl names ↦ (let first = here.2 i (ap (λ b. test b i) names.2 ∙ holds) names.0 names.1 in omega (arith, first, rest.less))
          | inr later ↦ rest.least i was holds later
        ];
      }

-- ---- the two marks of a command as truth values
differ_is : (was now : Option ℕ) → not (beq (is_some now) (is_some was)) ≡ differ was now
differ_is None None = refl
differ_is None (Some m) = refl
differ_is (Some m) None = refl
differ_is (Some m) (Some l) = refl

unlike : (was now : Option ℕ) → differ was now ≡ true → is_some now ≡ is_some was → ⊥
unlike None None h same = false≢true h
unlike None (Some m) h same = false≢true (sym same)
unlike (Some m) None h same = false≢true same
unlike (Some m) (Some l) h same = false≢true h

module _ {O : Type 0} (asks : O → Bool) (rows : List (Row O)) (links : List ℕ) (u n : ℕ) (reading : List Observation) (some : 1 ≤ u) (marked : MarksAgree rows) (alternate : AllAlternate rows)
    (linked : AreLinked links rows) where
  abbrev test : Bool → ℕ → Bool
  test = is_in_the_way asks rows reading

  abbrev row_test : ℕ → Row O → Bool
  row_test i row = has_flipped asks (undoer_before rows u i) row && meets row.changes reading

  from : 1 + (u - 1) ≡ u
  from = omega (arith, some)

  alternate_since : (k : ℕ) → Alternates k (drop (u - 1) rows) (1 + (u - 1)) (undoer_before rows u k)
  alternate_since k = alternates-drop u k (u - 1) rows 1 None (alternate k)

  back_since : (k : ℕ) → LinksBack k (drop (u - 1) rows) (drop (u - 1) links) (1 + (u - 1)) (last_toggle_from (take (u - 1) rows) 1 k 0)
  back_since k = back-drop u k (u - 1) rows links 1 0 (linked.back k)

  -- a row that passes is found, with the mark that it had
  finds : (k : ℕ) (row : Row O) → row_at rows k ≡ Some row → differ (undoer_before rows u k) row.undone_by ≡ true
      → Finds u (drop (u - 1) rows) (drop (u - 1) links) k (is_some (undoer_before rows u k))
  finds k row here flipped =
      let by = undoer_before rows u k in
      elim (changed_found u k (drop (u - 1) rows) (drop (u - 1) links) (1 + (u - 1)) by (last_toggle_from (take (u - 1) rows) 1 k 0)
      (toggle_below u k (u - 1) rows 1 0 (omega (arith, some)) (omega (arith, some))) (alternate_since k) (back_since k)) [
        | inl same ↦
            let now : is_some row.undone_by ≡ is_some by =
            ap (λ (o : Option ℕ). is_some o) (ap (λ (o : Option (Row O)). undone_by_at o) (sym here) ∙ marked k ∙ undoer-drop u k (u - 1) rows 1 None) ∙ same in
            absurd (unlike by row.undone_by flipped now)
        | inr found ↦ found
      ]

  -- what is tested for a row with the mark that it had
  tested : (k : ℕ) (row : Row O) → row_at rows k ≡ Some row → test (is_some (undoer_before rows u k)) k ≡ row_test k row
  tested k row here =
      ap (flipped_at asks reading (is_some (undoer_before rows u k))) here
      ∙ ap (λ b. (is_some (accepted asks row.request row.reply) && b) && meets row.changes reading) (differ_is (undoer_before rows u k) row.undone_by)

  row_of : (k : ℕ) (was : Bool) (o : Option (Row O)) → row_at rows k ≡ o → flipped_at asks reading was o ≡ true → (row : Row O) × (row_at rows k ≡ Some row)
  row_of k was None is h = absurd (false≢true h)
  row_of k was (Some row) is h = (row, is)

  -- what passes the code's test and is found passes that of the definition
  passes_of : (k : ℕ) (was : Bool) → test was k ≡ true → Finds u (drop (u - 1) rows) (drop (u - 1) links) k was → k < n
      → (j : ℕ) × (k ≡ 1 + j) × Passes row_test (take (n - 1) rows) 1 j
  passes_of zero was h found lt = absurd (false≢true h)
  passes_of (suc j) was h found lt =
      let row = row_of (suc j) was (row_at rows (suc j)) refl h in
      let told = found_tells u (suc j) (drop (u - 1) rows) (drop (u - 1) links) (1 + (u - 1)) (undoer_before rows u (suc j)) (last_toggle_from (take (u - 1) rows) 1 (suc j) 0) was
      (omega (arith, from)) (alternate_since (suc j)) (back_since (suc j)) found in
      let holds : row_test (suc j) row.0 ≡ true = sym (tested (suc j) row.0 row.1) ∙ ap (λ b. test b (suc j)) (sym told.1) ∙ h in
      let number : suc j ≡ 1 + j = omega arith in
      (j, number, (row.0, get_take_out (n - 1) rows j row.0 (omega (arith, lt)) row.1, ap (λ i. row_test i row.0) (sym number) ∙ holds))

  -- and the converse
  of_passes : (j : ℕ) → Passes row_test (take (n - 1) rows) 1 j
      → (test (is_some (undoer_before rows u (1 + j))) (1 + j) ≡ true) × Finds u (drop (u - 1) rows) (drop (u - 1) links) (1 + j) (is_some (undoer_before rows u (1 + j))) × (1 + j < n)
  of_passes j (row, is, holds) =
      let place = get_take_in (n - 1) rows j row is in
      let number : 1 + j ≡ suc j = omega arith in
      let here : row_at rows (1 + j) ≡ Some row = ap (row_at rows) number ∙ place.1 in
      let parts = and_parts (has_flipped asks (undoer_before rows u (1 + j)) row) (meets row.changes reading) holds in
      let flipped = and_parts (is_some (accepted asks row.request row.reply)) (differ (undoer_before rows u (1 + j)) row.undone_by) parts.0 in
      (tested (1 + j) row here ∙ holds, finds (1 + j) row here flipped.1, omega (arith, place.0))

  abbrev least : ℕ
  least = least_flipped test u (drop (u - 1) rows) (drop (u - 1) links) n

  least_is : IsLeast test u (drop (u - 1) rows) (drop (u - 1) links) n least
  least_is = least_flipped-is test u (drop (u - 1) rows) (drop (u - 1) links) n

  -- the least that is found is the first that has flipped
  found_is : least < n → (o : Option ℕ) → IsFirst row_test (take (n - 1) rows) 1 o → Some least ≡ o
  found_is lt o first = elim least_is.passes [
    | inl same ↦ absurd (omega (arith, lt, same))
    | inr there ↦ by_first o first (passes_of least there.0 there.1 there.2 lt)
  ]
    where
      by_first : (o : Option ℕ) → IsFirst row_test (take (n - 1) rows) 1 o → ((j : ℕ) × (least ≡ 1 + j) × Passes row_test (take (n - 1) rows) 1 j) → Some least ≡ o
      by_first None none (i, is, passes) = absurd (none i passes)
      by_first (Some m) (j, number, passes, first) (i, is, here) =
          let below = first i here in
          let there = of_passes j passes in
          let above = least_is.least (1 + j) (is_some (undoer_before rows u (1 + j))) there.0 there.1 in
          let same : least ≡ m = omega (arith, below, above, number, is) in
          ap (λ i. Some i) same

  none_is : n ≤ least → (o : Option ℕ) → IsFirst row_test (take (n - 1) rows) 1 o → None ≡ o
  none_is ge None none = refl
  none_is ge (Some m) (j, number, passes, first) =
      let there = of_passes j passes in
      let above = least_is.least (1 + j) (is_some (undoer_before rows u (1 + j))) there.0 there.1 in
      absurd (omega (arith, ge, above, there.2))

  pub found_flipped : (found : ℕ) → found ≡ least → found < n → Some found ≡ first_flipped asks (undoer_before rows u) reading (take (n - 1) rows) 1
  found_flipped found is lt = ap (λ i. Some i) is ∙ found_is (subst (λ i. i < n) is lt) (first_flipped asks (undoer_before rows u) reading (take (n - 1) rows) 1) (first_where-is row_test (take (n - 1) rows) 1)

  pub none_flipped : (found : ℕ) → found ≡ least → n ≤ found → None ≡ first_flipped asks (undoer_before rows u) reading (take (n - 1) rows) 1
  none_flipped found is ge = none_is (subst (λ i. n ≤ i) is ge) (first_flipped asks (undoer_before rows u) reading (take (n - 1) rows) 1) (first_where-is row_test (take (n - 1) rows) 1)

-- ---- what is read of a row
module _ {O : Type 0} (asks : O → Bool) (rows : List (Row O)) (reading : List Observation) (was : Bool) (k : ℕ) (row : Row O) (here : row_at rows k ≡ Some row) (flipped : Bool)
    (is : flipped ≡ is_flipped asks was row) where
  pub in_the_way_read : (met : Bool) → flipped ≡ true → met ≡ meets row.changes reading → met ≡ is_in_the_way asks rows reading was k
  in_the_way_read met on meeting =
      meeting ∙ ap (λ b. b && meets row.changes reading) (sym on ∙ is) ∙ sym (ap (flipped_at asks reading was) here)

  pub not_in_the_way_read : flipped ≡ false → flipped ≡ is_in_the_way asks rows reading was k
  not_in_the_way_read off = off ∙ ap (λ b. b && meets row.changes reading) (sym off ∙ is) ∙ sym (ap (flipped_at asks reading was) here)
