-- Rows of others lead from tree to tree.
use Rattle.std.proofs.Common.{◌≡◌, ◌≢◌, ◌||◌, ◌&&◌, ℕ, true, false, cond, List, [], ◌∷◌, ◌++◌, Option, Some, None, is_some, All, refl, sym, ap, ◌∙◌, subst, append_assoc, inl, inr}
use Rattle.std.specs.Prelude.{◌⊎◌}
use Rattle.std.specs.List.{AllByRecursion}
use Rattle.std.specs.Str.{bytes_eq}
use Rattle.std.specs.FinMap as map
use Rattle.std.proofs.lemmas.List.{append-nil}
use Rattle.std.proofs.lemmas.Bool.{cases_Bool, false≢true}
use Rattle.std.proofs.lemmas.Slice.Eq.{bytes_eq-Decides}
use Rattle.std.proofs.lemmas.List.Elements.{All-nil, All-cons, All-append, recursion_from_All}
use Rattle.unit_paths.specs.Slots.{is_slot}
use Rattle.link_tree.specs.declared.change.Change.{Change}
use Rattle.link_tree.specs.declared.entry.Entry.{Entry}
use Rattle.link_tree.specs.Trees.{Entries, KeepsPath, AreFrom, set_entry, after_change, after_changes}
use Rattle.link_tree.proofs.Changed.{get-set, get-set_other, same_tree, same_bytes, other_bytes}
use Rattle.tree_steps.specs.Steps.{slot_changes_between}
use Rattle.tree_steps.proofs.SlotChanges.{slots_from, slots_alone}
use Rattle.footprint.specs.declared.answer.Answer.TheVariants.{Done}
use Rattle.footprint.specs.Operations.{outcome_of}
use Rattle.tree_access.specs.declared.key.Key.TheVariants.{Cell}
use Rattle.tree_access.specs.Rules.{Rule}
use Rattle.slot_commands.specs.ByHand.{place_at, remove_at, ruled_slot, place_meaning, remove_meaning, with_one, FillsSlot, EmptiesSlot}
use Rattle.slot_commands.specs.Effects.{Leaves}
use Rattle.slot_commands.proofs.Hands.{place_fills, remove_empties}
use Rattle.history.specs.declared.row.Row.{Row}
use Rattle.history.specs.declared.row.Request.{Request}
use Rattle.history.specs.declared.row.Request.TheVariants.{Do}
use Rattle.history.specs.declared.row.RowReply.TheVariants.{Answered}
use Rattle.history.specs.Rows as histories
use Rattle.history.proofs.Replayed.{replay-push}
use Rattle.later_rows.specs.Laws.{NoneMeets}
use Rattle.unit_script.specs.declared.action.Action.{Action}
use Rattle.unit_script.specs.declared.action.Action.TheVariants.{PlaceEntry, RemoveEntry}
use Rattle.unit_script.specs.declared.call.Call.{Call}
use Rattle.unit_script.specs.Actions.{asks, meaning}
use Rattle.unit_script.specs.Machine.{asked, replay}
use Rattle.kept_rows.specs.Others.{outside, removal, placement, calls_at, calls_of_change, calls_of_others, rows_with, IsOfOthers, LeadTo, MakeChanges, with_slots_of}
use Rattle.kept_rows.specs.Laws.{OthersLead}
use Rattle.kept_rows.proofs.Meeting.{HasPath, meets_cell, other_cell}

-- what an entry that is set makes of a tree, by what is there then
set_by : (t u : Entries) (path : List ℕ) (entry : Option Entry) → ((q : List ℕ) → map.get u q ≡ with_one t path entry q) → u ≡ set_entry t path entry
set_by t u path entry there = same_tree u (set_entry t path entry) (λ q. there q ∙ sym (get-set t path entry q))

-- a command that is accepted
removed : (t : Entries) (path : List ℕ) (was : Entry) → is_slot path ≡ true → map.get t path ≡ Some was → Leaves ((remove_meaning (record { path = path })).conclusion t) t (with_one t path None)
removed t path was slot at =
    subst (EmptiesSlot (record { path = path }) t true) at (subst (λ b. EmptiesSlot (record { path = path }) t b (map.get t path)) slot (remove_empties (record { path = path }) t))

placed : (t : Entries) (path : List ℕ) (is : Entry) → is_slot path ≡ true → map.get t path ≡ None → Leaves ((place_meaning (record { path = path; entry = is })).conclusion t) t (with_one t path (Some is))
placed t path is slot at =
    subst (FillsSlot (record { path = path; entry = is }) t true) at (subst (λ b. FillsSlot (record { path = path; entry = is }) t b (map.get t path)) slot (place_fills (record { path = path; entry = is }) t))

-- what is looked at if a rule is followed at a slot
ruled_keys : (rule : Rule) (path : List ℕ) (t : Entries) → is_slot path ≡ true → (ruled_slot rule path).keys t ≡ Cell path ∷ []
ruled_keys rule path t slot = rw slot refl

-- a request to place or remove the entry at a path
abbrev AtRequest : List ℕ → Request Action → Type 0
AtRequest path (Do (PlaceEntry place)) = place.path ≡ path
AtRequest path (Do (RemoveEntry remove)) = remove.path ≡ path
AtRequest path other = ⊥

-- one of the calls asks for that
abbrev pub IsAt : List ℕ → List Call → Type 0
IsAt path [] = ⊥
IsAt path (call ∷ calls) = AtRequest path call.request ⊎ IsAt path calls

-- A row that survives, and is met by each change of a path.
abbrev Looks : List ℕ → Row Action → Type 0
Looks path row = (changes : List Change) → HasPath path changes → (is_some (histories.survivor asks row) && histories.meets changes row.reading) ≡ true

abbrev pub SomeLook : List ℕ → List (Row Action) → Type 0
SomeLook path [] = ⊥
SomeLook path (row ∷ rows) = Looks path row ⊎ SomeLook path rows

look-left : (path : List ℕ) (xs ys : List (Row Action)) → SomeLook path xs → SomeLook path (xs ++ ys)
look-left path [] ys none = absurd none
look-left path (x ∷ xs) ys (inl here) = inl here
look-left path (x ∷ xs) ys (inr later) = inr (look-left path xs ys later)

look-right : (path : List ℕ) (xs ys : List (Row Action)) → SomeLook path ys → SomeLook path (xs ++ ys)
look-right path [] ys some = some
look-right path (x ∷ xs) ys some = inr (look-right path xs ys some)

at-parts : (path : List ℕ) (xs ys : List Call) → IsAt path (xs ++ ys) → IsAt path xs ⊎ IsAt path ys
at-parts path [] ys some = inr some
at-parts path (x ∷ xs) ys (inl here) = inl (inl here)
at-parts path (x ∷ xs) ys (inr later) = elim (at-parts path xs ys later) [ inl there ↦ inl (inr there) | inr there ↦ inr there ]

at-append : (path : List ℕ) (xs ys : List Call) → IsAt path xs ⊎ IsAt path ys → IsAt path (xs ++ ys)
at-append path [] ys (inl none) = absurd none
at-append path [] ys (inr some) = some
at-append path (x ∷ xs) ys (inl (inl here)) = inl here
at-append path (x ∷ xs) ys (inl (inr later)) = inr (at-append path xs ys (inl later))
at-append path (x ∷ xs) ys (inr some) = inr (at-append path xs ys (inr some))

-- these changes are of no path of the calls
abbrev pub KeepsPaths : List Call → List Change → Type 0
KeepsPaths calls changes = (path : List ℕ) → IsAt path calls → KeepsPath path changes

none-append : (changes : List Change) (xs ys : List (Row Action)) → NoneMeets asks changes xs → NoneMeets asks changes ys → NoneMeets asks changes (xs ++ ys)
none-append changes [] ys one other = other
none-append changes (x ∷ xs) ys one other = (one.0, none-append changes xs ys one.1 other)

module _ (first : Entries) where
  -- These calls make rows of others, and the tree is this one then.
  pub record Led (rows : List (Row Action)) (calls : List Call) (to : Entries) : Type 0 where
    pub more : List (Row Action)
    pub rows_are : rows_with first rows calls ≡ rows ++ more
    pub theirs : All IsOfOthers more
    pub looked : (path : List ℕ) → IsAt path calls → SomeLook path more
    pub away : (changes : List Change) → KeepsPaths calls changes → NoneMeets asks changes more
    pub tree : replay first (rows ++ more) ≡ to

  -- one command that is accepted
  one_led : (rows : List (Row Action)) (c : Action) (at : List ℕ) (to : Entries) → let calls : List Call = record { operator = outside; request = Do c } ∷ [] in
      asks c ≡ false → IsAt at calls → ((path : List ℕ) → IsAt path calls → at ≡ path)
      → (meaning c).keys (replay first rows) ≡ Cell at ∷ [] → (outcome_of meaning c (replay first rows)).answer ≡ Done map.empty
      → after_changes (outcome_of meaning c (replay first rows)).changes (replay first rows) ≡ to → Led rows calls to
  one_led rows c at to command here is_at keys done leaves =
      let t : Entries = replay first rows in
      let row : Row Action = histories.answered outside c (outcome_of meaning c t) in
      let stands : is_some (histories.survivor asks row) ≡ true =
      ap (λ a. is_some (histories.command_of asks c a)) done ∙ ap (λ b. is_some (cond (b || false) None (Some c))) command in
      record {
        more = row ∷ [];
        rows_are = refl;
        theirs = All-cons IsOfOthers row [] (refl, ap (λ answer. Answered answer) done, refl) (All-nil IsOfOthers);
        looked = λ path there. inl (λ changes has. ap (λ b. b && histories.meets changes row.reading) stands ∙ meets_cell t at path changes ((meaning c).keys t) keys (is_at path there) has);
        away = λ changes kept. (ap (λ b. b && histories.meets changes row.reading) stands ∙ other_cell t at changes ((meaning c).keys t) keys (kept at here), tt);
        tree =
            replay-push asks meaning first rows row
            ∙ ap (λ a. histories.after asks meaning (histories.command_of asks c a) t) done
            ∙ ap (λ b. histories.after asks meaning (cond b None (Some c)) t) (ap (λ b. b || false) command)
            ∙ leaves;
      }

  with-append : (xs ys : List Call) (rows : List (Row Action)) → rows_with first rows (xs ++ ys) ≡ rows_with first (rows_with first rows xs) ys
  with-append [] ys rows = refl
  with-append (x ∷ xs) ys rows = with-append xs ys (histories.rows_after asks meaning first rows (asked x))

  -- some, and then others
  both_led : (rows : List (Row Action)) (xs ys : List Call) (mid to : Entries) (one : Led rows xs mid) → Led (rows ++ one.more) ys to → Led rows (xs ++ ys) to
  both_led rows xs ys mid to one other = record {
    more = one.more ++ other.more;
    rows_are = with-append xs ys rows ∙ ap (λ r. rows_with first r ys) one.rows_are ∙ other.rows_are ∙ append_assoc rows one.more other.more;
    theirs = All-append IsOfOthers one.more other.more one.theirs other.theirs;
    looked = λ path some. elim (at-parts path xs ys some) [
      | inl there ↦ look-left path one.more other.more (one.looked path there)
      | inr there ↦ look-right path one.more other.more (other.looked path there)
    ];
    away = λ changes kept.
        none-append changes one.more other.more (one.away changes (λ path there. kept path (at-append path xs ys (inl there)))) (other.away changes (λ path there. kept path (at-append path xs ys (inr there))));
    tree = ap (replay first) (sym (append_assoc rows one.more other.more)) ∙ other.tree;
  }

  none_led : (rows : List (Row Action)) (to : Entries) → replay first rows ≡ to → Led rows [] to
  none_led rows to is = record { more = []; rows_are = sym (append-nil rows); theirs = All-nil IsOfOthers; looked = λ path none. absurd none; away = λ changes kept. tt; tree = ap (replay first) (append-nil rows) ∙ is }

  remove_led : (rows : List (Row Action)) (path : List ℕ) (was : Entry) → is_slot path ≡ true → map.get (replay first rows) path ≡ Some was
      → Led rows (removal path ∷ []) (set_entry (replay first rows) path None)
  remove_led rows path was slot at =
      let done = removed (replay first rows) path was slot at in
      one_led rows (RemoveEntry (record { path = path })) path (set_entry (replay first rows) path None) refl (inl refl) (λ q here. elim here [ inl at ↦ at | inr none ↦ absurd none ]) (ruled_keys remove_at path (replay first rows) slot) done.0 (set_by (replay first rows) _ path None done.1)

  place_led : (rows : List (Row Action)) (path : List ℕ) (is : Entry) → is_slot path ≡ true → map.get (replay first rows) path ≡ None
      → Led rows (placement path is ∷ []) (set_entry (replay first rows) path (Some is))
  place_led rows path is slot at =
      let done = placed (replay first rows) path is slot at in
      one_led rows (PlaceEntry (record { path = path; entry = is })) path (set_entry (replay first rows) path (Some is)) refl (inl refl) (λ q here. elim here [ inl at ↦ at | inr none ↦ absurd none ]) (ruled_keys (place_at is) path (replay first rows) slot) done.0 (set_by (replay first rows) _ path (Some is) done.1)

  -- an entry that is set where it was removed is set
  set_again : (t : Entries) (path : List ℕ) (entry : Option Entry) → set_entry (set_entry t path None) path entry ≡ set_entry t path entry
  set_again t path entry = same_tree _ _ (λ q. get-set (set_entry t path None) path entry q ∙ elim (cases_Bool (bytes_eq q path)) [
    | inl here ↦ ap (λ b. cond b entry (map.get (set_entry t path None) q)) here ∙ sym (ap (λ b. cond b entry (map.get t q)) here) ∙ sym (get-set t path entry q)
    | inr away ↦
        ap (λ b. cond b entry (map.get (set_entry t path None) q)) away ∙ get-set_other t path None q away
        ∙ sym (ap (λ b. cond b entry (map.get t q)) away) ∙ sym (get-set t path entry q)
  ])

  -- nothing that is set where nothing is
  set_none : (t : Entries) (path : List ℕ) → map.get t path ≡ None → t ≡ set_entry t path None
  set_none t path none = same_tree _ _ (λ q. sym (get-set t path None q ∙ elim (cases_Bool (bytes_eq q path)) [
    | inl here ↦ ap (λ b. cond b None (map.get t q)) here ∙ sym (ap (map.get t) (same_bytes q path here) ∙ none)
    | inr away ↦ ap (λ b. cond b None (map.get t q)) away
  ]))

  -- what is at a path where an entry was removed
  taken_there : (t : Entries) (path : List ℕ) → map.get (set_entry t path None) path ≡ None
  taken_there t path = get-set t path None path ∙ elim (cases_Bool (bytes_eq path path)) [
    | inl here ↦ ap (λ b. cond b None (map.get t path)) here
    | inr away ↦ absurd (false≢true (sym away ∙ (bytes_eq-Decides path path).1 refl))
  ]

  sides_led : (rows : List (Row Action)) (path : List ℕ) (before after : Option Entry) → is_slot path ≡ true → map.get (replay first rows) path ≡ before
      → Led rows (calls_at path before after) (set_entry (replay first rows) path after)
  sides_led rows path None None slot at = none_led rows _ (set_none (replay first rows) path at)
  sides_led rows path (Some was) None slot at = remove_led rows path was slot at
  sides_led rows path None (Some is) slot at = place_led rows path is slot at
  sides_led rows path (Some was) (Some is) slot at =
      let t : Entries = replay first rows in
      let gone = remove_led rows path was slot at in
      let there = place_led (rows ++ gone.more) path is slot (ap (λ u. map.get u path) gone.tree ∙ taken_there t path) in
      subst (Led rows (calls_at path (Some was) (Some is))) (ap (λ u. set_entry u path (Some is)) gone.tree ∙ set_again t path (Some is))
      (both_led rows (removal path ∷ []) (placement path is ∷ []) (set_entry t path None) _ gone there)

  -- a change of another path leaves what the rest are from
  from_rest : (c : Change) (cs : List Change) (m : Entries) → KeepsPath c.path cs → AreFrom m cs → AreFrom (after_change c m) cs
  from_rest c [] m apart h = tt
  from_rest c (d ∷ cs) m apart h = (get-set_other m c.path c.after d.path (other_bytes c.path d.path apart.0) ∙ h.0, h.1, from_rest c cs m apart.1 h.2)

  pub changes_led : (cs : List Change) (rows : List (Row Action)) → AreFrom (replay first rows) cs → AllByRecursion (λ (c : Change). is_slot c.path ≡ true) cs
      → Led rows (calls_of_others cs) (after_changes cs (replay first rows))
  changes_led [] rows from slots = none_led rows _ refl
  changes_led (c ∷ cs) rows from slots =
      let t : Entries = replay first rows in
      let one = sides_led rows c.path c.before c.after slots.0 from.0 in
      let rest = changes_led cs (rows ++ one.more) (subst (λ u. AreFrom u cs) (sym one.tree) (from_rest c cs t from.1 from.2)) slots.1 in
      subst (Led rows (calls_of_others (c ∷ cs))) (ap (after_changes cs) one.tree)
      (both_led rows (calls_of_change c) (calls_of_others cs) (after_change c t) _ one rest)

  pub others_led : (rows : List (Row Action)) (captured : Entries)
      → Led rows (calls_of_others (slot_changes_between (replay first rows) captured)) (with_slots_of (replay first rows) captured)
  others_led rows captured =
      let t : Entries = replay first rows in
      changes_led (slot_changes_between t captured) rows (slots_from t captured)
      (recursion_from_All (λ (c : Change). is_slot c.path ≡ true) (slot_changes_between t captured) (slots_alone t captured))

  pub leads_to : (rows : List (Row Action)) (calls : List Call) (to : Entries) → Led rows calls to → LeadTo first rows calls to
  leads_to rows calls to led = (led.more, led.rows_are, led.theirs, led.tree)

-- calls that are these make the changes
pub make_changes : (changes : List Change) (calls : List Call) → calls ≡ calls_of_others changes → MakeChanges changes calls
make_changes changes calls are = subst (MakeChanges changes) (sym are) make
  where
    make : MakeChanges changes (calls_of_others changes)
    make first rows from slots =
        leads_to first rows (calls_of_others changes) (after_changes changes (replay first rows))
        (changes_led first changes rows from (recursion_from_All (λ (c : Change). is_slot c.path ≡ true) changes slots))

pub others_lead : OthersLead
others_lead first rows captured =
    leads_to first rows (calls_of_others (slot_changes_between (replay first rows) captured)) (with_slots_of (replay first rows) captured) (others_led first rows captured)

-- a change that is one makes a call at its path
sides_at : (path : List ℕ) (before after : Option Entry) → before ≢ after → IsAt path (calls_at path before after)
sides_at path None None real = absurd (real refl)
sides_at path (Some was) None real = inl refl
sides_at path None (Some is) real = inl refl
sides_at path (Some was) (Some is) real = inl refl

pub changes_at : (path : List ℕ) (changes : List Change) → HasPath path changes → AllByRecursion (λ (c : Change). c.before ≢ c.after) changes → IsAt path (calls_of_others changes)
changes_at path [] none real = absurd none
changes_at path (c ∷ cs) (inl here) real = at-append path (calls_of_change c) (calls_of_others cs) (inl (subst (λ p. IsAt p (calls_of_change c)) here (sides_at c.path c.before c.after real.0)))
changes_at path (c ∷ cs) (inr later) real = at-append path (calls_of_change c) (calls_of_others cs) (inr (changes_at path cs later real.1))

-- a call for a change is at its path
side_is_at : (path at : List ℕ) (before after : Option Entry) → IsAt path (calls_at at before after) → at ≡ path
side_is_at path at None None none = absurd none
side_is_at path at (Some was) None (inl here) = here
side_is_at path at (Some was) None (inr none) = absurd none
side_is_at path at None (Some is) (inl here) = here
side_is_at path at None (Some is) (inr none) = absurd none
side_is_at path at (Some was) (Some is) (inl here) = here
side_is_at path at (Some was) (Some is) (inr (inl here)) = here
side_is_at path at (Some was) (Some is) (inr (inr none)) = absurd none

pub at_changes : (path : List ℕ) (changes : List Change) → IsAt path (calls_of_others changes) → HasPath path changes
at_changes path [] none = none
at_changes path (c ∷ cs) there = elim (at-parts path (calls_of_change c) (calls_of_others cs) there) [
  | inl here ↦ inl (side_is_at path c.path c.before c.after here)
  | inr later ↦ inr (at_changes path cs later)
]
