-- Undos and redos that rows of others refuse, or leave free.
use Rattle.std.proofs.Common.{◌≡◌, ◌<◌, ◌≤◌, ℕ, zero, suc, List, [], ◌∷◌, ◌++◌, length, length-append, map as list_map, Option, Some, None, slice_get, All, Contains, refl, sym, ap, ◌∙◌, subst, inl, inr, arith}
use Rattle.std.specs.FinMap as map
use Rattle.std.proofs.lemmas.List.Elements.{All-nil, All-cons, All-head, All-tail, All-weaker, All-contains}
use Rattle.link_tree.specs.declared.change.Change.{Change}
use Rattle.link_tree.specs.Trees.{Entries}
use Rattle.tree_steps.specs.Steps.{slot_changes_between}
use Rattle.history.specs.declared.row.Row.{Row}
use Rattle.history.specs.declared.row.UndoRefusal.{UndoRefusal}
use Rattle.history.specs.declared.row.UndoRefusal.TheVariants.{Blocked}
use Rattle.history.specs.declared.row.RedoRefusal.{RedoRefusal}
use Rattle.history.specs.declared.row.RedoRefusal.TheVariants.{Hindered}
use Rattle.history.specs.declared.row.RowReply.TheVariants.{RedoRefused}
use Rattle.history.specs.Rows.{row_at, row_of_redo, rows_redone, undo_refusal, redo_refusal}
use Rattle.history.specs.Blocks.{IsRefusedBy}
use Rattle.history.specs.Hindrances.{IsRedoRefusedBy, TellsRedoRefusal}
use Rattle.history.proofs.Blocking.{refusal_is}
use Rattle.history.proofs.Hindering.{redo_refusal_told_is}
use Rattle.later_rows.specs.Laws.{SomeMeet}
use Rattle.later_rows.proofs.Blocked.{later_readers_block, later_readers_hinder, other_rows_leave_free}
use Rattle.unit_script.specs.declared.action.Action.{Action}
use Rattle.unit_script.specs.Actions.{asks}
use Rattle.unit_script.specs.Machine.{replay}
use Rattle.kept_rows.specs.Others.{outside, calls_of_others, rows_with_others, IsOfOthers}
use Rattle.kept_rows.specs.Laws.{IsNamed, OthersChanged, OthersBlock, OthersHinder, OthersLeaveFree}
use Rattle.kept_rows.proofs.Meeting.{HasPath, has_or_keeps, at_had}
use Rattle.kept_rows.proofs.SlotsAlone.{slots_real, slot_changes, changed_slots}
use Rattle.kept_rows.proofs.Leading.{SomeLook, KeepsPaths, others_led, changes_at, at_changes}

-- rows that look at a path meet changes of it
some_meet : (path : List ℕ) (changes : List Change) → HasPath path changes → (rows : List (Row Action)) → SomeLook path rows → SomeMeet asks changes rows
some_meet path changes has [] none = absurd none
some_meet path changes has (row ∷ rows) (inl here) = inl (here changes has)
some_meet path changes has (row ∷ rows) (inr later) = inr (some_meet path changes has rows later)

paths_had : (changes : List Change) → All (λ path. HasPath path changes) (list_map (λ (change : Change). change.path) changes)
paths_had [] = All-nil (λ path. HasPath path [])
paths_had (c ∷ cs) =
    All-cons (λ path. HasPath path (c ∷ cs)) c.path (list_map (λ (change : Change). change.path) cs) (inl refl)
    (All-weaker (λ path. HasPath path cs) (λ path. HasPath path (c ∷ cs)) (λ path later. inr later) (list_map (λ (change : Change). change.path) cs) (paths_had cs))

has_path : (path : List ℕ) (changes : List Change) → Contains (list_map (λ (change : Change). change.path) changes) path → HasPath path changes
has_path path changes contains = All-contains (λ path. HasPath path changes) (list_map (λ (change : Change). change.path) changes) path (paths_had changes) contains

-- the row after some rows is one of the later ones
one_later : {A : Type 0} (P : A → Type 0) (more : List A) (k : ℕ) (x : A) → slice_get more k ≡ Some x → All P more → P x
one_later P [] zero x is all = let none : None ≡ Some x = is in absurd (cc)
one_later P [] (suc k) x is all = let none : None ≡ Some x = is in absurd (cc)
one_later P (y ∷ more) zero x is all = let same : y ≡ x = cc in subst P same (All-head P y more all)
one_later P (y ∷ more) (suc k) x is all = one_later P more k x is (All-tail P y more all)

behind : {A : Type 0} (P : A → Type 0) (xs more : List A) (k : ℕ) (x : A) → length xs ≤ k → slice_get (xs ++ more) k ≡ Some x → All P more → P x
behind P [] more k x within is all = one_later P more k x is all
behind P (y ∷ xs) more zero x within is all = absurd (omega (arith, within))
behind P (y ∷ xs) more (suc k) x within is all = behind P xs more k x (omega (arith, within)) is all

named : (rows more now : List (Row Action)) (m : ℕ) (theirs : Row Action) → now ≡ rows ++ more → All IsOfOthers more → length rows < m → row_at now m ≡ Some theirs → IsNamed rows now m
named rows more now zero theirs are all after at = cc
named rows more now (suc k) theirs are all after at =
    (after, theirs, at, behind IsOfOthers rows more k theirs (omega (arith, after)) (sym (ap (λ rs. slice_get rs k) are) ∙ at) all)

pushed : (rows : List (Row Action)) (last : Row Action) → slice_get (rows ++ last ∷ []) (length rows) ≡ Some last
pushed [] last = refl
pushed (r ∷ rows) last = pushed rows last

-- the last row
last_at : (rows : List (Row Action)) (last : Row Action) → row_at (rows ++ last ∷ []) (length (rows ++ last ∷ [])) ≡ Some last
last_at rows last =
    let size : length (rows ++ last ∷ []) ≡ suc (length rows) = omega (arith, length-append rows (last ∷ [])) in
    ap (row_at (rows ++ last ∷ [])) size ∙ pushed rows last

module _ (first : Entries) (rows : List (Row Action)) (captured : Entries) where
  abbrev now : List (Row Action)
  now = rows_with_others first rows captured

  abbrev theirs : List (Row Action)
  theirs = (others_led first rows captured).more

  meet : (row : Row Action) → OthersChanged first rows captured row → SomeMeet asks row.changes theirs
  meet row (path, contains, slot, differ) =
      let t : Entries = replay first rows in
      some_meet path row.changes (has_path path row.changes contains) theirs
      ((others_led first rows captured).looked path (changes_at path (slot_changes_between t captured) (slot_changes t captured path slot differ) (slots_real t captured)))

  -- the row that a refusal names
  pub blocked_by : (n m : ℕ) → undo_refusal asks now n ≡ Some (Blocked m) → length rows < m → IsNamed rows now m
  blocked_by n m is after =
      let found : IsRefusedBy asks now n (Some (Blocked m)) = subst (λ (o : Option UndoRefusal). IsRefusedBy asks now n o) is (refusal_is asks now n) in
      let at : row_at now m ≡ Some found.0.1 = found.0.3.0 in
      named rows theirs now m found.0.1 (others_led first rows captured).rows_are (others_led first rows captured).theirs after at

  pub hindered_by : (n m : ℕ) → redo_refusal asks now n ≡ Some (Hindered m) → length rows < m → IsNamed rows now m
  hindered_by n m is after =
      let last : Row Action = row_of_redo outside n (RedoRefused (Hindered m)) in
      let told : TellsRedoRefusal asks now (now ++ last ∷ []) n =
      subst (λ (o : Option RedoRefusal). TellsRedoRefusal asks now (rows_redone outside now n o) n) is (redo_refusal_told_is asks now outside n) in
      let found : IsRedoRefusedBy asks now n (Some (Hindered m)) = told last (last_at now last) in
      let at : row_at now m ≡ Some found.0.1 = elim found.0.5 [ inl survives ↦ survives.0.0 | inr flipped ↦ flipped.0.0 ] in
      named rows theirs now m found.0.1 (others_led first rows captured).rows_are (others_led first rows captured).theirs after at

pub others_block : OthersBlock
others_block first rows captured n row here free changed =
    let led = others_led first rows captured in
    let blocked = later_readers_block asks rows led.more n row here free (meet first rows captured row changed) in
    let refused : undo_refusal asks (rows_with_others first rows captured) n ≡ Some (Blocked blocked.0) = ap (λ rows. undo_refusal asks rows n) led.rows_are ∙ blocked.1 in
    (blocked.0, refused, blocked_by first rows captured n blocked.0 refused blocked.2)

pub others_hinder : OthersHinder
others_hinder first rows captured n row marks here free changed =
    let led = others_led first rows captured in
    let hindered = later_readers_hinder asks rows led.more n row marks here free (meet first rows captured row changed) in
    let refused : redo_refusal asks (rows_with_others first rows captured) n ≡ Some (Hindered hindered.0) = ap (λ rows. redo_refusal asks rows n) led.rows_are ∙ hindered.1 in
    (hindered.0, refused, hindered_by first rows captured n hindered.0 refused hindered.2)

pub others_leave_free : OthersLeaveFree
others_leave_free first rows captured n row here unchanged =
    let t : Entries = replay first rows in
    let cs : List Change = slot_changes_between t captured in
    let led = others_led first rows captured in
    let keeps : KeepsPaths (calls_of_others cs) row.changes = λ path there. elim (has_or_keeps path row.changes) [
      | inl kept ↦ kept
      | inr has ↦ absurd (changed_slots t captured path (at_changes path cs there) (at_had (λ p. map.get t p ≡ map.get captured p) path row.changes unchanged has))
    ] in
    let free = other_rows_leave_free asks rows led.more n row here (led.away row.changes keeps) in (
      λ unrefused. ap (λ rows. undo_refusal asks rows n) led.rows_are ∙ free.0 unrefused,
      λ marks unrefused. ap (λ rows. redo_refusal asks rows n) led.rows_are ∙ free.1 marks unrefused,
    )
