-- The rows that must be undone, as they are gathered from the first to the last.
use Rattle.std.proofs.Common.{◌≡◌, ◌+◌, ◌<◌, ◌≤◌, ◌-◌, ◌&&◌, ◌||◌, ℕ, zero, suc, Bool, true, false, List, [], ◌∷◌, ◌++◌, ◌⊎◌, Option, Some, None, is_some, get_or, length, reverse, All, refl, sym, ap, subst, ◌∙◌, arith, inl, inr}
use Rattle.std.specs.List.{Contains, list_any}
use Rattle.std.proofs.lemmas.Bool.{cases_Bool, cases_lt, and_parts, true≢false, false≢true}
use Rattle.std.proofs.lemmas.List.{reverse-append}
use Rattle.std.proofs.lemmas.List.Elements.{All-nil, All-cons}
use Rattle.std.proofs.lemmas.List.Sorted.{list_any-IsPermutation, IsPermutation-reverse}
use Rattle.std.proofs.lemmas.Option.{slice_get_within}
use Rattle.history.specs.declared.row.Row.{Row}
use Rattle.history.specs.declared.row.UndoRefusal.TheVariants.{NotACommand, AlreadyUndone}
use Rattle.history.specs.Rows.{row_at, meets, accepted, unless_undone, survivor}
use Rattle.history.specs.Blocks.{LookedAt, Blocks, IsRefusedBy}
use Rattle.history.proofs.Blocking.{meets-looked, looked-meets}
use Rattle.history.proofs.Kept.{row_at_read}
use Rattle.undo_orders.specs.ToUndo.{Falls, MustBeUndone, IsSurvivor, AreToUndo, row_meets, some_meets}
use Rattle.undo_orders.specs.ToUndo.MustBeUndone.{Itself, Blocking}

-- ---- members of lists
pub in_first : (m : ℕ) (numbers : List ℕ) → Contains (m ∷ numbers) m
in_first m numbers = (0, omega arith, refl)

pub in_later : (k m : ℕ) (numbers : List ℕ) → Contains numbers m → Contains (k ∷ numbers) m
in_later k m numbers (i, within, is) = (suc i, omega (arith, within), is)

pub in_cons : (k m : ℕ) (numbers : List ℕ) → Contains (k ∷ numbers) m → (k ≡ m) ⊎ Contains numbers m
in_cons k m numbers (zero, within, is) = inl is
in_cons k m numbers (suc i, within, is) = inr (i, omega (arith, within), is)

pub in_none : (m : ℕ) → Contains {X = ℕ} [] m → ⊥
in_none m (i, within, is) = omega (arith, within)

any_of : (test : ℕ → Bool) (numbers : List ℕ) → list_any test numbers ≡ true → (m : ℕ) × Contains numbers m × (test m ≡ true)
any_of test [] h = absurd (false≢true h)
any_of test (k ∷ numbers) h = elim (cases_Bool (test k)) [
  | inl here ↦ (k, in_first k numbers, here)
  | inr not ↦ let later = any_of test numbers (ap (λ b. b || list_any test numbers) (sym not) ∙ h) in (later.0, in_later k later.0 numbers later.1, later.2)
]

of_any : (test : ℕ → Bool) (numbers : List ℕ) (m : ℕ) → Contains numbers m → test m ≡ true → list_any test numbers ≡ true
of_any test [] m here passes = absurd (in_none m here)
of_any test (k ∷ numbers) m here passes = elim (in_cons k m numbers here) [
  | inl same ↦ ap (λ b. b || list_any test numbers) (ap test same ∙ passes)
  | inr later ↦ elim (cases_Bool (test k)) [
    | inl on ↦ ap (λ b. b || list_any test numbers) on
    | inr off ↦ ap (λ b. b || list_any test numbers) off ∙ of_any test numbers m later passes
  ]
]

all_below : (numbers : List ℕ) (k : ℕ) → ((m : ℕ) → Contains numbers m → m < k) → All (λ m. m < k) numbers
all_below [] k below = All-nil (λ m. m < k)
all_below (j ∷ numbers) k below = All-cons (λ m. m < k) j numbers (below j (in_first j numbers)) (all_below numbers k (λ m here. below m (in_later j m numbers here)))

module _ {O : Type 0} (asks : O → Bool) (rows : List (Row O)) (n : ℕ) where
  -- what must be undone survives
  pub must_survive : IsSurvivor asks rows n → (m : ℕ) → MustBeUndone asks rows n m → IsSurvivor asks rows m
  must_survive survives m (Itself j same) = subst (IsSurvivor asks rows) (sym same) survives
  must_survive survives m (Blocking k j must blocks) = (blocks.1, blocks.3)

  -- These are the rows up to row p that must be undone, from the last one to the first.
  pub record AreSoFar (p : ℕ) (numbers : List ℕ) : Type 0 where
    pub from : n ≤ p
    pub each : (m : ℕ) → Contains numbers m → MustBeUndone asks rows n m × (m ≤ p)
    pub all : (m : ℕ) → MustBeUndone asks rows n m → m ≤ p → Contains numbers m
    pub falls : Falls numbers

  -- no row before row n must be undone
  not_before : (m : ℕ) → MustBeUndone asks rows n m → n ≤ m
  not_before m (Itself j same) = omega (arith, same)
  not_before m (Blocking k j must blocks) = let before = not_before k must in omega (arith, before, blocks.4)

  pub begun : AreSoFar n (n ∷ [])
  begun = record {
    from = omega arith;
    each = λ m here. elim (in_cons n m [] here) [ inl same ↦ (Itself m (sym same), omega (arith, same)) | inr none ↦ absurd (in_none m none) ];
    all = λ m must within. let above = not_before m must in let same : n ≡ m = omega (arith, above, within) in subst (Contains (n ∷ [])) same (in_first n []);
    falls = (All-nil (λ m. m < n), tt);
  }

  module _ (survives : IsSurvivor asks rows n) (p : ℕ) (row : Row O) (here : row_at rows (p + 1) ≡ Some row) (numbers : List ℕ) (so_far : AreSoFar p numbers) where
    abbrev looked : ℕ → Bool
    looked k = row_meets (row_at rows k) row.reading

    -- the row that blocks one of these is the next one, and it is met
    blocks_met : (k j : ℕ) → j ≡ p + 1 → MustBeUndone asks rows n k → Blocks asks rows k j → (is_some (survivor asks row) && some_meets rows numbers row.reading) ≡ true
    blocks_met k j is must (blocked, later, one, other, above, at) =
        let there : row_at rows (p + 1) ≡ Some later = subst (λ i. row_at rows i ≡ Some later) is other.0 in
        let both : Some row ≡ Some later = sym here ∙ there in
        let same : later ≡ row = cc in
        let met : meets blocked.changes row.reading ≡ true = looked-meets blocked.changes row.reading (subst (LookedAt blocked) same at) in
        let found : looked k ≡ true = ap (λ (o : Option (Row O)). row_meets o row.reading) one.0 ∙ met in
        let stands : is_some (survivor asks row) ≡ true = ap (λ (r : Row O). is_some (survivor asks r)) (sym same) ∙ other.1 in
        ap (λ b. b && some_meets rows numbers row.reading) stands ∙ of_any looked numbers k (so_far.all k must (omega (arith, above, is))) found

    next_met : (m : ℕ) → m ≡ p + 1 → MustBeUndone asks rows n m → (is_some (survivor asks row) && some_meets rows numbers row.reading) ≡ true
    next_met m is (Itself j same) = absurd (omega (arith, is, same, so_far.from))
    next_met m is (Blocking k j must blocks) = blocks_met k j is must blocks

    must_be : is_some (survivor asks row) ≡ true → some_meets rows numbers row.reading ≡ true → MustBeUndone asks rows n (p + 1)
    must_be stands met =
        let found = any_of looked numbers met in
        let old = so_far.each found.0 found.1 in
        let blocked = must_survive survives found.0 old.0 in
        let touched : meets blocked.0.changes row.reading ≡ true = ap (λ (o : Option (Row O)). row_meets o row.reading) (sym blocked.1.0) ∙ found.2 in
        Blocking found.0 (p + 1) old.0 (blocked.0, row, blocked.1, (here, stands), omega (arith, old.1), meets-looked blocked.0.changes row.reading touched)

    -- the next row is one more
    pub joined : (is_some (survivor asks row) && some_meets rows numbers row.reading) ≡ true → AreSoFar (p + 1) ((p + 1) ∷ numbers)
    joined met =
        let both = and_parts (is_some (survivor asks row)) (some_meets rows numbers row.reading) met in
        record {
          from = omega (arith, so_far.from);
          each = λ m there. elim (in_cons (p + 1) m numbers there) [
            | inl same ↦ (subst (MustBeUndone asks rows n) same (must_be both.0 both.1), omega (arith, same))
            | inr before ↦ let old = so_far.each m before in (old.0, omega (arith, old.1))
          ];
          all = λ m must within. elim (cases_lt p m) [
            | inl above ↦ let same : p + 1 ≡ m = omega (arith, above, within) in subst (Contains ((p + 1) ∷ numbers)) same (in_first (p + 1) numbers)
            | inr before ↦ in_later (p + 1) m numbers (so_far.all m must before)
          ];
          falls = (all_below numbers (p + 1) (λ m before. let old = so_far.each m before in omega (arith, old.1)), so_far.falls);
        }

    -- or it need not be undone
    pub passed : (is_some (survivor asks row) && some_meets rows numbers row.reading) ≡ false → AreSoFar (p + 1) numbers
    passed unmet = record {
      from = omega (arith, so_far.from);
      each = λ m there. let old = so_far.each m there in (old.0, omega (arith, old.1));
      all = λ m must within. elim (cases_lt p m) [
        | inl above ↦ absurd (true≢false (sym (next_met m (omega (arith, above, within)) must) ∙ unmet))
        | inr before ↦ so_far.all m must before
      ];
      falls = so_far.falls;
    }

  within_rows : (m : ℕ) (row : Row O) → row_at rows m ≡ Some row → m ≤ length rows
  within_rows zero row is = omega arith
  within_rows (suc k) row is = omega (arith, slice_get_within rows k row is)

  pub begins_within : IsSurvivor asks rows n → n ≤ length rows
  begins_within survives = within_rows n survives.0 survives.1.0

  -- after the last row these are all
  pub gathered : IsSurvivor asks rows n → (numbers : List ℕ) → AreSoFar (length rows) numbers → AreToUndo asks rows n numbers
  gathered survives numbers so_far = record {
    survives = survives;
    each = λ m. (
      λ here. (so_far.each m here).0,
      λ must. let found = must_survive survives m must in so_far.all m must (within_rows m found.0 found.1.0),
    );
    falls = so_far.falls;
  }

  module _ (survives : IsSurvivor asks rows n) (p : ℕ) (row : Row O) (within : p < length rows) (read : row ≡ get_or rows p row) (numbers seen : List ℕ) (same : seen ≡ numbers) (so_far : AreSoFar p (reverse numbers)) (met : Bool) (tells : met ≡ (is_some (survivor asks row) && some_meets rows seen row.reading)) where
    here : row_at rows (p + 1) ≡ Some row
    here =
        let pos : 0 < p + 1 = omega arith in
        let inside : p + 1 ≤ length rows = omega (arith, within) in
        let place : p ≡ p + 1 - 1 = omega arith in
        row_at_read rows (p + 1) row pos inside (read ∙ ap (λ (i : ℕ). get_or rows i row) place)

    reversed : met ≡ (is_some (survivor asks row) && some_meets rows (reverse numbers) row.reading)
    reversed =
        tells
        ∙ ap (λ (ns : List ℕ). is_some (survivor asks row) && some_meets rows ns row.reading) same
        ∙ ap (λ b. is_some (survivor asks row) && b) (list_any-IsPermutation (λ k. row_meets (row_at rows k) row.reading) numbers (reverse numbers) (IsPermutation-reverse numbers))

    -- the numbers after the step, if the row is added, and if it isn't
    pub pushed : (after : List ℕ) → after ≡ numbers ++ (p + 1) ∷ [] → met ≡ true → AreSoFar (p + 1) (reverse after)
    pushed after is on =
        let turned : reverse after ≡ (p + 1) ∷ reverse numbers = ap (λ (ns : List ℕ). reverse ns) is ∙ reverse-append numbers ((p + 1) ∷ []) in
        subst (AreSoFar (p + 1)) (sym turned) (joined survives p row here (reverse numbers) so_far (sym reversed ∙ on))

    pub unpushed : (after : List ℕ) → after ≡ numbers → met ≡ false → AreSoFar (p + 1) (reverse after)
    unpushed after is off = subst (λ (ns : List ℕ). AreSoFar (p + 1) (reverse ns)) (sym is) (passed survives p row here (reverse numbers) so_far (sym reversed ∙ off))

-- ---- why a row can't be undone
module _ {O : Type 0} (asks : O → Bool) (rows : List (Row O)) (n : ℕ) (row : Row O) (here : row_at rows n ≡ Some row) where
  none_of : (command : Option O) → false ≡ is_some command → command ≡ None
  none_of None h = refl
  none_of (Some c) h = absurd (false≢true h)

  pub no_command : false ≡ is_some (accepted asks row.request row.reply) → IsRefusedBy asks rows n (Some NotACommand)
  no_command off = (row, here, none_of (accepted asks row.request row.reply) off)

  pub is_undone : (by : ℕ) → true ≡ is_some (accepted asks row.request row.reply) → row.undone_by ≡ Some by → IsRefusedBy asks rows n (Some (AlreadyUndone by))
  is_undone by on is = (row, here, sym on, is)

  pub still_survives : true ≡ is_some (accepted asks row.request row.reply) → row.undone_by ≡ None → IsSurvivor asks rows n
  still_survives on is = (row, (here, ap (λ (by : Option ℕ). is_some (unless_undone by (accepted asks row.request row.reply))) is ∙ sym on))
