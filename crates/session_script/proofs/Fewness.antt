-- The operators of the calls so far, each once.
use Rattle.std.proofs.Common.{◌≡◌, ℕ, ◌+◌, ◌<◌, ◌≤◌, Bool, true, false, ◌||◌, List, [], ◌∷◌, ◌++◌, map, All, length, length-append, take, drop, get_or, refl, sym, ap, subst, ◌∙◌, inl, inr, arith}
use Rattle.std.proofs.lemmas.List.{drop_more, take_more, take_all, take-append-drop}
use Rattle.std.specs.List.{list_any, IsDistinct}
use Rattle.std.specs.Str.{bytes_eq}
use Rattle.std.specs.Cmp.Lexicographic.{nat_list_eq_equiv}
use Rattle.std.proofs.lemmas.Bool.{cases_Bool, true≢false}
use Rattle.std.proofs.lemmas.List.Elements.{All-nil, All-cons, All-append, All-head, All-tail, All-map}
use Rattle.std.proofs.lemmas.Map.Keys.{IsDistinct-push}
use Rattle.std.proofs.lemmas.Map.Made.{length-le_from_is_member}
use Rattle.std.proofs.lemmas.Slice.Eq.{bytes_eq-Decides}
use Rattle.load_path.specs.Search.{with_cell, with_cells, each_once}
use Rattle.shared_admin.specs.Sharing.{MayShare, is_among}
use Rattle.unit_script.specs.declared.call.Call.{Call}
use Rattle.session_script.specs.Served.{operators_of, AreOfTooMany}

-- this one is among these
abbrev pub Among : List (List ℕ) → List ℕ → Type 0
Among operators operator = is_among operators operator ≡ true

-- after adding one, it is still among them
among_more : (operators : List (List ℕ)) (one operator : List ℕ) → Among operators operator → Among (operators ++ one ∷ []) operator
among_more [] one operator there = absurd (true≢false (sym there))
among_more (first ∷ operators) one operator there = elim (cases_Bool (bytes_eq operator first)) [
  | inl here ↦ ap (λ b. b || is_among (operators ++ one ∷ []) operator) here
  | inr away ↦ ap (λ b. b || is_among (operators ++ one ∷ []) operator) away ∙ among_more operators one operator (sym (ap (λ b. b || is_among operators operator) away) ∙ there)
]

-- and so is the added one
among_last : (operators : List (List ℕ)) (one : List ℕ) → Among (operators ++ one ∷ []) one
among_last [] one = ap (λ b. b || false) ((bytes_eq-Decides one one).1 refl)
among_last (first ∷ operators) one = elim (cases_Bool (bytes_eq one first)) [
  | inl here ↦ ap (λ b. b || is_among (operators ++ one ∷ []) one) here
  | inr away ↦ ap (λ b. b || is_among (operators ++ one ∷ []) one) away ∙ among_last operators one
]

all_more : (operators : List (List ℕ)) (one : List ℕ) (some : List (List ℕ)) → All (Among operators) some → All (Among (operators ++ one ∷ [])) some
all_more operators one [] all = All-nil (Among (operators ++ one ∷ []))
all_more operators one (first ∷ some) all = All-cons (Among (operators ++ one ∷ [])) first some (among_more operators one first (All-head (Among operators) first some all)) (all_more operators one some (All-tail (Among operators) first some all))

-- if all of these are among those, one of them is
found : (operators some : List (List ℕ)) (operator : List ℕ) → All (Among operators) some → Among some operator → Among operators operator
found operators [] operator all there = absurd (true≢false (sym there))
found operators (first ∷ some) operator all there = elim (cases_Bool (bytes_eq operator first)) [
  | inl here ↦ ap (is_among operators) ((bytes_eq-Decides operator first).0 here) ∙ All-head (Among operators) first some all
  | inr away ↦ found operators some operator (All-tail (Among operators) first some all) (sym (ap (λ b. b || is_among some operator) away) ∙ there)
]

of_more : (calls : List Call) (call : Call) → operators_of (calls ++ call ∷ []) ≡ operators_of calls ++ call.operator ∷ []
of_more [] call = refl
of_more (first ∷ calls) call = ap (λ os. first.operator ∷ os) (of_more calls call)

-- one more operator after those that are there once each
with_cells-push : (names more : List (List ℕ)) (name : List ℕ) → with_cells names (more ++ name ∷ []) ≡ with_cell (with_cells names more) name
with_cells-push names [] name = refl
with_cells-push names (first ∷ more) name = with_cells-push (with_cell names first) more name

there_already : (names : List (List ℕ)) (name : List ℕ) → is_among names name ≡ true → names ≡ with_cell names name
unfolding with_cell
there_already names name there = rw there refl

goes_last : (names : List (List ℕ)) (name : List ℕ) → is_among names name ≡ false → names ++ name ∷ [] ≡ with_cell names name
unfolding with_cell
goes_last names name off = rw off refl

-- The operators of calls, each once, in the order of their first calls, and at most sixteen.
pub record AreOf (calls : List Call) (operators : List (List ℕ)) : Type 0 where
  pub distinct : IsDistinct bytes_eq operators
  pub few : length operators ≤ 16
  pub own : All (Among (operators_of calls)) operators
  pub each : All (Among operators) (operators_of calls)
  pub order : operators ≡ each_once (operators_of calls)

pub of_none : AreOf [] []
unfolding IsDistinct
of_none = record { distinct = tt; few = omega arith; own = All-nil (Among []); each = All-nil (Among []); order = refl }

module _ (calls : List Call) (operators : List (List ℕ)) (call : Call) (before : AreOf calls operators) where
  own_more : All (Among (operators_of (calls ++ call ∷ []))) operators
  own_more = subst (λ os. All (Among os) operators) (sym (of_more calls call)) (all_more (operators_of calls) call.operator operators before.own)

  -- the operator of one more call comes last, unless it is there already
  order_more : (more : List (List ℕ)) → more ≡ with_cell operators call.operator → more ≡ each_once (operators_of (calls ++ call ∷ []))
  order_more more is =
      is ∙ ap (λ names. with_cell names call.operator) before.order ∙ sym (with_cells-push [] (operators_of calls) call.operator) ∙ ap each_once (sym (of_more calls call))

  -- a call of an operator that has an earlier one
  pub again : Among operators call.operator → AreOf (calls ++ call ∷ []) operators
  again there = record {
    distinct = before.distinct;
    few = before.few;
    own = own_more;
    each = subst (All (Among operators)) (sym (of_more calls call)) (All-append (Among operators) (operators_of calls) (call.operator ∷ []) before.each (All-cons (Among operators) call.operator [] there (All-nil (Among operators))));
    order = order_more operators (there_already operators call.operator there);
  }

  module _ (off : is_among operators call.operator ≡ false) where
    distinct_more : IsDistinct bytes_eq (operators ++ call.operator ∷ [])
    distinct_more = IsDistinct-push nat_list_eq_equiv operators call.operator before.distinct off

    own_too : All (Among (operators_of (calls ++ call ∷ []))) (operators ++ call.operator ∷ [])
    own_too =
        let P = Among (operators_of (calls ++ call ∷ [])) in
        All-append P operators (call.operator ∷ []) own_more (All-cons P call.operator [] (ap (λ os. is_among os call.operator) (of_more calls call) ∙ among_last (operators_of calls) call.operator) (All-nil P))

    -- a call of another operator
    pub another : length operators < 16 → AreOf (calls ++ call ∷ []) (operators ++ call.operator ∷ [])
    another room =
        let P = Among (operators ++ call.operator ∷ []) in
        let more = length-append operators (call.operator ∷ []) in record {
          distinct = distinct_more;
          few = omega (arith, more);
          own = own_too;
          each = subst (All P) (sym (of_more calls call)) (All-append P (operators_of calls) (call.operator ∷ []) (all_more operators call.operator (operators_of calls) before.each) (All-cons P call.operator [] (among_last operators call.operator) (All-nil P)));
          order = order_more (operators ++ call.operator ∷ []) (goes_last operators call.operator off);
        }

    in_front : (later some : List (List ℕ)) (operator : List ℕ) → Among some operator → Among (some ++ later) operator
    in_front later [] operator there = absurd (true≢false (sym there))
    in_front later (first ∷ some) operator there = elim (cases_Bool (bytes_eq operator first)) [
      | inl here ↦ ap (λ b. b || is_among (some ++ later) operator) here
      | inr away ↦ ap (λ b. b || is_among (some ++ later) operator) away ∙ in_front later some operator (sym (ap (λ b. b || is_among some operator) away) ∙ there)
    ]

    all_in_front : (later some these : List (List ℕ)) → All (Among some) these → All (Among (some ++ later)) these
    all_in_front later some [] all = All-nil (Among (some ++ later))
    all_in_front later some (first ∷ these) all = All-cons (Among (some ++ later)) first these (in_front later some first (All-head (Among some) first these all)) (all_in_front later some these (All-tail (Among some) first these all))

    both : (some later : List Call) → operators_of (some ++ later) ≡ operators_of some ++ operators_of later
    both [] later = refl
    both (first ∷ some) later = ap (λ os. first.operator ∷ os) (both some later)

    -- a call of another operator, when there are sixteen already
    pub too_many : (later : List Call) → 16 ≤ length operators → AreOfTooMany ((calls ++ call ∷ []) ++ later)
    too_many later full =
        let more = length-append operators (call.operator ∷ []) in (
          operators ++ call.operator ∷ [],
          distinct_more,
          subst (λ os. All (Among os) (operators ++ call.operator ∷ [])) (sym (both (calls ++ call ∷ []) later)) (all_in_front (operators_of later) (operators_of (calls ++ call ∷ [])) (operators ++ call.operator ∷ []) own_too),
          omega (arith, more, full),
        )

-- Distinct operators that are among these are at most as many as these.
pub not_too_many : (calls : List Call) (operators : List (List ℕ)) → AreOf calls operators → ¬ AreOfTooMany calls
not_too_many calls operators all many =
    let no_more = length-le_from_is_member nat_list_eq_equiv many.0 operators many.1 (λ q there. found operators (operators_of calls) q all.each (found (operators_of calls) many.0 q many.2 there)) in
    omega (arith, no_more, all.few, many.3)

-- The same for the calls before an index.
module _ (calls : List Call) (index : ℕ) (operators : List (List ℕ)) (call : Call) (is : call ≡ get_or calls index call) (within : index < length calls) (before : AreOf (take index calls) operators) where
  one_taken : take (index + 1) calls ≡ take index calls ++ call ∷ []
  one_taken = take_more calls index call within ∙ ap (λ c. take index calls ++ c ∷ []) (sym is)

  pub again_taken : is_among operators call.operator ≡ true → AreOf (take (index + 1) calls) operators
  again_taken there = subst (λ cs. AreOf cs operators) (sym one_taken) (again (take index calls) operators call before there)

  pub another_taken : is_among operators call.operator ≡ false → length operators < 16 → AreOf (take (index + 1) calls) (operators ++ call.operator ∷ [])
  another_taken off room = subst (λ cs. AreOf cs (operators ++ call.operator ∷ [])) (sym one_taken) (another (take index calls) operators call before off room)

  pub too_many_taken : is_among operators call.operator ≡ false → 16 ≤ length operators → AreOfTooMany calls
  too_many_taken off full =
      let all : (take index calls ++ call ∷ []) ++ drop (index + 1) calls ≡ calls = ap (λ front. front ++ drop (index + 1) calls) (sym one_taken) ∙ take-append-drop (index + 1) calls in
      subst AreOfTooMany all (too_many (take index calls) operators call before off (drop (index + 1) calls) full)

pub none_left : (calls : List Call) (index : ℕ) (operators : List (List ℕ)) → length calls ≤ index → AreOf (take index calls) operators → ¬ AreOfTooMany calls
none_left calls index operators through before = not_too_many calls operators (subst (λ cs. AreOf cs operators) (take_all index calls through) before)

pub ordered : (calls : List Call) (index : ℕ) (operators : List (List ℕ)) → length calls ≤ index → AreOf (take index calls) operators → operators ≡ each_once (operators_of calls)
ordered calls index operators through before = (subst (λ cs. AreOf cs operators) (take_all index calls through) before).order

pub may_share : (calls : List Call) (index : ℕ) (operators : List (List ℕ)) → AreOf (take index calls) operators → MayShare operators
may_share calls index operators before = (before.few, before.distinct)
