-- Processing name after name: where one step from each leads.
use Rattle.std.proofs.Common.{◌≡◌, ◌≤◌, ◌<◌, ◌+◌, ℕ, zero, suc, List, [], ◌∷◌, ◌++◌, Some, None, Contains, get_or, slice_get, length, length-append, refl, sym, ap, subst, ◌∙◌, inl, inr, arith, ◌⊎◌}
use Rattle.std.specs.List.{list_any}
use Rattle.std.specs.Str.{bytes_eq}
use Rattle.std.proofs.lemmas.Bool.{cases_Bool}
use Rattle.std.proofs.lemmas.List.{append-nil, append_assoc, get_or_append_left, get_or_default}
use Rattle.std.proofs.lemmas.List.Elements.{Contains-append_left, Contains-append_right}
use Rattle.std.proofs.lemmas.Map.Views.{Contains-from_any}
use Rattle.std.proofs.lemmas.Option.{slice_get_cases}
use Rattle.link_tree.proofs.Changed.{same_bytes}
use Rattle.install_section.proofs.Least.{some_is, first_or_later, is_first, is_later}
use Rattle.states.specs.Dependencies.{Reached}
use Rattle.states.specs.Reaching.{with_name, with_names, AreReached}
use Rattle.states.specs.Dependencies.Reached.{Next, Further}
use Rattle.states.proofs.Members.{none_in, in_either}
use Rattle.states.proofs.Reaches.{Name, Within, IsClosed, reached_in}

at_or_before : (k place : ℕ) → k < place + 1 → (k ≡ place) ⊎ (k < place)
at_or_before zero zero under = inl refl
at_or_before zero (suc place) under = inr (omega arith)
at_or_before (suc k) zero under = absurd (omega (arith, under))
at_or_before (suc k) (suc place) under = elim (at_or_before k place (omega (arith, under))) [ inl at ↦ inl (ap suc at) | inr less ↦ inr (omega (arith, less)) ]

-- adding one name results in these names, and perhaps one more at the end
with_one : (names : List Name) (name : Name) → (rest : List Name) × (with_name names name ≡ names ++ rest) × Contains (names ++ rest) name × Within (names ++ rest) (names ++ name ∷ [])
unfolding with_name
with_one names name = elim (cases_Bool (list_any (bytes_eq name) names)) [
  | inl there ↦ (let same : names ++ [] ≡ names = append-nil names in
      ([], rw there (sym same), subst (λ xs. Contains xs name) (sym same) (Contains-from_any same_bytes name names there), λ other here. Contains-append_left names (name ∷ []) other (subst (λ xs. Contains xs other) same here)))
  | inr absent ↦ (name ∷ [], rw absent refl, Contains-append_right names (name ∷ []) name (is_first name [] name refl), λ other here. here)
]

pub with_names-append : (names more others : List Name) → with_names (with_names names more) others ≡ with_names names (more ++ others)
with_names-append names [] others = refl
with_names-append names (name ∷ more) others = with_names-append (with_name names name) more others

-- The result is these names, the others, and no more.
pub record AreJoined (names more all : List Name) : Type 0 where
  pub rest : List Name
  pub begins : all ≡ names ++ rest
  pub has : Within more all
  pub only : (name : Name) → Contains all name → Contains names name ⊎ Contains more name

pub joined_all : (names more : List Name) → AreJoined names more (with_names names more)
joined_all names [] = record { rest = []; begins = sym (append-nil names); has = λ name here. absurd (none_in name here); only = λ name here. inl here }
joined_all names (name ∷ more) =
    let one = with_one names name in
    let all = joined_all (with_name names name) more in record {
      rest = one.0 ++ all.rest;
      begins = all.begins ∙ ap (λ xs. xs ++ all.rest) one.1 ∙ append_assoc names one.0 all.rest;
      has = λ other here. elim (first_or_later name more other here.0 here.1 here.2) [
        | inl is ↦ subst (λ xs. Contains xs other) (sym all.begins) (Contains-append_left (with_name names name) all.rest other (subst (λ xs. Contains xs other) (sym one.1) (subst (Contains (names ++ one.0)) (sym is) one.2)))
        | inr later ↦ all.has other later
      ];
      only = λ other here. elim (all.only other here) [
        | inr later ↦ inr (is_later name more other later)
        | inl old ↦ elim (in_either names (name ∷ []) other (one.3 other (subst (λ xs. Contains xs other) one.1 old))) [
          | inl before ↦ inl before
          | inr new ↦ elim (first_or_later name [] other new.0 new.1 new.2) [ inl is ↦ inr (is_first name more other is) | inr none ↦ absurd (none_in other none) ]
        ]
      ];
    }

-- The names up to a position have been processed: one step from them leads to no name outside.
pub record IsPast (next : Name → List Name) (from : Name) (found : List Name) (place : ℕ) : Type 0 where
  pub sound : (name : Name) → Contains found name → Reached (λ by to. Contains (next by) to) from name
  pub first : Within (next from) found
  pub within : place ≤ length found
  pub past : (k : ℕ) (by : Name) → k < place → get_or found k by ≡ by → Within (next by) found

-- before the first name
pub none_past : (next : Name → List Name) (from : Name) (found : List Name) → found ≡ with_names [] (next from) → IsPast next from found 0
none_past next from found is =
    let all : AreJoined [] (next from) found = subst (AreJoined [] (next from)) (sym is) (joined_all [] (next from)) in record {
      sound = λ name here. elim (all.only name here) [ inl none ↦ absurd (none_in name none) | inr first ↦ Next name first ];
      first = all.has;
      within = omega arith;
      past = λ k by lt is. absurd (omega (arith, lt));
    }

-- one name further
pub one_past : (next : Name → List Name) (from : Name) (found grown : List Name) (place : ℕ) (name : Name)
    → slice_get found place ≡ Some name → grown ≡ with_names found (next name) → IsPast next from found place → IsPast next from grown (place + 1)
one_past next from found grown place name at is before = elim (slice_get_cases found place).1 [
  | inr none ↦ (let not : None ≡ Some name = sym none.1 ∙ at in absurd (cc))
  | inl there ↦
      let all : AreJoined found (next name) grown = subst (AreJoined found (next name)) (sym is) (joined_all found (next name)) in
      let same : there.0 ≡ name = some_is there.0 name (sym there.2 ∙ at) in
      let here : Contains found name = subst (Contains found) same (place, there.1, there.3) in
      let longer : length grown ≡ length found + length all.rest = ap length all.begins ∙ length-append found all.rest in
      let lt = there.1 in
      let old : (k : ℕ) (by : Name) → k < length found → get_or grown k by ≡ get_or found k by = λ k by lt. ap (λ xs. get_or xs k by) all.begins ∙ get_or_append_left found all.rest by k lt in
      let kept : Within found grown = λ other inside. subst (λ xs. Contains xs other) (sym all.begins) (Contains-append_left found all.rest other inside) in record {
        sound = λ other inside. elim (all.only other inside) [ inl old ↦ before.sound other old | inr new ↦ Further name other (before.sound name here) new ];
        first = λ other leads. kept other (before.first other leads);
        within = omega (arith, longer, lt);
        past = λ k by under value. by_place found grown place name next before all.has kept there.0 there.1 there.3 same old k by under value;
      }
]
  where
    by_place : (found grown : List Name) (place : ℕ) (name : Name) (next : Name → List Name) → IsPast next from found place → Within (next name) grown → Within found grown
        → (x : Name) → place < length found → get_or found place x ≡ x → x ≡ name → ((k : ℕ) (by : Name) → k < length found → get_or grown k by ≡ get_or found k by)
        → (k : ℕ) (by : Name) → k < place + 1 → get_or grown k by ≡ by → Within (next by) grown
    by_place found grown place name next before has kept x lt value same old k by under is = elim (at_or_before k place under) [
      | inl e ↦ (let by_is : by ≡ name = sym is ∙ old k by (omega (arith, lt)) ∙ ap (λ k. get_or found k by) e ∙ get_or_default found place by x lt ∙ value ∙ same in
          subst (λ by. Within (next by) grown) (sym by_is) has)
      | inr less ↦ (λ other leads. kept other (before.past k by less (sym (old k by (omega (arith, lt, less))) ∙ is) other leads))
    ]

-- after the last one
pub all_past : (next : Name → List Name) (from : Name) (found : List Name) (place : ℕ) → slice_get found place ≡ None → IsPast next from found place → AreReached next from found
all_past next from found place none past = λ name. (
  past.sound name,
  reached_in next from found past.first closed name,
)
  where
    closed : IsClosed next found
    closed by to here leads = elim (slice_get_cases found place).1 [
      | inl there ↦ (let not : None ≡ Some there.0 = sym none ∙ there.2 in absurd (cc))
      | inr over ↦ (let lt = here.1 in let le = over.0 in past.past here.0 by (omega (arith, lt, le)) here.2 to leads)
    ]
