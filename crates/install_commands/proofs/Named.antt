-- The names whose links a disable removes.
use Rattle.std.proofs.Common.{◌≡◌, ℕ, true, cond, List, [], ◌∷◌, ◌++◌, ◌⊎◌, ◌↔◌, All, Contains, Result, Ok, Err, refl, sym, ap, subst, ◌∙◌, inl, inr}
use Rattle.std.proofs.lemmas.Bool.{cases_Bool, false≢true}
use Rattle.std.proofs.lemmas.List.Elements.{All-contains, Contains-append_left, Contains-append_right, Contains-append_cases, Contains-push, Contains-push_cases}
use Rattle.std.proofs.lemmas.Slice.Eq.{bytes_eq-Decides}
use Rattle.link_tree.specs.Trees.{Entries}
use Rattle.link_tree.proofs.Changed.{same_bytes}
use Rattle.load_path.specs.declared.finding.Found.{Found}
use Rattle.load_path.specs.declared.finding.Found.TheVariants as founds
use Rattle.load_path.specs.Find.{find}
use Rattle.load_path.specs.Search.{each_once}
use Rattle.load_path.proofs.Once.{cells_once}
use Rattle.install_section.specs.declared.closed.Closed.{Closed}
use Rattle.install_section.specs.declared.closed.ClosureFault.{ClosureFault}
use Rattle.install_section.specs.declared.closed.ClosureFault.TheVariants as closure_faults
use Rattle.install_section.specs.Closure.{IsUnit, Reached, closure}
use Rattle.install_section.specs.Closure.Reached.{Given as GivenOf, Named as NamedBy}
use Rattle.install_section.proofs.Least.{is_first, is_later, first_or_later, none_of, closure_least}
use Rattle.tree_access.specs.declared.refusal.Refusal.{Refusal}
use Rattle.tree_access.specs.declared.refusal.Refusal.TheVariants.{TooMany}
use Rattle.footprint.specs.Units.{IsFound}
use Rattle.install_commands.specs.declared.disable.Named.{Named}
use Rattle.install_commands.specs.Disable.{with_real, reals_behind, is_itself, with_self, selves_behind, named_with, units_named}
use Rattle.install_commands.specs.Enable.{unless_too_many}
use Rattle.install_commands.specs.Laws.{GoesWith, IsNamed}
use Rattle.install_commands.specs.Laws.GoesWith.{Own, Named as NamedIn}
use Rattle.install_commands.specs.Laws.IsNamed.{Given, Found as FoundAs, Also}

-- the names of a disable, with their notices
abbrev pub Names : Type 0
Names = Named

module _ (t : Entries) where
  -- one of the units has this own name
  abbrev pub IsReal : (units : List (List ℕ)) → (real : List ℕ) → Type 0
  IsReal units real = (unit file : List ℕ) × Contains units unit × IsFound t unit real file

  real_of_first : (unit : List ℕ) (units names : List (List ℕ)) (real : List ℕ) (found : Found) → (find unit).conclusion t ≡ found → Contains (with_real names found) real
      → Contains names real ⊎ IsReal (unit ∷ units) real
  real_of_first unit units names real founds.Missing at here = inl here
  real_of_first unit units names real (founds.Masked place) at here = inl here
  real_of_first unit units names real (founds.Dangling link) at here = inl here
  real_of_first unit units names real (founds.Unit own file place) at here = elim (Contains-push_cases names own real here) [
    | inl before ↦ inl before
    | inr same ↦ inr (unit, file, is_first unit units unit refl, (place, at ∙ ap (λ own. founds.Unit own file place) same))
  ]

  real_of_later : (unit : List ℕ) (units : List (List ℕ)) (real : List ℕ) → IsReal units real → IsReal (unit ∷ units) real
  real_of_later unit units real is = (is.0, is.1, is_later unit units is.0 is.2, is.3)

  reals_are : (units names : List (List ℕ)) (real : List ℕ) → Contains ((reals_behind names units).conclusion t) real → Contains names real ⊎ IsReal units real
  reals_are [] names real here = inl here
  reals_are (unit ∷ units) names real here = elim (reals_are units (with_real names ((find unit).conclusion t)) real here) [
    | inl behind ↦ real_of_first unit units names real ((find unit).conclusion t) refl behind
    | inr later ↦ inr (real_of_later unit units real later)
  ]

  real_kept : (names : List (List ℕ)) (name : List ℕ) (found : Found) → Contains names name → Contains (with_real names found) name
  real_kept names name founds.Missing here = here
  real_kept names name (founds.Masked place) here = here
  real_kept names name (founds.Dangling link) here = here
  real_kept names name (founds.Unit own file place) here = Contains-append_left names (own ∷ []) name here

  reals_kept : (units names : List (List ℕ)) (name : List ℕ) → Contains names name → Contains ((reals_behind names units).conclusion t) name
  reals_kept [] names name here = here
  reals_kept (unit ∷ units) names name here = reals_kept units (with_real names ((find unit).conclusion t)) name (real_kept names name ((find unit).conclusion t) here)

  pub reals_all : (units names : List (List ℕ)) (real : List ℕ) → IsReal units real → Contains ((reals_behind names units).conclusion t) real
  reals_all [] names real is = absurd (none_of [] is.0 refl is.2)
  reals_all (unit ∷ units) names real is = elim (in_first unit units is.0 is.2) [
    | inl first ↦ reals_kept units (with_real names ((find unit).conclusion t)) real
        (subst (λ found. Contains (with_real names found) real) (sym (ap (λ unit. (find unit).conclusion t) (sym first) ∙ is.3.1)) (Contains-push names real))
    | inr later ↦ reals_all units (with_real names ((find unit).conclusion t)) real (is.0, is.1, later, is.3)
  ]
    where
      in_first : (unit : List ℕ) (units : List (List ℕ)) (name : List ℕ) → Contains (unit ∷ units) name → (name ≡ unit) ⊎ Contains units name
      in_first unit units name here = first_or_later unit units name here.0 here.1 here.2

  -- it is found under its own name
  itself : (name : List ℕ) (found : Found) → (find name).conclusion t ≡ found → is_itself name found ≡ true → IsUnit t name
  itself name founds.Missing at is = absurd (false≢true is)
  itself name (founds.Masked place) at is = absurd (false≢true is)
  itself name (founds.Dangling link) at is = absurd (false≢true is)
  itself name (founds.Unit real file place) at is = (file, place, at ∙ ap (λ real. founds.Unit real file place) (same_bytes real name is))

  is_self : (name : List ℕ) → IsUnit t name → is_itself name ((find name).conclusion t) ≡ true
  is_self name unit = ap (is_itself name) unit.2 ∙ (bytes_eq-Decides name name).1 refl

  selves_are : (units names : List (List ℕ)) (name : List ℕ) → Contains ((selves_behind names units).conclusion t) name → Contains names name ⊎ (Contains units name × IsUnit t name)
  selves_are [] names name here = inl here
  selves_are (unit ∷ units) names name here = elim (selves_are units (with_self names unit ((find unit).conclusion t)) name here) [
    | inl behind ↦ elim (cases_Bool (is_itself unit ((find unit).conclusion t))) [
      | inl own ↦ elim (Contains-push_cases names unit name (subst (λ b. Contains (cond b (names ++ unit ∷ []) names) name) own behind)) [
        | inl before ↦ inl before
        | inr same ↦ inr (is_first unit units name (sym same), subst (IsUnit t) same (itself unit ((find unit).conclusion t) refl own))
      ]
      | inr other ↦ inl (subst (λ b. Contains (cond b (names ++ unit ∷ []) names) name) other behind)
    ]
    | inr later ↦ inr (is_later unit units name later.0, later.1)
  ]

  self_kept : (names : List (List ℕ)) (unit name : List ℕ) (found : Found) → Contains names name → Contains (with_self names unit found) name
  self_kept names unit name found here = elim (cases_Bool (is_itself unit found)) [
    | inl own ↦ subst (λ b. Contains (cond b (names ++ unit ∷ []) names) name) (sym own) (Contains-append_left names (unit ∷ []) name here)
    | inr other ↦ subst (λ b. Contains (cond b (names ++ unit ∷ []) names) name) (sym other) here
  ]

  selves_kept : (units names : List (List ℕ)) (name : List ℕ) → Contains names name → Contains ((selves_behind names units).conclusion t) name
  selves_kept [] names name here = here
  selves_kept (unit ∷ units) names name here = selves_kept units (with_self names unit ((find unit).conclusion t)) name (self_kept names unit name ((find unit).conclusion t) here)

  selves_all : (units names : List (List ℕ)) (name : List ℕ) → Contains units name → IsUnit t name → Contains ((selves_behind names units).conclusion t) name
  selves_all [] names name here unit = absurd (none_of [] name refl here)
  selves_all (first ∷ units) names name here unit = elim (first_or_later first units name here.0 here.1 here.2) [
    | inl same ↦ selves_kept units (with_self names first ((find first).conclusion t)) name
        (subst (λ b. Contains (cond b (names ++ first ∷ []) names) name) (sym (is_self first (subst (IsUnit t) same unit))) (subst (Contains (names ++ first ∷ [])) (sym same) (Contains-push names first)))
    | inr later ↦ selves_all units (with_self names first ((find first).conclusion t)) name later unit
  ]

  module _ (units : List (List ℕ)) where
    abbrev pub reals : List (List ℕ)
    reals = (reals_behind [] units).conclusion t

    abbrev pub selves : List (List ℕ)
    selves = (selves_behind [] reals).conclusion t

    pub real_is : (real : List ℕ) → Contains reals real → IsReal units real
    real_is real here = elim (reals_are units [] real here) [ inl none ↦ absurd (none_of [] real refl none) | inr is ↦ is ]

    self_is : (name : List ℕ) → Contains selves name → IsReal units name × IsUnit t name
    self_is name here = elim (selves_are reals [] name here) [ inl none ↦ absurd (none_of [] name refl none) | inr is ↦ (real_is name is.0, is.1) ]

    -- the units that are included with the given ones are those that their own names reach
    pub reached_goes : (name : List ℕ) → Reached t selves name → GoesWith t units name
    reached_goes name (GivenOf _ here) = let is = self_is name here in Own is.0.0 name is.0.1 is.0.2 is.0.3 is.1
    reached_goes name (NamedBy unit _ before names) = NamedIn unit name (reached_goes unit before) names

    pub goes_reached : (name : List ℕ) → GoesWith t units name → Reached t selves name
    goes_reached name (Own unit _ file here found itself) = GivenOf name (selves_all reals [] name (reals_all units [] name (unit, file, here, found)) itself)
    goes_reached name (NamedIn unit _ before names) = NamedBy unit name (goes_reached unit before) names

    -- the names of a closure are those of the units that are included with these
    pub named_is : (closed : Closed) → (closure selves).conclusion t ≡ Ok closed → (name : List ℕ) → Contains (each_once ((units ++ reals) ++ closed.units)) name ↔ IsNamed t units name
    named_is closed closes name = (λ here. among (once.0 here), λ named. once.1 (listed named))
      where
        once : Contains (each_once ((units ++ reals) ++ closed.units)) name ↔ Contains ((units ++ reals) ++ closed.units) name
        once = (cells_once ((units ++ reals) ++ closed.units)).1 name

        least : Contains closed.units name ↔ Reached t selves name
        least = (closure_least selves t closed closes).1 name

        among : Contains ((units ++ reals) ++ closed.units) name → IsNamed t units name
        among here = elim (Contains-append_cases (units ++ reals) closed.units name here) [
          | inl before ↦ elim (Contains-append_cases units reals name before) [
            | inl given ↦ Given given
            | inr own ↦ (let is = real_is name own in FoundAs is.0 is.1 is.2 is.3)
          ]
          | inr later ↦ Also (reached_goes name (least.0 later))
        ]

        listed : IsNamed t units name → Contains ((units ++ reals) ++ closed.units) name
        listed (Given here) = Contains-append_left (units ++ reals) closed.units name (Contains-append_left units reals name here)
        listed (FoundAs unit file here found) = Contains-append_left (units ++ reals) closed.units name (Contains-append_right units reals name (reals_all units [] name (unit, file, here, found)))
        listed (Also goes) = Contains-append_right (units ++ reals) closed.units name (least.1 (goes_reached name goes))

    -- the names that were collected, with the closure from which they come
    pub record Gathered (named : Named) : Type 0 where
      pub closed : Closed
      pub closes : (closure selves).conclusion t ≡ Ok closed
      pub names : named.names ≡ each_once ((units ++ reals) ++ closed.units)

    by_closed : (named : Named) (closed : Result Closed ClosureFault) → (closure selves).conclusion t ≡ closed → named_with (units ++ reals) (unless_too_many closed) ≡ Ok named → Gathered named
    by_closed named (Ok closed) closes is = record { closed = closed; closes = closes; names = (let same : record { names = each_once ((units ++ reals) ++ closed.units); notices = closed.notices } ≡ named = cc in sym (ap (λ (n : Named). n.names) same)) }
    by_closed named (Err closure_faults.TooMany) closes is = cc

    pub gathered : (named : Named) → (units_named units).conclusion t ≡ Ok named → Gathered named
    gathered named is = by_closed named ((closure selves).conclusion t) refl is

    pub gathered_is : (named : Named) → (units_named units).conclusion t ≡ Ok named → (name : List ℕ) → Contains named.names name ↔ IsNamed t units name
    gathered_is named is name =
        let from = gathered named is in
        let same = named_is from.closed from.closes name in
        (λ here. same.0 (subst (λ names. Contains names name) from.names here), λ named. subst (λ names. Contains names name) (sym from.names) (same.1 named))

    -- finding them is refused if the closure is
    refused_by : (refusal : Refusal) (closed : Result Closed ClosureFault) → (closure selves).conclusion t ≡ closed → named_with (units ++ reals) (unless_too_many closed) ≡ Err refusal
        → (refusal ≡ TooMany) × ((closure selves).conclusion t ≡ Err closure_faults.TooMany)
    refused_by refusal (Ok closed) closes is = cc
    refused_by refusal (Err closure_faults.TooMany) closes is = (cc, closes)

    pub named_refused : (refusal : Refusal) → (units_named units).conclusion t ≡ Err refusal → (refusal ≡ TooMany) × ((closure selves).conclusion t ≡ Err closure_faults.TooMany)
    named_refused refusal is = refused_by refusal ((closure selves).conclusion t) refl is

    -- if each is found under its own name, their own names are the given names
    module _ (all : All (IsUnit t) units) where
      self_given : (name : List ℕ) → Contains selves name → Contains units name
      self_given name here =
          let is = (self_is name here).0 in
          let own = All-contains (IsUnit t) units is.0 all is.2 in
          let same : founds.Unit is.0 own.0 own.1 ≡ founds.Unit name is.1 is.3.0 = sym own.2 ∙ is.3.1 in
          let name_is : is.0 ≡ name = cc in
          subst (Contains units) name_is is.2

      pub selves_reach : (name : List ℕ) → Reached t selves name → Reached t units name
      selves_reach name (GivenOf _ here) = GivenOf name (self_given name here)
      selves_reach name (NamedBy unit _ before names) = NamedBy unit name (selves_reach unit before) names

      pub reached_with : (name : List ℕ) → Reached t units name → GoesWith t units name
      reached_with name (GivenOf _ here) = let own = All-contains (IsUnit t) units name all here in Own name name own.0 here (own.1, own.2) own
      reached_with name (NamedBy unit _ before names) = NamedIn unit name (reached_with unit before) names
