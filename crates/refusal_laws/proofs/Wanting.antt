-- If units want links, none of them lacks an instance, and no path is wanted with two targets.
use Rattle.std.proofs.Common.{◌≡◌, ℕ, false, List, [], ◌∷◌, Contains, Option, Some, None, Ok, Err, refl, sym, ap, subst, ◌∙◌, inl, inr}
use Rattle.std.specs.Cmp.{tied_itself}
use Rattle.std.specs.Cmp.Lexicographic.{nat_list_cmp_total}
use Rattle.std.specs.Ordering.{is_le}
use Rattle.unit_paths.specs.declared.place.Scope.{Scope}
use Rattle.unit_paths.specs.Places.{scope_place}
use Rattle.link_tree.specs.Trees.{Entries, path_cmp}
use Rattle.install_section.specs.declared.wants.Wanted.{Wanted}
use Rattle.install_section.specs.declared.wants.WantedFault.TheVariants as faults
use Rattle.install_section.specs.Wanted.{all_wants, no_wants, settled, wanted}
use Rattle.install_section.specs.WantedLaws.{LacksInstance, HasTwoTargets}
use Rattle.install_section.proofs.Asked.{LeastOf, UnitsAsk, all_stand}
use Rattle.install_section.proofs.Asked.Asked.{AsksInstance}
use Rattle.install_section.proofs.Least.{some_is, none_of, is_first, first_or_later}
use Rattle.install_section.proofs.WantedSets.{links_asked_for, needs_least}

only_one : (one other : List ℕ) → Contains (one ∷ []) other → other ≡ one
only_one one other here = elim (first_or_later one [] other here.0 here.1 here.2) [
  | inl same ↦ same
  | inr none ↦ absurd (none_of [] other refl none)
]

module _ (scope : Scope) (t : Entries) where
  -- one of the units needs an instance for this one
  abbrev IsNeeded : (units : List (List ℕ)) → (unit : List ℕ) → Type 0
  IsNeeded units unit = UnitsAsk (scope_place scope) false t units (AsksInstance unit)

  is_needed : (units : List (List ℕ)) (unit : List ℕ) (w : _) (nameless clash : Option (List ℕ)) → LeastOf (IsNeeded units) nameless
      → settled w nameless clash ≡ Err (faults.NeedsInstance unit) → IsNeeded units unit
  is_needed units unit w None None least is = cc
  is_needed units unit w None (Some path) least is = cc
  is_needed units unit w (Some found) clash least is = let same : found ≡ unit = cc in subst (IsNeeded units) same least.0

  none_needed : (units : List (List ℕ)) (given : Wanted) (w : _) (nameless clash : Option (List ℕ)) → LeastOf (IsNeeded units) nameless
      → settled w nameless clash ≡ Ok given → (unit : List ℕ) → ¬ IsNeeded units unit
  none_needed units given w None clash none is unit needed = none unit needed
  none_needed units given w (Some found) clash least is unit needed = cc

  -- a unit that lacks its instance needs one, also alone
  alone : (unit : List ℕ) → LacksInstance t unit → (wanted (unit ∷ []) scope false).conclusion t ≡ Err (faults.NeedsInstance unit)
  alone unit lacks =
      (needs_least (unit ∷ []) scope false t unit).1
      ((refl, is_first unit [] unit refl, lacks), λ other needs. ap is_le (ap (path_cmp unit) (only_one unit other needs.1) ∙ tied_itself nat_list_cmp_total unit))

  needed_alone : (unit : List ℕ) → LacksInstance t unit → IsNeeded (unit ∷ []) unit
  unfolding wanted
  needed_alone unit lacks =
      let w = (all_wants (scope_place scope) false (unit ∷ []) no_wants).conclusion t in
      is_needed (unit ∷ []) unit w w.nameless w.clash ((all_stand (scope_place scope) false t (unit ∷ [])).nameless) (alone unit lacks)

  module _ (units : List (List ℕ)) (given : Wanted) (is : (wanted units scope false).conclusion t ≡ Ok given) where
    pub none_lacks : (unit : List ℕ) → Contains units unit → ¬ LacksInstance t unit
    unfolding wanted
    none_lacks unit here lacks =
        let w = (all_wants (scope_place scope) false units no_wants).conclusion t in
        let needed = needed_alone unit lacks in
        none_needed units given w w.nameless w.clash ((all_stand (scope_place scope) false t units).nameless) is unit
        (needed.0, subst (Contains units) (sym (only_one unit needed.0 needed.1)) here, needed.2)

    pub none_twice : (path : List ℕ) → ¬ HasTwoTargets t (scope_place scope) units path
    none_twice path two =
        two.2 (some_is two.0 two.1 (sym ((links_asked_for units scope false t given is path two.0).1 two.3) ∙ (links_asked_for units scope false t given is path two.1).1 two.4))
