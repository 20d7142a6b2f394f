-- The keys that check looks at.
use Rattle.std.proofs.Common.{◌≡◌, ℕ, List, [], ◌∷◌, ◌++◌, map as list_map, All, Contains, Result, Ok, Err, refl, sym, ap, subst, inl, inr}
use Rattle.std.proofs.lemmas.List.Elements.{All-nil, All-cons, All-head, All-tail, Contains-append_left, Contains-append_right, Contains-append_cases}
use Rattle.link_tree.specs.Trees.{Entries}
use Rattle.load_path.specs.Find.{find}
use Rattle.install_section.specs.Closure.{IsUnit}
use Rattle.tree_access.specs.declared.key.Key.{Key}
use Rattle.tree_access.specs.declared.key.Key.TheVariants.{Cell}
use Rattle.tree_access.specs.declared.refusal.Refusal.{Refusal}
use Rattle.footprint.specs.Commands.{silent, taken, unless_refused}
use Rattle.footprint.specs.Steps.{nothing}
use Rattle.install_commands.specs.declared.check.Check.{Check}
use Rattle.install_commands.specs.Check.{going_on, one_checked, checked, check_meaning}
use Rattle.install_commands.proofs.Checked.{one_fine, one_passes}
use Rattle.footprint_laws.specs.Sets.{IsUpTo, IsLookedUp}
use Rattle.footprint_laws.specs.Installs.{CheckKeys, CheckLooks}
use Rattle.footprint_laws.specs.Installs.CheckKeys.{Checked as LooksUp}
use Rattle.footprint_laws.proofs.Keys.{looks, cell_among, among_cells, no_key}

module _ (t : Entries) where
  -- a unit is looked up there, and all before it are found under their own names
  abbrev pub IsCheckedAt : (units : List (List ℕ)) → Key → Type 0
  IsCheckedAt units key = (unit : List ℕ) × (path : List ℕ) × (key ≡ Cell path) × IsUpTo (IsUnit t) units unit × IsLookedUp t unit path

  -- the keys of one, and of the others after it
  abbrev later_keys : (names : List (List ℕ)) → Result (Unit {0}) Refusal → List Key
  later_keys names one = (going_on (λ fine. checked names) one).keys t

  pub checked_only : (units : List (List ℕ)) (key : Key) → Contains ((checked units).keys t) key → IsCheckedAt units key
  checked_only [] key here = no_key key here
  checked_only (name ∷ names) key here = elim (Contains-append_cases (list_map Cell ((find name).cells t)) (later_keys names ((one_checked name).conclusion t)) key here) [
    | inl up ↦ (let at = cell_among ((find name).cells t) key up in (name, at.0, at.1, ([], names, refl, All-nil (IsUnit t)), at.2))
    | inr later ↦ by_one (checked_only names key) ((one_checked name).conclusion t) refl later
  ]
    where
      by_one : (Contains ((checked names).keys t) key → IsCheckedAt names key) → (one : Result (Unit {0}) Refusal) → (one_checked name).conclusion t ≡ one → Contains (later_keys names one) key → IsCheckedAt (name ∷ names) key
      by_one rest (Ok fine) at here = let is = rest here in
          (is.0, is.1, is.2, (name ∷ is.3.0, is.3.1, ap (λ names. name ∷ names) is.3.2, All-cons (IsUnit t) name is.3.0 (one_fine t name at) is.3.3), is.4)
      by_one rest (Err refusal) at here = no_key key here

  checked_all : (before after : List (List ℕ)) (unit path : List ℕ) → All (IsUnit t) before → IsLookedUp t unit path → Contains ((checked (before ++ unit ∷ after)).keys t) (Cell path)
  checked_all [] after unit path all up = Contains-append_left (list_map Cell ((find unit).cells t)) (later_keys after ((one_checked unit).conclusion t)) (Cell path) (among_cells ((find unit).cells t) path up)
  checked_all (first ∷ before) after unit path all up =
      Contains-append_right (list_map Cell ((find first).cells t)) (later_keys (before ++ unit ∷ after) ((one_checked first).conclusion t)) (Cell path)
      (subst (λ one. Contains (later_keys (before ++ unit ∷ after) one) (Cell path)) (sym (one_passes t first (All-head (IsUnit t) first before all)))
      (checked_all before after unit path (All-tail (IsUnit t) first before all) up))

  pub checked_at : (units : List (List ℕ)) (unit path : List ℕ) → IsUpTo (IsUnit t) units unit → IsLookedUp t unit path → Contains ((checked units).keys t) (Cell path)
  checked_at units unit path to up = subst (λ units. Contains ((checked units).keys t) (Cell path)) (sym to.2) (checked_all to.0 to.1 unit path to.3 up)

module _ (check : Check) (t : Entries) where
  abbrev fine : Result (Unit {0}) Refusal
  fine = (checked check.units).conclusion t

  -- nothing else is looked at
  abbrev then_keys : Result (Unit {0}) Refusal → List Key
  then_keys fine = (unless_refused (λ fine. silent nothing) fine).keys t

  abbrev made_keys : Result (Unit {0}) Refusal → List Key
  made_keys fine = (taken ((unless_refused (λ fine. silent nothing) fine).conclusion t)).keys t

  none_then : (fine : Result (Unit {0}) Refusal) → then_keys fine ≡ []
  none_then (Ok all) = refl
  none_then (Err refusal) = refl

  none_made : (fine : Result (Unit {0}) Refusal) → made_keys fine ≡ []
  none_made (Ok all) = refl
  none_made (Err refusal) = refl

  only : (key : Key) → Contains ((check_meaning check).keys t) key → CheckKeys check.units t key
  only key here = elim (Contains-append_cases ((checked check.units).keys t ++ then_keys fine) (made_keys fine) key here) [
    | inl asked ↦ elim (Contains-append_cases ((checked check.units).keys t) (then_keys fine) key asked) [
      | inl first ↦ (let is = checked_only t check.units key first in subst (CheckKeys check.units t) (sym is.2) (LooksUp is.0 is.1 is.3 is.4))
      | inr then ↦ no_key key (subst (λ keys. Contains keys key) (none_then fine) then)
    ]
    | inr made ↦ no_key key (subst (λ keys. Contains keys key) (none_made fine) made)
  ]

  all : (key : Key) → CheckKeys check.units t key → Contains ((check_meaning check).keys t) key
  all key (LooksUp unit path to up) =
      Contains-append_left ((checked check.units).keys t ++ then_keys fine) (made_keys fine) (Cell path)
      (Contains-append_left ((checked check.units).keys t) (then_keys fine) (Cell path) (checked_at t check.units unit path to up))

pub check_looks : CheckLooks
check_looks check t key = (λ here. only check t key ((looks check_meaning check t key).0 here), λ looked. (looks check_meaning check t key).1 (all check t key looked))
