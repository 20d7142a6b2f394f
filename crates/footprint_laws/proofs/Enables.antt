-- The keys that enable looks at.
use Rattle.std.proofs.Common.{◌≡◌, ◌≢◌, ℕ, Bool, false, List, [], ◌∷◌, ◌++◌, ◌⊎◌, map as list_map, All, Contains, Some, None, Result, Ok, Err, refl, sym, ap, subst, ◌∙◌, inl, inr}
use Rattle.std.specs.FinMap as map
use Rattle.std.proofs.lemmas.List.Elements.{Contains-append_left, Contains-append_right, Contains-append_cases}
use Rattle.unit_paths.specs.declared.place.Scope.{Scope}
use Rattle.unit_paths.specs.Places.{scope_place}
use Rattle.link_tree.specs.Trees.{Entries}
use Rattle.install_section.specs.declared.closed.Closed.{Closed}
use Rattle.install_section.specs.declared.closed.ClosureFault.{ClosureFault}
use Rattle.install_section.specs.declared.closed.ClosureFault.TheVariants as closure_faults
use Rattle.install_section.specs.declared.wants.Wanted.{Wanted}
use Rattle.install_section.specs.Closure.{IsUnit, Reached, closure}
use Rattle.install_section.specs.Sections.{section_of}
use Rattle.install_section.specs.Wanted.{with_section, all_wants, no_wants, wanted}
use Rattle.install_section.proofs.Least.{none_of, is_first, is_later, closure_least}
use Rattle.install_section.proofs.LooksAsFind.{looks_as_find}
use Rattle.footprint.specs.declared.answer.Answer.TheVariants.{Refused}
use Rattle.tree_access.specs.declared.key.Key.{Key}
use Rattle.tree_access.specs.declared.key.Key.TheVariants.{Cell}
use Rattle.tree_access.specs.declared.refusal.Refusal.{Refusal}
use Rattle.tree_access.specs.declared.refusal.Refusal.TheVariants.{TooMany}
use Rattle.footprint.specs.Commands.{taken, unless_refused, carried_out}
use Rattle.footprint.specs.Inquiry.{Inquiry}
use Rattle.footprint.specs.Operations.{Effect}
use Rattle.install_commands.specs.Check.{going_on, checked}
use Rattle.install_commands.specs.Enable.{unless_too_many, closed_want, units_want, to_stand, links_made, checked_want, units_enabled, enable_meaning}
use Rattle.install_commands.proofs.Checked.{check_passes}
use Rattle.install_commands.proofs.Enabled.{wanted_is}
use Rattle.install_commands.proofs.Placed.{to_file, get-to_stand}
use Rattle.footprint_laws.specs.Sets.{IsUpTo, IsLookedUp, IsLookedUpWith}
use Rattle.footprint_laws.specs.Sets.IsLookedUpWith.{Itself}
use Rattle.footprint_laws.specs.Installs.{EnableKeys, EnableLooks}
use Rattle.footprint_laws.specs.Installs.EnableKeys.{Checked, Also, Link}
use Rattle.footprint_laws.proofs.Keys.{looks, cell_among, among_cells, keys_have, have_key, no_key}
use Rattle.footprint_laws.proofs.Checks.{IsCheckedAt, checked_only, checked_at}
use Rattle.footprint_laws.proofs.Closures.{closure_looks_only, closure_looks_all}

module _ (t : Entries) where
  module _ (scope : Scope) (skip : Bool) where
    -- for the links, each unit is looked up again
    sections_only : (units : List (List ℕ)) (wants : _) (path : List ℕ) → Contains ((all_wants (scope_place scope) skip units wants).cells t) path → (unit : List ℕ) × Contains units unit × IsLookedUp t unit path
    sections_only [] wants path here = absurd (none_of [] path refl here)
    sections_only (unit ∷ units) wants path here =
        let next = with_section (scope_place scope) skip unit wants ((section_of unit).conclusion t) in
        elim (Contains-append_cases ((section_of unit).cells t) ((all_wants (scope_place scope) skip units next).cells t) path here) [
          | inl own ↦ (unit, is_first unit units unit refl, (looks_as_find unit t path).0 own)
          | inr later ↦ (let is = sections_only units next path later in (is.0, is_later unit units is.0 is.1, is.2))
        ]

    wanted_only : (units : List (List ℕ)) (path : List ℕ) → Contains ((wanted units scope skip).cells t) path → (unit : List ℕ) × Contains units unit × IsLookedUp t unit path
    unfolding wanted
    wanted_only units path here = sections_only units no_wants path here

    -- a unit that is reached is looked up there, or what it names is
    abbrev IsReachedAt : (units : List (List ℕ)) → Key → Type 0
    IsReachedAt units key = (path : List ℕ) × (key ≡ Cell path) × IsLookedUpWith t (Reached t units) path

    by_closed : (units : List (List ℕ)) (key : Key) (closed : Result Closed ClosureFault) → (closure units).conclusion t ≡ closed
        → Contains ((going_on (closed_want scope skip) (unless_too_many closed)).keys t) key → IsReachedAt units key
    by_closed units key (Ok closed) closes here =
        let at = cell_among ((wanted closed.units scope skip).cells t) key here in
        let by = wanted_only closed.units at.0 at.2 in
        (at.0, at.1, Itself by.0 (((closure_least units t closed closes).1 by.0).0 by.1) by.2)
    by_closed units key (Err closure_faults.TooMany) closes here = no_key key here

    units_only : (units : List (List ℕ)) (key : Key) → Contains ((units_want scope skip units).keys t) key → IsReachedAt units key
    units_only units key here = elim (Contains-append_cases (list_map Cell ((closure units).cells t)) ((going_on (closed_want scope skip) (unless_too_many ((closure units).conclusion t))).keys t) key here) [
      | inl own ↦ (let at = cell_among ((closure units).cells t) key own in (at.0, at.1, closure_looks_only t units at.0 at.2))
      | inr later ↦ by_closed units key ((closure units).conclusion t) refl later
    ]

    -- what is looked at before a link is
    pub wants_only : (units : List (List ℕ)) (key : Key) → Contains ((checked_want scope skip units).keys t) key → IsCheckedAt t units key ⊎ (All (IsUnit t) units × IsReachedAt units key)
    wants_only units key here = elim (Contains-append_cases ((checked units).keys t) ((going_on (λ fine. units_want scope skip units) ((checked units).conclusion t)).keys t) key here) [
      | inl first ↦ inl (checked_only t units key first)
      | inr later ↦ by_fine ((checked units).conclusion t) refl later
    ]
      where
        by_fine : (fine : Result (Unit {0}) Refusal) → (checked units).conclusion t ≡ fine → Contains ((going_on (λ fine. units_want scope skip units) fine).keys t) key → IsCheckedAt t units key ⊎ (All (IsUnit t) units × IsReachedAt units key)
        by_fine (Ok fine) at here = inr ((check_passes units t).0 at, units_only units key here)
        by_fine (Err refusal) at here = no_key key here

    pub checks_first : (units : List (List ℕ)) (unit path : List ℕ) → IsUpTo (IsUnit t) units unit → IsLookedUp t unit path → Contains ((checked_want scope skip units).keys t) (Cell path)
    checks_first units unit path to up = Contains-append_left ((checked units).keys t) ((going_on (λ fine. units_want scope skip units) ((checked units).conclusion t)).keys t) (Cell path) (checked_at t units unit path to up)

    pub reaches_then : (units : List (List ℕ)) (path : List ℕ) (closed : Closed) → All (IsUnit t) units → (closure units).conclusion t ≡ Ok closed → IsLookedUpWith t (Reached t units) path
        → Contains ((checked_want scope skip units).keys t) (Cell path)
    reaches_then units path closed fine closes up =
        Contains-append_right ((checked units).keys t) ((going_on (λ fine. units_want scope skip units) ((checked units).conclusion t)).keys t) (Cell path)
        (subst (λ fine. Contains ((going_on (λ fine. units_want scope skip units) fine).keys t) (Cell path)) (sym ((check_passes units t).1 fine))
        (Contains-append_left (list_map Cell ((closure units).cells t)) ((going_on (closed_want scope skip) (unless_too_many ((closure units).conclusion t))).keys t) (Cell path)
        (among_cells ((closure units).cells t) path (closure_looks_all t units closed closes path up))))

module _ (scope : Scope) (skip : Bool) (units : List (List ℕ)) (t : Entries) where
  abbrev asks : Inquiry (Result Wanted Refusal)
  asks = checked_want scope skip units

  abbrev meaning : Inquiry Effect
  meaning = carried_out (units_enabled scope skip units)

  abbrev wants : Result Wanted Refusal
  wants = asks.conclusion t

  -- the keys by which links are looked at
  abbrev made_keys : Result Wanted Refusal → List Key
  made_keys given = (taken ((unless_refused links_made given).conclusion t)).keys t

  asks_nothing : (given : Result Wanted Refusal) → (unless_refused links_made given).keys t ≡ []
  asks_nothing (Ok given) = refl
  asks_nothing (Err refusal) = refl

  all_keys : meaning.keys t ≡ (asks.keys t ++ (unless_refused links_made wants).keys t) ++ made_keys wants
  all_keys = refl

  by_wants : (key : Key) (given : Result Wanted Refusal) → wants ≡ given → Contains (made_keys given) key → EnableKeys scope skip units t key
  by_wants key (Ok given) is here =
      let at = cell_among (map.keys (to_stand given.links)) key here in
      let link = have_key (to_stand given.links) at.0 at.2 in
      let file = to_a_file (map.get given.links at.0) refl (sym (get-to_stand given.links at.0) ∙ link.1) in
      subst (EnableKeys scope skip units t) (sym at.1) (Link at.0 file.0 given is ((wanted_is scope skip units t given is at.0 file.0).0 file.1))
    where
      to_a_file : {x : _} {m : _} (file : _) → m ≡ file → to_file file ≡ Some x → (f : List ℕ) × (m ≡ Some f)
      to_a_file None is at = cc
      to_a_file (Some file) is at = (file, is)
  by_wants key (Err refusal) is here = no_key key here

  pub only : (key : Key) → Contains (meaning.keys t) key → EnableKeys scope skip units t key
  only key here = elim (Contains-append_cases (asks.keys t ++ (unless_refused links_made wants).keys t) (made_keys wants) key here) [
    | inl asked ↦ elim (Contains-append_cases (asks.keys t) ((unless_refused links_made wants).keys t) key asked) [
      | inl first ↦ elim (wants_only t scope skip units key first) [
        | inl check ↦ subst (EnableKeys scope skip units t) (sym check.2) (Checked check.0 check.1 check.3 check.4)
        | inr reached ↦ subst (EnableKeys scope skip units t) (sym reached.1.1) (Also reached.1.0 reached.0 reached.1.2)
      ]
      | inr none ↦ no_key key (subst (λ keys. Contains keys key) (asks_nothing wants) none)
    ]
    | inr made ↦ by_wants key wants refl made
  ]

  asked_first : (path : List ℕ) → Contains (asks.keys t) (Cell path) → Contains (meaning.keys t) (Cell path)
  asked_first path here =
      Contains-append_left (asks.keys t ++ (unless_refused links_made wants).keys t) (made_keys wants) (Cell path)
      (Contains-append_left (asks.keys t) ((unless_refused links_made wants).keys t) (Cell path) here)

  -- where the units are too many, that is the answer
  too_many : All (IsUnit t) units → (closure units).conclusion t ≡ Err closure_faults.TooMany → (meaning.conclusion t).answer ≡ Refused TooMany
  too_many fine many = rw ((check_passes units t).1 fine) (rw many refl)

  by_closure : (path : List ℕ) (closed : Result Closed ClosureFault) → (closure units).conclusion t ≡ closed → (meaning.conclusion t).answer ≢ Refused TooMany
      → All (IsUnit t) units → IsLookedUpWith t (Reached t units) path → Contains (asks.keys t) (Cell path)
  by_closure path (Ok closed) closes few fine up = reaches_then t scope skip units path closed fine closes up
  by_closure path (Err closure_faults.TooMany) closes few fine up = absurd (few (too_many fine closes))

  pub all : (meaning.conclusion t).answer ≢ Refused TooMany → (key : Key) → EnableKeys scope skip units t key → Contains (meaning.keys t) key
  all few key (Checked unit path to up) = asked_first path (checks_first t scope skip units unit path to up)
  all few key (Also path fine up) = asked_first path (by_closure path ((closure units).conclusion t) refl few fine up)
  all few key (Link path file settled is wanted) =
      Contains-append_right (asks.keys t ++ (unless_refused links_made wants).keys t) (made_keys wants) (Cell path)
      (subst (λ given. Contains (made_keys given) (Cell path)) (sym is)
      (among_cells (map.keys (to_stand settled.links)) path
      (keys_have (to_stand settled.links) path (Some file) (get-to_stand settled.links path ∙ ap to_file ((wanted_is scope skip units t settled is path file).1 wanted)))))

pub enable_looks : EnableLooks
enable_looks enable t key = record {
  only = λ here. only enable.scope false enable.units t key ((looks enable_meaning enable t key).0 here);
  all = λ few looked. (looks enable_meaning enable t key).1 (all enable.scope false enable.units t few key looked);
}
