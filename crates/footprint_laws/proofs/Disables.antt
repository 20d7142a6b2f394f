-- The keys that disable looks at.
use Rattle.std.proofs.Common.{◌≡◌, ℕ, false, List, [], ◌∷◌, ◌++◌, map as list_map, Contains, Result, Ok, Err, refl, sym, ap, subst, ◌∙◌, inl, inr}
use Rattle.std.proofs.lemmas.Bool.{false≢true}
use Rattle.std.proofs.lemmas.List.Elements.{Contains-append_left, Contains-append_right, Contains-append_cases}
use Rattle.link_tree.specs.Trees.{Entries}
use Rattle.load_path.specs.Find.{find}
use Rattle.install_section.specs.Closure.{Reached, closure}
use Rattle.install_section.proofs.Least.{is_first, is_later, first_or_later, none_of}
use Rattle.tree_access.specs.declared.key.Key.{Key}
use Rattle.tree_access.specs.declared.key.Key.TheVariants.{Cell, Marked}
use Rattle.tree_access.specs.declared.refusal.Refusal.{Refusal}
use Rattle.footprint.specs.Commands.{taken, unless_refused}
use Rattle.footprint.specs.Operations.{is_refused}
use Rattle.install_commands.specs.declared.disable.Disable.{Disable}
use Rattle.install_commands.specs.Disable.{with_real, with_self, reals_behind, selves_behind, selves_named, reals_named, units_named, links_removed, disable_meaning}
use Rattle.install_commands.specs.Laws.{GoesWith}
use Rattle.install_commands.proofs.Disabled.{done_with, refuses}
use Rattle.install_commands.proofs.Named.{Names, reals, selves, reals_all, real_is, reached_goes, goes_reached, gathered, gathered_is}
use Rattle.footprint_laws.specs.Sets.{IsLookedUp, IsLookedUpWith, IsNamedAt}
use Rattle.footprint_laws.specs.Sets.IsLookedUpWith.{Itself, ItsWord}
use Rattle.footprint_laws.specs.Sets.IsNamedAt.{Given, Real, Also}
use Rattle.footprint_laws.specs.Installs.{DisableKeys, DisableLooks}
use Rattle.footprint_laws.specs.Installs.DisableKeys.{Name, Links, Link}
use Rattle.footprint_laws.proofs.Keys.{looks, cell_among, among_cells, no_key}
use Rattle.footprint_laws.proofs.Closures.{closure_looks_only, closure_looks_all}
use Rattle.footprint_laws.proofs.Removals.{asked_only, asked_all, made_only, made_all}

module _ (t : Entries) where
  -- one of the units is looked up there
  abbrev IsAmongAt : (units : List (List ℕ)) → Key → Type 0
  IsAmongAt units key = (unit : List ℕ) × (path : List ℕ) × (key ≡ Cell path) × Contains units unit × IsLookedUp t unit path

  first_at : (unit : List ℕ) (units : List (List ℕ)) (key : Key) → Contains (list_map Cell ((find unit).cells t)) key → IsAmongAt (unit ∷ units) key
  first_at unit units key here = let at = cell_among ((find unit).cells t) key here in (unit, at.0, at.1, is_first unit units unit refl, at.2)

  later_at : (unit : List ℕ) (units : List (List ℕ)) (key : Key) → IsAmongAt units key → IsAmongAt (unit ∷ units) key
  later_at unit units key is = (is.0, is.1, is.2, is_later unit units is.0 is.3, is.4)

  reals_only : (units names : List (List ℕ)) (key : Key) → Contains ((reals_behind names units).keys t) key → IsAmongAt units key
  reals_only [] names key here = no_key key here
  reals_only (unit ∷ units) names key here =
      let more = with_real names ((find unit).conclusion t) in
      elim (Contains-append_cases (list_map Cell ((find unit).cells t)) ((reals_behind more units).keys t) key here) [
        | inl own ↦ first_at unit units key own
        | inr later ↦ later_at unit units key (reals_only units more key later)
      ]

  reals_at : (units names : List (List ℕ)) (unit path : List ℕ) → Contains units unit → IsLookedUp t unit path → Contains ((reals_behind names units).keys t) (Cell path)
  reals_at [] names unit path here up = absurd (none_of [] unit refl here)
  reals_at (first ∷ units) names unit path here up =
      let own = list_map Cell ((find first).cells t) in
      let rest = (reals_behind (with_real names ((find first).conclusion t)) units).keys t in
      elim (first_or_later first units unit here.0 here.1 here.2) [
        | inl same ↦ Contains-append_left own rest (Cell path) (among_cells ((find first).cells t) path (subst (λ unit. IsLookedUp t unit path) same up))
        | inr later ↦ Contains-append_right own rest (Cell path) (reals_at units (with_real names ((find first).conclusion t)) unit path later up)
      ]

  selves_only : (units names : List (List ℕ)) (key : Key) → Contains ((selves_behind names units).keys t) key → IsAmongAt units key
  selves_only [] names key here = no_key key here
  selves_only (unit ∷ units) names key here =
      let more = with_self names unit ((find unit).conclusion t) in
      elim (Contains-append_cases (list_map Cell ((find unit).cells t)) ((selves_behind more units).keys t) key here) [
        | inl own ↦ first_at unit units key own
        | inr later ↦ later_at unit units key (selves_only units more key later)
      ]

  selves_at : (units names : List (List ℕ)) (unit path : List ℕ) → Contains units unit → IsLookedUp t unit path → Contains ((selves_behind names units).keys t) (Cell path)
  selves_at [] names unit path here up = absurd (none_of [] unit refl here)
  selves_at (first ∷ units) names unit path here up =
      let own = list_map Cell ((find first).cells t) in
      let rest = (selves_behind (with_self names first ((find first).conclusion t)) units).keys t in
      elim (first_or_later first units unit here.0 here.1 here.2) [
        | inl same ↦ Contains-append_left own rest (Cell path) (among_cells ((find first).cells t) path (subst (λ unit. IsLookedUp t unit path) same up))
        | inr later ↦ Contains-append_right own rest (Cell path) (selves_at units (with_self names first ((find first).conclusion t)) unit path later up)
      ]

  module _ (units : List (List ℕ)) where
    -- the units that are disabled along with these are what their own names reach
    goes_at : (path : List ℕ) → IsLookedUpWith t (Reached t (selves t units)) path → IsLookedUpWith t (GoesWith t units) path
    goes_at path (Itself unit reached up) = Itself unit (reached_goes t units unit reached) up
    goes_at path (ItsWord unit name reached word up) = ItsWord unit name (reached_goes t units unit reached) word up

    reached_at : (path : List ℕ) → IsLookedUpWith t (GoesWith t units) path → IsLookedUpWith t (Reached t (selves t units)) path
    reached_at path (Itself unit goes up) = Itself unit (goes_reached t units unit goes) up
    reached_at path (ItsWord unit name goes word up) = ItsWord unit name (goes_reached t units unit goes) word up

module _ (t : Entries) (units : List (List ℕ)) where
  abbrev first_keys : List Key
  first_keys = (reals_behind [] units).keys t

  abbrev next_keys : List Key
  next_keys = (reals_named units (reals t units)).keys t

  abbrev self_keys : List Key
  self_keys = (selves_behind [] (reals t units)).keys t

  abbrev closure_keys : List Key
  closure_keys = (selves_named (units ++ reals t units) (selves t units)).keys t

  pub names_only : (key : Key) → Contains ((units_named units).keys t) key → (path : List ℕ) × (key ≡ Cell path) × IsNamedAt t units path
  names_only key here = elim (Contains-append_cases first_keys next_keys key here) [
    | inl given ↦ (let at = reals_only t units [] key given in (at.1, at.2, Given at.0 at.3 at.4))
    | inr next ↦ elim (Contains-append_cases self_keys closure_keys key next) [
      | inl self ↦
          let at = selves_only t (reals t units) [] key self in
          let real = real_is t units at.0 at.3 in
          (at.1, at.2, Real real.0 at.0 real.1 real.2 real.3 at.4)
      | inr closes ↦
          let at = cell_among ((closure (selves t units)).cells t) key closes in
          (at.0, at.1, Also (goes_at t units at.0 (closure_looks_only t (selves t units) at.0 at.2)))
    ]
  ]

  pub names_all : (named : Names) → (units_named units).conclusion t ≡ Ok named → (path : List ℕ) → IsNamedAt t units path → Contains ((units_named units).keys t) (Cell path)
  names_all named is path (Given unit here up) = Contains-append_left first_keys next_keys (Cell path) (reals_at t units [] unit path here up)
  names_all named is path (Real unit real file here found up) =
      Contains-append_right first_keys next_keys (Cell path) (Contains-append_left self_keys closure_keys (Cell path)
      (selves_at t (reals t units) [] real path (reals_all t units [] real (unit, file, here, found)) up))
  names_all named is path (Also up) =
      let from = gathered t units named is in
      Contains-append_right first_keys next_keys (Cell path) (Contains-append_right self_keys closure_keys (Cell path)
      (among_cells ((closure (selves t units)).cells t) path (closure_looks_all t (selves t units) from.closed from.closes path (reached_at t units path up))))

module _ (disable : Disable) (t : Entries) where
  abbrev units : List (List ℕ)
  units = disable.units

  abbrev named_in : Result Names Refusal
  named_in = (units_named units).conclusion t

  -- the keys by which links are asked for, and by which their paths are looked at
  abbrev asked_keys : Result Names Refusal → List Key
  asked_keys given = (unless_refused (links_removed disable.scope) given).keys t

  abbrev made_keys : Result Names Refusal → List Key
  made_keys given = (taken ((unless_refused (links_removed disable.scope) given).conclusion t)).keys t

  accepted : (named : Names) → named_in ≡ Ok named → is_refused ((disable_meaning disable).conclusion t).answer ≡ false
  accepted named is = ap is_refused (done_with disable.scope units t named is)

  by_names : (key : Key) (given : Result Names Refusal) → named_in ≡ given → Contains (asked_keys given) key → DisableKeys disable t key
  by_names key (Ok named) is here =
      let at = asked_only disable.scope t named key here in
      subst (DisableKeys disable t) (sym at.1) (Links at.0 (accepted named is) ((gathered_is t units named is at.0).0 at.2))
  by_names key (Err refusal) is here = no_key key here

  by_links : (key : Key) (given : Result Names Refusal) → named_in ≡ given → Contains (made_keys given) key → DisableKeys disable t key
  by_links key (Ok named) is here =
      let at = made_only disable.scope t named key here in
      subst (DisableKeys disable t) (sym at.2) (Link at.0 at.1 (accepted named is) at.3 (at.4.0, (gathered_is t units named is at.4.0).0 at.4.1, at.4.2))
  by_links key (Err refusal) is here = no_key key here

  only : (key : Key) → Contains ((disable_meaning disable).keys t) key → DisableKeys disable t key
  only key here = elim (Contains-append_cases ((units_named units).keys t ++ asked_keys named_in) (made_keys named_in) key here) [
    | inl asked ↦ elim (Contains-append_cases ((units_named units).keys t) (asked_keys named_in) key asked) [
      | inl names ↦ (let at = names_only t units key names in subst (DisableKeys disable t) (sym at.1) (Name at.0 at.2))
      | inr links ↦ by_names key named_in refl links
    ]
    | inr made ↦ by_links key named_in refl made
  ]

  -- a disable that is accepted has names
  names_are : (given : Result Names Refusal) → named_in ≡ given → is_refused ((disable_meaning disable).conclusion t).answer ≡ false → (named : Names) × (named_in ≡ Ok named)
  names_are (Ok named) is fine = (named, is)
  names_are (Err refusal) is fine = absurd (false≢true (sym fine ∙ ap is_refused (refuses disable.scope units t refusal is)))

  named_first : (key : Key) → Contains ((units_named units).keys t) key → Contains ((disable_meaning disable).keys t) key
  named_first key here =
      Contains-append_left ((units_named units).keys t ++ asked_keys named_in) (made_keys named_in) key (Contains-append_left ((units_named units).keys t) (asked_keys named_in) key here)

  all : is_refused ((disable_meaning disable).conclusion t).answer ≡ false → (key : Key) → DisableKeys disable t key → Contains ((disable_meaning disable).keys t) key
  all fine key (Name path at) = let named = names_are named_in refl fine in named_first (Cell path) (names_all t units named.0 named.1 path at)
  all fine key (Links name accept is_named) =
      let named = names_are named_in refl fine in
      let key = Marked disable.scope name in
      Contains-append_left ((units_named units).keys t ++ asked_keys named_in) (made_keys named_in) key
      (Contains-append_right ((units_named units).keys t) (asked_keys named_in) key
      (subst (λ given. Contains (asked_keys given) key) (sym named.1)
      (asked_all disable.scope t named.0 name ((gathered_is t units named.0 named.1 name).1 is_named))))
  all fine key (Link path entry accept there removed) =
      let named = names_are named_in refl fine in
      Contains-append_right ((units_named units).keys t ++ asked_keys named_in) (made_keys named_in) (Cell path)
      (subst (λ given. Contains (made_keys given) (Cell path)) (sym named.1)
      (made_all disable.scope t named.0 path entry there (removed.0, (gathered_is t units named.0 named.1 removed.0).1 removed.1, removed.2)))

pub disable_looks : DisableLooks
disable_looks disable t key = record {
  only = λ here. only disable t key ((looks disable_meaning disable t key).0 here);
  all = λ fine looked. (looks disable_meaning disable t key).1 (all disable t fine key looked);
}
