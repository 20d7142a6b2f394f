-- The keys by which a preset decides to which units it applies.
use Rattle.std.proofs.Common.{◌≡◌, ℕ, Bool, cond, List, [], ◌∷◌, ◌++◌, map as list_map, All, Contains, Result, Ok, Err, refl, sym, ap, subst, ◌∙◌, inl, inr}
use Rattle.std.specs.Str.{bytes_eq}
use Rattle.std.proofs.lemmas.Bool.{cases_Bool}
use Rattle.std.proofs.lemmas.List.Elements.{All-nil, All-cons, All-head, All-tail, Contains-append_left, Contains-append_right, Contains-append_cases}
use Rattle.link_tree.specs.Trees.{Entries}
use Rattle.load_path.specs.declared.finding.Found.{Found}
use Rattle.load_path.specs.declared.finding.Found.TheVariants as founds
use Rattle.load_path.specs.Find.{find}
use Rattle.install_section.specs.Sections.{section_of}
use Rattle.install_section.proofs.LooksAsFind.{looks_as_find}
use Rattle.tree_access.specs.declared.key.Key.{Key}
use Rattle.tree_access.specs.declared.key.Key.TheVariants.{Cell}
use Rattle.tree_access.specs.declared.refusal.Refusal.{Refusal}
use Rattle.footprint.specs.Inquiry.{Inquiry, giving}
use Rattle.footprint.specs.Units.{found_unit}
use Rattle.install_commands.specs.Check.{going_on}
use Rattle.install_commands.specs.Preset.{found_counts, counts, counting_behind}
use Rattle.footprint_laws.specs.Sets.{IsUpTo, IsLookedUp}
use Rattle.footprint_laws.specs.Installs.{IsSomeUnit}
use Rattle.footprint_laws.proofs.Keys.{cell_among, among_cells, no_key}

module _ (t : Entries) where
  -- whether presets apply to a name, by what it is found as
  abbrev by_unit : (name : List ℕ) → Result (List ℕ × List ℕ) Refusal → Inquiry (Result Bool Refusal)
  by_unit name unit = going_on (λ unit. giving (found_counts name unit.0) (λ here. Ok here)) unit

  abbrev IsUpAt : (name : List ℕ) → Key → Type 0
  IsUpAt name key = (path : List ℕ) × (key ≡ Cell path) × IsLookedUp t name path

  found_only : (name : List ℕ) (key : Key) (found : Found) → Contains ((by_unit name (found_unit name found)).keys t) key → IsUpAt name key
  found_only name key founds.Missing here = no_key key here
  found_only name key (founds.Masked place) here = no_key key here
  found_only name key (founds.Dangling link) here = no_key key here
  found_only name key (founds.Unit real file place) here = elim (cases_Bool (bytes_eq real name)) [
    | inl own ↦ (let at = cell_among ((section_of name).cells t) key (rw own at here) in (at.0, at.1, (looks_as_find name t at.0).0 at.2))
    | inr other ↦ no_key key (rw other at here)
  ]

  -- one unit: it is looked up, and its section where it is found
  one_only : (name : List ℕ) (key : Key) → Contains ((counts name).keys t) key → IsUpAt name key
  one_only name key here = elim (Contains-append_cases (list_map Cell ((find name).cells t)) ((by_unit name (found_unit name ((find name).conclusion t))).keys t) key here) [
    | inl up ↦ cell_among ((find name).cells t) key up
    | inr section ↦ found_only name key ((find name).conclusion t) section
  ]

  one_all : (name path : List ℕ) → IsLookedUp t name path → Contains ((counts name).keys t) (Cell path)
  one_all name path up =
      Contains-append_left (list_map Cell ((find name).cells t)) ((by_unit name (found_unit name ((find name).conclusion t))).keys t) (Cell path) (among_cells ((find name).cells t) path up)

  -- it isn't refused exactly if it is found
  is_some : (name : List ℕ) (here : Bool) → (counts name).conclusion t ≡ Ok here → IsSomeUnit t name
  is_some name here is = by_found ((find name).conclusion t) refl is
    where
      by_found : (found : Found) → (find name).conclusion t ≡ found → (by_unit name (found_unit name found)).conclusion t ≡ Ok here → IsSomeUnit t name
      by_found founds.Missing at is = cc
      by_found (founds.Masked place) at is = cc
      by_found (founds.Dangling link) at is = cc
      by_found (founds.Unit real file place) at is = (real, file, (place, at))

  some_counts : (name : List ℕ) → IsSomeUnit t name → (here : Bool) × ((counts name).conclusion t ≡ Ok here)
  some_counts name some = ((found_counts name some.0).conclusion t, ap (λ found. (by_unit name (found_unit name found)).conclusion t) some.2.1)

  -- one unit, and the others after it
  abbrev next_names : (names : List (List ℕ)) (unit : List ℕ) → Bool → List (List ℕ)
  next_names names unit here = cond here (names ++ unit ∷ []) names

  abbrev behind : (names : List (List ℕ)) (unit : List ℕ) (units : List (List ℕ)) → Result Bool Refusal → Inquiry (Result (List (List ℕ)) Refusal)
  behind names unit units one = going_on (λ here. counting_behind (next_names names unit here) units) one

  abbrev IsCountedAt : (units : List (List ℕ)) → Key → Type 0
  IsCountedAt units key = (unit : List ℕ) × (path : List ℕ) × (key ≡ Cell path) × IsUpTo (IsSomeUnit t) units unit × IsLookedUp t unit path

  pub counting_only : (units names : List (List ℕ)) (key : Key) → Contains ((counting_behind names units).keys t) key → IsCountedAt units key
  counting_only [] names key here = no_key key here
  counting_only (unit ∷ units) names key here = elim (Contains-append_cases ((counts unit).keys t) ((behind names unit units ((counts unit).conclusion t)).keys t) key here) [
    | inl own ↦ (let at = one_only unit key own in (unit, at.0, at.1, ([], units, refl, All-nil (IsSomeUnit t)), at.2))
    | inr later ↦ by_one (λ names. counting_only units names key) ((counts unit).conclusion t) refl later
  ]
    where
      by_one : ((names : List (List ℕ)) → Contains ((counting_behind names units).keys t) key → IsCountedAt units key) → (one : Result Bool Refusal) → (counts unit).conclusion t ≡ one
          → Contains ((behind names unit units one).keys t) key → IsCountedAt (unit ∷ units) key
      by_one rest (Ok own) at here = let is = rest (next_names names unit own) here in
          (is.0, is.1, is.2, (unit ∷ is.3.0, is.3.1, ap (λ units. unit ∷ units) is.3.2, All-cons (IsSomeUnit t) unit is.3.0 (is_some unit own at) is.3.3), is.4)
      by_one rest (Err refusal) at here = no_key key here

  counting_behind_all : (before after names : List (List ℕ)) (unit path : List ℕ) → All (IsSomeUnit t) before → IsLookedUp t unit path → Contains ((counting_behind names (before ++ unit ∷ after)).keys t) (Cell path)
  counting_behind_all [] after names unit path all up = Contains-append_left ((counts unit).keys t) ((behind names unit after ((counts unit).conclusion t)).keys t) (Cell path) (one_all unit path up)
  counting_behind_all (first ∷ before) after names unit path all up =
      let own = some_counts first (All-head (IsSomeUnit t) first before all) in
      Contains-append_right ((counts first).keys t) ((behind names first (before ++ unit ∷ after) ((counts first).conclusion t)).keys t) (Cell path)
      (subst (λ one. Contains ((behind names first (before ++ unit ∷ after) one).keys t) (Cell path)) (sym own.1)
      (counting_behind_all before after (next_names names first own.0) unit path (All-tail (IsSomeUnit t) first before all) up))

  pub counting_at : (units names : List (List ℕ)) (unit path : List ℕ) → IsUpTo (IsSomeUnit t) units unit → IsLookedUp t unit path → Contains ((counting_behind names units).keys t) (Cell path)
  counting_at units names unit path to up = subst (λ units. Contains ((counting_behind names units).keys t) (Cell path)) (sym to.2) (counting_behind_all to.0 to.1 names unit path to.3 up)

  -- they aren't refused exactly if all are found
  pub all_found : (units names counted : List (List ℕ)) → (counting_behind names units).conclusion t ≡ Ok counted → All (IsSomeUnit t) units
  all_found [] names counted is = All-nil (IsSomeUnit t)
  all_found (unit ∷ units) names counted is = by_one (λ names. all_found units names counted) ((counts unit).conclusion t) refl is
    where
      by_one : ((names : List (List ℕ)) → (counting_behind names units).conclusion t ≡ Ok counted → All (IsSomeUnit t) units) → (one : Result Bool Refusal) → (counts unit).conclusion t ≡ one
          → (behind names unit units one).conclusion t ≡ Ok counted → All (IsSomeUnit t) (unit ∷ units)
      by_one rest (Ok own) at is = All-cons (IsSomeUnit t) unit units (is_some unit own at) (rest (next_names names unit own) is)
      by_one rest (Err refusal) at is = cc

  pub all_count : (units names : List (List ℕ)) → All (IsSomeUnit t) units → (counted : List (List ℕ)) × ((counting_behind names units).conclusion t ≡ Ok counted)
  all_count [] names all = (names, refl)
  all_count (unit ∷ units) names all =
      let own = some_counts unit (All-head (IsSomeUnit t) unit units all) in
      let rest = all_count units (next_names names unit own.0) (All-tail (IsSomeUnit t) unit units all) in
      (rest.0, ap (λ one. (behind names unit units one).conclusion t) own.1 ∙ rest.1)
