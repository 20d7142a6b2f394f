-- The keys that questions look at.
use Rattle.std.proofs.Common.{◌≡◌, ℕ, List, [], ◌∷◌, ◌++◌, map as list_map, Contains, refl, sym, ap, subst, ◌∙◌, inl, inr}
use Rattle.std.specs.Str.{bytes_eq}
use Rattle.std.proofs.lemmas.Bool.{cases_Bool}
use Rattle.std.proofs.lemmas.List.Elements.{Contains-append_left, Contains-append_right, Contains-append_cases}
use Rattle.std.proofs.lemmas.Slice.Eq.{bytes_eq-Decides}
use Rattle.unit_paths.specs.declared.place.Place.{Place}
use Rattle.unit_paths.specs.declared.place.Scope.{Scope}
use Rattle.unit_paths.specs.declared.place.Scope.TheVariants.{Etc, Run}
use Rattle.link_tree.specs.Trees.{Entries}
use Rattle.link_tree.proofs.Changed.{same_bytes}
use Rattle.load_path.specs.declared.finding.Found.{Found}
use Rattle.load_path.specs.declared.finding.Found.TheVariants as founds
use Rattle.load_path.specs.Find.{find}
use Rattle.install_section.specs.Sections.{section_of}
use Rattle.install_section.specs.Closure.{IsUnit}
use Rattle.install_section.proofs.Least.{is_first, is_later, first_or_later, none_of}
use Rattle.install_section.proofs.LooksAsFind.{looks_as_find}
use Rattle.tree_access.specs.declared.key.Key.{Key}
use Rattle.tree_access.specs.declared.key.Key.TheVariants.{Cell, Marked, Links}
use Rattle.states.specs.Dependencies.{dependencies_meaning}
use Rattle.states.specs.GetDefault.{default_target, get_default_meaning}
use Rattle.states.specs.IsEnabled.{unit_word, found_word, is_enabled_meaning}
use Rattle.footprint_laws.specs.Questions.{GetDefaultKeys, GetDefaultLooks, IsEnabledKeys, IsEnabledLooks, DependencyKeys, DependenciesLook}
use Rattle.footprint_laws.specs.Questions.GetDefaultKeys.{Target}
use Rattle.footprint_laws.specs.Questions.IsEnabledKeys.{Itself, ItsLinks}
use Rattle.footprint_laws.specs.Questions.DependencyKeys.{AllDependencies}
use Rattle.footprint_laws.proofs.Keys.{looks, cell_among, among_cells, only_one}

pub get_default_looks : GetDefaultLooks
get_default_looks c t key = (
  λ here. let at = cell_among ((find default_target).cells t) key ((looks get_default_meaning c t key).0 here) in
      subst (GetDefaultKeys t) (sym at.1) (Target at.0 at.2),
  λ looked. (looks get_default_meaning c t key).1 (back key looked),
)
  where
    back : (key : Key) → GetDefaultKeys t key → Contains ((get_default_meaning c).keys t) key
    back key (Target path at) = among_cells ((find default_target).cells t) path at

module _ (t : Entries) (name : List ℕ) where
  abbrev Looks : Key → Type 0
  Looks = IsEnabledKeys t name

  looked_up : (key : Key) → Contains (list_map Cell ((find name).cells t)) key → Looks key
  looked_up key here = let at = cell_among ((find name).cells t) key here in subst Looks (sym at.1) (Itself at.0 at.2)

  -- the section, and the links of both scopes
  word_keys : (key : Key) → IsUnit t name → Contains (list_map Cell ((section_of name).cells t) ++ Marked Etc name ∷ Marked Run name ∷ []) key → Looks key
  word_keys key own here = elim (Contains-append_cases (list_map Cell ((section_of name).cells t)) (Marked Etc name ∷ Marked Run name ∷ []) key here) [
    | inl section ↦ (let at = cell_among ((section_of name).cells t) key section in subst Looks (sym at.1) (Itself at.0 ((looks_as_find name t at.0).0 at.2)))
    | inr links ↦ elim (first_or_later (Marked Etc name) (Marked Run name ∷ []) key links.0 links.1 links.2) [
      | inl etc ↦ subst Looks (sym etc) (ItsLinks Etc own)
      | inr later ↦ elim (first_or_later (Marked Run name) [] key later.0 later.1 later.2) [
        | inl run ↦ subst Looks (sym run) (ItsLinks Run own)
        | inr none ↦ absurd (none_of [] key refl none)
      ]
    ]
  ]

  -- by what the name is found as
  only_by : (key : Key) (found : Found) → (find name).conclusion t ≡ found → Contains ((found_word name found).keys t) key → Looks key
  only_by key founds.Missing at here = absurd (none_of [] key refl here)
  only_by key (founds.Dangling link) at here = absurd (none_of [] key refl here)
  only_by key (founds.Masked place) at here = absurd (none_of [] key refl here)
  only_by key (founds.Unit real file place) at here = elim (cases_Bool (bytes_eq real name)) [
    | inl same ↦ word_keys key (file, place, at ∙ ap (λ real. founds.Unit real file place) (same_bytes real name same)) (rw same at here)
    | inr other ↦ absurd (none_of [] key refl (rw other at here))
  ]

  all_by : (scope : Scope) (found : Found) (file : List ℕ) (place : Place) → found ≡ founds.Unit name file place → Contains ((found_word name found).keys t) (Marked scope name)
  all_by scope found file place is = subst (λ found. Contains ((found_word name found).keys t) (Marked scope name)) (sym is) (rw ((bytes_eq-Decides name name).1 refl) (by_scope scope))
    where
      by_scope : (scope : Scope) → Contains ((unit_word name file place).keys t) (Marked scope name)
      by_scope Etc = Contains-append_right (list_map Cell ((section_of name).cells t)) (Marked Etc name ∷ Marked Run name ∷ []) (Marked Etc name) (is_first (Marked Etc name) (Marked Run name ∷ []) (Marked Etc name) refl)
      by_scope Run = Contains-append_right (list_map Cell ((section_of name).cells t)) (Marked Etc name ∷ Marked Run name ∷ []) (Marked Run name)
          (is_later (Marked Etc name) (Marked Run name ∷ []) (Marked Run name) (is_first (Marked Run name) [] (Marked Run name) refl))

pub is_enabled_looks : IsEnabledLooks
is_enabled_looks c t key = (
  λ here. elim (Contains-append_cases (list_map Cell ((find c.unit).cells t)) ((found_word c.unit ((find c.unit).conclusion t)).keys t) key ((looks is_enabled_meaning c t key).0 here)) [
    | inl up ↦ looked_up t c.unit key up
    | inr word ↦ only_by t c.unit key ((find c.unit).conclusion t) refl word
  ],
  λ looked. (looks is_enabled_meaning c t key).1 (back key looked),
)
  where
    back : (key : Key) → IsEnabledKeys t c.unit key → Contains ((is_enabled_meaning c).keys t) key
    back key (Itself path up) = Contains-append_left (list_map Cell ((find c.unit).cells t)) ((found_word c.unit ((find c.unit).conclusion t)).keys t) (Cell path) (among_cells ((find c.unit).cells t) path up)
    back key (ItsLinks scope own) = Contains-append_right (list_map Cell ((find c.unit).cells t)) ((found_word c.unit ((find c.unit).conclusion t)).keys t) (Marked scope c.unit)
        (all_by t c.unit scope ((find c.unit).conclusion t) own.0 own.1 own.2)

pub dependencies_look : DependenciesLook
dependencies_look c t key = (
  λ here. subst DependencyKeys (sym (only_one Links key ((looks dependencies_meaning c t key).0 here))) AllDependencies,
  λ looked. (looks dependencies_meaning c t key).1 (back key looked),
)
  where
    back : (key : Key) → DependencyKeys key → Contains (Links ∷ []) key
    back key AllDependencies = is_first Links [] Links refl
