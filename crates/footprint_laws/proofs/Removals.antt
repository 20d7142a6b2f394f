-- The keys that removing the links of names looks at.
use Rattle.std.proofs.Common.{◌≡◌, ℕ, true, cond, List, [], ◌∷◌, map as list_map, Contains, Option, Some, None, refl, sym, ap, ◌∙◌, inl, inr}
use Rattle.std.specs.FinMap as map
use Rattle.std.proofs.lemmas.Bool.{cases_Bool}
use Rattle.std.proofs.lemmas.List.Elements.{Contains-append_left, Contains-append_cases}
use Rattle.unit_paths.specs.declared.place.Scope.{Scope}
use Rattle.link_tree.specs.declared.entry.Entry.{Entry}
use Rattle.link_tree.specs.Links.{belongs}
use Rattle.link_tree.specs.Trees.{Entries}
use Rattle.install_section.proofs.Least.{is_first, is_later, first_or_later, none_of}
use Rattle.tree_access.specs.declared.key.Key.{Key}
use Rattle.tree_access.specs.declared.key.Key.TheVariants.{Cell, Marked}
use Rattle.footprint.specs.Commands.{taken}
use Rattle.tree_access.proofs.KeyLaws.{get-those}
use Rattle.tree_access.specs.Keys.{any_selects, chosen_at, those}
use Rattle.tree_access.specs.Placing.{cleared}
use Rattle.install_commands.specs.Disable.{links_removed}
use Rattle.install_commands.proofs.Placed.{bare_of, get-cleared}
use Rattle.install_commands.proofs.Removal.{is_marked, marked_by, marks}
use Rattle.footprint_laws.proofs.Keys.{cell_among, among_cells, keys_have, have_key, no_key}
use Rattle.install_commands.proofs.Named.{Names}

-- a key of a list of names
pub marked_among : (scope : Scope) (names : List (List ℕ)) (key : Key) → Contains (list_map (Marked scope) names) key → (name : List ℕ) × (key ≡ Marked scope name) × Contains names name
marked_among scope [] key here = no_key key here
marked_among scope (name ∷ names) key here = elim (first_or_later (Marked scope name) (list_map (Marked scope) names) key here.0 here.1 here.2) [
  | inl same ↦ (name, same, is_first name names name refl)
  | inr later ↦ (let at = marked_among scope names key later in (at.0, at.1, is_later name names at.0 at.2))
]

pub among_marked : (scope : Scope) (names : List (List ℕ)) (name : List ℕ) → Contains names name → Contains (list_map (Marked scope) names) (Marked scope name)
among_marked scope [] name here = absurd (none_of [] name refl here)
among_marked scope (first ∷ names) name here = elim (first_or_later first names name here.0 here.1 here.2) [
  | inl same ↦ is_first (Marked scope first) (list_map (Marked scope) names) (Marked scope name) (ap (λ n. Marked scope n) same)
  | inr later ↦ is_later (Marked scope first) (list_map (Marked scope) names) (Marked scope name) (among_marked scope names name later)
]

module _ (scope : Scope) (t : Entries) (named : Names) where
  -- the keys by which links are asked for, and by which their paths are looked at
  abbrev pub asked_keys : List Key
  asked_keys = (links_removed scope named).keys t

  abbrev pub made_keys : List Key
  made_keys = (taken ((links_removed scope named).conclusion t)).keys t

  pub asked_only : (key : Key) → Contains asked_keys key → (name : List ℕ) × (key ≡ Marked scope name) × Contains named.names name
  asked_only key here = elim (Contains-append_cases (list_map (Marked scope) named.names) [] key here) [
    | inl links ↦ marked_among scope named.names key links
    | inr none ↦ no_key key none
  ]

  pub asked_all : (name : List ℕ) → Contains named.names name → Contains asked_keys (Marked scope name)
  asked_all name here = Contains-append_left (list_map (Marked scope) named.names) [] (Marked scope name) (among_marked scope named.names name here)

  -- the links that go
  abbrev gone : Entries
  gone = those (any_selects (list_map (Marked scope) named.names)) t

  stands : (path : List ℕ) (link : Option (List ℕ)) → map.get (cleared gone) path ≡ Some link
      → (entry : Entry) × (map.get t path ≡ Some entry) × (is_marked scope path entry named.names ≡ true)
  stands path link at = by_entry (map.get t path) refl (ap bare_of (sym (get-those (any_selects (list_map (Marked scope) named.names)) t path)) ∙ sym (get-cleared gone path) ∙ at)
    where
      by_entry : (there : Option Entry) → map.get t path ≡ there → bare_of (chosen_at (any_selects (list_map (Marked scope) named.names)) path there) ≡ Some link
          → (entry : Entry) × (map.get t path ≡ Some entry) × (is_marked scope path entry named.names ≡ true)
      by_entry None is chosen = cc
      by_entry (Some entry) is chosen = elim (cases_Bool (is_marked scope path entry named.names)) [
        | inl marked ↦ (entry, is, marked)
        | inr other ↦ (let none : None ≡ Some link = rw other at chosen in cc)
      ]

  goes : (path : List ℕ) (entry : Entry) → map.get t path ≡ Some entry → is_marked scope path entry named.names ≡ true → map.get (cleared gone) path ≡ Some None
  goes path entry is marked =
      get-cleared gone path ∙ ap bare_of (get-those (any_selects (list_map (Marked scope) named.names)) t path ∙ ap (chosen_at (any_selects (list_map (Marked scope) named.names)) path) is)
      ∙ ap (λ b. bare_of (cond b (Some entry) None)) marked

  -- a link belongs to one of the names
  abbrev pub IsLinkOfOne : (path : List ℕ) → Entry → Type 0
  IsLinkOfOne path entry = (name : List ℕ) × Contains named.names name × (belongs scope name path entry ≡ true)

  pub made_only : (key : Key) → Contains made_keys key → (path : List ℕ) × (entry : Entry) × (key ≡ Cell path) × (map.get t path ≡ Some entry) × IsLinkOfOne path entry
  made_only key here =
      let at = cell_among (map.keys (cleared gone)) key here in
      let link = have_key (cleared gone) at.0 at.2 in
      let there = stands at.0 link.0 link.1 in
      (at.0, there.0, at.1, there.1, marked_by scope at.0 there.0 named.names there.2)

  pub made_all : (path : List ℕ) (entry : Entry) → map.get t path ≡ Some entry → IsLinkOfOne path entry → Contains made_keys (Cell path)
  made_all path entry there of_one =
      among_cells (map.keys (cleared gone)) path (keys_have (cleared gone) path None (goes path entry there (marks scope path entry named.names of_one.0 of_one.1 of_one.2)))
