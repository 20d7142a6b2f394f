-- Which slots win, whatever the order in which a tree's entries are read.
use Rattle.std.proofs.Common.{◌≡◌, ℕ, Bool, true, false, cond, List, [], ◌∷◌, ◌++◌, All, Contains, Option, Some, None, refl, sym, ap, ◌∙◌, subst, inl, inr, map as list_map}
use Rattle.std.specs.Prelude.{IsPermutation, is_some, if◌then◌else◌}
use Rattle.std.specs.List.{filter, list_any}
use Rattle.std.specs.Option.{option_or}
use Rattle.std.specs.Str.{bytes_eq}
use Rattle.std.specs.Ordering.{eq_by_cmp}
use Rattle.std.specs.Cmp.Lexicographic.{nat_list_cmp_total}
use Rattle.std.specs.FinMap as map
use Rattle.std.proofs.lemmas.Bool.{cases_Bool, and_parts}
use Rattle.std.proofs.lemmas.List.Elements.{All-head, All-nil, All-cons, All-contains, All-weaker, All-map, Contains-append_right, All-contains_itself}
use Rattle.std.proofs.lemmas.List.Sorted.{All-permutation, Contains-permutation, IsPermutation-sym}
use Rattle.std.proofs.lemmas.Map.Lookups.{exact_bytes}
use Rattle.std.proofs.lemmas.Slice.Eq.{bytes_eq-Decides}
use Rattle.link_tree.specs.declared.entry.Entry.{Entry}
use Rattle.link_tree.specs.Trees.{path_cmp, Entries}
use Rattle.link_tree.proofs.Changed.{at_bytes}
use Rattle.link_tree.proofs.Maps.{all_standing, all_listed}
use Rattle.unit_paths.specs.declared.place.Place.{Place}
use Rattle.unit_paths.specs.declared.place.Place.TheVariants.{Etc, Run, Local, Vendor}
use Rattle.unit_paths.specs.Places.{preset_directory, unit_directory}
use Rattle.unit_paths.specs.Paths.{parent, name_at, is_slash}
use Rattle.unit_paths.specs.Slots.{slot_of}
use Rattle.unit_paths.proofs.Slashes.{last_slash, parent-none}
use Rattle.preset_rules.specs.Files.{presets_of, is_in, named_in, in_order, Winners, winners}
use Rattle.unit_paths.specs.Kinds.{is_preset}
use Rattle.preset_rules.specs.WinnerSteps.{with_path}

-- an entry with its path
abbrev pub Standing : Type 0
Standing = List ℕ × Entry

abbrev pub added : Place → Winners → List Standing → Winners
added place found [] = found
added place found (x ∷ xs) = added place (if is_in place x.0 then with_path found x.0 else found) xs

abbrev paths_of : List Standing → List (List ℕ)
paths_of xs = list_map (λ x. x.0) xs

-- a path in a directory is the directory with its name
some_directory : (place : Place) → preset_directory place ≡ [] → ⊥
unfolding unit_directory
some_directory Etc h = cc
some_directory Run h = cc
some_directory Local h = cc
some_directory Vendor h = cc

pub spelled_in : (place : Place) (path : List ℕ) → is_in place path ≡ true → path ≡ preset_directory place ++ 47 ∷ name_at path
spelled_in place path here =
    let dir : parent path ≡ preset_directory place = (bytes_eq-Decides (parent path) (preset_directory place)).0 (and_parts (bytes_eq (parent path) (preset_directory place)) (is_preset (slot_of path)) here).0 in
    elim (cases_Bool (list_any is_slash path)) [
      | inl some ↦ (last_slash path some).is ∙ ap (λ d. d ++ 47 ∷ name_at path) dir
      | inr none ↦ absurd (some_directory place (sym dir ∙ parent-none path none))
    ]

pub same_in : (place : Place) (one other : List ℕ) → is_in place one ≡ true → is_in place other ≡ true → name_at one ≡ name_at other → one ≡ other
same_in place one other here there name = spelled_in place one here ∙ ap (λ n. preset_directory place ++ 47 ∷ n) name ∙ sym (spelled_in place other there)

module _ (place : Place) (name : List ℕ) where
  abbrev pub found : List (List ℕ) → Option (List ℕ)
  found xs = map.find path_cmp name (named_in place xs)

  pub found_skips : (x : List ℕ) (xs : List (List ℕ)) → is_in place x ≡ false → found (x ∷ xs) ≡ found xs
  found_skips x xs away = ap (λ b. map.find path_cmp name (list_map (λ path. (name_at path, path)) (cond b (x ∷ filter (is_in place) xs) (filter (is_in place) xs)))) away

  pub found_on : (x : List ℕ) (xs : List (List ℕ)) → is_in place x ≡ true → found (x ∷ xs) ≡ cond (bytes_eq name (name_at x)) (Some x) (found xs)
  found_on x xs here =
      ap (λ b. map.find path_cmp name (list_map (λ path. (name_at path, path)) (cond b (x ∷ filter (is_in place) xs) (filter (is_in place) xs)))) here
      ∙ ap (λ b. cond b (Some x) (found xs)) (at_bytes name (name_at x))

  -- A slot that is found is in the list,
  pub found_is : (xs : List (List ℕ)) (p : List ℕ) → found xs ≡ Some p → Contains xs p × (is_in place p ≡ true) × (name_at p ≡ name)
  found_is [] p is = cc
  found_is (x ∷ xs) p is = elim (cases_Bool (is_in place x)) [
    | inl here ↦ elim (cases_Bool (bytes_eq name (name_at x))) [
      | inl same ↦ (let this : Some x ≡ Some p = sym (found_on x xs here ∙ ap (λ b. cond b (Some x) (found xs)) same) ∙ is in
          let at : x ≡ p = cc in
          (subst (Contains (x ∷ xs)) at (All-head (Contains (x ∷ xs)) x xs (All-contains_itself (x ∷ xs))), subst (λ q. is_in place q ≡ true) at here, subst (λ q. name_at q ≡ name) at (sym ((bytes_eq-Decides name (name_at x)).0 same))))
      | inr other ↦ (let rest = found_is xs p (sym (found_on x xs here ∙ ap (λ b. cond b (Some x) (found xs)) other) ∙ is) in
          (Contains-append_right (x ∷ []) xs p rest.0, rest.1, rest.2))
    ]
    | inr away ↦ (let rest = found_is xs p (sym (found_skips x xs away) ∙ is) in
        (Contains-append_right (x ∷ []) xs p rest.0, rest.1, rest.2))
  ]

  none_is : (xs : List (List ℕ)) → found xs ≡ None → All (λ p. is_in place p ≡ true → name_at p ≡ name → ⊥) xs
  none_is [] is = All-nil (λ p. is_in place p ≡ true → name_at p ≡ name → ⊥)
  none_is (x ∷ xs) is = All-cons (λ p. is_in place p ≡ true → name_at p ≡ name → ⊥) x xs
      (λ here at. (let same = (bytes_eq-Decides name (name_at x)).1 (sym at) in let some = sym (found_on x xs here ∙ ap (λ b. cond b (Some x) (found xs)) same) ∙ is in cc))
      (none_is xs (elim (cases_Bool (is_in place x)) [
        | inl here ↦ elim (cases_Bool (bytes_eq name (name_at x))) [
          | inl same ↦ (let some = sym (found_on x xs here ∙ ap (λ b. cond b (Some x) (found xs)) same) ∙ is in cc)
          | inr other ↦ sym (found_on x xs here ∙ ap (λ b. cond b (Some x) (found xs)) other) ∙ is
        ]
        | inr away ↦ sym (found_skips x xs away) ∙ is
      ]))

  -- and a slot that is in the list is found.
  pub found_if : (xs : List (List ℕ)) (p : List ℕ) → Contains xs p → is_in place p ≡ true → name_at p ≡ name → found xs ≡ Some p
  found_if xs p among here at = by_found (found xs) refl
    where
      by_found : (o : Option (List ℕ)) → found xs ≡ o → found xs ≡ Some p
      by_found None is = absurd (All-contains (λ p. is_in place p ≡ true → name_at p ≡ name → ⊥) xs p (none_is xs is) among here at)
      by_found (Some q) is = (let facts = found_is xs q is in is ∙ ap Some (same_in place q p facts.1 here (facts.2 ∙ sym at)))

  pub same_found : (xs ys : List (List ℕ)) → ((p : List ℕ) → is_in place p ≡ true → Contains xs p → Contains ys p) → ((p : List ℕ) → is_in place p ≡ true → Contains ys p → Contains xs p) → found xs ≡ found ys
  same_found xs ys there back = by_found (found xs) refl
    where
      by_other : (o : Option (List ℕ)) → found xs ≡ None → found ys ≡ o → None ≡ found ys
      by_other None none is = sym is
      by_other (Some q) none is = (let facts = found_is ys q is in let some = found_if xs q (back q facts.1 facts.0) facts.1 facts.2 in let gone = sym none ∙ some in cc)

      by_found : (o : Option (List ℕ)) → found xs ≡ o → found xs ≡ found ys
      by_found None is = is ∙ by_other (found ys) is refl
      by_found (Some q) is = (let facts = found_is xs q is in is ∙ sym (found_if ys q (there q facts.1 facts.0) facts.1 facts.2))

or_none : (o : Option (List ℕ)) → option_or o None ≡ o
or_none None = refl
or_none (Some x) = refl

or_later : (o : Option (List ℕ)) (b : Bool) (x : List ℕ) (rest : Option (List ℕ)) → option_or (option_or o (cond b (Some x) None)) rest ≡ option_or o (cond b (Some x) rest)
or_later None true x rest = refl
or_later None false x rest = refl
or_later (Some y) b x rest = refl

-- adding one slot after another, each only if no other has its name yet
get-with_path : (m : Winners) (path name : List ℕ) → map.get (with_path m path) name ≡ option_or (map.get m name) (cond (bytes_eq name (name_at path)) (Some path) None)
get-with_path m path name = by_there (map.get m (name_at path)) refl
  where
    with_is : (o : Option (List ℕ)) → map.get m (name_at path) ≡ o → with_path m path ≡ cond (is_some o) m (map.insert m (name_at path) path)
    with_is o is = ap (λ (o : Option (List ℕ)). cond (is_some o) m (map.insert m (name_at path) path)) is

    same_name : bytes_eq name (name_at path) ≡ true → map.get m name ≡ map.get m (name_at path)
    same_name same = ap (map.get m) ((bytes_eq-Decides name (name_at path)).0 same)

    by_there : (o : Option (List ℕ)) → map.get m (name_at path) ≡ o → map.get (with_path m path) name ≡ option_or (map.get m name) (cond (bytes_eq name (name_at path)) (Some path) None)
    by_there None none =
        ap (λ w. map.get w name) (with_is None none) ∙ map.get-insert nat_list_cmp_total m (name_at path) path name
        ∙ ap (λ b. cond b (Some path) (map.get m name)) (at_bytes name (name_at path))
        ∙ elim (cases_Bool (bytes_eq name (name_at path))) [
          | inl same ↦ ap (λ b. cond b (Some path) (map.get m name)) same ∙ sym (ap (λ b. option_or (map.get m name) (cond b (Some path) None)) same ∙ ap (λ (o : Option (List ℕ)). option_or o (Some path)) (same_name same ∙ none))
          | inr other ↦ ap (λ b. cond b (Some path) (map.get m name)) other ∙ sym (ap (λ b. option_or (map.get m name) (cond b (Some path) None)) other ∙ or_none (map.get m name))
        ]
    by_there (Some p) some =
        ap (λ w. map.get w name) (with_is (Some p) some)
        ∙ elim (cases_Bool (bytes_eq name (name_at path))) [
          | inl same ↦ (same_name same ∙ some) ∙ sym (ap (λ (o : Option (List ℕ)). option_or o (cond (bytes_eq name (name_at path)) (Some path) None)) (same_name same ∙ some))
          | inr other ↦ sym (ap (λ b. option_or (map.get m name) (cond b (Some path) None)) other ∙ or_none (map.get m name))
        ]

get-added : (place : Place) (m : Winners) (xs : List Standing) (name : List ℕ) → map.get (added place m xs) name ≡ option_or (map.get m name) (map.find path_cmp name (named_in place (paths_of xs)))
get-added place m [] name = sym (or_none (map.get m name))
get-added place m (x ∷ xs) name = elim (cases_Bool (is_in place x.0)) [
  | inl here ↦
      ap (λ b. map.get (added place (cond b (with_path m x.0) m) xs) name) here
      ∙ get-added place (with_path m x.0) xs name
      ∙ ap (λ (o : Option (List ℕ)). option_or o (found place name (paths_of xs))) (get-with_path m x.0 name)
      ∙ or_later (map.get m name) (bytes_eq name (name_at x.0)) x.0 (found place name (paths_of xs))
      ∙ sym (ap (option_or (map.get m name)) (found_on place name x.0 (paths_of xs) here))
  | inr away ↦
      ap (λ b. map.get (added place (cond b (with_path m x.0) m) xs) name) away
      ∙ get-added place m xs name
      ∙ sym (ap (option_or (map.get m name)) (found_skips place name x.0 (paths_of xs) away))
]

-- the entries at preset slots
pub get-presets : (t : Entries) (path : List ℕ) → map.get (presets_of t) path ≡ cond (is_preset (slot_of path)) (map.get t path) None
unfolding presets_of
get-presets t path = map.get-retain_keys t (λ p. is_preset (slot_of p)) path (λ x same. ap (λ p. is_preset (slot_of p)) (sym (exact_bytes path x same)))

paths_have : (es : List Standing) → All (λ (y : Standing). Contains (paths_of es) y.0) es
paths_have [] = All-nil (λ (y : Standing). Contains (paths_of []) y.0)
paths_have (x ∷ es) =
    All-cons (λ (y : Standing). Contains (paths_of (x ∷ es)) y.0) x es (All-head (Contains (x.0 ∷ paths_of es)) x.0 (paths_of es) (All-contains_itself (x.0 ∷ paths_of es)))
    (All-weaker (λ (y : Standing). Contains (paths_of es) y.0) (λ (y : Standing). Contains (paths_of (x ∷ es)) y.0) (λ y later. Contains-append_right (x.0 ∷ []) (paths_of es) y.0 later) es (paths_have es))

pub has_path : (es : List Standing) (path : List ℕ) (entry : Entry) → Contains es (path, entry) → Contains (paths_of es) path
has_path es path entry here = All-contains (λ (y : Standing). Contains (paths_of es) y.0) es (path, entry) (paths_have es) here

pub only_some : (b : Bool) (o : Option Entry) (e : Entry) → cond b o None ≡ Some e → o ≡ Some e
only_some true o e is = is
only_some false o e is = cc

-- for the slots of a tree, in any order
pub get-added_all : (place : Place) (m : Winners) (t : Entries) (xs : List Standing) → IsPermutation xs (map.entries t) → (name : List ℕ) → map.get (added place m xs) name ≡ option_or (map.get m name) (map.find path_cmp name (named_in place (map.keys (presets_of t))))
get-added_all place m t xs same name =
    get-added place m xs name ∙ ap (option_or (map.get m name)) (same_found place name (paths_of xs) (map.keys (presets_of t)) there back)
  where
    presets : Entries
    presets = presets_of t

    There : List ℕ → Type 0
    There p = is_in place p ≡ true → Contains (paths_of (map.entries (presets_of t))) p

    standing_there : (x : Standing) → map.get t x.0 ≡ Some x.1 → is_in place x.0 ≡ true → Contains (paths_of (map.entries (presets_of t))) x.0
    standing_there x stands here =
        let slot = (and_parts (bytes_eq (parent x.0) (preset_directory place)) (is_preset (slot_of x.0)) here).1 in
        has_path (map.entries (presets_of t)) x.0 x.1 (all_listed (presets_of t) x.0 x.1 (get-presets t x.0 ∙ ap (λ (b : Bool). cond b (map.get t x.0) None) slot ∙ stands))

    there : (p : List ℕ) → is_in place p ≡ true → Contains (paths_of xs) p → Contains (map.keys (presets_of t)) p
    there p here among =
        let all : All (λ (x : Standing). is_in place x.0 ≡ true → Contains (paths_of (map.entries (presets_of t))) x.0) (map.entries t) =
        All-weaker (λ x. map.get t x.0 ≡ Some x.1) (λ (x : Standing). is_in place x.0 ≡ true → Contains (paths_of (map.entries (presets_of t))) x.0) standing_there (map.entries t) (all_standing t) in
        let mine = All-permutation (λ (x : Standing). is_in place x.0 ≡ true → Contains (paths_of (map.entries (presets_of t))) x.0) (map.entries t) xs (IsPermutation-sym xs (map.entries t) same) all in
        All-contains (λ (p : List ℕ). is_in place p ≡ true → Contains (paths_of (map.entries (presets_of t))) p) (paths_of xs) p
        (All-map (λ (p : List ℕ). is_in place p ≡ true → Contains (paths_of (map.entries (presets_of t))) p) (λ (x : Standing). x.0) xs mine) among here

    standing_back : (x : Standing) → map.get (presets_of t) x.0 ≡ Some x.1 → Contains (paths_of xs) x.0
    standing_back x stands =
        let in_tree = only_some (is_preset (slot_of x.0)) (map.get t x.0) x.1 (sym (get-presets t x.0) ∙ stands) in
        has_path xs x.0 x.1 (Contains-permutation (map.entries t) xs (x.0, x.1) (IsPermutation-sym xs (map.entries t) same) (all_listed t x.0 x.1 in_tree))

    back : (p : List ℕ) → is_in place p ≡ true → Contains (map.keys (presets_of t)) p → Contains (paths_of xs) p
    back p here among =
        let all = All-weaker (λ x. map.get (presets_of t) x.0 ≡ Some x.1) (λ (x : Standing). Contains (paths_of xs) x.0) standing_back (map.entries (presets_of t)) (all_standing (presets_of t)) in
        All-contains (Contains (paths_of xs)) (map.keys (presets_of t)) p (All-map (Contains (paths_of xs)) (λ (x : Standing). x.0) (map.entries (presets_of t)) all) among

find-append : (es fs : List (List ℕ × List ℕ)) (q : List ℕ) → map.find path_cmp q (es ++ fs) ≡ option_or (map.find path_cmp q es) (map.find path_cmp q fs)
find-append [] fs q = refl
find-append (e ∷ es) fs q = elim (eq_by_cmp path_cmp q e.0) as (λ b. cond b (Some e.1) (map.find path_cmp q (es ++ fs)) ≡ option_or (cond b (Some e.1) (map.find path_cmp q es)) (map.find path_cmp q fs)) [
  | true ↦ refl
  | false ↦ find-append es fs q
]

-- the slot that wins a name, by the directories
pub get-winners : (presets : Entries) (name : List ℕ) → map.get (winners presets) name
    ≡ option_or (option_or (map.find path_cmp name (named_in Etc (map.keys presets))) (map.find path_cmp name (named_in Run (map.keys presets)))) (map.find path_cmp name (named_in Vendor (map.keys presets)))
unfolding winners
get-winners presets name =
    let ks = map.keys presets in
    map.get-from_entries nat_list_cmp_total (in_order ks) name
    ∙ find-append (named_in Etc ks ++ named_in Run ks) (named_in Vendor ks) name
    ∙ ap (λ (o : Option (List ℕ)). option_or o (map.find path_cmp name (named_in Vendor ks))) (find-append (named_in Etc ks) (named_in Run ks) name)

pub winners_are : (presets : Entries) (one two three : Winners)
    → ((name : List ℕ) → map.get one name ≡ option_or (map.get (map.empty {R = path_cmp}) name) (map.find path_cmp name (named_in Etc (map.keys presets))))
    → ((name : List ℕ) → map.get two name ≡ option_or (map.get one name) (map.find path_cmp name (named_in Run (map.keys presets))))
    → ((name : List ℕ) → map.get three name ≡ option_or (map.get two name) (map.find path_cmp name (named_in Vendor (map.keys presets))))
    → three ≡ winners presets
winners_are presets one two three first second third = map.same_map nat_list_cmp_total exact_bytes three (winners presets) (λ name.
    third name
    ∙ ap (λ (o : Option (List ℕ)). option_or o (map.find path_cmp name (named_in Vendor (map.keys presets)))) (second name ∙ ap (λ (o : Option (List ℕ)). option_or o (map.find path_cmp name (named_in Run (map.keys presets)))) (first name ∙ ap (λ (o : Option (List ℕ)). option_or o (map.find path_cmp name (named_in Etc (map.keys presets)))) (map.get-empty path_cmp name)))
    ∙ sym (get-winners presets name))
