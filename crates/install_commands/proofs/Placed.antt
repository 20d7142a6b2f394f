-- The tree after links were made or removed all at once.
use Rattle.std.proofs.Common.{◌≡◌, ℕ, true, cond, T, List, [], ◌∷◌, map as list_map, ◌⊎◌, Option, Some, None, Ok, Err, refl, sym, ap, ◌∙◌, inl, inr}
use Rattle.std.specs.FinMap as map
use Rattle.std.specs.FinMap.{find, is_sorted, get-from_entries}
use Rattle.std.specs.Cmp.Lexicographic.{nat_list_cmp_total}
use Rattle.std.proofs.lemmas.Bool.{cases_Bool, false≢true}
use Rattle.std.specs.FinMap.Entries.{same_entries}
use Rattle.std.proofs.lemmas.Map.Lookups.{exact_bytes}
use Rattle.unit_file.specs.Notices.{NoticeMap}
use Rattle.unit_paths.specs.Canonical.{canonical}
use Rattle.link_tree.specs.declared.change.Change.{Change}
use Rattle.link_tree.specs.declared.entry.Entry.{Entry}
use Rattle.link_tree.specs.declared.entry.Entry.TheVariants.{File, Link}
use Rattle.link_tree.specs.Differences.{changes_between}
use Rattle.link_tree.specs.Trees.{path_cmp, Entries, after_changes}
use Rattle.link_tree.proofs.Changed.{is_at, same_bytes, same_tree}
use Rattle.link_tree.proofs.Differences.{differences-same}
use Rattle.link_tree.proofs.Leads.{leads}
use Rattle.link_tree.proofs.Maps.{first, second, none_below}
use Rattle.link_tree.proofs.Shapes.{same_key}
use Rattle.install_section.specs.LinkSlots.{LinkMap}
use Rattle.footprint.specs.declared.answer.Answer.TheVariants.{Done}
use Rattle.tree_access.specs.declared.refusal.Refusal.{Refusal}
use Rattle.tree_access.specs.declared.refusal.Refusal.TheVariants.{Exists}
use Rattle.footprint.specs.Laws.{IsLeft}
use Rattle.tree_access.specs.Placing.{Placed, Ruling, Wanted, placed_in, cleared, wanted_at}
use Rattle.footprint.specs.Commands.{effect}
use Rattle.tree_access.specs.Rules.{is_same_path, leads_alike, link_at}
use Rattle.footprint.specs.Steps.{all_at_once}
use Rattle.footprint.proofs.Wishes.{left_all_at_once}
use Rattle.install_commands.specs.Enable.{with_links, to_stand}

same_path : (one other : Option (List ℕ)) → is_same_path one other ≡ true → one ≡ other
same_path (Some one) (Some other) h = ap (λ path. Some path) (same_bytes one other h)
same_path (Some one) None h = absurd (false≢true h)
same_path None (Some other) h = absurd (false≢true h)
same_path None None h = absurd (false≢true h)

-- applying the changes of what was placed results in the tree with everything placed
pub placed_leads : (t : Entries) (notices : NoticeMap) (placed : List Placed) → after_changes (effect t notices (Ok placed)).changes t ≡ placed_in placed t
placed_leads t notices placed = (leads t (placed_in placed t)).to

-- if the command was accepted, the links were placed
pub accepted : (t : Entries) (told notices : NoticeMap) (ruling : Ruling) → (effect t told ruling).answer ≡ Done notices → (placed : List Placed) × (ruling ≡ Ok placed)
accepted t told notices (Ok placed) is = (placed, refl)
accepted t told notices (Err refusal) is = cc

no_values : map.entries (map.empty {K = List ℕ} {X = Change} {R = path_cmp}) ≡ []
no_values = same_entries path_cmp nat_list_cmp_total exact_bytes (map.entries map.empty) [] (map.entries_sorted map.empty) tt (λ q. sym (map.get-entries map.empty q) ∙ map.get-empty path_cmp q)

-- there are no differences between a tree and itself
pub none_between : (t : Entries) → changes_between t t ≡ []
unfolding changes_between
none_between t = ap (λ m. map.values m) (differences-same t) ∙ ap (list_map (λ e. e.1)) no_values

-- If each wanted link leaves the entry at its path as it is, nothing changes.
module _ (wanted : Wanted) (t : Entries) (told : NoticeMap)
    (stays : (path : List ℕ) (link : Option (List ℕ)) (after : Option Entry) → map.get wanted path ≡ Some link → wanted_at link path (map.get t path) ≡ Ok after → after ≡ map.get t path) where
  same_left : (path : List ℕ) (there : Option Entry) (found : Option (Option (List ℕ))) → map.get wanted path ≡ found → IsLeft found path (map.get t path) there → there ≡ map.get t path
  same_left path there None at left = left
  same_left path there (Some link) at left = stays path link there at left

  pub nothing_changes : (ruling : Ruling) → (all_at_once wanted).conclusion t ≡ ruling → (effect t told ruling).changes ≡ []
  nothing_changes (Ok placed) at =
      let same : placed_in placed t ≡ t = same_tree (placed_in placed t) t (λ path. same_left path (map.get (placed_in placed t) path) (map.get wanted path) refl (left_all_at_once wanted t placed at path)) in
      ap (changes_between t) same ∙ none_between t
  nothing_changes (Err refusal) at = refl

-- which link is wanted, by the file to which it must lead
abbrev pub to_file : Option (List ℕ) → Option (Option (List ℕ))
to_file None = None
to_file (Some file) = Some (Some file)

abbrev or_before : Option (List ℕ) → Option (Option (List ℕ)) → Option (Option (List ℕ))
or_before None there = there
or_before (Some file) there = Some (Some file)

get-with_links : (wanted : Wanted) (links : List (List ℕ × List ℕ)) (path : List ℕ) → T (is_sorted path_cmp links)
    → map.get (with_links wanted links) path ≡ or_before (find path_cmp path links) (map.get wanted path)
get-with_links wanted [] path order = refl
get-with_links wanted (link ∷ links) path order =
    get-with_links (map.insert wanted link.0 (Some link.1)) links path (second _ _ order)
    ∙ ap (or_before (find path_cmp path links)) (map.get-insert nat_list_cmp_total wanted link.0 (Some link.1) path)
    ∙ elim (cases_Bool (is_at path link.0)) [
      | inl here ↦ (
          let none : find path_cmp path links ≡ None = ap (λ p. find path_cmp p links) (same_key path link.0 here) ∙ none_below link.0 links (first _ _ order) in
          ap (λ o. or_before o (cond (is_at path link.0) (Some (Some link.1)) (map.get wanted path))) none
          ∙ ap (λ b. cond b (Some (Some link.1)) (map.get wanted path)) here
          ∙ sym (ap (λ b. or_before (cond b (Some link.1) (find path_cmp path links)) (map.get wanted path)) here))
      | inr away ↦ ap (λ b. or_before (find path_cmp path links) (cond b (Some (Some link.1)) (map.get wanted path))) away
          ∙ sym (ap (λ b. or_before (cond b (Some link.1) (find path_cmp path links)) (map.get wanted path)) away)
    ]

or_none : (file : Option (List ℕ)) → or_before file None ≡ to_file file
or_none None = refl
or_none (Some file) = refl

pub get-to_stand : (links : LinkMap) (path : List ℕ) → map.get (to_stand links) path ≡ to_file (map.get links path)
get-to_stand links path =
    get-with_links map.empty (map.entries links) path (map.entries_sorted links)
    ∙ ap (or_before (find path_cmp path (map.entries links))) (map.get-empty path_cmp path)
    ∙ or_none (find path_cmp path (map.entries links)) ∙ ap to_file (sym (map.get-entries links path))

-- a link is made if nothing is there, and a link with the same target stays
pub link_leaves : (file path : List ℕ) (there after : Option Entry) → link_at file path there ≡ Ok after
    → ((there ≡ None) × (after ≡ Some (Link file))) ⊎ ((text : List ℕ) × (there ≡ Some (Link text)) × (canonical path text ≡ canonical path file) × (after ≡ there))
link_leaves file path None after is = inl (refl, (let same : Ok (Some (Link file)) ≡ Ok after = is in cc))
link_leaves file path (Some (File contents)) after is = cc
link_leaves file path (Some (Link text)) after is = elim (cases_Bool (leads_alike path text file)) [
  | inl alike ↦ (let same : Ok (Some (Link text)) ≡ Ok after = rw alike at is in inr (text, refl, same_path (canonical path text) (canonical path file) alike, cc))
  | inr other ↦ (let refused : Err (Exists path) ≡ Ok after = rw other at is in cc)
]

-- at each path with an entry, no entry is wanted
abbrev pub bare_of : Option Entry → Option (Option (List ℕ))
bare_of None = None
bare_of (Some entry) = Some None

find_bare : (es : List (List ℕ × Entry)) (path : List ℕ) → find path_cmp path (list_map (λ e. (e.0, None)) es) ≡ bare_of (find path_cmp path es)
find_bare [] path = refl
find_bare (e ∷ es) path = elim (cases_Bool (is_at path e.0)) [
  | inl here ↦ ap (λ b. cond b (Some None) (find path_cmp path (list_map (λ e. (e.0, None)) es))) here ∙ sym (ap (λ b. bare_of (cond b (Some e.1) (find path_cmp path es))) here)
  | inr away ↦ ap (λ b. cond b (Some None) (find path_cmp path (list_map (λ e. (e.0, None)) es))) away ∙ find_bare es path ∙ sym (ap (λ b. bare_of (cond b (Some e.1) (find path_cmp path es))) away)
]

pub get-cleared : (t : Entries) (path : List ℕ) → map.get (cleared t) path ≡ bare_of (map.get t path)
unfolding cleared
get-cleared t path = get-from_entries nat_list_cmp_total (list_map (λ e. (e.0, None)) (map.entries t)) path ∙ find_bare (map.entries t) path ∙ ap bare_of (sym (map.get-entries t path))
