-- Links that are wanted all at once.
use Rattle.std.proofs.Common.{◌≡◌, ℕ, Bool, true, false, cond, T, List, [], ◌∷◌, ◌⊎◌, Option, Some, None, Result, Ok, Err, refl, sym, ap, subst, ◌∙◌, inl, inr}
use Rattle.std.specs.FinMap as map
use Rattle.std.specs.FinMap.{find, is_sorted}
use Rattle.std.specs.FinMap.Entries.{below_all}
use Rattle.std.specs.Ordering.{is_le, ordering_reverse}
use Rattle.std.specs.declared.cmp.Ordering.TheVariants.{Less}
use Rattle.std.specs.Cmp.{tied_itself}
use Rattle.std.specs.Cmp.Lexicographic.{nat_list_cmp_total}
use Rattle.std.proofs.lemmas.Bool.{cases_Bool, false≢true}
use Rattle.link_tree.specs.declared.entry.Entry.{Entry}
use Rattle.link_tree.specs.Trees.{path_cmp, Entries, set_entry}
use Rattle.link_tree.proofs.Changed.{is_at, get-set_entry}
use Rattle.link_tree.proofs.Keys.{same-found}
use Rattle.link_tree.proofs.Maps.{first, second, less, none_some, none_below, found_later}
use Rattle.link_tree.proofs.Shapes.{same_key}
use Rattle.tree_access.specs.declared.refusal.Refusal.{Refusal}
use Rattle.footprint.specs.Laws.{IsRefusedAt, RefusedAtTheLeast, IsLeft, LeftAllAtOnce}
use Rattle.tree_access.specs.Placing.{Placed, Ruling, Wanted, placed_in, ruled_at, placed_before, concluded_after, wanted_at, all_wanted}

-- a path, and what is wanted there
abbrev pub Link : Type 0
Link = List ℕ × Option (List ℕ)

-- what the rule leaves at one of the paths
abbrev pub ruling_at : Entries → Link → Result (Option Entry) Refusal
ruling_at t link = wanted_at link.1 link.0 (map.get t link.0)

-- whether a path is less than or equal to another
abbrev upto : List ℕ → List ℕ → Bool
upto path other = is_le (path_cmp path other)

upto_itself : (path : List ℕ) → upto path path ≡ true
upto_itself path = ap is_le (tied_itself nat_list_cmp_total path)

upto_below : (path other : List ℕ) → path_cmp path other ≡ Less → upto path other ≡ true
upto_below path other is = ap is_le is

not_upto : (path other : List ℕ) → path_cmp path other ≡ Less → upto other path ≡ false
not_upto path other is = ap is_le (nat_list_cmp_total.antisymm other path ∙ ap ordering_reverse is)

-- a path found among links that are all greater than a path is greater than it
below_found : (path : List ℕ) (links : List Link) (other : List ℕ) (wanted : Option (List ℕ)) → T (below_all path_cmp path links) → find path_cmp other links ≡ Some wanted → path_cmp path other ≡ Less
below_found path [] other wanted below found = none_some wanted found
below_found path (link ∷ links) other wanted below found = elim (cases_Bool (is_at other link.0)) [
  | inl here ↦ ap (path_cmp path) (same_key other link.0 here) ∙ less (path_cmp path link.0) (first _ _ below)
  | inr away ↦ below_found path links other wanted (second _ _ below) (sym (ap (λ b. cond b (Some link.1) (find path_cmp other links)) away) ∙ found)
]

module _ (t : Entries) where
  -- something is in the way of one of these links
  abbrev IsInTheWay : List Link → List ℕ → Refusal → Type 0
  IsInTheWay links path refusal = (wanted : Option (List ℕ)) × (find path_cmp path links ≡ Some wanted) × (wanted_at wanted path (map.get t path) ≡ Err refusal)

  abbrev IsLeast : List Link → Refusal → Type 0
  IsLeast links refusal = (path : List ℕ) × IsInTheWay links path refusal × ((other : List ℕ) (why : Refusal) → IsInTheWay links other why → upto path other ≡ true)

  -- what is in the way of one of the links is in the way of the first or of one of the rest
  in_the_way : (link : Link) (links : List Link) (path : List ℕ) (refusal : Refusal) → IsInTheWay (link ∷ links) path refusal
      → ((path ≡ link.0) × (ruling_at t link ≡ Err refusal)) ⊎ IsInTheWay links path refusal
  in_the_way link links path refusal way = elim (cases_Bool (is_at path link.0)) [
    | inl here ↦ (
        let at = same_key path link.0 here in
        let same : Some link.1 ≡ Some way.0 = sym (ap (λ b. cond b (Some link.1) (find path_cmp path links)) here) ∙ way.1 in
        let wanted : link.1 ≡ way.0 = cc in
        inl (at, (λ i. wanted_at (wanted i) (sym at i) (map.get t (sym at i))) ∙ way.2))
    | inr away ↦ inr (way.0, sym (ap (λ b. cond b (Some link.1) (find path_cmp path links)) away) ∙ way.1, way.2)
  ]

  later_way : (link : Link) (links : List Link) (path : List ℕ) (refusal : Refusal) → T (below_all path_cmp link.0 links) → IsInTheWay links path refusal → IsInTheWay (link ∷ links) path refusal
  later_way link links path refusal below way = (way.0, found_later link links path way.0 below way.1, way.2)

  first_way : (link : Link) (links : List Link) (refusal : Refusal) → ruling_at t link ≡ Err refusal → IsInTheWay (link ∷ links) link.0 refusal
  first_way link links refusal is = (link.1, ap (λ b. cond b (Some link.1) (find path_cmp link.0 links)) (same-found link.0), is)

  err_ok : {P : Type 0} (why : Refusal) (entry : Option Entry) → Err why ≡ Ok entry → P
  err_ok why entry h = cc

  later_refused : (link : Link) (entry : Option Entry) (refusal : Refusal) (ruling : Ruling) → placed_before ((link.0, entry) ∷ []) ruling ≡ Err refusal → ruling ≡ Err refusal
  later_refused link entry refusal (Ok placed) h = cc
  later_refused link entry refusal (Err other) h = h

  -- the result of all links, given the result of the first
  abbrev after_first : Link → List Link → Result (Option Entry) Refusal → Ruling
  after_first link links r = concluded_after (ruled_at link.0 r) (λ left. all_wanted links t) t

  least_of : (link : Link) (links : List Link) (refusal : Refusal) → T (is_sorted path_cmp (link ∷ links)) → (all_wanted links t ≡ Err refusal → IsLeast links refusal)
      → (r : Result (Option Entry) Refusal) → ruling_at t link ≡ r → after_first link links r ≡ Err refusal → IsLeast (link ∷ links) refusal
  least_of link links refusal order rest (Err other) at is =
      let same : other ≡ refusal = cc in (
        link.0,
        first_way link links refusal (at ∙ ap (λ (e : Refusal). Err e) same),
        λ path why way. elim (in_the_way link links path why way) [
          | inl here ↦ ap (upto link.0) here.0 ∙ upto_itself link.0
          | inr later ↦ upto_below link.0 path (below_found link.0 links path later.0 (first _ _ order) later.1)
        ],
      )
  least_of link links refusal order rest (Ok entry) at is =
      let later = rest (later_refused link entry refusal (all_wanted links t) is) in (
        later.0,
        later_way link links later.0 refusal (first _ _ order) later.1,
        λ path why way. elim (in_the_way link links path why way) [
          | inl here ↦ err_ok why entry (sym here.1 ∙ at)
          | inr behind ↦ later.2 path why behind
        ],
      )

  refused_least : (links : List Link) (refusal : Refusal) → T (is_sorted path_cmp links) → all_wanted links t ≡ Err refusal → IsLeast links refusal
  refused_least [] refusal order is = cc
  refused_least (link ∷ links) refusal order is = least_of link links refusal order (refused_least links refusal (second _ _ order)) (ruling_at t link) refl is

  refused_of : (link : Link) (links : List Link) (refusal : Refusal) → T (is_sorted path_cmp (link ∷ links)) → IsLeast (link ∷ links) refusal → (IsLeast links refusal → all_wanted links t ≡ Err refusal)
      → (r : Result (Option Entry) Refusal) → ruling_at t link ≡ r → after_first link links (ruling_at t link) ≡ Err refusal
  refused_of link links refusal order least rest (Err other) at = elim (in_the_way link links least.0 refusal least.1) [
    | inl here ↦ ap (after_first link links) here.1
    | inr later ↦ absurd (false≢true (sym (not_upto link.0 least.0 (below_found link.0 links least.0 later.0 (first _ _ order) later.1)) ∙ least.2 link.0 other (first_way link links other at)))
  ]
  refused_of link links refusal order least rest (Ok entry) at = elim (in_the_way link links least.0 refusal least.1) [
    | inl here ↦ err_ok refusal entry (sym here.1 ∙ at)
    | inr later ↦ ap (after_first link links) at ∙ ap (placed_before ((link.0, entry) ∷ []))
        (rest (least.0, later, λ path why way. least.2 path why (later_way link links path why (first _ _ order) way)))
  ]

  least_refused : (links : List Link) (refusal : Refusal) → T (is_sorted path_cmp links) → IsLeast links refusal → all_wanted links t ≡ Err refusal
  least_refused [] refusal order least = none_some least.1.0 least.1.1
  least_refused (link ∷ links) refusal order least = refused_of link links refusal order least (least_refused links refusal (second _ _ order)) (ruling_at t link) refl

  -- the entry at a path: what the wanted link there leaves, given what was there first, or what is
  -- there now
  abbrev IsLeftOn : (wanted : Option (Option (List ℕ))) → List ℕ → (first now after : Option Entry) → Type 0
  IsLeftOn None path first now after = after ≡ now
  IsLeftOn (Some wanted) path first now after = wanted_at wanted path first ≡ Ok after

  -- after the first of the links is made, and then the rest
  module _ (link : Link) (links : List Link) (path : List ℕ) (order : T (is_sorted path_cmp (link ∷ links))) (u : Entries) (entry : Option Entry) (at : ruling_at t link ≡ Ok entry) (more : List Placed) where
    abbrev set : Entries
    set = set_entry u link.0 entry

    abbrev found_is : Bool → Option (Option (List ℕ))
    found_is b = cond b (Some link.1) (find path_cmp path links)

    abbrev IsSo : Bool → Type 0
    IsSo b = IsLeftOn (found_is b) path (map.get t path) (map.get u path) (map.get (placed_in more set) path)

    module _ (later : IsLeftOn (find path_cmp path links) path (map.get t path) (map.get set path) (map.get (placed_in more set) path)) where
      at_link : is_at path link.0 ≡ true → IsSo true
      at_link here =
          let key = same_key path link.0 here in
          let none : find path_cmp path links ≡ None = ap (λ p. find path_cmp p links) key ∙ none_below link.0 links (first _ _ order) in
          let kept : map.get (placed_in more set) path ≡ map.get set path = subst (λ found. IsLeftOn found path (map.get t path) (map.get set path) (map.get (placed_in more set) path)) none later in
          let entry_is : map.get (placed_in more set) path ≡ entry = kept ∙ get-set_entry u link.0 entry path ∙ ap (λ b. cond b entry (map.get u path)) here in
          (λ i. wanted_at link.1 (key i) (map.get t (key i))) ∙ at ∙ ap (λ (o : Option Entry). Ok o) (sym entry_is)

      off_link : is_at path link.0 ≡ false → IsSo false
      off_link away =
          let now : map.get set path ≡ map.get u path = get-set_entry u link.0 entry path ∙ ap (λ b. cond b entry (map.get u path)) away in
          subst (λ o. IsLeftOn (find path_cmp path links) path (map.get t path) o (map.get (placed_in more set) path)) now later

      by_path : IsSo (is_at path link.0)
      by_path = elim (cases_Bool (is_at path link.0)) [
        | inl here ↦ subst IsSo (sym here) (at_link here)
        | inr away ↦ subst IsSo (sym away) (off_link away)
      ]

  left_of : (link : Link) (links : List Link) (placed : List Placed) (u : Entries) (path : List ℕ) → T (is_sorted path_cmp (link ∷ links))
      → ((more : List Placed) (v : Entries) → all_wanted links t ≡ Ok more → IsLeftOn (find path_cmp path links) path (map.get t path) (map.get v path) (map.get (placed_in more v) path))
      → (r : Result (Option Entry) Refusal) → ruling_at t link ≡ r → (ruling : Ruling) → all_wanted links t ≡ ruling → concluded_after (ruled_at link.0 r) (λ left. ruling) t ≡ Ok placed
      → IsLeftOn (find path_cmp path (link ∷ links)) path (map.get t path) (map.get u path) (map.get (placed_in placed u) path)
  left_of link links placed u path order rest (Err refusal) at ruling is h = cc
  left_of link links placed u path order rest (Ok entry) at (Err refusal) is h = cc
  left_of link links placed u path order rest (Ok entry) at (Ok more) is h =
      let same : (link.0, entry) ∷ more ≡ placed = cc in
      subst (λ (ps : List Placed). IsLeftOn (find path_cmp path (link ∷ links)) path (map.get t path) (map.get u path) (map.get (placed_in ps u) path)) same
      (by_path link links path order u entry at more (rest more (set_entry u link.0 entry) is))

  left_each : (links : List Link) (placed : List Placed) (u : Entries) (path : List ℕ) → T (is_sorted path_cmp links) → all_wanted links t ≡ Ok placed
      → IsLeftOn (find path_cmp path links) path (map.get t path) (map.get u path) (map.get (placed_in placed u) path)
  left_each [] placed u path order is =
      let none : [] ≡ placed = cc in
      ap (λ (ps : List Placed). map.get (placed_in ps u) path) (sym none)
  left_each (link ∷ links) placed u path order is =
      left_of link links placed u path order (λ more v here. left_each links more v path (second _ _ order) here) (ruling_at t link) refl (all_wanted links t) refl is

-- if something is in the way of a wanted link, it is in the way of a link in the list
way_listed : (wanted : Wanted) (t : Entries) (path : List ℕ) (refusal : Refusal) → IsRefusedAt wanted t path refusal → IsInTheWay t (map.entries wanted) path refusal
way_listed wanted t path refusal way = (way.0, sym (map.get-entries wanted path) ∙ way.1, way.2)

way_wanted : (wanted : Wanted) (t : Entries) (path : List ℕ) (refusal : Refusal) → IsInTheWay t (map.entries wanted) path refusal → IsRefusedAt wanted t path refusal
way_wanted wanted t path refusal way = (way.0, map.get-entries wanted path ∙ way.1, way.2)

pub refused_at_the_least : RefusedAtTheLeast
refused_at_the_least wanted t refusal = (
  λ is. let least = refused_least t (map.entries wanted) refusal (map.entries_sorted wanted) is in
      (least.0, way_wanted wanted t least.0 refusal least.1, λ path why way. least.2 path why (way_listed wanted t path why way)),
  λ least. least_refused t (map.entries wanted) refusal (map.entries_sorted wanted)
      (least.0, way_listed wanted t least.0 refusal least.1, λ path why way. least.2 path why (way_wanted wanted t path why way)),
)

pub left_all_at_once : LeftAllAtOnce
left_all_at_once wanted t placed is path = by_found (map.get wanted path) (subst (λ found. IsLeftOn t found path (map.get t path) (map.get t path) (map.get (placed_in placed t) path)) (sym (map.get-entries wanted path)) (left_each t (map.entries wanted) placed t path (map.entries_sorted wanted) is))
  where
    by_found : (found : Option (Option (List ℕ))) → IsLeftOn t found path (map.get t path) (map.get t path) (map.get (placed_in placed t) path) → IsLeft found path (map.get t path) (map.get (placed_in placed t) path)
    by_found None h = h
    by_found (Some link) h = h
