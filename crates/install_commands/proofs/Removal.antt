-- The tree after the links of names were removed, except those that are kept.
use Rattle.std.proofs.Common.{◌≡◌, ℕ, Bool, true, false, ◌||◌, cond, List, [], ◌∷◌, map as list_map, ◌⊎◌, ◌↔◌, Contains, Option, Some, None, Result, Ok, Err, refl, sym, ap, subst, ◌∙◌, inl, inr}
use Rattle.std.specs.FinMap as map
use Rattle.std.specs.List.{list_any}
use Rattle.std.specs.Cmp.Lexicographic.{nat_list_cmp_total}
use Rattle.std.proofs.lemmas.Bool.{cases_Bool, false≢true, or_left, or_right}
use Rattle.unit_file.specs.Notices.{NoticeMap}
use Rattle.unit_paths.specs.declared.place.Scope.{Scope}
use Rattle.link_tree.specs.declared.entry.Entry.{Entry}
use Rattle.link_tree.specs.Links.{belongs}
use Rattle.link_tree.specs.Trees.{Entries, after_changes}
use Rattle.link_tree.proofs.Changed.{is_at}
use Rattle.link_tree.proofs.Keys.{same-found}
use Rattle.link_tree.proofs.Maps.{none_some}
use Rattle.link_tree.proofs.Shapes.{same_key}
use Rattle.install_section.proofs.Least.{some_is, is_first, is_later, first_or_later, none_of}
use Rattle.footprint.specs.declared.answer.Answer.TheVariants.{Done, Refused}
use Rattle.tree_access.specs.declared.key.Key.TheVariants.{Marked}
use Rattle.tree_access.specs.declared.refusal.Refusal.{Refusal}
use Rattle.footprint.specs.Commands.{taken, effect}
use Rattle.tree_access.proofs.KeyLaws.{get-those}
use Rattle.tree_access.specs.Keys.{chosen_at, those, any_selects}
use Rattle.footprint.specs.Laws.{IsLeft}
use Rattle.footprint.specs.Operations.{Effect}
use Rattle.tree_access.specs.Placing.{Placed, Ruling, Wanted, placed_in, cleared, wanted_at}
use Rattle.footprint.specs.Steps.{all_at_once}
use Rattle.footprint.proofs.Wishes.{refused_at_the_least, left_all_at_once}
use Rattle.install_commands.specs.declared.disable.Named.{Named}
use Rattle.install_commands.specs.Disable.{but_at, links_removed_but}
use Rattle.install_commands.proofs.Placed.{placed_leads, accepted, nothing_changes, bare_of, get-cleared}

-- whether a path is one of these
abbrev pub is_kept : (kept : List (List ℕ)) → (path : List ℕ) → Bool
is_kept kept path = list_any (is_at path) kept

pub kept_is : (kept : List (List ℕ)) (path : List ℕ) → is_kept kept path ≡ true → Contains kept path
kept_is [] path is = absurd (false≢true is)
kept_is (first ∷ kept) path is = elim (cases_Bool (is_at path first)) [
  | inl here ↦ is_first first kept path (same_key path first here)
  | inr away ↦ is_later first kept path (kept_is kept path (rw away at is))
]

pub is_kept_of : (kept : List (List ℕ)) (path : List ℕ) → Contains kept path → is_kept kept path ≡ true
is_kept_of [] path here = absurd (none_of [] path refl here)
is_kept_of (first ∷ kept) path here = elim (first_or_later first kept path here.0 here.1 here.2) [
  | inl same ↦ or_left (is_at path first) (is_kept kept path) (ap (is_at path) (sym same) ∙ same-found path)
  | inr later ↦ or_right (is_at path first) (is_kept kept path) (is_kept_of kept path later)
]

pub get-but_at : (wanted : Wanted) (kept : List (List ℕ)) (path : List ℕ) → map.get (but_at wanted kept) path ≡ cond (is_kept kept path) None (map.get wanted path)
get-but_at wanted [] path = refl
get-but_at wanted (first ∷ kept) path =
    get-but_at (map.remove wanted first) kept path
    ∙ ap (cond (is_kept kept path) None) (map.get-remove nat_list_cmp_total wanted first path)
    ∙ either (is_at path first) (is_kept kept path)
  where
    either : (here later : Bool) → cond later None (cond here None (map.get wanted path)) ≡ cond (here || later) None (map.get wanted path)
    either true true = refl
    either true false = refl
    either false true = refl
    either false false = refl

module _ (scope : Scope) (path : List ℕ) (entry : Entry) where
  -- whether a link belongs to one of the names
  abbrev pub is_marked : (names : List (List ℕ)) → Bool
  is_marked names = any_selects (list_map (Marked scope) names) path entry

  pub marked_by : (names : List (List ℕ)) → is_marked names ≡ true → (name : List ℕ) × Contains names name × (belongs scope name path entry ≡ true)
  marked_by [] is = absurd (false≢true is)
  marked_by (name ∷ names) is = elim (cases_Bool (belongs scope name path entry)) [
    | inl here ↦ (name, is_first name names name refl, here)
    | inr away ↦ (let later = marked_by names (rw away at is) in (later.0, is_later name names later.0 later.1, later.2))
  ]

  pub marks : (names : List (List ℕ)) (name : List ℕ) → Contains names name → belongs scope name path entry ≡ true → is_marked names ≡ true
  marks [] name here is = absurd (none_of [] name refl here)
  marks (first ∷ names) name here is = elim (first_or_later first names name here.0 here.1 here.2) [
    | inl same ↦ or_left (belongs scope first path entry) _ (subst (λ name. belongs scope name path entry ≡ true) same is)
    | inr later ↦ or_right (belongs scope first path entry) _ (marks names name later is)
  ]

-- The names are known in the tree, and so are the paths that are kept.
module _ (scope : Scope) (kept : Named → List (List ℕ)) (t : Entries) where
  -- the links that belong to one of the names
  abbrev pub gone : Named → Entries
  gone named = those (any_selects (list_map (Marked scope) named.names)) t

  abbrev pub removed : Named → Wanted
  removed named = but_at (cleared (gone named)) (kept named)

  abbrev pub done_by : Result Named Refusal → Effect
  done_by (Ok named) = (taken ((links_removed_but scope (kept named) named).conclusion t)).conclusion t
  done_by (Err refusal) = effect t map.empty (Err refusal)

  get-removed : (named : Named) (path : List ℕ)
      → map.get (removed named) path ≡ cond (is_kept (kept named) path) None (bare_of (chosen_at (any_selects (list_map (Marked scope) named.names)) path (map.get t path)))
  get-removed named path =
      get-but_at (cleared (gone named)) (kept named) path
      ∙ ap (cond (is_kept (kept named) path) None) (get-cleared (gone named) path ∙ ap bare_of (get-those (any_selects (list_map (Marked scope) named.names)) t path))

  -- removals are never refused
  pub removed_refuses : {P : Type 0} (named : Named) (refusal : Refusal) → (all_at_once (removed named)).conclusion t ≡ Err refusal → P
  removed_refuses named refusal is =
      let least = (refused_at_the_least (removed named) t refusal).0 is in
      by_link least.0 (map.get t least.0) (is_kept (kept named) least.0) (map.get (gone named) least.0) least.1.0
      (sym (get-but_at (cleared (gone named)) (kept named) least.0 ∙ ap (cond (is_kept (kept named) least.0) None) (get-cleared (gone named) least.0)) ∙ least.1.1) least.1.2
    where
      by_link : {P : Type 0} (path : List ℕ) (there : Option Entry) (stays : Bool) (entry : Option Entry) (link : Option (List ℕ))
          → cond stays None (bare_of entry) ≡ Some link → wanted_at link path there ≡ Err refusal → P
      by_link path there true entry link at way = cc
      by_link path there false None link at way = cc
      by_link path there false (Some entry) None at way = cc
      by_link path there false (Some entry) (Some file) at way = cc

  -- so the command is refused only if finding the names is
  accepts : (named : Named) (ruling : Ruling) → (all_at_once (removed named)).conclusion t ≡ ruling → (effect t named.notices ruling).answer ≡ Done named.notices
  accepts named (Ok placed) at = refl
  accepts named (Err refusal) at = removed_refuses named refusal at

  pub done_of : (named : Named) → (done_by (Ok named)).answer ≡ Done named.notices
  done_of named = accepts named ((all_at_once (removed named)).conclusion t) refl

  pub refused_of : (refusal : Refusal) (given : Result Named Refusal) → (done_by given).answer ≡ Refused refusal → given ≡ Err refusal
  refused_of refusal (Ok named) is = let both : Done named.notices ≡ Refused refusal = sym (done_of named) ∙ is in cc
  refused_of refusal (Err other) is = let same : other ≡ refusal = cc in ap (λ (r : Refusal). Err r) same

  -- links were removed
  pub record Removed (given : Result Named Refusal) (u : Entries) : Type 0 where
    pub named : Named
    pub are : given ≡ Ok named
    pub placed : List Placed
    pub rules : (all_at_once (removed named)).conclusion t ≡ Ok placed
    pub leaves : u ≡ placed_in placed t

  pub removal : (notices : NoticeMap) (u : Entries) (given : Result Named Refusal) → (done_by given).answer ≡ Done notices → u ≡ after_changes (done_by given).changes t → Removed given u
  removal notices u (Ok named) done is =
      let placed = accepted t named.notices notices ((all_at_once (removed named)).conclusion t) done in
      record {
        named = named;
        are = refl;
        placed = placed.0;
        rules = placed.1;
        leaves = is ∙ ap (λ ruling. after_changes (effect t named.notices ruling).changes t) placed.1 ∙ placed_leads t named.notices placed.0;
      }
  removal notices u (Err refusal) done is = cc

  module _ (given : Result Named Refusal) (u : Entries) (links : Removed given u) where
    abbrev pub names : List (List ℕ)
    names = links.named.names

    abbrev stays : List ℕ → Bool
    stays path = is_kept (kept links.named) path

    -- what is left at a path, by whether it is kept and what was there before
    abbrev IsSo : (path : List ℕ) → Bool → Option Entry → Option Entry → Type 0
    IsSo path keep there after = IsLeft (cond keep None (bare_of (chosen_at (any_selects (list_map (Marked scope) names)) path there))) path there after

    left : (path : List ℕ) → IsSo path (stays path) (map.get t path) (map.get u path)
    left path = subst (λ m. IsSo path (stays path) (map.get t path) (map.get m path)) (sym links.leaves)
        (subst (λ found. IsLeft found path (map.get t path) (map.get (placed_in links.placed t) path)) (get-removed links.named path)
        (left_all_at_once (removed links.named) t links.placed links.rules path))

    none_stays : (path : List ℕ) (keep : Bool) (there after : Option Entry) → there ≡ None → IsSo path keep there after → after ≡ None
    none_stays path true there after none so = so ∙ none
    none_stays path false None after none so = so
    none_stays path false (Some entry) after none so = cc

    kept_stays : (path : List ℕ) (keep : Bool) (there after : Option Entry) → keep ≡ true → IsSo path keep there after → after ≡ there
    kept_stays path true there after is so = so
    kept_stays path false there after is so = absurd (false≢true is)

    marked_goes : (path : List ℕ) (keep : Bool) (entry : Entry) (after : Option Entry) → keep ≡ false → is_marked scope path entry names ≡ true → IsSo path keep (Some entry) after → after ≡ None
    marked_goes path true entry after is marked so = absurd (false≢true (sym is))
    marked_goes path false entry after is marked so =
        let none : Ok None ≡ Ok after = subst (λ b. IsLeft (bare_of (cond b (Some entry) None)) path (Some entry) after) marked so in cc

    other_stays : (path : List ℕ) (keep : Bool) (entry : Entry) (after : Option Entry) → is_marked scope path entry names ≡ false → IsSo path keep (Some entry) after → after ≡ Some entry
    other_stays path true entry after other so = so
    other_stays path false entry after other so = subst (λ b. IsLeft (bare_of (cond b (Some entry) None)) path (Some entry) after) other so

    -- the entry at a path is the one that was there before, and it is kept or belongs to none of
    -- the names
    abbrev pub Remains : (path : List ℕ) → Entry → Type 0
    Remains path entry = (stays path ≡ true) ⊎ (is_marked scope path entry names ≡ false)

    stood : (path : List ℕ) (entry : Entry) (there : Option Entry) → map.get t path ≡ there → map.get u path ≡ Some entry → (map.get t path ≡ Some entry) × Remains path entry
    stood path entry None at here = none_some entry (sym (none_stays path (stays path) (map.get t path) (map.get u path) at (left path)) ∙ here)
    stood path entry (Some other) at here = elim (cases_Bool (stays path)) [
      | inl keep ↦ (sym (kept_stays path (stays path) (map.get t path) (map.get u path) keep (left path)) ∙ here, inl keep)
      | inr not ↦ (
          let so : IsSo path (stays path) (Some other) (map.get u path) = subst (λ there. IsSo path (stays path) there (map.get u path)) at (left path) in
          elim (cases_Bool (is_marked scope path other names)) [
            | inl marked ↦ none_some entry (sym (marked_goes path (stays path) other (map.get u path) not marked so) ∙ here)
            | inr away ↦ (
                let same : other ≡ entry = some_is other entry (sym (other_stays path (stays path) other (map.get u path) away so) ∙ here) in
                (at ∙ ap (λ e. Some e) same, inr (subst (λ e. is_marked scope path e names ≡ false) same away)))
          ])
    ]

    remained : (path : List ℕ) (entry : Entry) → map.get t path ≡ Some entry → Remains path entry → map.get u path ≡ Some entry
    remained path entry at (inl keep) = kept_stays path (stays path) (map.get t path) (map.get u path) keep (left path) ∙ at
    remained path entry at (inr away) = other_stays path (stays path) entry (map.get u path) away (subst (λ there. IsSo path (stays path) there (map.get u path)) at (left path))

    -- an entry exists afterwards exactly if it existed before and is kept or belongs to none of the
    -- names
    pub remains : (path : List ℕ) (entry : Entry) → (map.get u path ≡ Some entry) ↔ ((map.get t path ≡ Some entry) × Remains path entry)
    remains path entry = (stood path entry (map.get t path) refl, λ there. remained path entry there.0 there.1)

  -- if no link belongs to one of the names except those that are kept, nothing changes
  pub none_goes : (named : Named) → ((path : List ℕ) (entry : Entry) → map.get t path ≡ Some entry → (is_kept (kept named) path ≡ true) ⊎ (is_marked scope path entry named.names ≡ false))
      → done_by (Ok named) ≡ record { answer = Done named.notices; changes = [] }
  none_goes named free = by_ruling ((all_at_once (removed named)).conclusion t) refl
    where
      none_chosen : (path : List ℕ) (there : Option Entry) (keep : Bool) → map.get t path ≡ there → is_kept (kept named) path ≡ keep
          → cond keep None (bare_of (chosen_at (any_selects (list_map (Marked scope) named.names)) path there)) ≡ None
      none_chosen path there true at is = refl
      none_chosen path None false at is = refl
      none_chosen path (Some entry) false at is = elim (free path entry at) [
        | inl keep ↦ absurd (false≢true (sym is ∙ keep))
        | inr away ↦ ap (λ b. bare_of (cond b (Some entry) None)) away
      ]

      stands : (path : List ℕ) (link : Option (List ℕ)) (after : Option Entry) → map.get (removed named) path ≡ Some link → wanted_at link path (map.get t path) ≡ Ok after → after ≡ map.get t path
      stands path link after at is = none_some link (sym (get-removed named path ∙ none_chosen path (map.get t path) (is_kept (kept named) path) refl refl) ∙ at)

      by_ruling : (ruling : Ruling) → (all_at_once (removed named)).conclusion t ≡ ruling → effect t named.notices ruling ≡ record { answer = Done named.notices; changes = [] }
      by_ruling (Ok placed) at = ap (λ changes. record { answer = Done named.notices; changes = changes }) (nothing_changes (removed named) t named.notices stands (Ok placed) at)
      by_ruling (Err refusal) at = removed_refuses named refusal at
