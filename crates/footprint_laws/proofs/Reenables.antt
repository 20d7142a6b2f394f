-- The keys that reenable looks at.
use Rattle.std.proofs.Common.{◌≡◌, ◌≢◌, ℕ, Bool, true, false, cond, List, [], ◌∷◌, ◌++◌, map as list_map, All, Contains, Option, Some, None, Result, Ok, Err, refl, sym, ap, subst, ◌∙◌, inl, inr}
use Rattle.std.specs.FinMap as map
use Rattle.std.proofs.lemmas.Bool.{cases_Bool, false≢true}
use Rattle.std.proofs.lemmas.List.Elements.{Contains-append_left, Contains-append_right, Contains-append_cases}
use Rattle.link_tree.specs.declared.entry.Entry.{Entry}
use Rattle.link_tree.specs.Trees.{Entries, after_changes}
use Rattle.load_path.specs.Find.{find}
use Rattle.install_section.specs.Closure.{IsUnit}
use Rattle.install_section.proofs.Least.{is_first, is_later, none_of}
use Rattle.footprint.specs.declared.answer.Answer.TheVariants.{Done, Refused}
use Rattle.tree_access.specs.declared.key.Key.{Key}
use Rattle.tree_access.specs.declared.key.Key.TheVariants.{Cell, Marked}
use Rattle.tree_access.specs.declared.refusal.Refusal.{Refusal}
use Rattle.tree_access.specs.declared.refusal.Refusal.TheVariants.{TooMany}
use Rattle.footprint.specs.Commands.{taken, unless_refused, carried_out}
use Rattle.footprint.specs.Inquiry.{Inquiry}
use Rattle.tree_access.proofs.KeyLaws.{get-those}
use Rattle.tree_access.specs.Keys.{any_selects, chosen_at}
use Rattle.footprint.specs.Operations.{Effect}
use Rattle.tree_access.specs.Placing.{cleared}
use Rattle.footprint.specs.Then.{continued}
use Rattle.install_commands.specs.declared.reenable.Reenable.{Reenable}
use Rattle.install_commands.specs.Check.{going_on, checked}
use Rattle.install_commands.specs.CompositeLaws.{IsCleared}
use Rattle.install_commands.specs.Disable.{but_at, units_named}
use Rattle.install_commands.specs.Laws.{IsNamed}
use Rattle.install_commands.specs.Laws.IsNamed.{Given as GivenName, Found as FoundName, Also as AlsoName}
use Rattle.install_commands.specs.Reenable.{with_kept, kept_behind, checked_named, links_cleared, reenable_disables, reenable_enables, reenable_meaning}
use Rattle.install_commands.proofs.Checked.{check_passes}
use Rattle.install_commands.proofs.Composites.{refused_in_turn}
use Rattle.install_commands.proofs.Named.{Names, named_refused, gathered_is}
use Rattle.install_commands.proofs.Placed.{bare_of, get-cleared}
use Rattle.install_commands.proofs.Reenabled.{kept_are, ways_kept, kept_for, given, by_check, comes_to}
use Rattle.install_commands.proofs.Removal.{is_kept, kept_is, is_kept_of, get-but_at, is_marked, marked_by, marks, gone, done_by, done_of}
use Rattle.footprint_laws.specs.Sets.{IsLookedUp, IsNamedAt}
use Rattle.footprint_laws.specs.Sets.IsLookedUpWith.{Itself}
use Rattle.footprint_laws.specs.Sets.IsNamedAt.{Given as GivenAt, Real as RealAt, Also as AlsoAt}
use Rattle.footprint_laws.specs.Installs.{LeavesFirst, ReenableKeys, ReenableLooks}
use Rattle.footprint_laws.specs.Installs.ReenableKeys.{Checked, Name, Links, Link, Then}
use Rattle.footprint_laws.proofs.Keys.{looks, cell_among, among_cells, keys_have, have_key, no_key}
use Rattle.footprint_laws.proofs.Enables as enables
use Rattle.footprint_laws.proofs.Checks.{checked_only, checked_at}
use Rattle.footprint_laws.proofs.Disables.{names_only, names_all}
use Rattle.footprint_laws.proofs.Parts.{on_done, on_refused}
use Rattle.footprint_laws.proofs.Removals.{marked_among, among_marked}

module _ (reenable : Reenable) (t : Entries) where
  abbrev units : List (List ℕ)
  units = reenable.units

  abbrev first : Inquiry Effect
  first = carried_out (reenable_disables reenable)

  abbrev second : Inquiry Effect
  second = carried_out (reenable_enables reenable)

  abbrev its : Result Names Refusal
  its = given reenable t

  -- the tree that the first part leaves
  abbrev left : Entries
  left = after_changes (first.conclusion t).changes t

  abbrev named_keys : List Key
  named_keys = (checked_named units).keys t

  abbrev asked_keys : Result Names Refusal → List Key
  asked_keys names = (unless_refused (links_cleared reenable.scope) names).keys t

  abbrev made_keys : Result Names Refusal → List Key
  made_keys names = (taken ((unless_refused (links_cleared reenable.scope) names).conclusion t)).keys t

  abbrev then_keys : Effect → List Key
  then_keys effect = (continued second effect).keys t

  -- where there are names the first part is accepted
  accepted : (names : Names) → its ≡ Ok names → (first.conclusion t).answer ≡ Done names.notices
  accepted names is = ap (λ (e : Effect). e.answer) (comes_to reenable t) ∙ ap (λ given. (done_by reenable.scope (kept_for reenable t) t given).answer) is ∙ done_of reenable.scope (kept_for reenable t) t names

  leaves : (names : Names) → its ≡ Ok names → LeavesFirst reenable t left
  leaves names is = (names.notices, accepted names is, refl)

  refused : (refusal : Refusal) → its ≡ Err refusal → (first.conclusion t).answer ≡ Refused refusal
  refused refusal is = ap (λ (e : Effect). e.answer) (comes_to reenable t) ∙ ap (λ given. (done_by reenable.scope (kept_for reenable t) t given).answer) is

  parts : (names : Names) → its ≡ Ok names → ((checked units).conclusion t ≡ Ok tt) × ((units_named units).conclusion t ≡ Ok names)
  parts names is = by_check reenable t names ((checked units).conclusion t) refl is

  is_named : (names : Names) → its ≡ Ok names → (name : List ℕ) → (Contains names.names name → IsNamed t units name) × (IsNamed t units name → Contains names.names name)
  is_named names is name = gathered_is t units names (parts names is).1 name

  -- checking, and the names
  later_keys : (key : Key) (fine : Result (Unit {0}) Refusal) → (checked units).conclusion t ≡ fine → Contains ((going_on (λ fine. units_named units) fine).keys t) key → ReenableKeys reenable t key
  later_keys key (Ok fine) at here = let name = names_only t units key here in subst (ReenableKeys reenable t) (sym name.1) (Name name.0 ((check_passes units t).0 at) name.2)
  later_keys key (Err refusal) at here = no_key key here

  named_only : (key : Key) → Contains named_keys key → ReenableKeys reenable t key
  named_only key here = elim (Contains-append_cases ((checked units).keys t) ((going_on (λ fine. units_named units) ((checked units).conclusion t)).keys t) key here) [
    | inl check ↦ (let is = checked_only t units key check in subst (ReenableKeys reenable t) (sym is.2) (Checked is.0 is.1 is.3 is.4))
    | inr later ↦ later_keys key ((checked units).conclusion t) refl later
  ]

  -- a name of a disable is looked up where its names are
  up_named : (name path : List ℕ) → IsNamed t units name → IsLookedUp t name path → IsNamedAt t units path
  up_named name path (GivenName here) up = GivenAt name here up
  up_named name path (FoundName unit file here found) up = RealAt unit name file here found up
  up_named name path (AlsoName goes) up = AlsoAt (Itself name goes up)

  kept_only : (names kept : List (List ℕ)) (key : Key) → Contains ((kept_behind kept names).keys t) key → (name : List ℕ) × (path : List ℕ) × (key ≡ Cell path) × Contains names name × IsLookedUp t name path
  kept_only [] kept key here = no_key key here
  kept_only (name ∷ names) kept key here =
      let more = with_kept kept ((find name).conclusion t, (find name).cells t) in
      elim (Contains-append_cases (list_map Cell ((find name).cells t)) ((kept_behind more names).keys t) key here) [
        | inl own ↦ (let it = cell_among ((find name).cells t) key own in (name, it.0, it.1, is_first name names name refl, it.2))
        | inr later ↦ (let is = kept_only names more key later in (is.0, is.1, is.2, is_later name names is.0 is.3, is.4))
      ]

  -- the links that belong to the names
  asked_only : (key : Key) (names : Result Names Refusal) → its ≡ names → Contains (asked_keys names) key → ReenableKeys reenable t key
  asked_only key (Ok names) is here = elim (Contains-append_cases ((kept_behind [] names.names).keys t) (list_map (Marked reenable.scope) names.names ++ []) key here) [
    | inl kept ↦
        let it = kept_only names.names [] key kept in
        subst (ReenableKeys reenable t) (sym it.2) (Name it.1 ((check_passes units t).0 (parts names is).0) (up_named it.0 it.1 ((is_named names is it.0).0 it.3) it.4))
    | inr links ↦ elim (Contains-append_cases (list_map (Marked reenable.scope) names.names) [] key links) [
      | inl marked ↦ (let it = marked_among reenable.scope names.names key marked in subst (ReenableKeys reenable t) (sym it.1) (Links left it.0 (leaves names is) ((is_named names is it.0).0 it.2)))
      | inr none ↦ no_key key none
    ]
  ]
  asked_only key (Err refusal) is here = no_key key here

  abbrev kept_here : Names → List (List ℕ)
  kept_here names = kept_for reenable t names

  abbrev gone_here : Names → Entries
  gone_here names = gone reenable.scope (kept_for reenable t) t names

  -- a path of which the entry is removed
  goes_from : (names : Names) → its ≡ Ok names → (path : List ℕ) (link : Option (List ℕ)) → map.get (but_at (cleared (gone_here names)) (kept_here names)) path ≡ Some link
      → (entry : Entry) × (map.get t path ≡ Some entry) × IsCleared reenable t path entry
  goes_from names is path link there = by_kept (is_kept (kept_here names) path) refl
      (sym (get-but_at (cleared (gone_here names)) (kept_here names) path ∙ ap (cond (is_kept (kept_here names) path) None) (get-cleared (gone_here names) path ∙ ap bare_of (get-those (any_selects (list_map (Marked reenable.scope) names.names)) t path))) ∙ there)
    where
      by_marked : is_kept (kept_here names) path ≡ false → (entry : Entry) → map.get t path ≡ Some entry → is_marked reenable.scope path entry names.names ≡ true → (entry : Entry) × (map.get t path ≡ Some entry) × IsCleared reenable t path entry
      by_marked not_kept entry stood marked =
          let by = marked_by reenable.scope path entry names.names marked in
          (entry, stood, ((by.0, (is_named names is by.0).0 by.1, by.2), λ way. false≢true (sym not_kept ∙ is_kept_of (kept_here names) path (ways_kept t names.names [] path (way.0, (is_named names is way.0).1 way.1, way.2)))))

      by_entry : is_kept (kept_here names) path ≡ false → (there : Option Entry) → map.get t path ≡ there → bare_of (chosen_at (any_selects (list_map (Marked reenable.scope) names.names)) path there) ≡ Some link
          → (entry : Entry) × (map.get t path ≡ Some entry) × IsCleared reenable t path entry
      by_entry not_kept None stood chosen = cc
      by_entry not_kept (Some entry) stood chosen = elim (cases_Bool (is_marked reenable.scope path entry names.names)) [
        | inl marked ↦ by_marked not_kept entry stood marked
        | inr other ↦ (let none : None ≡ Some link = rw other at chosen in cc)
      ]

      by_kept : (keep : Bool) → is_kept (kept_here names) path ≡ keep → cond keep None (bare_of (chosen_at (any_selects (list_map (Marked reenable.scope) names.names)) path (map.get t path))) ≡ Some link
          → (entry : Entry) × (map.get t path ≡ Some entry) × IsCleared reenable t path entry
      by_kept true keeps chosen = cc
      by_kept false keeps chosen = by_entry keeps (map.get t path) refl chosen

  goes : (names : Names) → its ≡ Ok names → (path : List ℕ) (entry : Entry) → map.get t path ≡ Some entry → IsCleared reenable t path entry → map.get (but_at (cleared (gone_here names)) (kept_here names)) path ≡ Some None
  goes names is path entry stood cleared_here =
      get-but_at (cleared (gone_here names)) (kept_here names) path
      ∙ ap (λ keep. cond keep None (map.get (cleared (gone_here names)) path)) not_kept
      ∙ get-cleared (gone_here names) path ∙ ap bare_of (get-those (any_selects (list_map (Marked reenable.scope) names.names)) t path ∙ ap (chosen_at (any_selects (list_map (Marked reenable.scope) names.names)) path) stood)
      ∙ ap (λ b. bare_of (cond b (Some entry) None)) (marks reenable.scope path entry names.names cleared_here.0.0 ((is_named names is cleared_here.0.0).1 cleared_here.0.1) cleared_here.0.2)
    where
      a_way : is_kept (kept_here names) path ≡ true → ⊥
      a_way keeps = elim (kept_are t names.names [] path (kept_is (kept_here names) path keeps)) [
        | inl none ↦ none_of [] path refl none
        | inr way ↦ cleared_here.1 (way.0, (is_named names is way.0).0 way.1, way.2)
      ]

      not_kept : is_kept (kept_here names) path ≡ false
      not_kept = elim (cases_Bool (is_kept (kept_here names) path)) [ inl keeps ↦ absurd (a_way keeps) | inr off ↦ off ]

  made_only : (key : Key) (names : Result Names Refusal) → its ≡ names → Contains (made_keys names) key → ReenableKeys reenable t key
  made_only key (Ok names) is here =
      let it = cell_among (map.keys (but_at (cleared (gone_here names)) (kept_here names))) key here in
      let link = have_key (but_at (cleared (gone_here names)) (kept_here names)) it.0 it.2 in
      let went = goes_from names is it.0 link.0 link.1 in
      subst (ReenableKeys reenable t) (sym it.1) (Link left it.0 went.0 (leaves names is) went.1 went.2)
  made_only key (Err refusal) is here = no_key key here

  then_only : (key : Key) (names : Result Names Refusal) → its ≡ names → Contains (then_keys (first.conclusion t)) key → ReenableKeys reenable t key
  then_only key (Ok names) is here =
      Then left key (leaves names is) (enables.only reenable.scope false reenable.units left key (subst (λ keys. Contains keys key) (on_done second t (first.conclusion t) names.notices (accepted names is)) here))
  then_only key (Err refusal) is here = no_key key (subst (λ keys. Contains keys key) (on_refused second t (first.conclusion t) refusal (refused refusal is)) here)

  abbrev first_keys : List Key
  first_keys = (named_keys ++ asked_keys its) ++ made_keys its

  only : (key : Key) → Contains ((reenable_meaning reenable).keys t) key → ReenableKeys reenable t key
  only key here = elim (Contains-append_cases first_keys (then_keys (first.conclusion t)) key here) [
    | inl before ↦ elim (Contains-append_cases (named_keys ++ asked_keys its) (made_keys its) key before) [
      | inl asked ↦ elim (Contains-append_cases named_keys (asked_keys its) key asked) [
        | inl names ↦ named_only key names
        | inr links ↦ asked_only key its refl links
      ]
      | inr made ↦ made_only key its refl made
    ]
    | inr then ↦ then_only key its refl then
  ]

  in_first : (key : Key) → Contains first_keys key → Contains ((reenable_meaning reenable).keys t) key
  in_first key here = Contains-append_left first_keys (then_keys (first.conclusion t)) key here

  in_named : (key : Key) → Contains named_keys key → Contains ((reenable_meaning reenable).keys t) key
  in_named key here = in_first key (Contains-append_left (named_keys ++ asked_keys its) (made_keys its) key (Contains-append_left named_keys (asked_keys its) key here))

  -- there are names, where the units pass and aren't too many
  turn : (((reenable_meaning reenable).conclusion t).answer ≡ Refused TooMany → ⊥) → (first.conclusion t).answer ≢ Refused TooMany
  turn few is = few ((refused_in_turn (reenable_disables reenable) (reenable_enables reenable) t TooMany).1 (inl is))

  names_are : (((reenable_meaning reenable).conclusion t).answer ≡ Refused TooMany → ⊥) → All (λ unit. IsUnit t unit) units → (names : Result Names Refusal) → (units_named units).conclusion t ≡ names → (names : Names) × ((units_named units).conclusion t ≡ Ok names)
  names_are few fine (Ok names) is = (names, is)
  names_are few fine (Err refusal) is =
      let why = named_refused t units refusal is in
      let its_is : its ≡ Err refusal = ap (λ fine. (going_on (λ fine. units_named units) fine).conclusion t) ((check_passes units t).1 fine) ∙ is in
      absurd (turn few (refused refusal its_is ∙ ap (λ (r : Refusal). Refused r) why.0))

  its_names : (v : Entries) → LeavesFirst reenable t v → (names : Result Names Refusal) → its ≡ names → (names : Names) × (its ≡ Ok names)
  its_names v leaves (Ok names) is = (names, is)
  its_names v leaves (Err refusal) is = let both : Done leaves.0 ≡ Refused refusal = sym leaves.1 ∙ refused refusal is in cc

  all : (((reenable_meaning reenable).conclusion t).answer ≡ Refused TooMany → ⊥) → (key : Key) → ReenableKeys reenable t key → Contains ((reenable_meaning reenable).keys t) key
  all few key (Checked unit path to up) =
      in_named (Cell path) (Contains-append_left ((checked units).keys t) ((going_on (λ fine. units_named units) ((checked units).conclusion t)).keys t) (Cell path) (checked_at t units unit path to up))
  all few key (Name path fine up) =
      let names = names_are few fine ((units_named units).conclusion t) refl in
      in_named (Cell path) (Contains-append_right ((checked units).keys t) ((going_on (λ fine. units_named units) ((checked units).conclusion t)).keys t) (Cell path)
      (subst (λ fine. Contains ((going_on (λ fine. units_named units) fine).keys t) (Cell path)) (sym ((check_passes units t).1 fine)) (names_all t units names.0 names.1 path up)))
  all few key (Links v name leaves is_its) =
      let names = its_names v leaves its refl in
      let key = Marked reenable.scope name in
      in_first key (Contains-append_left (named_keys ++ asked_keys its) (made_keys its) key (Contains-append_right named_keys (asked_keys its) key
      (subst (λ given. Contains (asked_keys given) key) (sym names.1)
      (Contains-append_right ((kept_behind [] names.0.names).keys t) (list_map (Marked reenable.scope) names.0.names ++ []) key
      (Contains-append_left (list_map (Marked reenable.scope) names.0.names) [] key (among_marked reenable.scope names.0.names name ((is_named names.0 names.1 name).1 is_its)))))))
  all few key (Link v path entry leaves stood cleared_here) =
      let names = its_names v leaves its refl in
      in_first (Cell path) (Contains-append_right (named_keys ++ asked_keys its) (made_keys its) (Cell path)
      (subst (λ given. Contains (made_keys given) (Cell path)) (sym names.1)
      (among_cells (map.keys (but_at (cleared (gone_here names.0)) (kept_here names.0))) path (keys_have (but_at (cleared (gone_here names.0)) (kept_here names.0)) path None (goes names.0 names.1 path entry stood cleared_here)))))
  all few key (Then v _ leaves on) =
      let few_then = λ (is : (second.conclusion v).answer ≡ Refused TooMany). few ((refused_in_turn (reenable_disables reenable) (reenable_enables reenable) t TooMany).1 (inr (v, leaves, is))) in
      Contains-append_right first_keys (then_keys (first.conclusion t)) key
      (subst (λ keys. Contains keys key) (sym (on_done second t (first.conclusion t) leaves.0 leaves.1))
      (subst (λ u. Contains (second.keys u) key) leaves.2 (enables.all reenable.scope false reenable.units v few_then key on)))

pub reenable_looks : ReenableLooks
reenable_looks reenable t key = record {
  only = λ here. only reenable t key ((looks reenable_meaning reenable t key).0 here);
  all = λ few looked. (looks reenable_meaning reenable t key).1 (all reenable t few key looked);
}
