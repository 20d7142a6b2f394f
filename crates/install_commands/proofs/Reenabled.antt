-- The tree that reenable leaves.
use Rattle.std.proofs.Common.{◌≡◌, ℕ, true, false, cond, List, [], ◌∷◌, ◌++◌, ◌⊎◌, ◌↔◌, All, Contains, Option, Some, None, Result, Ok, Err, refl, sym, ap, subst, ◌∙◌, inl, inr}
use Rattle.std.specs.FinMap as map
use Rattle.std.proofs.lemmas.Bool.{cases_Bool, false≢true}
use Rattle.std.proofs.lemmas.List.Elements.{Contains-append_left, Contains-append_right, Contains-append_cases}
use Rattle.unit_paths.specs.Slots.{slot_of}
use Rattle.unit_paths.specs.Kinds.{is_unit_slot}
use Rattle.unit_paths.specs.declared.place.Scope.{Scope}
use Rattle.link_tree.specs.declared.entry.Entry.{Entry}
use Rattle.link_tree.specs.declared.entry.Entry.TheVariants.{Link}
use Rattle.link_tree.specs.Differences.{changes_between}
use Rattle.link_tree.specs.Trees.{Entries, after_changes}
use Rattle.link_tree.proofs.Changed.{same_tree}
use Rattle.link_tree.proofs.Maps.{none_some}
use Rattle.load_path.specs.declared.finding.Found.{Found}
use Rattle.load_path.specs.declared.finding.Found.TheVariants as founds
use Rattle.load_path.specs.Find.{find}
use Rattle.install_section.specs.declared.wants.Wanted.{Wanted}
use Rattle.install_section.specs.Closure.{IsUnit}
use Rattle.install_section.proofs.Least.{is_first, is_later, first_or_later, none_of}
use Rattle.footprint.specs.declared.answer.Answer.TheVariants.{Done}
use Rattle.tree_access.specs.declared.refusal.Refusal.{Refusal}
use Rattle.footprint.specs.Commands.{taken, unless_refused, carried_out}
use Rattle.footprint.specs.Inquiry.{Inquiry}
use Rattle.tree_access.specs.Keys.{AgreeOn}
use Rattle.footprint.specs.Operations.{Effect}
use Rattle.tree_access.specs.Rules.{LeadsAs}
use Rattle.install_commands.specs.declared.disable.Named.{Named}
use Rattle.install_commands.specs.declared.reenable.Reenable.{Reenable}
use Rattle.install_commands.specs.Check.{going_on, checked}
use Rattle.install_commands.specs.CompositeLaws.{IsWayOutside, IsCleared, ReenableClears, ReenableOfEnabled}
use Rattle.install_commands.specs.Disable.{units_named}
use Rattle.install_commands.specs.Enable.{checked_want}
use Rattle.install_commands.specs.Laws.{Leaves, ChangesNothing, IsNamed, IsWantedBy, JoinedWith, Without}
use Rattle.install_commands.specs.Reenable.{with_kept, kept_behind, checked_named, links_cleared, reenable_disables, reenable_enables, reenable_meaning}
use Rattle.install_commands.proofs.Checked.{check_passes}
use Rattle.install_commands.proofs.Composites.{leaves_in_turn, both_come_to_changes}
use Rattle.install_commands.proofs.Enabled.{Made, wanted_is, made, joins}
use Rattle.install_commands.proofs.Named.{gathered_is}
use Rattle.install_commands.proofs.Placed.{none_between}
use Rattle.install_commands.proofs.Removal.{is_kept, kept_is, is_kept_of, is_marked, marked_by, marks, done_by, Removed, removal, remains}

module _ (t : Entries) where
  -- the cells by which a name is found are kept, if its file is outside the four directories
  kept_of_found : (name path : List ℕ) (kept : List (List ℕ)) (found : Found) → (find name).conclusion t ≡ found → Contains (with_kept kept (found, (find name).cells t)) path → Contains kept path ⊎ IsWayOutside t name path
  kept_of_found name path kept founds.Missing at here = inl here
  kept_of_found name path kept (founds.Masked place) at here = inl here
  kept_of_found name path kept (founds.Dangling link) at here = inl here
  kept_of_found name path kept (founds.Unit real file place) at here = elim (cases_Bool (is_unit_slot (slot_of file))) [
    | inl inside ↦ inl (subst (λ b. Contains (cond b kept (kept ++ (find name).cells t)) path) inside here)
    | inr outside ↦ elim (Contains-append_cases kept ((find name).cells t) path (subst (λ b. Contains (cond b kept (kept ++ (find name).cells t)) path) outside here)) [
      | inl before ↦ inl before
      | inr way ↦ inr (real, file, place, at, outside, way)
    ]
  ]

  kept_on : (name path : List ℕ) (kept cells : List (List ℕ)) (found : Found) → Contains kept path → Contains (with_kept kept (found, cells)) path
  kept_on name path kept cells founds.Missing here = here
  kept_on name path kept cells (founds.Masked place) here = here
  kept_on name path kept cells (founds.Dangling link) here = here
  kept_on name path kept cells (founds.Unit real file place) here = elim (cases_Bool (is_unit_slot (slot_of file))) [
    | inl inside ↦ subst (λ b. Contains (cond b kept (kept ++ cells)) path) (sym inside) here
    | inr outside ↦ subst (λ b. Contains (cond b kept (kept ++ cells)) path) (sym outside) (Contains-append_left kept cells path here)
  ]

  kept_way : (name path : List ℕ) (kept : List (List ℕ)) → IsWayOutside t name path → Contains (with_kept kept ((find name).conclusion t, (find name).cells t)) path
  kept_way name path kept way =
      subst (λ found. Contains (with_kept kept (found, (find name).cells t)) path) (sym way.3)
      (subst (λ b. Contains (cond b kept (kept ++ (find name).cells t)) path) (sym way.4) (Contains-append_right kept ((find name).cells t) path way.5))

  abbrev pub IsWay : (names : List (List ℕ)) → (path : List ℕ) → Type 0
  IsWay names path = (name : List ℕ) × Contains names name × IsWayOutside t name path

  pub kept_are : (names kept : List (List ℕ)) (path : List ℕ) → Contains ((kept_behind kept names).conclusion t) path → Contains kept path ⊎ IsWay names path
  kept_are [] kept path here = inl here
  kept_are (name ∷ names) kept path here = elim (kept_are names (with_kept kept ((find name).conclusion t, (find name).cells t)) path here) [
    | inl behind ↦ elim (kept_of_found name path kept ((find name).conclusion t) refl behind) [
      | inl before ↦ inl before
      | inr way ↦ inr (name, is_first name names name refl, way)
    ]
    | inr later ↦ inr (later.0, is_later name names later.0 later.1, later.2)
  ]

  kept_through : (names kept : List (List ℕ)) (path : List ℕ) → Contains kept path → Contains ((kept_behind kept names).conclusion t) path
  kept_through [] kept path here = here
  kept_through (name ∷ names) kept path here =
      kept_through names (with_kept kept ((find name).conclusion t, (find name).cells t)) path (kept_on name path kept ((find name).cells t) ((find name).conclusion t) here)

  pub ways_kept : (names kept : List (List ℕ)) (path : List ℕ) → IsWay names path → Contains ((kept_behind kept names).conclusion t) path
  ways_kept [] kept path way = absurd (none_of [] way.0 refl way.1)
  ways_kept (name ∷ names) kept path way = elim (first_or_later name names way.0 way.1.0 way.1.1 way.1.2) [
    | inl same ↦ kept_through names (with_kept kept ((find name).conclusion t, (find name).cells t)) path (kept_way name path kept (subst (λ name. IsWayOutside t name path) same way.2))
    | inr later ↦ ways_kept names (with_kept kept ((find name).conclusion t, (find name).cells t)) path (way.0, later, way.2)
  ]

module _ (reenable : Reenable) (t : Entries) where
  abbrev scope : Scope
  scope = reenable.scope

  abbrev units : List (List ℕ)
  units = reenable.units

  abbrev pub kept_for : Named → List (List ℕ)
  kept_for named = (kept_behind [] named.names).conclusion t

  abbrev pub given : Result Named Refusal
  given = (checked_named units).conclusion t

  by_names : (given : Result Named Refusal) → (taken ((unless_refused (links_cleared scope) given).conclusion t)).conclusion t ≡ done_by scope kept_for t given
  by_names (Ok named) = refl
  by_names (Err refusal) = refl

  pub comes_to : (carried_out (reenable_disables reenable)).conclusion t ≡ done_by scope kept_for t given
  comes_to = by_names given

  pub by_check : (named : Named) (fine : Result (Unit {0}) Refusal) → (checked units).conclusion t ≡ fine → (going_on (λ fine. units_named units) fine).conclusion t ≡ Ok named
      → ((checked units).conclusion t ≡ Ok tt) × ((units_named units).conclusion t ≡ Ok named)
  by_check named (Ok fine) at is = (at, is)
  by_check named (Err refusal) at is = cc

  module _ (v : Entries) (leaves : Leaves (carried_out (reenable_disables reenable)) t v) where
    links : Removed scope kept_for t given v
    links = removal scope kept_for t leaves.0 v given (ap (λ (e : Effect). e.answer) (sym comes_to) ∙ leaves.1) (leaves.2 ∙ ap (λ (e : Effect). after_changes e.changes t) comes_to)

    abbrev names : List (List ℕ)
    names = links.named.names

    passed : ((checked units).conclusion t ≡ Ok tt) × ((units_named units).conclusion t ≡ Ok links.named)
    passed = by_check links.named ((checked units).conclusion t) refl links.are

    is_named : (name : List ℕ) → Contains names name ↔ IsNamed t units name
    is_named name = gathered_is t units links.named passed.1 name

    -- a path is kept exactly if one of the names is found through it and has a file outside the
    -- four directories
    kept_way_is : (path : List ℕ) → is_kept (kept_for links.named) path ≡ true → (name : List ℕ) × IsNamed t units name × IsWayOutside t name path
    kept_way_is path is = elim (kept_are t names [] path (kept_is (kept_for links.named) path is)) [
      | inl none ↦ absurd (none_of [] path refl none)
      | inr way ↦ (way.0, (is_named way.0).0 way.1, way.2)
    ]

    way_is_kept : (path : List ℕ) → (name : List ℕ) × IsNamed t units name × IsWayOutside t name path → is_kept (kept_for links.named) path ≡ true
    way_is_kept path way = is_kept_of (kept_for links.named) path (ways_kept t names [] path (way.0, (is_named way.0).1 way.1, way.2))

    not_cleared : (path : List ℕ) (entry : Entry) → (is_kept (kept_for links.named) path ≡ true) ⊎ (is_marked scope path entry names ≡ false) → ¬ IsCleared reenable t path entry
    not_cleared path entry (inl keep) cleared = cleared.1 (kept_way_is path keep)
    not_cleared path entry (inr away) cleared = false≢true (sym away ∙ marks scope path entry names cleared.0.0 ((is_named cleared.0.0).1 cleared.0.1) cleared.0.2)

    decided : (path : List ℕ) (entry : Entry) → IsCleared reenable t path entry ⊎ ((is_kept (kept_for links.named) path ≡ true) ⊎ (is_marked scope path entry names ≡ false))
    decided path entry = elim (cases_Bool (is_kept (kept_for links.named) path)) [
      | inl keep ↦ inr (inl keep)
      | inr other ↦ elim (cases_Bool (is_marked scope path entry names)) [
        | inl marked ↦ (let by = marked_by scope path entry names marked in inl ((by.0, (is_named by.0).0 by.1, by.2), λ way. false≢true (sym other ∙ way_is_kept path way)))
        | inr away ↦ inr (inr away)
      ]
    ]

    remains_so : (path : List ℕ) (entry : Entry) → ¬ IsCleared reenable t path entry → (is_kept (kept_for links.named) path ≡ true) ⊎ (is_marked scope path entry names ≡ false)
    remains_so path entry not = elim (decided path entry) [ inl cleared ↦ absurd (not cleared) | inr so ↦ so ]

    -- what is gone was cleared
    cleared : (path : List ℕ) (entry : Entry) → map.get t path ≡ Some entry → map.get v path ≡ None → IsCleared reenable t path entry
    cleared path entry there none = elim (decided path entry) [
      | inl gone ↦ gone
      | inr so ↦ none_some entry (sym none ∙ (remains scope kept_for t given v links path entry).1 (there, so))
    ]

    clears : Without (IsCleared reenable t) t v
    clears path entry =
        let is = remains scope kept_for t given v links path entry in (
          λ here. ((is.0 here).0, not_cleared path entry (is.0 here).1),
          λ there. is.1 (there.0, remains_so path entry there.1),
        )

    passes : All (IsUnit t) units
    passes = (check_passes units t).0 passed.0

pub reenable_clears : ReenableClears
reenable_clears reenable t v leaves = (clears reenable t v leaves, passes reenable t v leaves)

-- A reenable of units whose links are as enable makes them.
module _ (reenable : Reenable) (t u v : Entries) (leaves : Leaves (reenable_meaning reenable) t u) (disabled : Leaves (carried_out (reenable_disables reenable)) t v)
    (agree : AgreeOn ((checked_want reenable.scope false reenable.units).keys t) t v)
    (only : (path : List ℕ) (entry : Entry) → IsCleared reenable t path entry → (file : List ℕ) × IsWantedBy reenable.scope reenable.units t path file × (entry ≡ Link file))
    (lead : (path file : List ℕ) → IsWantedBy reenable.scope reenable.units t path file → LeadsAs t path file) where
  abbrev want : Inquiry (Result Wanted Refusal)
  want = checked_want reenable.scope false reenable.units

  enabled : Leaves (carried_out (reenable_enables reenable)) v u
  enabled =
      let turns = (leaves_in_turn (reenable_disables reenable) (reenable_enables reenable) t u).0 leaves in
      subst (λ v. Leaves (carried_out (reenable_enables reenable)) v u) (turns.1.2 ∙ sym disabled.2) turns.2

  made_links : Made reenable.scope false reenable.units v u
  made_links = made reenable.scope false reenable.units v u enabled

  wanted_in_both : (path file : List ℕ) → IsWantedBy reenable.scope reenable.units t path file ↔ IsWantedBy reenable.scope reenable.units v path file
  wanted_in_both path file =
      let before = wanted_is reenable.scope false reenable.units t made_links.given ((want.agreement t v agree).0 ∙ made_links.are) path file in
      let after = wanted_is reenable.scope false reenable.units v made_links.given made_links.are path file in
      (λ is. after.0 (before.1 is), λ is. before.0 (after.1 is))

  joined : JoinedWith (IsWantedBy reenable.scope reenable.units v) v u
  joined = joins reenable.scope false reenable.units v u made_links

  none_new : (path : List ℕ) (after : Option Entry) → map.get v path ≡ None → map.get t path ≡ None → map.get u path ≡ after → map.get u path ≡ map.get t path
  none_new path None gone none at = at ∙ sym none
  none_new path (Some entry) gone none at = elim ((joined path entry).0 at) [
    | inl old ↦ none_some entry (sym gone ∙ old)
    | inr new ↦ (let there = lead path new.1 ((wanted_in_both path new.1).1 new.2) in none_some (Link there.0) (sym none ∙ there.1))
  ]

  made_again : (path : List ℕ) (before : Option Entry) → map.get v path ≡ None → map.get t path ≡ before → map.get u path ≡ map.get t path
  made_again path None gone at = none_new path (map.get u path) gone at refl
  made_again path (Some entry) gone at =
      let again = only path entry (cleared reenable t v disabled path entry at gone) in
      (joined path (Link again.0)).1 (inr (gone, again.0, (wanted_in_both path again.0).0 again.1, refl)) ∙ ap (λ e. Some e) (sym again.2) ∙ sym at

  same_at : (path : List ℕ) (between : Option Entry) → map.get v path ≡ between → map.get u path ≡ map.get t path
  same_at path None at = made_again path (map.get t path) at refl
  same_at path (Some entry) at = (joined path entry).1 (inl at) ∙ sym ((clears reenable t v disabled path entry).0 at).0

  same : u ≡ t
  same = same_tree u t (λ path. same_at path (map.get v path) refl)

  of_enabled : ChangesNothing (reenable_meaning reenable) t
  of_enabled =
      let comes = both_come_to_changes (reenable_disables reenable) (reenable_enables reenable) t u leaves in
      (comes.0, comes.1 ∙ ap (λ changes. record { answer = Done comes.0; changes = changes }) (ap (changes_between t) same ∙ none_between t))

pub reenable_of_enabled : ReenableOfEnabled
reenable_of_enabled = of_enabled
