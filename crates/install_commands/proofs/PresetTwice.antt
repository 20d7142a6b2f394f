-- A preset after the same preset.
use Rattle.std.proofs.Common.{◌≡◌, ℕ, Bool, true, false, List, [], ◌↔◌, Option, Some, None, Result, Ok, Err, refl, sym, ap, subst, ◌∙◌, inl, inr}
use Rattle.std.specs.FinMap as map
use Rattle.std.proofs.lemmas.Bool.{cases_Bool, false≢true}
use Rattle.unit_file.specs.Notices.{NoticeMap}
use Rattle.unit_paths.specs.declared.place.Scope.{Scope}
use Rattle.link_tree.specs.declared.entry.Entry.{Entry}
use Rattle.link_tree.specs.declared.entry.Entry.TheVariants.{Link}
use Rattle.link_tree.specs.Differences.{changes_between}
use Rattle.link_tree.specs.Trees.{Entries, after_changes}
use Rattle.link_tree.proofs.Changed.{same_tree}
use Rattle.link_tree.proofs.Maps.{none_some}
use Rattle.install_section.proofs.Least.{some_is}
use Rattle.tree_access.specs.declared.refusal.Refusal.{Refusal}
use Rattle.footprint.specs.Commands.{Command, carried_out}
use Rattle.footprint.specs.Inquiry.{Inquiry, over}
use Rattle.tree_access.specs.Keys.{AgreeOn}
use Rattle.footprint.specs.Operations.{Effect}
use Rattle.tree_access.specs.Placing.{Ruling, placed_in}
use Rattle.install_commands.specs.declared.disable.Named.{Named}
use Rattle.install_commands.specs.declared.judging.Judged.{Judged}
use Rattle.install_commands.specs.declared.preset.Preset.{Preset}
use Rattle.install_commands.specs.Check.{going_on}
use Rattle.install_commands.specs.CompositeLaws.{PresetAgain}
use Rattle.install_commands.specs.Disable.{units_named}
use Rattle.install_commands.specs.Enable.{checked_want}
use Rattle.install_commands.specs.Laws.{Leaves, IsWantedBy, JoinedWith}
use Rattle.install_commands.specs.Preset.{judged_named, judged_disabled, judged_enabled, preset_judges, preset_meaning, telling_too}
use Rattle.install_commands.proofs.Composites.{placed_by, leaves_placed}
use Rattle.install_commands.proofs.Disabled.{by_names}
use Rattle.install_commands.proofs.Enabled.{Made, made, joins, wanted_is}
use Rattle.install_commands.proofs.InTurn.{net_effect, told, more, rules_second, whole_comes}
use Rattle.install_commands.proofs.Placed.{none_between}
use Rattle.install_commands.proofs.Presetting.{parts_come}
use Rattle.install_commands.proofs.Removal.{is_marked, Removed, removal, remains}

module _ (preset : Preset) (judged : Judged) (t v u later : Entries) (is : (preset_judges preset).conclusion t ≡ Ok judged)
    (disabled : Leaves (carried_out (judged_disabled preset.scope judged)) t v) (enabled : Leaves (carried_out (judged_enabled preset.scope judged)) v u)
    (again : Leaves (carried_out (judged_disabled preset.scope judged)) u later)
    (same_verdicts : AgreeOn ((preset_judges preset).keys t) t u) (same_names : AgreeOn ((units_named judged.disabled).keys t) t u)
    (same_links : AgreeOn ((checked_want preset.scope true judged.enabled).keys v) v later) where
  abbrev scope : Scope
  scope = preset.scope

  abbrev disables : Command
  disables = judged_disabled scope judged

  abbrev enables : Command
  enables = judged_enabled scope judged

  abbrev none_kept : Named → List (List ℕ)
  none_kept named = []

  -- the names of those that are disabled, with the notices about instances
  abbrev naming : Result Named Refusal → Inquiry (Result Named Refusal)
  naming named = going_on (λ named. over (Ok (telling_too judged.notices named))) named

  abbrev given : Entries → Result Named Refusal
  given w = (judged_named judged.disabled judged.notices).conclusion w

  removed_from : (w x : Entries) → Leaves (carried_out disables) w x → Removed scope none_kept w (given w) x
  removed_from w x leaves =
      let comes = by_names scope judged.disabled w (given w) in
      removal scope none_kept w leaves.0 x (given w) (ap (λ (e : Effect). e.answer) (sym comes) ∙ leaves.1) (leaves.2 ∙ ap (λ (e : Effect). after_changes e.changes w) comes)

  first : Removed scope none_kept t (given t) v
  first = removed_from t v disabled

  second : Removed scope none_kept u (given u) later
  second = removed_from u later again

  in_both : (named : Result Named Refusal) → (naming named).conclusion u ≡ (naming named).conclusion t
  in_both (Ok named) = refl
  in_both (Err refusal) = refl

  -- the same names
  same_named : second.named.names ≡ first.named.names
  same_named =
      let also : given u ≡ Ok first.named =
      in_both ((units_named judged.disabled).conclusion u) ∙ ap (λ named. (naming named).conclusion t) (sym (((units_named judged.disabled).agreement t u same_names).0)) ∙ first.are in
      ap (λ (n : Named). n.names) (ok_is second.named first.named (given u) second.are also)
    where
      ok_is : (one other : Named) (r : Result Named Refusal) → r ≡ Ok one → r ≡ Ok other → one ≡ other
      ok_is one other r is also = cc

  abbrev marked : (path : List ℕ) → Entry → Bool
  marked path entry = is_marked scope path entry first.named.names

  -- what the first disable leaves belongs to none of the names, and the second leaves what doesn't
  free : (path : List ℕ) (entry : Entry) → map.get v path ≡ Some entry → marked path entry ≡ false
  free path entry here = elim ((remains scope none_kept t (given t) v first path entry).0 here).1 [ inl keep ↦ absurd (false≢true keep) | inr away ↦ away ]

  stood : (path : List ℕ) (entry : Entry) → map.get later path ≡ Some entry → (map.get u path ≡ Some entry) × (marked path entry ≡ false)
  stood path entry here =
      let was = (remains scope none_kept u (given u) later second path entry).0 here in
      (was.0, subst (λ names. is_marked scope path entry names ≡ false) same_named (elim was.1 [ inl keep ↦ absurd (false≢true keep) | inr away ↦ away ]))

  stays : (path : List ℕ) (entry : Entry) → map.get u path ≡ Some entry → marked path entry ≡ false → map.get later path ≡ Some entry
  stays path entry there away = (remains scope none_kept u (given u) later second path entry).1 (there, inr (subst (λ names. is_marked scope path entry names ≡ false) (sym same_named) away))

  links : Made scope true judged.enabled v u
  links = made scope true judged.enabled v u enabled

  abbrev IsWanted : (path file : List ℕ) → Type 0
  IsWanted path file = map.get links.given.links path ≡ Some file

  joined : JoinedWith (IsWantedBy scope judged.enabled v) v u
  joined = joins scope true judged.enabled v u links

  -- the links that are added, by the list of the wanted links
  kept : (path : List ℕ) (entry : Entry) → map.get v path ≡ Some entry → map.get u path ≡ Some entry
  kept path entry here = (joined path entry).1 (inl here)

  new : (path file : List ℕ) → map.get v path ≡ None → IsWanted path file → map.get u path ≡ Some (Link file)
  new path file none wanted = (joined path (Link file)).1 (inr (none, file, (wanted_is scope true judged.enabled v links.given links.are path file).0 wanted, refl))

  -- the enable part, if it is accepted once more
  module _ (w : Entries) (accepted : Leaves (carried_out enables) later w) where
    links_again : Made scope true judged.enabled later w
    links_again = made scope true judged.enabled later w accepted

    given_again : (checked_want scope true judged.enabled).conclusion later ≡ Ok links.given
    given_again = sym (((checked_want scope true judged.enabled).agreement v later same_links).0) ∙ links.are

    joined_again : JoinedWith (IsWantedBy scope judged.enabled later) later w
    joined_again = joins scope true judged.enabled later w links_again

    wanted_again : (path file : List ℕ) → IsWantedBy scope judged.enabled later path file ↔ IsWanted path file
    wanted_again path file = let is = wanted_is scope true judged.enabled later links.given given_again path file in (is.1, is.0)

    -- everything that exists afterwards existed before
    back : (path : List ℕ) (entry : Entry) → map.get w path ≡ Some entry → map.get u path ≡ Some entry
    back path entry here = elim ((joined_again path entry).0 here) [
      | inl old ↦ (stood path entry old).0
      | inr made ↦ by_first path entry made.1 made.0 ((wanted_again path made.1).0 made.2) made.3 (map.get v path) refl
    ]
      where
        by_first : (path : List ℕ) (entry : Entry) (file : List ℕ) → map.get later path ≡ None → IsWanted path file → entry ≡ Link file → (there : Option Entry) → map.get v path ≡ there → map.get u path ≡ Some entry
        by_first path entry file none wanted same None at = new path file at wanted ∙ ap (λ e. Some e) (sym same)
        by_first path entry file none wanted same (Some other) at = none_some other (sym none ∙ stays path other (kept path other at) (free path other at))

    -- and everything that existed before exists afterwards
    on : (path : List ℕ) (entry : Entry) → map.get u path ≡ Some entry → map.get w path ≡ Some entry
    on path entry here = elim (cases_Bool (marked path entry)) [
      | inl gone ↦ elim ((joined path entry).0 here) [
        | inl old ↦ absurd (false≢true (sym (free path entry old) ∙ gone))
        | inr made ↦ (
            let wanted = (wanted_is scope true judged.enabled v links.given links.are path made.1).1 made.2 in
            (joined_again path (Link made.1)).1 (inr (none_left (map.get later path) refl gone, made.1, (wanted_again path made.1).1 wanted, refl)) ∙ ap (λ e. Some e) (sym made.3))
      ]
      | inr away ↦ (joined_again path entry).1 (inl (stays path entry here away))
    ]
      where
        none_left : (there : Option Entry) → map.get later path ≡ there → marked path entry ≡ true → map.get later path ≡ None
        none_left None at gone = at
        none_left (Some other) at gone =
            let was = stood path other at in
            let same : other ≡ entry = some_is other entry (sym was.0 ∙ here) in
            absurd (false≢true (sym was.1 ∙ ap (marked path) same ∙ gone))

    same_at : (path : List ℕ) (there before : Option Entry) → map.get w path ≡ there → map.get u path ≡ before → map.get w path ≡ map.get u path
    same_at path None None at was = at ∙ sym was
    same_at path None (Some entry) at was = none_some entry (sym at ∙ on path entry was)
    same_at path (Some entry) before at was = at ∙ sym (back path entry at)

    same : w ≡ u
    same = same_tree w u (λ path. same_at path (map.get w path) (map.get u path) refl refl)

  by_ruling : (notices also : NoticeMap) (ruling : Ruling) → (enables.conclusion later).1.conclusion later ≡ ruling → (net_effect u later notices also ruling).changes ≡ []
  by_ruling notices also (Ok placed) at = ap (changes_between u) (same (placed_in placed later) (leaves_placed enables later placed at)) ∙ none_between u
  by_ruling notices also (Err refusal) at = refl

  twice : ((preset_meaning preset).conclusion u).changes ≡ []
  twice =
      let placed = placed_by disables u later again in
      ap (λ (e : Effect). e.changes)
      (parts_come preset u judged (sym (((preset_judges preset).agreement t u same_verdicts).0) ∙ is)
      ∙ whole_comes disables enables u placed.0 placed.1
      ∙ ap (λ w. net_effect u w (told disables enables u) (more disables enables u w) (rules_second disables enables u w)) (sym placed.2))
      ∙ by_ruling (told disables enables u) (more disables enables u later) (rules_second disables enables u later) refl

pub preset_again : PresetAgain
preset_again = twice
