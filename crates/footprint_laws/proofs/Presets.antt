-- The keys that preset looks at.
use Rattle.std.proofs.Common.{◌≡◌, ◌≢◌, ℕ, true, List, [], ◌∷◌, ◌++◌, map as list_map, All, Contains, Some, Result, Ok, Err, refl, sym, ap, subst, ◌∙◌, inl, inr}
use Rattle.std.specs.FinMap as map
use Rattle.std.proofs.lemmas.List.Elements.{Contains-append_left, Contains-append_right, Contains-append_cases}
use Rattle.unit_file.specs.Notices.{NoticeMap}
use Rattle.unit_paths.specs.declared.place.Scope.TheVariants.{Etc}
use Rattle.link_tree.specs.declared.entry.Entry.{Entry}
use Rattle.link_tree.specs.Trees.{Entries, after_changes}
use Rattle.install_section.proofs.Least.{is_first, is_later, first_or_later}
use Rattle.preset_rules.specs.Files.{policy_of}
use Rattle.footprint.specs.declared.answer.Answer.TheVariants.{Done, Refused}
use Rattle.tree_access.specs.declared.key.Key.{Key}
use Rattle.tree_access.specs.declared.key.Key.TheVariants.{Cell, Marked, Presets}
use Rattle.tree_access.specs.declared.refusal.Refusal.{Refusal}
use Rattle.tree_access.specs.declared.refusal.Refusal.TheVariants.{TooMany}
use Rattle.footprint.specs.Commands.{taken, unless_refused, carried_out}
use Rattle.footprint.specs.Inquiry.{Inquiry, over, giving}
use Rattle.tree_access.specs.Keys.{part}
use Rattle.footprint.specs.Operations.{Effect}
use Rattle.footprint.specs.Then.{continued}
use Rattle.install_commands.specs.declared.preset.Preset.{Preset}
use Rattle.install_commands.specs.Check.{going_on}
use Rattle.install_commands.specs.Disable.{units_named, links_removed}
use Rattle.install_commands.specs.Enable.{units_enabled}
use Rattle.install_commands.specs.Laws.{IsGone, IsNamed, Leaves}
use Rattle.install_commands.specs.Preset.{counting_behind, units_judged, preset_judges, telling_too, judged_named, disabled_telling, judged_disabled, carried_through, preset_meaning}
use Rattle.install_commands.proofs.Disabled.{by_names, none_kept}
use Rattle.install_commands.proofs.Named.{Names, named_refused, gathered_is}
use Rattle.install_commands.proofs.Presetting.{preset_in_turn}
use Rattle.install_commands.proofs.Removal.{done_by, done_of}
use Rattle.footprint_laws.specs.Sets.{IsNamedAt}
use Rattle.footprint_laws.specs.Installs.{IsSomeUnit, Judges, Disables, EnableKeys, PresetKeys, PresetLooks}
use Rattle.footprint_laws.specs.Installs.PresetKeys.{Counted, AllPresets, Policy, Name, Links, Link, Then}
use Rattle.footprint_laws.proofs.Keys.{looks, cell_among, among_cells, no_key}
use Rattle.footprint_laws.proofs.Counting.{counting_only, counting_at, all_found, all_count}
use Rattle.footprint_laws.proofs.Disables.{names_only, names_all}
use Rattle.footprint_laws.proofs.Enables as enables
use Rattle.footprint_laws.proofs.Parts.{on_done, on_refused}
use Rattle.footprint_laws.proofs.Policies.{policy_only, policy_all}
use Rattle.footprint_laws.proofs.Removals.{asked_only, asked_all, made_only, made_all}

-- what a function takes
abbrev Given : {A B : Type 0} → (A → B) → Type 0
Given {A} f = A

-- the verdicts of a preset; the struct is private
abbrev Verdicts : Type 0
Verdicts = Given (judged_disabled Etc)

-- The parts of a preset with these verdicts.
module _ (preset : Preset) (t : Entries) (disabled enabled : List (List ℕ)) (notices : NoticeMap) where
  abbrev first : Inquiry Effect
  first = carried_out (disabled_telling preset.scope disabled notices)

  abbrev second : Inquiry Effect
  second = carried_out (units_enabled preset.scope true enabled)

  -- the names, and the same with the notices of the verdicts
  abbrev own : Result Names Refusal
  own = (units_named disabled).conclusion t

  abbrev told : Result Names Refusal → Inquiry (Result Names Refusal)
  told named = going_on (λ named. over (Ok (telling_too notices named))) named

  abbrev its : Result Names Refusal
  its = (told own).conclusion t

  abbrev asked_keys : Result Names Refusal → List Key
  asked_keys named = (unless_refused (links_removed preset.scope) named).keys t

  abbrev made_keys : Result Names Refusal → List Key
  made_keys named = (taken ((unless_refused (links_removed preset.scope) named).conclusion t)).keys t

  none_told : (named : Result Names Refusal) → (told named).keys t ≡ []
  none_told (Ok named) = refl
  none_told (Err refusal) = refl

  -- the tree that the first part leaves
  abbrev left : Entries
  left = after_changes (first.conclusion t).changes t

  accepted : (named : Names) → its ≡ Ok named → (first.conclusion t).answer ≡ Done named.notices
  accepted named is =
      ap (λ (e : Effect). e.answer) (by_names preset.scope [] t its)
      ∙ ap (λ named. (done_by preset.scope (none_kept preset.scope [] t) t named).answer) is
      ∙ done_of preset.scope (none_kept preset.scope [] t) t named

  refused : (refusal : Refusal) → its ≡ Err refusal → (first.conclusion t).answer ≡ Refused refusal
  refused refusal is =
      ap (λ (e : Effect). e.answer) (by_names preset.scope [] t its)
      ∙ ap (λ named. (done_by preset.scope (none_kept preset.scope [] t) t named).answer) is

  -- these are the names of the units to disable
  own_names : (named : Names) (from : Result Names Refusal) → own ≡ from → (told from).conclusion t ≡ Ok named → (given : Names) × (own ≡ Ok given) × (named.names ≡ given.names)
  own_names named (Ok given) at is = let same : telling_too notices given ≡ named = cc in (given, at, sym (ap (λ (n : Names). n.names) same))
  own_names named (Err refusal) at is = cc

  is_named : (named : Names) → its ≡ Ok named → (name : List ℕ) → (Contains named.names name → IsNamed t disabled name) × (IsNamed t disabled name → Contains named.names name)
  is_named named is name =
      let from = own_names named own refl is in
      let same = gathered_is t disabled from.0 from.1 name in
      (λ here. same.0 (subst (λ names. Contains names name) from.2 here), λ of. subst (λ names. Contains names name) (sym from.2) (same.1 of))

  module _ (judges : Judges preset t disabled enabled notices) where
    disables : (named : Names) → its ≡ Ok named → Disables preset t disabled enabled left
    disables named is = record { notices = notices; judges = judges; leaves = (named.notices, accepted named is, refl) }

    named_only : (key : Key) → Contains ((judged_named disabled notices).keys t) key → PresetKeys preset t key
    named_only key here = elim (Contains-append_cases ((units_named disabled).keys t) ((told own).keys t) key here) [
      | inl names ↦ (let at = names_only t disabled key names in subst (PresetKeys preset t) (sym at.1) (Name disabled enabled notices at.0 judges at.2))
      | inr none ↦ no_key key (subst (λ keys. Contains keys key) (none_told own) none)
    ]

    links_only : (key : Key) (named : Result Names Refusal) → its ≡ named → Contains (asked_keys named) key → PresetKeys preset t key
    links_only key (Ok named) is here =
        let at = asked_only preset.scope t named key here in
        subst (PresetKeys preset t) (sym at.1) (Links disabled enabled left at.0 (disables named is) ((is_named named is at.0).0 at.2))
    links_only key (Err refusal) is here = no_key key here

    gone_only : (key : Key) (named : Result Names Refusal) → its ≡ named → Contains (made_keys named) key → PresetKeys preset t key
    gone_only key (Ok named) is here =
        let at = made_only preset.scope t named key here in
        subst (PresetKeys preset t) (sym at.2) (Link disabled enabled left at.0 at.1 (disables named is) at.3 (at.4.0, (is_named named is at.4.0).0 at.4.1, at.4.2))
    gone_only key (Err refusal) is here = no_key key here

    then_only : (key : Key) (named : Result Names Refusal) → its ≡ named → Contains ((continued second (first.conclusion t)).keys t) key → PresetKeys preset t key
    then_only key (Ok named) is here =
        Then disabled enabled left key (disables named is)
        (enables.only preset.scope true enabled left key (subst (λ keys. Contains keys key) (on_done second t (first.conclusion t) named.notices (accepted named is)) here))
    then_only key (Err refusal) is here = no_key key (subst (λ keys. Contains keys key) (on_refused second t (first.conclusion t) refusal (refused refusal is)) here)

    parts_only : (key : Key) → Contains (first.keys t ++ (continued second (first.conclusion t)).keys t) key → PresetKeys preset t key
    parts_only key here = elim (Contains-append_cases (first.keys t) ((continued second (first.conclusion t)).keys t) key here) [
      | inl before ↦ elim (Contains-append_cases ((judged_named disabled notices).keys t ++ asked_keys its) (made_keys its) key before) [
        | inl asked ↦ elim (Contains-append_cases ((judged_named disabled notices).keys t) (asked_keys its) key asked) [
          | inl names ↦ named_only key names
          | inr links ↦ links_only key its refl links
        ]
        | inr made ↦ gone_only key its refl made
      ]
      | inr then ↦ then_only key its refl then
    ]

    -- The units aren't too many.
    module _ (few : ((preset_meaning preset).conclusion t).answer ≢ Refused TooMany) where
      first_few : (first.conclusion t).answer ≢ Refused TooMany
      first_few is = few ((((preset_in_turn preset t).0 (record { disabled = disabled; enabled = enabled; notices = notices }) judges).1 TooMany).1 (inl is))

      second_few : (v : Entries) → Leaves first t v → (second.conclusion v).answer ≢ Refused TooMany
      second_few v leaves is = few ((((preset_in_turn preset t).0 (record { disabled = disabled; enabled = enabled; notices = notices }) judges).1 TooMany).1 (inr (v, leaves, is)))

      names_are : (from : Result Names Refusal) → own ≡ from → (given : Names) × (own ≡ Ok given)
      names_are (Ok given) is = (given, is)
      names_are (Err refusal) is =
          let why = named_refused t disabled refusal is in
          absurd (first_few (refused refusal (ap (λ named. (told named).conclusion t) is) ∙ ap (λ (r : Refusal). Refused r) why.0))

      its_names : (given : Names) → own ≡ Ok given → its ≡ Ok (telling_too notices given)
      its_names given is = ap (λ named. (told named).conclusion t) is

      in_first : (key : Key) → Contains (first.keys t) key → Contains (first.keys t ++ (continued second (first.conclusion t)).keys t) key
      in_first key here = Contains-append_left (first.keys t) ((continued second (first.conclusion t)).keys t) key here

      name_all : (path : List ℕ) → IsNamedAt t disabled path → Contains (first.keys t ++ (continued second (first.conclusion t)).keys t) (Cell path)
      name_all path at =
          let given = names_are own refl in
          in_first (Cell path)
          (Contains-append_left ((judged_named disabled notices).keys t ++ asked_keys its) (made_keys its) (Cell path)
          (Contains-append_left ((judged_named disabled notices).keys t) (asked_keys its) (Cell path)
          (Contains-append_left ((units_named disabled).keys t) ((told own).keys t) (Cell path) (names_all t disabled given.0 given.1 path at))))

      links_all : (name : List ℕ) → IsNamed t disabled name → Contains (first.keys t ++ (continued second (first.conclusion t)).keys t) (Marked preset.scope name)
      links_all name of =
          let given = names_are own refl in
          let key = Marked preset.scope name in
          in_first key
          (Contains-append_left ((judged_named disabled notices).keys t ++ asked_keys its) (made_keys its) key
          (Contains-append_right ((judged_named disabled notices).keys t) (asked_keys its) key
          (subst (λ named. Contains (asked_keys named) key) (sym (its_names given.0 given.1))
          (asked_all preset.scope t (telling_too notices given.0) name ((gathered_is t disabled given.0 given.1 name).1 of)))))

      link_all : (path : List ℕ) (entry : Entry) → map.get t path ≡ Some entry → IsGone preset.scope disabled t path entry → Contains (first.keys t ++ (continued second (first.conclusion t)).keys t) (Cell path)
      link_all path entry there gone =
          let given = names_are own refl in
          in_first (Cell path)
          (Contains-append_right ((judged_named disabled notices).keys t ++ asked_keys its) (made_keys its) (Cell path)
          (subst (λ named. Contains (made_keys named) (Cell path)) (sym (its_names given.0 given.1))
          (made_all preset.scope t (telling_too notices given.0) path entry there (gone.0, (gathered_is t disabled given.0 given.1 gone.0).1 gone.1, gone.2))))

      then_all : (v : Entries) (key : Key) → Leaves first t v → EnableKeys preset.scope true enabled v key → Contains (first.keys t ++ (continued second (first.conclusion t)).keys t) key
      then_all v key leaves on =
          Contains-append_right (first.keys t) ((continued second (first.conclusion t)).keys t) key
          (subst (λ keys. Contains keys key) (sym (on_done second t (first.conclusion t) leaves.0 leaves.1))
          (subst (λ u. Contains (second.keys u) key) leaves.2 (enables.all preset.scope true enabled v (second_few v leaves) key on)))

module _ (preset : Preset) (t : Entries) where
  abbrev judged : Result Verdicts Refusal
  judged = (preset_judges preset).conclusion t

  abbrev counted : Result (List (List ℕ)) Refusal
  counted = (counting_behind [] preset.units).conclusion t

  -- the keys by which the verdicts are found
  abbrev verdict_keys : Result (List (List ℕ)) Refusal → List Key
  verdict_keys units = (going_on (λ units. giving (units_judged units) (λ judged. Ok judged)) units).keys t

  abbrev through_keys : Result Verdicts Refusal → List Key
  through_keys judged = (carried_through preset.scope judged).keys t

  verdicts_only : (key : Key) (units : Result (List (List ℕ)) Refusal) → counted ≡ units → Contains (verdict_keys units) key → PresetKeys preset t key
  verdicts_only key (Ok units) at here = elim (first_or_later Presets (list_map Cell ((policy_of (part Presets t)).cells t)) key here.0 here.1 here.2) [
    | inl presets ↦ subst (PresetKeys preset t) (sym presets) (AllPresets (all_found t preset.units [] units at))
    | inr policy ↦
        let it = cell_among ((policy_of (part Presets t)).cells t) key policy in
        subst (PresetKeys preset t) (sym it.1) (Policy it.0 (all_found t preset.units [] units at) (policy_only t it.0 it.2))
  ]
  verdicts_only key (Err refusal) at here = no_key key here

  through_only : (key : Key) (given : Result Verdicts Refusal) → judged ≡ given → Contains (through_keys given) key → PresetKeys preset t key
  through_only key (Ok given) is here = parts_only preset t given.disabled given.enabled given.notices is key here
  through_only key (Err refusal) is here = no_key key here

  only : (key : Key) → Contains ((preset_meaning preset).keys t) key → PresetKeys preset t key
  only key here = elim (Contains-append_cases ((preset_judges preset).keys t) (through_keys judged) key here) [
    | inl first ↦ elim (Contains-append_cases ((counting_behind [] preset.units).keys t) (verdict_keys counted) key first) [
      | inl count ↦ (let at = counting_only t preset.units [] key count in subst (PresetKeys preset t) (sym at.2) (Counted at.0 at.1 at.3 at.4))
      | inr verdicts ↦ verdicts_only key counted refl verdicts
    ]
    | inr through ↦ through_only key judged refl through
  ]

  in_judges : (key : Key) → Contains ((preset_judges preset).keys t) key → Contains ((preset_meaning preset).keys t) key
  in_judges key here = Contains-append_left ((preset_judges preset).keys t) (through_keys judged) key here

  in_verdicts : (key : Key) → All (IsSomeUnit t) preset.units → Contains (Presets ∷ list_map Cell ((policy_of (part Presets t)).cells t)) key → Contains ((preset_meaning preset).keys t) key
  in_verdicts key fine here =
      let units = all_count t preset.units [] fine in
      in_judges key (Contains-append_right ((counting_behind [] preset.units).keys t) (verdict_keys counted) key (subst (λ units. Contains (verdict_keys units) key) (sym units.1) here))

  in_parts : (disabled enabled : List (List ℕ)) (notices : NoticeMap) (key : Key) → Judges preset t disabled enabled notices
      → Contains ((first preset t disabled enabled notices).keys t ++ (continued (second preset t disabled enabled notices) ((first preset t disabled enabled notices).conclusion t)).keys t) key
      → Contains ((preset_meaning preset).keys t) key
  in_parts disabled enabled notices key judges here =
      Contains-append_right ((preset_judges preset).keys t) (through_keys judged) key (subst (λ judged. Contains (through_keys judged) key) (sym judges) here)

  all : ((preset_meaning preset).conclusion t).answer ≢ Refused TooMany → (key : Key) → PresetKeys preset t key → Contains ((preset_meaning preset).keys t) key
  all few key (Counted unit path to up) =
      in_judges (Cell path) (Contains-append_left ((counting_behind [] preset.units).keys t) (verdict_keys counted) (Cell path) (counting_at t preset.units [] unit path to up))
  all few key (AllPresets fine) = in_verdicts Presets fine (is_first Presets (list_map Cell ((policy_of (part Presets t)).cells t)) Presets refl)
  all few key (Policy path fine here) =
      in_verdicts (Cell path) fine
      (is_later Presets (list_map Cell ((policy_of (part Presets t)).cells t)) (Cell path)
      (among_cells ((policy_of (part Presets t)).cells t) path (policy_all t path here)))
  all few key (Name disabled enabled notices path judges at) = in_parts disabled enabled notices (Cell path) judges (name_all preset t disabled enabled notices judges few path at)
  all few key (Links disabled enabled v name first of) =
      in_parts disabled enabled first.notices (Marked preset.scope name) first.judges (links_all preset t disabled enabled first.notices first.judges few name of)
  all few key (Link disabled enabled v path entry first there gone) =
      in_parts disabled enabled first.notices (Cell path) first.judges (link_all preset t disabled enabled first.notices first.judges few path entry there gone)
  all few key (Then disabled enabled v _ first on) = in_parts disabled enabled first.notices key first.judges (then_all preset t disabled enabled first.notices first.judges few v key first.leaves on)

pub preset_looks : PresetLooks
preset_looks preset t key = record {
  only = λ here. only preset t key ((looks preset_meaning preset t key).0 here);
  all = λ few looked. (looks preset_meaning preset t key).1 (all preset t few key looked);
}
