-- The notices about instances that a preset file lists.
use Rattle.std.proofs.Common.{◌≡◌, ℕ, Bool, true, false, cond, List, [], ◌∷◌, Contains, Option, Some, None, refl, sym, subst, inl, inr}
use Rattle.std.specs.FinMap as map
use Rattle.unit_file.specs.declared.notice.Notice.{Notice}
use Rattle.unit_file.specs.Listed.{is_template_name}
use Rattle.unit_file.specs.Notices.{NoticeMap, notice_line}
use Rattle.unit_paths.specs.declared.place.Scope.TheVariants.{Etc}
use Rattle.load_path.specs.RealNames.{put_in}
use Rattle.install_section.proofs.Least.{IsTold, still_told, now_told, is_first, is_later, first_or_later, none_of}
use Rattle.preset_rules.specs.declared.rule.Rule.{Rule}
use Rattle.preset_rules.specs.declared.rule.Verdict.{Verdict}
use Rattle.preset_rules.specs.declared.rule.Verdict.TheVariants as verdicts
use Rattle.preset_rules.specs.Verdicts.{verdict}
use Rattle.install_commands.specs.Preset.{bad_instance, with_one, with_listed, with_all_listed, with_enabled, with_unit, judged_by, judged_disabled}
use Rattle.notice_laws.specs.Installs.{ListsBadly}
use Rattle.notice_laws.proofs.Private.{Given}
use Rattle.notice_laws.proofs.Told.{one_only}

-- the verdicts of a preset; the struct is private
abbrev pub Verdicts : Type 0
Verdicts = Given (judged_disabled Etc)

abbrev pub bad_line : (template instance : List ℕ) → List ℕ
bad_line template instance = notice_line (bad_instance template instance)

-- what was reported still is
module _ (line : List ℕ) where
  kept_one : (template instance : List ℕ) (judged : Verdicts) (put : Option (List ℕ)) → IsTold judged.notices line → IsTold (with_listed template instance judged put).notices line
  kept_one template instance judged None told = still_told judged.notices (bad_instance template instance) line told
  kept_one template instance judged (Some unit) told = told

  kept_all : (template : List ℕ) (instances : List (List ℕ)) (judged : Verdicts) → IsTold judged.notices line → IsTold (with_all_listed template judged instances).notices line
  kept_all template [] judged told = told
  kept_all template (instance ∷ instances) judged told =
      kept_all template instances (with_listed template instance judged (put_in template (Some instance))) (kept_one template instance judged (put_in template (Some instance)) told)

  kept_enabled : (unit : List ℕ) (instances : List (List ℕ)) (judged : Verdicts) → IsTold judged.notices line → IsTold (with_enabled unit judged instances).notices line
  kept_enabled unit [] judged told = told
  kept_enabled unit (instance ∷ instances) judged told = by_kind (is_template_name unit)
    where
      by_kind : (template : Bool) → IsTold (cond template (with_all_listed unit judged (instance ∷ instances)) (with_one unit judged)).notices line
      by_kind true = kept_all unit (instance ∷ instances) judged told
      by_kind false = told

  kept_unit : (unit : List ℕ) (judged : Verdicts) (said : Verdict) → IsTold judged.notices line → IsTold (with_unit unit judged said).notices line
  kept_unit unit judged verdicts.Disable told = told
  kept_unit unit judged verdicts.Ignore told = told
  kept_unit unit judged (verdicts.Enable instances) told = kept_enabled unit instances judged told

  kept_by : (rules : List Rule) (units : List (List ℕ)) (judged : Verdicts) → IsTold judged.notices line → IsTold (judged_by rules units judged).notices line
  kept_by rules [] judged told = told
  kept_by rules (unit ∷ units) judged told = kept_by rules units (with_unit unit judged (verdict rules unit)) (kept_unit unit judged (verdict rules unit) told)

-- an instance that gives no valid name is reported
module _ (template instance : List ℕ) (bad : put_in template (Some instance) ≡ None) where
  abbrev line : List ℕ
  line = bad_line template instance

  told_one : (judged : Verdicts) → IsTold (with_listed template instance judged (put_in template (Some instance))).notices line
  told_one judged = subst (λ put. IsTold (with_listed template instance judged put).notices line) (sym bad) (now_told judged.notices (bad_instance template instance))

  told_all : (instances : List (List ℕ)) (judged : Verdicts) → Contains instances instance → IsTold (with_all_listed template judged instances).notices line
  told_all [] judged here = absurd (none_of [] instance refl here)
  told_all (first ∷ instances) judged here = elim (first_or_later first instances instance here.0 here.1 here.2) [
    | inl same ↦
        kept_all line template instances (with_listed template first judged (put_in template (Some first)))
        (subst (λ first. IsTold (with_listed template first judged (put_in template (Some first))).notices line) same (told_one judged))
    | inr later ↦ told_all instances (with_listed template first judged (put_in template (Some first))) later
  ]

  told_enabled : (instances : List (List ℕ)) (judged : Verdicts) → is_template_name template ≡ true → Contains instances instance → IsTold (with_enabled template judged instances).notices line
  told_enabled [] judged is here = absurd (none_of [] instance refl here)
  told_enabled (first ∷ instances) judged is here =
      subst (λ b. IsTold (cond b (with_all_listed template judged (first ∷ instances)) (with_one template judged)).notices line) (sym is) (told_all (first ∷ instances) judged here)

module _ (rules : List Rule) where
  module _ (template instance : List ℕ) (lists : ListsBadly rules template instance) where
    told_unit : (judged : Verdicts) → IsTold (with_unit template judged (verdict rules template)).notices (bad_line template instance)
    told_unit judged =
        subst (λ said. IsTold (with_unit template judged said).notices (bad_line template instance)) (sym lists.enables)
        (told_enabled template instance lists.invalid lists.instances judged lists.is_template lists.listed)

    pub all_told : (units : List (List ℕ)) (judged : Verdicts) → Contains units template → IsTold (judged_by rules units judged).notices (bad_line template instance)
    all_told [] judged here = absurd (none_of [] template refl here)
    all_told (unit ∷ units) judged here = elim (first_or_later unit units template here.0 here.1 here.2) [
      | inl same ↦
          kept_by (bad_line template instance) rules units (with_unit unit judged (verdict rules unit))
          (subst (λ unit. IsTold (with_unit unit judged (verdict rules unit)).notices (bad_line template instance)) same (told_unit judged))
      | inr later ↦ all_told units (with_unit unit judged (verdict rules unit)) later
    ]

  -- and nothing else is
  module _ (Told : Notice → Type 0) where
    abbrev Only : NoticeMap → Type 0
    Only notices = (line : List ℕ) (notice : Notice) → map.get notices line ≡ Some notice → Told notice × (line ≡ notice_line notice)

    only_one : (template instance : List ℕ) (judged : Verdicts) (put : Option (List ℕ)) → put_in template (Some instance) ≡ put → (put_in template (Some instance) ≡ None → Told (bad_instance template instance))
        → Only judged.notices → Only (with_listed template instance judged put).notices
    only_one template instance judged None at tells only = one_only Told judged.notices (bad_instance template instance) (tells at) only
    only_one template instance judged (Some unit) at tells only = only

    only_listed : (template : List ℕ) (instances : List (List ℕ)) (judged : Verdicts) → ((instance : List ℕ) → Contains instances instance → put_in template (Some instance) ≡ None → Told (bad_instance template instance))
        → Only judged.notices → Only (with_all_listed template judged instances).notices
    only_listed template [] judged tells only = only
    only_listed template (instance ∷ instances) judged tells only =
        only_listed template instances (with_listed template instance judged (put_in template (Some instance))) (λ other here. tells other (is_later instance instances other here))
        (only_one template instance judged (put_in template (Some instance)) refl (tells instance (is_first instance instances instance refl)) only)

    only_enabled : (unit : List ℕ) (instances : List (List ℕ)) (judged : Verdicts)
        → (is_template_name unit ≡ true → (instance : List ℕ) → Contains instances instance → put_in unit (Some instance) ≡ None → Told (bad_instance unit instance))
        → Only judged.notices → Only (with_enabled unit judged instances).notices
    only_enabled unit [] judged tells only = only
    only_enabled unit (instance ∷ instances) judged tells only = by_kind (is_template_name unit) refl
      where
        by_kind : (template : Bool) → is_template_name unit ≡ template → Only (cond template (with_all_listed unit judged (instance ∷ instances)) (with_one unit judged)).notices
        by_kind true is = only_listed unit (instance ∷ instances) judged (tells is) only
        by_kind false is = only

    only_unit : (unit : List ℕ) (judged : Verdicts) (said : Verdict) → verdict rules unit ≡ said → ((instance : List ℕ) → ListsBadly rules unit instance → Told (bad_instance unit instance))
        → Only judged.notices → Only (with_unit unit judged said).notices
    only_unit unit judged verdicts.Disable at tells only = only
    only_unit unit judged verdicts.Ignore at tells only = only
    only_unit unit judged (verdicts.Enable instances) at tells only =
        only_enabled unit instances judged (λ is instance here bad. tells instance (record { instances = instances; enables = at; listed = here; is_template = is; invalid = bad })) only

    pub only_told : (units : List (List ℕ)) (judged : Verdicts) → ((template instance : List ℕ) → Contains units template → ListsBadly rules template instance → Told (bad_instance template instance))
        → Only judged.notices → Only (judged_by rules units judged).notices
    only_told [] judged tells only = only
    only_told (unit ∷ units) judged tells only =
        only_told units (with_unit unit judged (verdict rules unit)) (λ template instance here. tells template instance (is_later unit units template here))
        (only_unit unit judged (verdict rules unit) refl (λ instance. tells unit instance (is_first unit units unit refl)) only)
