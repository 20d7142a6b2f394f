-- Which units a preset disables and enables.
use Rattle.std.proofs.Common.{◌≡◌, ℕ, Bool, true, false, cond, List, [], ◌∷◌, ◌++◌, ◌⊎◌, ◌↔◌, All, Contains, Option, Some, None, Result, Ok, Err, refl, sym, ap, subst, ◌∙◌, inl, inr}
use Rattle.std.specs.FinMap as map
use Rattle.std.proofs.lemmas.Bool.{cases_Bool}
use Rattle.std.proofs.lemmas.List.{append_assoc, append-nil}
use Rattle.std.proofs.lemmas.List.Elements.{All-nil, All-cons, All-head, All-tail, Contains-append_left, Contains-push, Contains-push_cases}
use Rattle.unit_file.specs.Listed.{is_template_name}
use Rattle.unit_paths.specs.Slots.{slot_of}
use Rattle.link_tree.specs.declared.entry.Entry.{Entry}
use Rattle.link_tree.specs.Trees.{Entries}
use Rattle.link_tree.proofs.Changed.{same_tree}
use Rattle.load_path.specs.RealNames.{put_in}
use Rattle.install_section.proofs.Least.{is_first, is_later, first_or_later, none_of}
use Rattle.preset_rules.specs.declared.rule.Rule.{Rule}
use Rattle.preset_rules.specs.declared.rule.Verdict.{Verdict}
use Rattle.preset_rules.specs.declared.rule.Verdict.TheVariants as verdicts
use Rattle.preset_rules.specs.Files.{presets_of, policy_of}
use Rattle.preset_rules.specs.Verdicts.{verdict}
use Rattle.preset_rules.proofs.Agreeing.{presets_decide}
use Rattle.preset_rules.proofs.WinnersFound.{get-presets}
use Rattle.tree_access.specs.declared.key.Key.TheVariants.{Presets}
use Rattle.tree_access.specs.declared.refusal.Refusal.{Refusal}
use Rattle.footprint.specs.Inquiry.{giving}
use Rattle.tree_access.specs.Keys.{part, shown}
use Rattle.unit_paths.specs.Kinds.{is_preset}
use Rattle.tree_access.proofs.KeyLaws.{get-part}
use Rattle.install_commands.specs.declared.judging.Judged.{Judged}
use Rattle.install_commands.specs.declared.preset.Preset.{Preset}
use Rattle.install_commands.specs.Check.{going_on}
use Rattle.install_commands.specs.CompositeLaws.{rules_of, Counts, GivesUnit, IsFirstMissing, PresetJudges}
use Rattle.install_commands.specs.Preset.{counts, counting_behind, with_one, with_disabled, with_listed, with_all_listed, with_enabled, with_unit, judged_by, none_judged, units_judged, preset_judges}

-- the paths that a preset looks at are the preset slots
pub presets_part : (t : Entries) → part Presets t ≡ presets_of t
presets_part t = same_tree _ _ (λ path. get-part Presets t path ∙ by_entry path (map.get t path) ∙ sym (get-presets t path))
  where
    by_entry : (path : List ℕ) (there : Option Entry) → shown Presets path there ≡ cond (is_preset (slot_of path)) there None
    by_entry path None = elim (cases_Bool (is_preset (slot_of path))) [ inl is ↦ sym (ap (λ b. cond b None None) is) | inr not ↦ sym (ap (λ b. cond b None None) not) ]
    by_entry path (Some entry) = refl

pub same_rules : (t : Entries) → (policy_of (part Presets t)).conclusion t ≡ rules_of t
same_rules t = ap (λ policy. policy.conclusion t) (ap policy_of (presets_part t) ∙ presets_decide t)

module _ (t : Entries) where
  -- a unit is in the list if it is one of the names, or one of the units and counts
  abbrev Adds : (names units list : List (List ℕ)) → (unit : List ℕ) → Type 0
  Adds names units list unit = Contains list unit ↔ (Contains names unit ⊎ (Contains units unit × Counts t unit))

  one_counts : (first : List ℕ) (units names list : List (List ℕ)) (unit : List ℕ) (here : Bool) → (counts first).conclusion t ≡ Ok here → Adds (cond here (names ++ first ∷ []) names) units list unit
      → Adds names (first ∷ units) list unit
  one_counts first units names list unit true at adds = (
    λ among. elim (adds.0 among) [
      | inl before ↦ elim (Contains-push_cases names first unit before) [
        | inl old ↦ inl old
        | inr same ↦ inr (is_first first units unit (sym same), subst (Counts t) same at)
      ]
      | inr later ↦ inr (is_later first units unit later.0, later.1)
    ],
    λ so. elim so [
      | inl old ↦ adds.1 (inl (Contains-append_left names (first ∷ []) unit old))
      | inr new ↦ elim (first_or_later first units unit new.0.0 new.0.1 new.0.2) [
        | inl same ↦ adds.1 (inl (subst (Contains (names ++ first ∷ [])) (sym same) (Contains-push names first)))
        | inr later ↦ adds.1 (inr (later, new.1))
      ]
    ],
  )
  one_counts first units names list unit false at adds = (
    λ among. elim (adds.0 among) [ inl old ↦ inl old | inr later ↦ inr (is_later first units unit later.0, later.1) ],
    λ so. elim so [
      | inl old ↦ adds.1 (inl old)
      | inr new ↦ elim (first_or_later first units unit new.0.0 new.0.1 new.0.2) [
        | inl same ↦ (let both : Ok true ≡ Ok false = sym new.1 ∙ ap (λ unit. (counts unit).conclusion t) same ∙ at in cc)
        | inr later ↦ adds.1 (inr (later, new.1))
      ]
    ],
  )

  pub counted : (units names list : List (List ℕ)) → (counting_behind names units).conclusion t ≡ Ok list → (unit : List ℕ) → Adds names units list unit
  counted [] names list is unit =
      let same : names ≡ list = cc in (
        λ among. inl (subst (λ list. Contains list unit) (sym same) among),
        λ so. elim so [ inl here ↦ subst (λ list. Contains list unit) same here | inr none ↦ absurd (none_of [] unit refl none.0) ],
      )
  counted (first ∷ units) names list is unit = by_first (λ names rest. counted units names list rest unit) ((counts first).conclusion t) refl is
    where
      by_first : ((names : List (List ℕ)) → (counting_behind names units).conclusion t ≡ Ok list → Adds names units list unit) → (here : Result Bool Refusal) → (counts first).conclusion t ≡ here
          → (going_on (λ here. counting_behind (cond here (names ++ first ∷ []) names) units) here).conclusion t ≡ Ok list → Adds names (first ∷ units) list unit
      by_first rest (Ok here) at is = one_counts first units names list unit here at (rest (cond here (names ++ first ∷ []) names) is)
      by_first rest (Err refusal) at is = cc

  -- a unit isn't found, but all before it are
  abbrev IsMissing : (units : List (List ℕ)) → Refusal → Type 0
  IsMissing units refusal = IsFirstMissing t units refusal

  abbrev IsFound : List ℕ → Type 0
  IsFound unit = (here : Bool) × ((counts unit).conclusion t ≡ Ok here)

  first_missing : (units names : List (List ℕ)) (refusal : Refusal) → (counting_behind names units).conclusion t ≡ Err refusal → IsMissing units refusal
  first_missing [] names refusal is = cc
  first_missing (first ∷ units) names refusal is = by_first (λ names rest. first_missing units names refusal rest) ((counts first).conclusion t) refl is
    where
      by_first : ((names : List (List ℕ)) → (counting_behind names units).conclusion t ≡ Err refusal → IsMissing units refusal) → (here : Result Bool Refusal) → (counts first).conclusion t ≡ here
          → (going_on (λ here. counting_behind (cond here (names ++ first ∷ []) names) units) here).conclusion t ≡ Err refusal → IsMissing (first ∷ units) refusal
      by_first rest (Ok here) at is = let later = rest (cond here (names ++ first ∷ []) names) is in
          (first ∷ later.0, later.1, later.2, ap (λ units. first ∷ units) later.3, All-cons IsFound first later.0 (here, at) later.4, later.5)
      by_first rest (Err other) at is = let same : other ≡ refusal = cc in ([], units, first, refl, All-nil IsFound, at ∙ ap (λ (r : Refusal). Err r) same)

  missing_refused : (before after : List (List ℕ)) (unit : List ℕ) (names : List (List ℕ)) (refusal : Refusal) → All IsFound before → (counts unit).conclusion t ≡ Err refusal
      → (counting_behind names (before ++ unit ∷ after)).conclusion t ≡ Err refusal
  missing_refused [] after unit names refusal all is = ap (λ here. (going_on (λ here. counting_behind (cond here (names ++ unit ∷ []) names) after) here).conclusion t) is
  missing_refused (first ∷ before) after unit names refusal all is =
      let found = All-head IsFound first before all in
      ap (λ here. (going_on (λ here. counting_behind (cond here (names ++ first ∷ []) names) (before ++ unit ∷ after)) here).conclusion t) found.1
      ∙ missing_refused before after unit (cond found.0 (names ++ first ∷ []) names) refusal (All-tail IsFound first before all) is

  pub missing : (units : List (List ℕ)) (refusal : Refusal) → ((counting_behind [] units).conclusion t ≡ Err refusal) ↔ IsMissing units refusal
  missing units refusal = (
    first_missing units [] refusal,
    λ first. ap (λ units. (counting_behind [] units).conclusion t) first.3 ∙ missing_refused first.0 first.1 first.2 [] refusal first.4 first.5,
  )

-- the listed instances that make valid names will be enabled
module _ (template : List ℕ) where
  abbrev IsListed : (instances : List (List ℕ)) → (unit : List ℕ) → Type 0
  IsListed instances unit = (instance : List ℕ) × Contains instances instance × (put_in template (Some instance) ≡ Some unit)

  one_listed : (instance : List ℕ) (instances : List (List ℕ)) (judged : Judged) (put : Option (List ℕ)) (unit : List ℕ) → put_in template (Some instance) ≡ put
      → Contains (with_listed template instance judged put).enabled unit ↔ (Contains judged.enabled unit ⊎ (Some unit ≡ put))
  one_listed instance instances judged None unit at = (λ here. inl here, λ so. elim so [ inl here ↦ here | inr none ↦ cc ])
  one_listed instance instances judged (Some put) unit at = (
    λ here. elim (Contains-push_cases judged.enabled put unit here) [ inl before ↦ inl before | inr same ↦ inr (ap (λ unit. Some unit) (sym same)) ],
    λ so. elim so [
      | inl before ↦ Contains-append_left judged.enabled (put ∷ []) unit before
      | inr same ↦ (let is : unit ≡ put = cc in subst (Contains (judged.enabled ++ put ∷ [])) (sym is) (Contains-push judged.enabled put))
    ],
  )

  all_listed : (instances : List (List ℕ)) (judged : Judged) (unit : List ℕ) → Contains (with_all_listed template judged instances).enabled unit ↔ (Contains judged.enabled unit ⊎ IsListed instances unit)
  all_listed [] judged unit = (λ here. inl here, λ so. elim so [ inl here ↦ here | inr none ↦ absurd (none_of [] none.0 refl none.1) ])
  all_listed (instance ∷ instances) judged unit =
      let rest = all_listed instances (with_listed template instance judged (put_in template (Some instance))) unit in
      let one = one_listed instance instances judged (put_in template (Some instance)) unit refl in (
        λ here. elim (rest.0 here) [
          | inl before ↦ elim (one.0 before) [ inl old ↦ inl old | inr is ↦ inr (instance, is_first instance instances instance refl, sym is) ]
          | inr later ↦ inr (later.0, is_later instance instances later.0 later.1, later.2)
        ],
        λ so. elim so [
          | inl old ↦ rest.1 (inl (one.1 (inl old)))
          | inr new ↦ elim (first_or_later instance instances new.0 new.1.0 new.1.1 new.1.2) [
            | inl same ↦ rest.1 (inl (one.1 (inr (sym new.2 ∙ ap (λ instance. put_in template (Some instance)) same))))
            | inr later ↦ rest.1 (inr (new.0, later, new.2))
          ]
        ],
      )

  -- the disabled units are unchanged
  listed_disabled : (instance : List ℕ) (judged : Judged) (put : Option (List ℕ)) → (with_listed template instance judged put).disabled ≡ judged.disabled
  listed_disabled instance judged None = refl
  listed_disabled instance judged (Some put) = refl

  all_disabled : (instances : List (List ℕ)) (judged : Judged) → (with_all_listed template judged instances).disabled ≡ judged.disabled
  all_disabled [] judged = refl
  all_disabled (instance ∷ instances) judged =
      all_disabled instances (with_listed template instance judged (put_in template (Some instance))) ∙ listed_disabled instance judged (put_in template (Some instance))

-- one more unit will be enabled
one_more : (first unit : List ℕ) (judged : Judged) → Contains (with_one first judged).enabled unit ↔ (Contains judged.enabled unit ⊎ (unit ≡ first))
one_more first unit judged = (
  λ here. elim (Contains-push_cases judged.enabled first unit here) [ inl before ↦ inl before | inr same ↦ inr (sym same) ],
  λ so. elim so [
    | inl before ↦ Contains-append_left judged.enabled (first ∷ []) unit before
    | inr same ↦ subst (Contains (judged.enabled ++ first ∷ [])) (sym same) (Contains-push judged.enabled first)
  ],
)

enabled_of : (first : List ℕ) (instances : List (List ℕ)) (judged : Judged) (unit : List ℕ) → Contains (with_enabled first judged instances).enabled unit ↔ (Contains judged.enabled unit ⊎ GivesUnit first instances unit)
enabled_of first [] judged unit = one_more first unit judged
enabled_of first (instance ∷ instances) judged unit = by_kind (is_template_name first) refl
  where
    by_kind : (template : Bool) → is_template_name first ≡ template
        → Contains (cond template (with_all_listed first judged (instance ∷ instances)) (with_one first judged)).enabled unit ↔ (Contains judged.enabled unit ⊎ GivesUnit first (instance ∷ instances) unit)
    by_kind true is = let all = all_listed first (instance ∷ instances) judged unit in (
      λ here. elim (all.0 here) [ inl old ↦ inl old | inr new ↦ inr (inr (is, new.0, new.1, new.2)) ],
      λ so. elim so [
        | inl old ↦ all.1 (inl old)
        | inr (inl own) ↦ (let both : true ≡ false = sym is ∙ own.0 in cc)
        | inr (inr new) ↦ all.1 (inr (new.1, new.2, new.3))
      ],
    )
    by_kind false is = let one = one_more first unit judged in (
      λ here. elim (one.0 here) [ inl old ↦ inl old | inr same ↦ inr (inl (is, same)) ],
      λ so. elim so [
        | inl old ↦ one.1 (inl old)
        | inr (inl own) ↦ one.1 (inr own.1)
        | inr (inr new) ↦ (let both : true ≡ false = sym new.0 ∙ is in cc)
      ],
    )

enabled_disabled : (first : List ℕ) (instances : List (List ℕ)) (judged : Judged) → (with_enabled first judged instances).disabled ≡ judged.disabled
enabled_disabled first [] judged = refl
enabled_disabled first (instance ∷ instances) judged = by_kind (is_template_name first)
  where
    by_kind : (template : Bool) → (cond template (with_all_listed first judged (instance ∷ instances)) (with_one first judged)).disabled ≡ judged.disabled
    by_kind true = all_disabled first (instance ∷ instances) judged
    by_kind false = refl

module _ (rules : List Rule) where
  abbrev Disables : (units : List (List ℕ)) → Judged → (unit : List ℕ) → Type 0
  Disables units judged unit = Contains judged.disabled unit ⊎ (Contains units unit × (verdict rules unit ≡ verdicts.Disable))

  abbrev IsGiven : (units : List (List ℕ)) → (unit : List ℕ) → Type 0
  IsGiven units unit = (given : List ℕ) × Contains units given × (instances : List (List ℕ)) × (verdict rules given ≡ verdicts.Enable instances) × GivesUnit given instances unit

  one_disabled : (first : List ℕ) (units : List (List ℕ)) (judged : Judged) (unit : List ℕ) (said : Verdict) → verdict rules first ≡ said
      → Disables units (with_unit first judged said) unit ↔ Disables (first ∷ units) judged unit
  one_disabled first units judged unit verdicts.Disable is = (
    λ so. elim so [
      | inl before ↦ elim (Contains-push_cases judged.disabled first unit before) [
        | inl old ↦ inl old
        | inr same ↦ inr (is_first first units unit (sym same), ap (verdict rules) (sym same) ∙ is)
      ]
      | inr later ↦ inr (is_later first units unit later.0, later.1)
    ],
    λ so. elim so [
      | inl old ↦ inl (Contains-append_left judged.disabled (first ∷ []) unit old)
      | inr new ↦ elim (first_or_later first units unit new.0.0 new.0.1 new.0.2) [
        | inl same ↦ inl (subst (Contains (judged.disabled ++ first ∷ [])) (sym same) (Contains-push judged.disabled first))
        | inr later ↦ inr (later, new.1)
      ]
    ],
  )
  one_disabled first units judged unit verdicts.Ignore is = (
    λ so. elim so [ inl old ↦ inl old | inr later ↦ inr (is_later first units unit later.0, later.1) ],
    λ so. elim so [
      | inl old ↦ inl old
      | inr new ↦ elim (first_or_later first units unit new.0.0 new.0.1 new.0.2) [
        | inl own ↦ (let both : verdicts.Disable ≡ verdicts.Ignore = sym new.1 ∙ ap (verdict rules) own ∙ is in cc)
        | inr later ↦ inr (later, new.1)
      ]
    ],
  )
  one_disabled first units judged unit (verdicts.Enable instances) is =
      let same = enabled_disabled first instances judged in (
        λ so. elim so [
          | inl before ↦ inl (subst (λ disabled. Contains disabled unit) same before)
          | inr later ↦ inr (is_later first units unit later.0, later.1)
        ],
        λ so. elim so [
          | inl old ↦ inl (subst (λ disabled. Contains disabled unit) (sym same) old)
          | inr new ↦ elim (first_or_later first units unit new.0.0 new.0.1 new.0.2) [
            | inl own ↦ (let both : verdicts.Disable ≡ verdicts.Enable instances = sym new.1 ∙ ap (verdict rules) own ∙ is in cc)
            | inr later ↦ inr (later, new.1)
          ]
        ],
      )

  pub disabled_are : (units : List (List ℕ)) (judged : Judged) (unit : List ℕ) → Contains (judged_by rules units judged).disabled unit ↔ Disables units judged unit
  disabled_are [] judged unit = (λ here. inl here, λ so. elim so [ inl here ↦ here | inr none ↦ absurd (none_of [] unit refl none.0) ])
  disabled_are (first ∷ units) judged unit =
      let rest = disabled_are units (with_unit first judged (verdict rules first)) unit in
      let one = one_disabled first units judged unit (verdict rules first) refl in
      (λ here. one.0 (rest.0 here), λ so. rest.1 (one.1 so))

  later_given : (first : List ℕ) (units : List (List ℕ)) (unit : List ℕ) → IsGiven units unit → IsGiven (first ∷ units) unit
  later_given first units unit given = (given.0, is_later first units given.0 given.1, given.2, given.3, given.4)

  one_enabled : (first : List ℕ) (units : List (List ℕ)) (judged : Judged) (unit : List ℕ) (said : Verdict) → verdict rules first ≡ said
      → (Contains (with_unit first judged said).enabled unit ⊎ IsGiven units unit) ↔ (Contains judged.enabled unit ⊎ IsGiven (first ∷ units) unit)
  one_enabled first units judged unit verdicts.Disable is = (
    λ so. elim so [ inl old ↦ inl old | inr later ↦ inr (later_given first units unit later) ],
    λ so. elim so [
      | inl old ↦ inl old
      | inr new ↦ elim (first_or_later first units new.0 new.1.0 new.1.1 new.1.2) [
        | inl own ↦ (let both : verdicts.Enable new.2 ≡ verdicts.Disable = sym new.3 ∙ ap (verdict rules) own ∙ is in cc)
        | inr later ↦ inr (new.0, later, new.2, new.3, new.4)
      ]
    ],
  )
  one_enabled first units judged unit verdicts.Ignore is = (
    λ so. elim so [ inl old ↦ inl old | inr later ↦ inr (later_given first units unit later) ],
    λ so. elim so [
      | inl old ↦ inl old
      | inr new ↦ elim (first_or_later first units new.0 new.1.0 new.1.1 new.1.2) [
        | inl own ↦ (let both : verdicts.Enable new.2 ≡ verdicts.Ignore = sym new.3 ∙ ap (verdict rules) own ∙ is in cc)
        | inr later ↦ inr (new.0, later, new.2, new.3, new.4)
      ]
    ],
  )
  one_enabled first units judged unit (verdicts.Enable instances) is =
      let by = enabled_of first instances judged unit in (
        λ so. elim so [
          | inl before ↦ elim (by.0 before) [
            | inl old ↦ inl old
            | inr gives ↦ inr (first, is_first first units first refl, instances, is, gives)
          ]
          | inr later ↦ inr (later_given first units unit later)
        ],
        λ so. elim so [
          | inl old ↦ inl (by.1 (inl old))
          | inr new ↦ elim (first_or_later first units new.0 new.1.0 new.1.1 new.1.2) [
            | inl own ↦ (
                let said : verdicts.Enable new.2 ≡ verdicts.Enable instances = sym new.3 ∙ ap (verdict rules) own ∙ is in
                let same : new.2 ≡ instances = cc in
                inl (by.1 (inr (subst (λ given. GivesUnit given instances unit) own (subst (λ instances. GivesUnit new.0 instances unit) same new.4)))))
            | inr later ↦ inr (new.0, later, new.2, new.3, new.4)
          ]
        ],
      )

  pub enabled_are : (units : List (List ℕ)) (judged : Judged) (unit : List ℕ) → Contains (judged_by rules units judged).enabled unit ↔ (Contains judged.enabled unit ⊎ IsGiven units unit)
  enabled_are [] judged unit = (λ here. inl here, λ so. elim so [ inl here ↦ here | inr none ↦ absurd (none_of [] none.0 refl none.1) ])
  enabled_are (first ∷ units) judged unit =
      let rest = enabled_are units (with_unit first judged (verdict rules first)) unit in
      let one = one_enabled first units judged unit (verdict rules first) refl in
      (λ here. one.0 (rest.0 here), λ so. rest.1 (one.1 so))

-- if all are enabled, or all are disabled
module _ (rules : List Rule) where
  pub all_enabled : ((name : List ℕ) → verdict rules name ≡ verdicts.Enable []) → (units : List (List ℕ)) (judged : Judged) → judged_by rules units judged ≡ record judged { enabled = judged.enabled ++ units }
  all_enabled all [] judged = ap (λ enabled. record judged { enabled = enabled }) (sym (append-nil judged.enabled))
  all_enabled all (unit ∷ units) judged =
      ap (λ said. judged_by rules units (with_unit unit judged said)) (all unit) ∙ all_enabled all units (with_one unit judged)
      ∙ ap (λ enabled. record judged { enabled = enabled }) (append_assoc judged.enabled (unit ∷ []) units)

  pub all_to_disable : ((name : List ℕ) → verdict rules name ≡ verdicts.Disable) → (units : List (List ℕ)) (judged : Judged) → judged_by rules units judged ≡ record judged { disabled = judged.disabled ++ units }
  all_to_disable all [] judged = ap (λ disabled. record judged { disabled = disabled }) (sym (append-nil judged.disabled))
  all_to_disable all (unit ∷ units) judged =
      ap (λ said. judged_by rules units (with_unit unit judged said)) (all unit) ∙ all_to_disable all units (with_disabled unit judged)
      ∙ ap (λ disabled. record judged { disabled = disabled }) (append_assoc judged.disabled (unit ∷ []) units)

module _ (preset : Preset) (t : Entries) where
  -- the units that count, and what the rules say about them
  pub record Said (judged : Judged) : Type 0 where
    pub units : List (List ℕ)
    pub count : (counting_behind [] preset.units).conclusion t ≡ Ok units
    pub are : judged ≡ judged_by (rules_of t) units none_judged

  by_counting : (judged : Judged) (units : Result (List (List ℕ)) Refusal) → (counting_behind [] preset.units).conclusion t ≡ units
      → (going_on (λ units. giving (units_judged units) (λ judged. Ok judged)) units).conclusion t ≡ Ok judged → Said judged
  by_counting judged (Ok units) at is = record {
    units = units;
    count = at;
    are = (let same : judged_by ((policy_of (part Presets t)).conclusion t) units none_judged ≡ judged = cc in sym same ∙ ap (λ rules. judged_by rules units none_judged) (same_rules t));
  }
  by_counting judged (Err refusal) at is = cc

  pub said_of : (judged : Judged) → (preset_judges preset).conclusion t ≡ Ok judged → Said judged
  said_of judged is = by_counting judged ((counting_behind [] preset.units).conclusion t) refl is

  -- it is refused if a unit isn't found
  refused_by : (refusal : Refusal) (units : Result (List (List ℕ)) Refusal) → (counting_behind [] preset.units).conclusion t ≡ units
      → (going_on (λ units. giving (units_judged units) (λ judged. Ok judged)) units).conclusion t ≡ Err refusal → (counting_behind [] preset.units).conclusion t ≡ Err refusal
  refused_by refusal (Ok units) at is = cc
  refused_by refusal (Err other) at is = let same : other ≡ refusal = cc in at ∙ ap (λ (r : Refusal). Err r) same

  pub judges_refused : (refusal : Refusal) → ((preset_judges preset).conclusion t ≡ Err refusal) ↔ IsFirstMissing t preset.units refusal
  judges_refused refusal = (
    λ is. (missing t preset.units refusal).0 (refused_by refusal ((counting_behind [] preset.units).conclusion t) refl is),
    λ first. ap (λ units. (going_on (λ units. giving (units_judged units) (λ judged. Ok judged)) units).conclusion t) ((missing t preset.units refusal).1 first),
  )

  module _ (judged : Judged) (said : Said judged) where
    among : (unit : List ℕ) → Contains said.units unit ↔ (Contains preset.units unit × Counts t unit)
    among unit = let is = counted t preset.units [] said.units said.count unit in (
      λ here. elim (is.0 here) [ inl none ↦ absurd (none_of [] unit refl none) | inr so ↦ so ],
      λ so. is.1 (inr so),
    )

    disables : (unit : List ℕ) → Contains judged.disabled unit ↔ (Contains preset.units unit × Counts t unit × (verdict (rules_of t) unit ≡ verdicts.Disable))
    disables unit = let are = disabled_are (rules_of t) said.units none_judged unit in (
      λ here. elim (are.0 (subst (λ (j : Judged). Contains j.disabled unit) said.are here)) [
        | inl none ↦ absurd (none_of [] unit refl none)
        | inr so ↦ (let is = (among unit).0 so.0 in (is.0, is.1, so.1))
      ],
      λ so. subst (λ (j : Judged). Contains j.disabled unit) (sym said.are) (are.1 (inr ((among unit).1 (so.0, so.1), so.2))),
    )

    enables : (unit : List ℕ) → Contains judged.enabled unit
        ↔ ((given : List ℕ) × Contains preset.units given × Counts t given × (instances : List (List ℕ)) × (verdict (rules_of t) given ≡ verdicts.Enable instances) × GivesUnit given instances unit)
    enables unit = let are = enabled_are (rules_of t) said.units none_judged unit in (
      λ here. elim (are.0 (subst (λ (j : Judged). Contains j.enabled unit) said.are here)) [
        | inl none ↦ absurd (none_of [] unit refl none)
        | inr so ↦ (let is = (among so.0).0 so.1 in (so.0, is.0, is.1, so.2, so.3, so.4))
      ],
      λ so. subst (λ (j : Judged). Contains j.enabled unit) (sym said.are) (are.1 (inr (so.0, (among so.0).1 (so.1, so.2), so.3, so.4, so.5))),
    )

pub judges : PresetJudges
judges preset t judged is = let said = said_of preset t judged is in (disables preset t judged said, enables preset t judged said)
