-- Rules after others, and trees without preset files.
use Rattle.std.proofs.Common.{◌≡◌, ℕ, Bool, true, false, cond, List, [], ◌∷◌, ◌++◌, Option, Some, None, refl, sym, ap, ◌∙◌, inl, inr, map as list_map}
use Rattle.std.specs.List.{find}
use Rattle.std.specs.Option.{option_map_or}
use Rattle.std.specs.FinMap as map
use Rattle.std.proofs.lemmas.Bool.{cases_Bool}
use Rattle.std.proofs.lemmas.List.{append-nil, nil_from_length}
use Rattle.std.proofs.lemmas.List.Elements.{All-nil, All-cons, All-head, All-tail}
use Rattle.unit_paths.specs.Slots.{slot_of}
use Rattle.unit_file.specs.Lines.{stripped}
use Rattle.link_tree.specs.Trees.{path_cmp, Entries}
use Rattle.link_tree.specs.declared.entry.Entry.{Entry}
use Rattle.link_tree.proofs.Changed.{same_tree}
use Rattle.load_path.specs.Search.{Search, over}
use Rattle.preset_rules.specs.declared.rule.Rule.{Rule}
use Rattle.preset_rules.specs.declared.rule.Verdict.{Verdict}
use Rattle.preset_rules.specs.declared.rule.Verdict.TheVariants as verdicts
use Rattle.preset_rules.specs.Files.{presets_of, policy_of, rules_from, in_order, winners}
use Rattle.unit_paths.specs.Kinds.{is_preset}
use Rattle.preset_rules.specs.Lines.{rules_of, rule_of, first_word}
use Rattle.preset_rules.specs.Patterns.{Matches}
use Rattle.preset_rules.specs.Patterns.Matches.{AtEnd, AnyBytes}
use Rattle.preset_rules.specs.Verdicts.{applies, given, verdict}
use Rattle.preset_rules.specs.Laws.{NoneApplies, EarlierRulesDecide, disable_all, LineDisablesAll, RestIsDisabled, HasNoPresets, NoPresetsEnable}
use Rattle.preset_rules.proofs.Tried.{matched_then}
use Rattle.preset_rules.proofs.WinnersFound.{get-presets}

-- the rule that is found among these rules, or, if none is, among others after them
later_found : (rules more : List Rule) (name : List ℕ) → NoneApplies name rules → find (applies name) (rules ++ more) ≡ find (applies name) more
later_found [] more name none = refl
later_found (rule ∷ rules) more name none =
    ap (λ b. cond b (Some rule) (find (applies name) (rules ++ more))) (All-head (λ rule. applies name rule ≡ false) rule rules none)
    ∙ later_found rules more name (All-tail (λ rule. applies name rule ≡ false) rule rules none)

earlier_found : (rules more : List Rule) (name : List ℕ) → ¬ NoneApplies name rules → find (applies name) (rules ++ more) ≡ find (applies name) rules
earlier_found [] more name some = absurd (some (All-nil (λ rule. applies name rule ≡ false)))
earlier_found (rule ∷ rules) more name some =
    let at : List Rule → Bool → Option Rule = λ left b. cond b (Some rule) (find (applies name) left) in
    elim (cases_Bool (applies name rule)) [
      | inl here ↦ ap (at (rules ++ more)) here ∙ sym (ap (at rules) here)
      | inr away ↦
          ap (at (rules ++ more)) away
          ∙ earlier_found rules more name (λ none. some (All-cons (λ rule. applies name rule ≡ false) rule rules away none))
          ∙ sym (ap (at rules) away)
    ]

abbrev said : (name : List ℕ) → Option Rule → Verdict
said name o = option_map_or (given name) o (verdicts.Enable [])

pub earlier_rules_decide : EarlierRulesDecide
unfolding verdict
earlier_rules_decide rules more name = (
  λ none. ap (said name) (later_found rules more name none),
  λ some. ap (said name) (earlier_found rules more name some),
)

-- a single star matches each text
star_matches : (text : List ℕ) → Matches (42 ∷ []) text
star_matches text = AnyBytes 42 [] text [] text refl (sym (append-nil text)) AtEnd

all_disabled : (name : List ℕ) → verdict (disable_all ∷ []) name ≡ verdicts.Disable
unfolding verdict applies given
all_disabled name = ap (λ b. said name (cond b (Some disable_all) None)) (matched_then (42 ∷ []) name (star_matches name))

pub line_disables_all : LineDisablesAll
unfolding rules_of rule_of first_word stripped
line_disables_all = refl

pub rest_is_disabled : RestIsDisabled
rest_is_disabled rules name = (
  λ none. (earlier_rules_decide rules (disable_all ∷ []) name).0 none ∙ all_disabled name,
  λ some. (earlier_rules_decide rules (disable_all ∷ []) name).1 some,
)

none_at : (b : Bool) (o : Option Entry) → (b ≡ true → o ≡ None) → cond b o None ≡ None
none_at true o none = none refl
none_at false o none = refl

no_entries : (t : Entries) → HasNoPresets t → presets_of t ≡ map.empty
no_entries t none = same_tree _ _ (λ path.
    get-presets t path ∙ none_at (is_preset (slot_of path)) (map.get t path) (none path) ∙ sym (map.get-empty path_cmp path))

-- an empty map has no entries
none_listed : (X : Type 0) → map.entries (map.empty {X = X} {R = path_cmp}) ≡ []
none_listed X = nil_from_length (map.entries (map.empty {X = X} {R = path_cmp})) (sym (map.len-entries (map.empty {X = X} {R = path_cmp})) ∙ map.len-empty path_cmp X)

no_winners : map.values (winners (map.empty {R = path_cmp})) ≡ []
unfolding winners
no_winners =
    ap (λ (es : List (List ℕ × Entry)). map.values (map.from_entries {R = path_cmp} (in_order (list_map (λ e. e.0) es)))) (none_listed Entry)
    ∙ ap (λ (es : List (List ℕ × List ℕ)). list_map (λ e. e.1) es) (none_listed (List ℕ))

no_rules : (t : Entries) → HasNoPresets t → policy_of t ≡ over []
unfolding policy_of
no_rules t none =
    ap (λ (p : Entries). rules_from p (map.values (winners p))) (no_entries t none)
    ∙ ap (rules_from map.empty) no_winners

pub no_presets_enable : NoPresetsEnable
unfolding verdict
no_presets_enable t none =
    let no_rules_here = ap (λ (s : Search (List Rule)). s.conclusion t) (no_rules t none) in (
      no_rules_here,
      ap (λ (s : Search (List Rule)). s.cells t) (no_rules t none),
      λ name. ap (λ rules. verdict rules name) no_rules_here,
    )
