-- Policies of trees that agree, and the first rule that applies.
use Rattle.std.proofs.Common.{◌≡◌, ℕ, Bool, true, false, cond, List, [], ◌∷◌, ◌++◌, Option, Some, None, refl, sym, ap, ◌∙◌, subst, inl, inr}
use Rattle.std.specs.List.{find}
use Rattle.std.specs.Option.{option_map_or}
use Rattle.std.specs.FinMap as map
use Rattle.std.proofs.lemmas.Bool.{cases_Bool}
use Rattle.std.proofs.lemmas.List.Elements.{All-nil, All-cons, All-head, All-tail}
use Rattle.unit_paths.specs.Slots.{slot_of}
use Rattle.link_tree.specs.Trees.{Entries}
use Rattle.link_tree.specs.declared.entry.Entry.{Entry}
use Rattle.link_tree.proofs.Changed.{same_tree}
use Rattle.load_path.specs.Search.{Search, each_once}
use Rattle.load_path.proofs.Once.{agrees}
use Rattle.preset_rules.specs.declared.rule.Rule.{Rule}
use Rattle.preset_rules.specs.declared.rule.Rule.TheVariants.{Disable}
use Rattle.preset_rules.specs.declared.rule.Verdict.{Verdict}
use Rattle.preset_rules.specs.declared.rule.Verdict.TheVariants as verdicts
use Rattle.preset_rules.specs.Files.{presets_of, policy_of, rules_from, winners}
use Rattle.unit_paths.specs.Kinds.{is_preset}
use Rattle.preset_rules.specs.Verdicts.{applies, given, verdict}
use Rattle.preset_rules.specs.Laws.{PoliciesAgree, PresetsDecide, FirstRuleDecides, NoRulesEnable, LastRuleDecides, NoneApplies, IsSaid}
use Rattle.preset_rules.proofs.WinnersFound.{get-presets}

twice : (b : Bool) (o : Option Entry) → cond b (cond b o None) None ≡ cond b o None
twice true o = refl
twice false o = refl

presets_again : (t : Entries) → presets_of (presets_of t) ≡ presets_of t
presets_again t = same_tree _ _ (λ path.
    get-presets (presets_of t) path ∙ ap (λ (o : Option Entry). cond (is_preset (slot_of path)) o None) (get-presets t path)
    ∙ twice (is_preset (slot_of path)) (map.get t path) ∙ sym (get-presets t path))

by_presets : (t u : Entries) → presets_of t ≡ presets_of u → policy_of t ≡ policy_of u
unfolding policy_of
by_presets t u same = ap (λ (p : Entries). rules_from p (map.values (winners p))) same

pub presets_decide : PresetsDecide
presets_decide t = by_presets (presets_of t) t (presets_again t)

pub policies_agree : PoliciesAgree
policies_agree t u presets same =
    let other : Search (List Rule) → Type 0 = λ s. ((policy_of t).conclusion t ≡ s.conclusion u) × (each_once ((policy_of t).cells t) ≡ each_once (s.cells u)) in
    subst other (by_presets t u presets) (agrees (policy_of t) t u same)

found_first : (rules : List Rule) (name : List ℕ) → IsSaid rules name (option_map_or (given name) (find (applies name) rules) (verdicts.Enable []))
found_first [] name = inr (All-nil (λ rule. applies name rule ≡ false), refl)
found_first (rule ∷ rules) name =
    let said : Option Rule → Verdict = λ o. option_map_or (given name) o (verdicts.Enable []) in
    let P : Rule → Type 0 = λ rule. applies name rule ≡ false in
    elim (cases_Bool (applies name rule)) [
      | inl here ↦ inl ([], rule, rules, refl, All-nil P, here, ap (λ b. said (cond b (Some rule) (find (applies name) rules))) here)
      | inr away ↦
          let later : said (cond (applies name rule) (Some rule) (find (applies name) rules)) ≡ said (find (applies name) rules) = ap (λ b. said (cond b (Some rule) (find (applies name) rules))) away in
          elim (found_first rules name) [
            | inl f ↦ inl (rule ∷ f.0, f.1, f.2, ap (λ rest. rule ∷ rest) f.3, All-cons P rule f.0 away f.4, f.5, later ∙ f.6)
            | inr f ↦ inr (All-cons P rule rules away f.0, later ∙ f.1)
          ]
    ]

pub first_rule_decides : FirstRuleDecides
unfolding verdict
first_rule_decides rules name = found_first rules name

pub no_rules_enable : NoRulesEnable
unfolding verdict
no_rules_enable name = refl

last_found : (rules : List Rule) (pattern name : List ℕ) → NoneApplies name rules → applies name (Disable pattern) ≡ true → find (applies name) (rules ++ Disable pattern ∷ []) ≡ Some (Disable pattern)
last_found [] pattern name none here = ap (λ b. cond b (Some (Disable pattern)) None) here
last_found (rule ∷ rules) pattern name none here =
    ap (λ b. cond b (Some rule) (find (applies name) (rules ++ Disable pattern ∷ []))) (All-head (λ rule. applies name rule ≡ false) rule rules none)
    ∙ last_found rules pattern name (All-tail (λ rule. applies name rule ≡ false) rule rules none) here

pub last_rule_decides : LastRuleDecides
unfolding verdict given
last_rule_decides rules pattern name none here = ap (λ (o : Option Rule). option_map_or (given name) o (verdicts.Enable [])) (last_found rules pattern name none here)
