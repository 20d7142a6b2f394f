-- One command after another: the tree that both leave, and what both mean.
use Rattle.std.proofs.Common.{◌≡◌, List, [], ◌++◌, Result, Ok, Err, refl, sym, ap, ◌∙◌, subst}
use Rattle.unit_file.specs.Notices.{NoticeMap, joined}
use Rattle.link_tree.specs.Differences.{changes_between}
use Rattle.link_tree.specs.Trees.{Entries, after_changes}
use Rattle.link_tree.proofs.Leads.{leads}
use Rattle.footprint.specs.declared.answer.Answer.TheVariants.{Done, Refused}
use Rattle.tree_access.specs.declared.refusal.Refusal.{Refusal}
use Rattle.footprint.specs.Commands.{Command, carried_out, effect}
use Rattle.footprint.specs.Inquiry.{Inquiry}
use Rattle.footprint.proofs.NetLaws.{net_between}
use Rattle.footprint.specs.Operations.{Effect, AreChanges}
use Rattle.tree_access.specs.Placing.{Placed, Ruling, placed_in}
use Rattle.footprint.specs.Then.{effect_of_both, continued, followed_by}
use Rattle.footprint.proofs.ThenLaws.{changes_between_are}
use Rattle.transaction.specs.Runs.{Run, with_tree, asking_for, doing, doing_both, and_then, reporting_too, reported_by, reported_too, concluded_after, keys_after}
use Rattle.transaction.proofs.Ends.{Means, effect_of}
use Rattle.install_commands.specs.declared.judging.Judged.{Judged}
use Rattle.install_commands.specs.declared.preset.Preset.{Preset}
use Rattle.install_commands.specs.Preset.{judged_disabled, judged_enabled, carried_through, preset_judges, preset_meaning}

-- the effect of two commands, if the first leaves `u` with the notices `told`, by the ruling of the
-- second
abbrev pub net_effect : (t u : Entries) (told more : NoticeMap) → Ruling → Effect
net_effect t u told more (Ok placed) = record { answer = Done (joined told more); changes = changes_between t (placed_in placed u) }
net_effect t u told more (Err refusal) = record { answer = Refused refusal; changes = [] }

abbrev first_effect : (t u : Entries) (told : NoticeMap) → Effect
first_effect t u told = record { answer = Done told; changes = changes_between t u }

both_effect : (t u : Entries) (told more : NoticeMap) (ruling : Ruling) → effect_of_both (first_effect t u told) (effect u more ruling) ≡ net_effect t u told more ruling
both_effect t u told more (Err refusal) = refl
both_effect t u told more (Ok placed) =
    let v = placed_in placed u in
    ap (λ changes. record { answer = Done (joined told more); changes = changes })
    (net_between t (changes_between t u) (changes_between u v) (changes_between_are t u) (subst (λ m. AreChanges m (changes_between u v)) (sym (leads t u).to) (changes_between_are u v))
    ∙ ap (λ m. changes_between t (after_changes (changes_between u v) m)) (leads t u).to ∙ ap (changes_between t) (leads u v).to)

-- The result of two commands, one after the other.
module _ (first second : Command) (t : Entries) where
  abbrev pub whole : Inquiry Effect
  whole = followed_by (carried_out first) (carried_out second)

  abbrev pub told : NoticeMap
  told = (first.conclusion t).0

  abbrev pub rules_first : Ruling
  rules_first = (first.conclusion t).1.conclusion t

  abbrev pub more : Entries → NoticeMap
  more u = (second.conclusion u).0

  abbrev pub rules_second : Entries → Ruling
  rules_second u = (second.conclusion u).1.conclusion u

  abbrev by_first : Ruling → Inquiry Effect
  by_first ruling = continued (carried_out second) (effect t told ruling)

  -- the first places these
  module _ (placed : List Placed) where
    abbrev pub left : Entries
    left = placed_in placed t

    placed_comes : (by_first (Ok placed)).conclusion t ≡ net_effect t left told (more left) (rules_second left)
    placed_comes =
        ap (λ u. effect_of_both (first_effect t left told) ((carried_out second).conclusion u)) (leads t left).to ∙ both_effect t left told (more left) (rules_second left)

    placed_keys : (by_first (Ok placed)).keys t ≡ (carried_out second).keys left
    placed_keys = ap (λ u. (carried_out second).keys u) (leads t left).to

    pub whole_comes : rules_first ≡ Ok placed → whole.conclusion t ≡ net_effect t left told (more left) (rules_second left)
    whole_comes at = ap (λ ruling. (by_first ruling).conclusion t) at ∙ placed_comes

  pub whole_refused : (refusal : Refusal) → rules_first ≡ Err refusal → whole.conclusion t ≡ record { answer = Refused refusal; changes = [] }
  whole_refused refusal at = ap (λ ruling. (by_first ruling).conclusion t) at

  -- the same in one transaction
  abbrev on : NoticeMap → Run NoticeMap
  on notices = reporting_too notices (doing second)

  reported : (u : Entries) (notices : NoticeMap) (ruling : Ruling) → effect_of t (reported_too told (reported_by notices ruling u)) ≡ net_effect t u told notices ruling
  reported u notices (Ok placed) = refl
  reported u notices (Err refusal) = refl

  by_ruling : (ruling : Ruling) → effect_of t (concluded_after on (reported_by told ruling t)) ≡ (by_first ruling).conclusion t
  by_ruling (Ok placed) = let u = left placed in reported u (more u) (rules_second u) ∙ sym (placed_comes placed)
  by_ruling (Err refusal) = refl

  keys_by : (ruling : Ruling) → keys_after on (reported_by told ruling t) ≡ (by_first ruling).keys t
  keys_by (Ok placed) = sym (placed_keys placed)
  keys_by (Err refusal) = refl

  pub both_mean : Means (doing_both first second) whole t
  both_mean = record { concludes = by_ruling rules_first; looks = ap (λ keys. (doing first).keys t ++ keys) (keys_by rules_first) }

-- The result of a preset, by its verdicts.
module _ (preset : Preset) (t : Entries) where
  abbrev disables : Judged → Command
  disables judged = judged_disabled preset.scope judged

  abbrev enables : Judged → Command
  enables judged = judged_enabled preset.scope judged

  abbrev both : Judged → Run NoticeMap
  both judged = doing_both (disables judged) (enables judged)

  by_verdicts : (judged : Result Judged Refusal) → effect_of t (concluded_after both (with_tree t judged)) ≡ (carried_through preset.scope judged).conclusion t
  by_verdicts (Ok judged) = (both_mean (disables judged) (enables judged) t).concludes
  by_verdicts (Err refusal) = refl

  keys_by_verdicts : (judged : Result Judged Refusal) → keys_after both (with_tree t judged) ≡ (carried_through preset.scope judged).keys t
  keys_by_verdicts (Ok judged) = (both_mean (disables judged) (enables judged) t).looks
  keys_by_verdicts (Err refusal) = refl

  abbrev pub preset_run : Run NoticeMap
  preset_run = and_then (asking_for (preset_judges preset)) both

  pub preset_means : Means preset_run (preset_meaning preset) t
  preset_means = record {
    concludes = by_verdicts ((preset_judges preset).conclusion t);
    looks = ap (λ keys. (preset_judges preset).keys t ++ keys) (keys_by_verdicts ((preset_judges preset).conclusion t));
  }
