-- Commands that have ended: their outcomes are those of what they mean.
use Rattle.std.proofs.Common.{◌≡◌, List, [], Result, Ok, Err, sym, ap, ◌∙◌, subst}
use Rattle.unit_file.specs.Notices.{NoticeMap}
use Rattle.link_tree.specs.Differences.{changes_between}
use Rattle.link_tree.specs.Trees.{Entries}
use Rattle.footprint.specs.declared.answer.Answer.TheVariants as answers
use Rattle.tree_access.specs.declared.key.Key.{Key}
use Rattle.footprint.specs.declared.outcome.Outcome.{Outcome}
use Rattle.tree_access.specs.declared.refusal.Refusal.{Refusal}
use Rattle.footprint.specs.Inquiry.{Inquiry}
use Rattle.footprint.specs.Operations.{Effect}
use Rattle.tree_access.specs.Readings.{reading_of}
use Rattle.transaction.specs.declared.stop.Stop.{Stop}
use Rattle.transaction.specs.declared.stop.Stop.TheVariants.{Refused, OutOfMemory}
use Rattle.transaction.specs.Runs.{Run, Runs, Closes}
use Rattle.transaction.specs.Seen.{Transacted}

-- the effect of what a run leaves of a tree
abbrev pub effect_of : Entries → Result (NoticeMap × Entries) Refusal → Effect
effect_of t (Ok done) = record { answer = answers.Done done.0; changes = changes_between t done.1 }
effect_of t (Err refusal) = record { answer = answers.Refused refusal; changes = [] }

-- A run has the effect in a tree that an inquiry means, and looks at the same keys.
pub record Means (run : Run NoticeMap) (meaning : Inquiry Effect) (t : Entries) : Type 0 where
  pub concludes : effect_of t (run.conclusion t) ≡ meaning.conclusion t
  pub looks : run.keys t ≡ meaning.keys t

-- a transaction that has just begun
abbrev pub begun : Entries → Transacted
begun t = record { first = t; tree = t; keys = [] }

abbrev outcome_by : Effect → List Key → Entries → Outcome
outcome_by e keys t = record { answer = e.answer; changes = e.changes; reading = reading_of keys t }

-- The outcome of a command that was carried out in a new transaction.
module _ (run : Run NoticeMap) (meaning : Inquiry Effect) (t : Entries) (means : Means run meaning t) where
  as_meant : outcome_by (effect_of t (run.conclusion t)) (run.keys t) t ≡ outcome_by (meaning.conclusion t) (meaning.keys t) t
  as_meant = λ i. outcome_by (means.concludes i) (means.looks i) t

  from_begun : (new : Transacted) (done : Result NoticeMap Stop) → Runs run (begun t) new done → (outcome : Outcome) → Closes new done outcome
      → outcome ≡ outcome_by (meaning.conclusion t) (meaning.keys t) t
  from_begun new (Ok notices) runs outcome closes =
      closes ∙ (λ i. outcome_by (effect_of (runs.2 i) (Ok (notices, new.tree))) (runs.1 i) (runs.2 i)) ∙ ap (λ done. outcome_by (effect_of t done) (run.keys t) t) (sym runs.0) ∙ as_meant
  from_begun new (Err (Refused refusal)) runs outcome closes =
      closes ∙ (λ i. outcome_by (effect_of (runs.2 i) (Err refusal)) (runs.1 i) (runs.2 i)) ∙ ap (λ done. outcome_by (effect_of t done) (run.keys t) t) (sym runs.0) ∙ as_meant
  from_begun new (Err OutOfMemory) runs outcome closes = absurd closes

  pub comes_to : (old new : Transacted) (done : Result NoticeMap Stop) → old ≡ begun t → Runs run old new done → (outcome : Outcome) → Closes new done outcome
      → outcome ≡ outcome_by (meaning.conclusion t) (meaning.keys t) t
  comes_to old new done from runs = from_begun new done (subst (λ old. Runs run old new done) from runs)
