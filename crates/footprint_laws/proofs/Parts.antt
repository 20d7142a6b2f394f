-- The keys that the second of two commands looks at, after the first.
use Rattle.std.proofs.Common.{◌≡◌, Bool, cond, List, [], ap}
use Rattle.unit_file.specs.Notices.{NoticeMap}
use Rattle.link_tree.specs.Trees.{Entries, after_changes}
use Rattle.footprint.specs.declared.answer.Answer.TheVariants.{Done, Refused}
use Rattle.tree_access.specs.declared.key.Key.{Key}
use Rattle.tree_access.specs.declared.refusal.Refusal.{Refusal}
use Rattle.footprint.specs.Inquiry.{Inquiry, over, giving, after}
use Rattle.footprint.specs.Operations.{Effect, is_refused}
use Rattle.footprint.specs.Then.{continued, effect_of_both}

module _ (second : Inquiry Effect) (t : Entries) where
  abbrev then_keys : Effect → List Key
  then_keys effect = (continued second effect).keys t

  abbrev by_answer : Effect → (refused : Bool) → Inquiry Effect
  by_answer effect refused = cond {A = Inquiry Effect} refused (over effect) (giving (after effect.changes second) (effect_of_both effect))

  -- if the first is done, those of the second in the tree after its changes
  pub on_done : (effect : Effect) (notices : NoticeMap) → effect.answer ≡ Done notices → then_keys effect ≡ second.keys (after_changes effect.changes t)
  on_done effect notices is = ap (λ b. (by_answer effect b).keys t) (ap is_refused is)

  -- if it is refused, none
  pub on_refused : (effect : Effect) (refusal : Refusal) → effect.answer ≡ Refused refusal → then_keys effect ≡ []
  on_refused effect refusal is = ap (λ b. (by_answer effect b).keys t) (ap is_refused is)
