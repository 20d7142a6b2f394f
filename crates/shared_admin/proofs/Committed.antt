-- A plan is committed if the tree agrees with it.
use Rattle.std.proofs.Common.{◌≡◌, ◌==◌, ℕ, Bool, true, false, MatchBool, List, Option, Some, None, length, set, sym, ap, subst, ◌∙◌, inl, inr}
use Rattle.link_tree.specs.Trees.{Entries}
use Rattle.tree_access.specs.declared.key.Key.{Key}
use Rattle.footprint.specs.Inquiry.{Inquiry}
use Rattle.footprint.specs.Operations.{Effect}
use Rattle.history.specs.declared.row.Request.TheVariants.{Do}
use Rattle.history.specs.Logs.{Log}
use Rattle.history.specs.Plans.{Planned, planned, AgreesWith}
use Rattle.history.specs.Rows.{Call, replay, rows_after}
use Rattle.history.proofs.Agreed.{other_off, agrees_where_same}
use Rattle.shared_admin.specs.declared.driving.Kept.{Kept}
use Rattle.shared_admin.specs.declared.event.EventReply.{EventReply}
use Rattle.shared_admin.specs.declared.event.EventReply.TheVariants as replies
use Rattle.shared_admin.specs.Events.{Commits}
use Rattle.shared_admin.specs.Laws.{CommitsAsCall, PlansCommitAsCalls}

module _ {O : Type 0} (asks : O → Bool) (meaning : O → Inquiry Effect) where
  -- no call has the reply of a stale plan
  call_not_stale : (full : Bool) (log new : Log O) (call : Call O) (reply : EventReply) (key : Key) → reply ≡ replies.Stale key
      → MatchBool full ((reply ≡ replies.Full) × (new ≡ log))
      ((reply ≡ replies.Committed (length new.rows)) × (new ≡ record { first = log.first; rows = rows_after asks meaning log.first log.rows call; limit = log.limit }))
      → ⊥
  call_not_stale true log new call reply key stale (is, same) = let never : replies.Stale key ≡ replies.Full = sym stale ∙ is in absurd (cc)
  call_not_stale false log new call reply key stale (is, after) = let never : replies.Stale key ≡ replies.Committed (length new.rows) = sym stale ∙ is in absurd (cc)

  as_call : (log new : Log O) (operator : List ℕ) (c : O) (made_on : Entries) (reply : EventReply)
      → Commits asks meaning log operator (Some (planned meaning c made_on)) new reply → CommitsAsCall asks meaning log operator c made_on new reply
  as_call log new operator c made_on reply (inl (agrees, calls)) = record {
    called = (λ here. calls, λ called. agrees);
    same = agrees_where_same meaning c made_on (replay asks meaning log.first log.rows);
    stale = (λ off. absurd (off agrees), λ (key, first, is, same) agrees. other_off (replay asks meaning log.first log.rows) (planned meaning c made_on).outcome.reading key first agrees);
  }
  as_call log new operator c made_on reply (inr (key, first, is, same)) =
      let off : ¬ AgreesWith asks meaning log (planned meaning c made_on) = other_off (replay asks meaning log.first log.rows) (planned meaning c made_on).outcome.reading key first in
      record {
        called = (λ agrees. absurd (off agrees), λ called. absurd (call_not_stale (length log.rows == log.limit) log new (operator, Do c) reply key is called));
        same = agrees_where_same meaning c made_on (replay asks meaning log.first log.rows);
        stale = (λ none. (key, first, is, same), λ found. off);
      }

  pub commit_as_calls : PlansCommitAsCalls asks meaning
  commit_as_calls log new slots after slot operator kept c made_on reply here plan_is (found, then, is, after_is, (commits, then_is)) =
      let same : Some found ≡ Some kept = sym is ∙ here in
      let found_is : found ≡ kept = cc in
      let of_plan = subst (λ (p : Option (Planned O)). Commits asks meaning log operator p new reply) (ap (λ (k : Kept (Planned O)). k.plan) found_is ∙ plan_is) commits in
      (as_call log new operator c made_on reply of_plan, after_is ∙ ap (set slots slot) (then_is ∙ ap (λ (k : Kept (Planned O)). record { snapshot = k.snapshot; plan = None }) found_is))
