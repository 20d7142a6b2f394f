-- What holds for all events on all histories; each law is the contract of a public function.
use Rattle.std.specs.Prelude.{◌≡◌, ◌↔◌, ℕ, Bool, List, Some, None, set, slice_get}
use Rattle.link_tree.specs.Trees.{Entries}
use Rattle.footprint.specs.Inquiry.{Inquiry}
use Rattle.footprint.specs.Operations.{Effect}
use Rattle.tree_access.specs.declared.key.Key.{Key}
use Rattle.history.specs.Logs.{Log}
use Rattle.history.specs.Plans.{Planned, planned, AgreesWith, IsStaleAt}
use Rattle.history.specs.Rows.{replay}
use Rattle.history.specs.declared.row.Request.TheVariants.{Do}
use Rattle.shared_admin.specs.declared.driving.Kept.{Kept}
use Rattle.shared_admin.specs.declared.event.Event.{Event}
use Rattle.shared_admin.specs.declared.event.Event.TheVariants as events
use Rattle.shared_admin.specs.declared.event.EventReply.{EventReply}
use Rattle.shared_admin.specs.declared.event.EventReply.TheVariants as replies
use Rattle.shared_admin.specs.Events.{Slots, Calls, Happens, IsDriven}

module _ {O : Type 0} (asks : O → Bool) (meaning : O → Inquiry Effect) where
  -- The result of committing a plan of this operation that was made on this tree.
  pub record CommitsAsCall (log : Log O) (operator : List ℕ) (c : O) (made_on : Entries) (new : Log O) (reply : EventReply) : Type 0 where
    -- Exactly if the current tree agrees with all that the plan looked at, the event is a call of
    -- the operation,
    pub called : AgreesWith asks meaning log (planned meaning c made_on) ↔ Calls asks meaning log (operator, Do c) new reply
    -- and the operation, run now, has the outcome that the plan says.
    pub same : AgreesWith asks meaning log (planned meaning c made_on) ↔ (planned meaning c made_on ≡ planned meaning c (replay asks meaning log.first log.rows))
    -- Otherwise the reply is the first key at which the tree differs, and nothing is changed.
    pub stale : (¬ AgreesWith asks meaning log (planned meaning c made_on))
        ↔ ((key : Key) × IsStaleAt asks meaning log (planned meaning c made_on) key × (reply ≡ replies.Stale key) × (new ≡ log))

  -- That holds for each plan in a slot, and afterwards the slot keeps only its snapshot.
  abbrev pub PlansCommitAsCalls : Type 0
  PlansCommitAsCalls = (log new : Log O) (slots after : Slots O) (slot : ℕ) (operator : List ℕ) (kept : Kept (Planned O)) (c : O) (made_on : Entries) (reply : EventReply)
      → slice_get slots slot ≡ Some kept → kept.plan ≡ Some (planned meaning c made_on) → Happens asks meaning log slots (events.Commit slot operator) new after reply
      → CommitsAsCall log operator c made_on new reply × (after ≡ set slots slot (record { snapshot = kept.snapshot; plan = None }))

  -- On the same tree the same events result in the same history and the same replies.
  abbrev pub EventsHaveOneOutcome : Type 0
  EventsHaveOneOutcome = (first : Entries) (given : List (Event O)) (new other : Log O) (replies others : List EventReply)
      → IsDriven asks meaning first given new replies → IsDriven asks meaning first given other others → (new ≡ other) × (replies ≡ others)
