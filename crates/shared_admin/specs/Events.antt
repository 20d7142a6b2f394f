-- The state machine of events. Its state is the history, and what each of sixteen slots keeps.
use Rattle.std.specs.Prelude.{◌≡◌, ◌≢◌, ℕ, ◌<◌, ◌==◌, Bool, MatchBool, List, [], ◌∷◌, Option, Some, None, length, set, slice_get, replicate, ◌⊎◌}
use Rattle.link_tree.specs.Trees.{Entries}
use Rattle.footprint.specs.Inquiry.{Inquiry}
use Rattle.footprint.specs.Operations.{Effect}
use Rattle.tree_access.specs.declared.key.Key.{Key}
use Rattle.history.specs.Logs.{Log}
use Rattle.history.specs.Plans.{Planned, planned, AgreesWith, IsStaleAt}
use Rattle.history.specs.Rows.{Call, replay, rows_after}
use Rattle.history.specs.declared.row.Request.TheVariants.{Do, Undo, Redo}
use Rattle.shared_admin.specs.declared.snapshot.Snapshot.{Snapshot}
use Rattle.shared_admin.specs.declared.driving.Kept.{Kept}
use Rattle.shared_admin.specs.declared.event.Event.{Event}
use Rattle.shared_admin.specs.declared.event.Event.TheVariants as events
use Rattle.shared_admin.specs.declared.event.EventReply.{EventReply}
use Rattle.shared_admin.specs.declared.event.EventReply.TheVariants as replies

-- what the slots keep, from slot 0 on
abbrev pub Slots : Type 0 → Type 0
Slots O = List (Kept (Planned O))

-- neither a snapshot nor a plan
abbrev pub nothing_kept : {P : Type 0} → Kept P
nothing_kept = record { snapshot = None; plan = None }

-- the slots at first
abbrev pub empty_slots : {O : Type 0} → Slots O
empty_slots = replicate 16 nothing_kept

-- The slot of an event is one of the sixteen.
abbrev pub HasSlot : {O : Type 0} → Event O → Type 0
HasSlot (events.Snap slot) = slot < 16
HasSlot (events.Plan slot c) = slot < 16
HasSlot (events.Commit slot operator) = slot < 16
HasSlot (events.Call operator c) = Unit {0}
HasSlot (events.Undo operator n) = Unit {0}
HasSlot (events.Redo operator n) = Unit {0}

-- One slot is changed, and the others are unchanged.
abbrev pub AtSlot : {O : Type 0} → Slots O → ℕ → Slots O → (Kept (Planned O) → Kept (Planned O) → Type 0) → Type 0
AtSlot {O} slots slot after Changes = (kept then : Kept (Planned O)) × (slice_get slots slot ≡ Some kept) × (after ≡ set slots slot then) × Changes kept then

module _ {O : Type 0} (meaning : O → Inquiry Effect) where
  -- A plan is made on the slot's snapshot, and replaces the one before; if there is no snapshot,
  -- nothing happens.
  abbrev pub PlansOn : Option Snapshot → Option (Planned O) → O → Option (Planned O) → EventReply → Type 0
  PlansOn None plan c then reply = (reply ≡ replies.Nothing) × (then ≡ plan)
  PlansOn (Some snapshot) plan c then reply = (reply ≡ replies.Planned) × (then ≡ Some (planned meaning c snapshot.tree))

  abbrev pub Plans : Kept (Planned O) → O → Kept (Planned O) → EventReply → Type 0
  Plans kept c then reply = PlansOn kept.snapshot kept.plan c then.plan reply × (then.snapshot ≡ kept.snapshot)

module _ {O : Type 0} (asks : O → Bool) (meaning : O → Inquiry Effect) where
  -- the current tree, and the number of rows
  abbrev pub snapshot_of : Log O → Snapshot
  snapshot_of log = record { tree = replay asks meaning log.first log.rows; front = length log.rows }

  -- A snapshot is kept, and the plan is unchanged.
  abbrev pub Snaps : Log O → Kept (Planned O) → Log O → Kept (Planned O) → EventReply → Type 0
  Snaps log kept new then reply = (reply ≡ replies.Taken) × (new ≡ log) × (then ≡ record { snapshot = Some (snapshot_of log); plan = kept.plan })

  -- A call adds its row, unless the history is full.
  abbrev pub Calls : Log O → Call O → Log O → EventReply → Type 0
  Calls log call new reply =
      MatchBool (length log.rows == log.limit) ((reply ≡ replies.Full) × (new ≡ log))
      ((reply ≡ replies.Committed (length new.rows)) × (new ≡ record { first = log.first; rows = rows_after asks meaning log.first log.rows call; limit = log.limit }))

  -- A commit is a call of the plan's operation if the tree agrees with all that the plan looked at;
  -- otherwise the plan is stale, at the first key at which the tree differs.
  abbrev pub Commits : Log O → List ℕ → Option (Planned O) → Log O → EventReply → Type 0
  Commits log operator None new reply = (reply ≡ replies.Nothing) × (new ≡ log)
  Commits log operator (Some plan) new reply =
      (AgreesWith asks meaning log plan × Calls log (operator, Do plan.operation) new reply)
      ⊎ ((key : Key) × IsStaleAt asks meaning log plan key × (reply ≡ replies.Stale key) × (new ≡ log))

  -- A committed plan is dropped from its slot, whether or not a row is made.
  abbrev pub TakesPlan : Log O → Kept (Planned O) → List ℕ → Log O → Kept (Planned O) → EventReply → Type 0
  TakesPlan log kept operator new then reply = Commits log operator kept.plan new reply × (then ≡ record { snapshot = kept.snapshot; plan = None })

  -- what an event does to the history and to what the slots keep, and its reply
  abbrev pub Happens : Log O → Slots O → Event O → Log O → Slots O → EventReply → Type 0
  Happens log slots (events.Snap slot) new after reply = AtSlot slots slot after (λ kept then. Snaps log kept new then reply)
  Happens log slots (events.Plan slot c) new after reply = (new ≡ log) × AtSlot slots slot after (λ kept then. Plans meaning kept c then reply)
  Happens log slots (events.Commit slot operator) new after reply = AtSlot slots slot after (λ kept then. TakesPlan log kept operator new then reply)
  Happens log slots (events.Call operator c) new after reply = (after ≡ slots) × Calls log (operator, Do c) new reply
  Happens log slots (events.Undo operator n) new after reply = (after ≡ slots) × Calls log (operator, Undo n) new reply
  Happens log slots (events.Redo operator n) new after reply = (after ≡ slots) × Calls log (operator, Redo n) new reply

  -- There is room for an event that would add a row; a plan counts only if the tree agrees with it.
  abbrev pub HasRoom : Log O → Slots O → Event O → Type 0
  HasRoom log slots (events.Snap slot) = Unit {0}
  HasRoom log slots (events.Plan slot c) = Unit {0}
  HasRoom log slots (events.Commit slot operator) =
      (kept : Kept (Planned O)) (plan : Planned O) → slice_get slots slot ≡ Some kept → kept.plan ≡ Some plan → AgreesWith asks meaning log plan → length log.rows ≢ log.limit
  HasRoom log slots (events.Call operator c) = length log.rows ≢ log.limit
  HasRoom log slots (events.Undo operator n) = length log.rows ≢ log.limit
  HasRoom log slots (events.Redo operator n) = length log.rows ≢ log.limit

  -- the result of several events, one after another
  abbrev pub Plays : Log O → Slots O → List (Event O) → Log O → List EventReply → Type 0
  Plays log slots [] new [] = new ≡ log
  Plays log slots [] new (reply ∷ replies) = ⊥
  Plays log slots (event ∷ events) new [] = ⊥
  Plays log slots (event ∷ events) new (reply ∷ replies) =
      (next : Log O) × (after : Slots O) × Happens log slots event next after reply × Plays next after events new replies

  -- On a history of this tree without rows, and with empty slots, the events result in this history
  -- and these replies.
  abbrev pub IsDriven : Entries → List (Event O) → Log O → List EventReply → Type 0
  IsDriven first events new replies = Plays (record { first = first; rows = []; limit = 1000000 }) empty_slots events new replies
