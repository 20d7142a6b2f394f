-- An event has one outcome.
use Rattle.std.proofs.Common.{◌≡◌, ◌==◌, ℕ, Bool, true, false, MatchBool, List, [], ◌∷◌, ◌++◌, Option, Some, None, length, set, slice_get, refl, sym, ap, subst, ◌∙◌, inl, inr}
use Rattle.std.proofs.lemmas.List.Elements.{All-head, All-tail}
use Rattle.link_tree.specs.Trees.{Entries}
use Rattle.tree_access.specs.declared.key.Key.{Key}
use Rattle.tree_access.specs.declared.reading.Observation.{Observation}
use Rattle.footprint.specs.Inquiry.{Inquiry}
use Rattle.footprint.specs.Operations.{Effect}
use Rattle.tree_access.specs.Readings.{Holds, HoldsIn, IsFirstOther}
use Rattle.history.specs.declared.row.Request.TheVariants.{Do, Undo, Redo}
use Rattle.history.specs.Logs.{Log}
use Rattle.history.specs.Plans.{Planned}
use Rattle.history.specs.Rows.{Call, replay, rows_after}
use Rattle.history.proofs.Agreed.{other_off}
use Rattle.shared_admin.specs.declared.snapshot.Snapshot.{Snapshot}
use Rattle.shared_admin.specs.declared.driving.Kept.{Kept}
use Rattle.shared_admin.specs.declared.event.Event.{Event}
use Rattle.shared_admin.specs.declared.event.Event.TheVariants as events
use Rattle.shared_admin.specs.declared.event.EventReply.{EventReply}
use Rattle.shared_admin.specs.declared.event.EventReply.TheVariants as replies
use Rattle.shared_admin.specs.Events.{Slots, empty_slots, AtSlot, PlansOn, Plans, Snaps, Commits, TakesPlan, Happens, Plays}
use Rattle.shared_admin.specs.Laws.{EventsHaveOneOutcome}

-- the first observation that doesn't hold is unique
first_once : (t : Entries) (before front : List Observation) (here there : Observation) (later rest : List Observation) → before ++ here ∷ later ≡ front ++ there ∷ rest
    → HoldsIn t before → (¬ Holds t here) → HoldsIn t front → (¬ Holds t there) → here ≡ there
first_once t [] [] here there later rest same holds off also off_too = cc
first_once t [] (f ∷ front) here there later rest same holds off also off_too =
    let is : f ≡ here = cc in
    absurd (off (subst (Holds t) is (All-head (Holds t) f front also)))
first_once t (b ∷ before) [] here there later rest same holds off also off_too =
    let is : b ≡ there = cc in
    absurd (off_too (subst (Holds t) is (All-head (Holds t) b before holds)))
first_once t (b ∷ before) (f ∷ front) here there later rest same holds off also off_too =
    let tail : before ++ here ∷ later ≡ front ++ there ∷ rest = cc in
    first_once t before front here there later rest tail (All-tail (Holds t) b before holds) off (All-tail (Holds t) f front also) off_too

key_once : (t : Entries) (reading : List Observation) (key other : Key) → IsFirstOther t reading key → IsFirstOther t reading other → key ≡ other
key_once t reading key other (before, here, later, is, holds, off, key_is) (front, there, rest, also, holds_too, off_too, other_is) =
    key_is ∙ ap (λ (o : Observation). o.key) (first_once t before front here there later rest (sym is ∙ also) holds off holds_too off_too) ∙ sym other_is

module _ {O : Type 0} (asks : O → Bool) (meaning : O → Inquiry Effect) where
  -- a history and a reply
  abbrev Same : (new other : Log O) (reply said : EventReply) → Type 0
  Same new other reply said = (new ≡ other) × (reply ≡ said)

  calls_once : (full : Bool) (log new other : Log O) (call : Call O) (reply said : EventReply)
      → MatchBool full ((reply ≡ replies.Full) × (new ≡ log))
      ((reply ≡ replies.Committed (length new.rows)) × (new ≡ record { first = log.first; rows = rows_after asks meaning log.first log.rows call; limit = log.limit }))
      → MatchBool full ((said ≡ replies.Full) × (other ≡ log))
      ((said ≡ replies.Committed (length other.rows)) × (other ≡ record { first = log.first; rows = rows_after asks meaning log.first log.rows call; limit = log.limit }))
      → Same new other reply said
  calls_once true log new other call reply said (is, new_is) (also, other_is) = (new_is ∙ sym other_is, is ∙ sym also)
  calls_once false log new other call reply said (is, new_is) (also, other_is) =
      let one : new ≡ other = new_is ∙ sym other_is in
      (one, is ∙ ap (λ (log : Log O). replies.Committed (length log.rows)) one ∙ sym also)

  commits_once : (log new other : Log O) (operator : List ℕ) (plan : Option (Planned O)) (reply said : EventReply)
      → Commits asks meaning log operator plan new reply → Commits asks meaning log operator plan other said → Same new other reply said
  commits_once log new other operator None reply said one two = (one.1 ∙ sym two.1, one.0 ∙ sym two.0)
  commits_once log new other operator (Some plan) reply said (inl (agrees, calls)) (inl (also, others)) = calls_once (length log.rows == log.limit) log new other (operator, Do plan.operation) reply said calls others
  commits_once log new other operator (Some plan) reply said (inl (agrees, calls)) (inr (key, stale, is, same)) = absurd (other_off (replay asks meaning log.first log.rows) plan.outcome.reading key stale agrees)
  commits_once log new other operator (Some plan) reply said (inr (key, stale, is, same)) (inl (agrees, calls)) = absurd (other_off (replay asks meaning log.first log.rows) plan.outcome.reading key stale agrees)
  commits_once log new other operator (Some plan) reply said (inr (key, stale, is, same)) (inr (two, stale_too, also, same_too)) =
      (same ∙ sym same_too, is ∙ ap (λ (k : Key). replies.Stale k) (key_once (replay asks meaning log.first log.rows) plan.outcome.reading key two stale stale_too) ∙ sym also)

  plans_once : (snapshot : Option Snapshot) (plan : Option (Planned O)) (c : O) (then after : Option (Planned O)) (reply said : EventReply)
      → PlansOn meaning snapshot plan c then reply → PlansOn meaning snapshot plan c after said → (then ≡ after) × (reply ≡ said)
  plans_once None plan c then after reply said one two = (one.1 ∙ sym two.1, one.0 ∙ sym two.0)
  plans_once (Some snapshot) plan c then after reply said one two = (one.1 ∙ sym two.1, one.0 ∙ sym two.0)

  kept_same : (one two : Kept (Planned O)) → one.snapshot ≡ two.snapshot → one.plan ≡ two.plan → one ≡ two
  kept_same one two snapshot plan = λ i. record { snapshot = snapshot i; plan = plan i }

  same_kept : (slots : Slots O) (slot : ℕ) (one two : Kept (Planned O)) → slice_get slots slot ≡ Some one → slice_get slots slot ≡ Some two → one ≡ two
  same_kept slots slot one two is also = let same : Some one ≡ Some two = sym is ∙ also in cc

  -- One slot is changed in one way, if the change has one outcome.
  at_slot_once : (slots after later : Slots O) (slot : ℕ) (P Q : Kept (Planned O) → Kept (Planned O) → Type 0) (R : Type 0)
      → ((kept one two : Kept (Planned O)) → P kept one → Q kept two → (one ≡ two) × R) → AtSlot slots slot after P → AtSlot slots slot later Q → (after ≡ later) × R
  at_slot_once slots after later slot P Q R once (kept, then, is, after_is, does) (also, others, is_too, later_is, does_too) =
      let both = once kept then others does (subst (λ (k : Kept (Planned O)). Q k others) (same_kept slots slot also kept is_too is) does_too) in
      (after_is ∙ ap (set slots slot) both.0 ∙ sym later_is, both.1)

  -- the history, the slots and the reply
  abbrev One : (new other : Log O) (after later : Slots O) (reply said : EventReply) → Type 0
  One new other after later reply said = (new ≡ other) × (after ≡ later) × (reply ≡ said)

  happens_once : (log new other : Log O) (slots after later : Slots O) (event : Event O) (reply said : EventReply)
      → Happens asks meaning log slots event new after reply → Happens asks meaning log slots event other later said → One new other after later reply said
  happens_once log new other slots after later (events.Snap slot) reply said one two =
      let all = at_slot_once slots after later slot (λ kept then. Snaps asks meaning log kept new then reply) (λ kept then. Snaps asks meaning log kept other then said) ((new ≡ other) × (reply ≡ said))
      (λ kept a b does also. (does.2 ∙ sym also.2, (does.1 ∙ sym also.1, does.0 ∙ sym also.0))) one two in
      (all.1.0, all.0, all.1.1)
  happens_once log new other slots after later (events.Plan slot c) reply said (same, one) (same_too, two) =
      let all = at_slot_once slots after later slot (λ kept then. Plans meaning kept c then reply) (λ kept then. Plans meaning kept c then said) (reply ≡ said)
      (λ kept a b does also. let both = plans_once kept.snapshot kept.plan c a.plan b.plan reply said does.0 also.0 in (kept_same a b (does.1 ∙ sym also.1) both.0, both.1)) one two in
      (same ∙ sym same_too, all.0, all.1)
  happens_once log new other slots after later (events.Commit slot operator) reply said one two =
      let all = at_slot_once slots after later slot (λ kept then. TakesPlan asks meaning log kept operator new then reply) (λ kept then. TakesPlan asks meaning log kept operator other then said) ((new ≡ other) × (reply ≡ said))
      (λ kept a b does also. (does.1 ∙ sym also.1, commits_once log new other operator kept.plan reply said does.0 also.0)) one two in
      (all.1.0, all.0, all.1.1)
  happens_once log new other slots after later (events.Call operator c) reply said (same, one) (same_too, two) =
      let both = calls_once (length log.rows == log.limit) log new other (operator, Do c) reply said one two in
      (both.0, same ∙ sym same_too, both.1)
  happens_once log new other slots after later (events.Undo operator n) reply said (same, one) (same_too, two) =
      let both = calls_once (length log.rows == log.limit) log new other (operator, Undo n) reply said one two in
      (both.0, same ∙ sym same_too, both.1)
  happens_once log new other slots after later (events.Redo operator n) reply said (same, one) (same_too, two) =
      let both = calls_once (length log.rows == log.limit) log new other (operator, Redo n) reply said one two in
      (both.0, same ∙ sym same_too, both.1)

  plays_once : (given : List (Event O)) (log new other : Log O) (slots : Slots O) (said others : List EventReply)
      → Plays asks meaning log slots given new said → Plays asks meaning log slots given other others → (new ≡ other) × (said ≡ others)
  plays_once [] log new other slots [] [] one two = (one ∙ sym two, refl)
  plays_once [] log new other slots [] (r ∷ others) one two = absurd two
  plays_once [] log new other slots (r ∷ said) others one two = absurd one
  plays_once (event ∷ given) log new other slots [] others one two = absurd one
  plays_once (event ∷ given) log new other slots (r ∷ said) [] one two = absurd two
  plays_once (event ∷ given) log new other slots (r ∷ said) (s ∷ others) (next, after, happens, rest) (later, kept, also, rest_too) =
      let one = happens_once log next later slots after kept event r s happens also in
      let rest_from : Plays asks meaning next after given other others =
      subst (λ (l : Log O). Plays asks meaning l after given other others) (sym one.0) (subst (λ (ss : Slots O). Plays asks meaning later ss given other others) (sym one.1) rest_too) in
      let both = plays_once given next new other after said others rest rest_from in
      (both.0, λ i. one.2 i ∷ both.1 i)

  pub one_outcome : EventsHaveOneOutcome asks meaning
  one_outcome first given new other said others one two = plays_once given (record { first = first; rows = []; limit = 1000000 }) new other empty_slots said others one two
