-- What the functions do that are given a transaction.
use Rattle.std.specs.Prelude.{◌≡◌, ℕ, List, [], ◌++◌, Option, Result, Ok, Err}
use Rattle.std.specs.FinMap as map
use Rattle.unit_file.specs.Notices.{NoticeMap, joined}
use Rattle.link_tree.specs.Trees.{Entries, set_entry}
use Rattle.link_tree.specs.declared.change.Change.{Change}
use Rattle.link_tree.specs.declared.entry.Entry.{Entry}
use Rattle.link_tree.specs.Differences.{changes_between}
use Rattle.footprint.specs.declared.answer.Answer.{Answer}
use Rattle.footprint.specs.declared.answer.Answer.TheVariants as answers
use Rattle.tree_access.specs.declared.key.Key.{Key}
use Rattle.footprint.specs.declared.outcome.Outcome.{Outcome}
use Rattle.tree_access.specs.declared.refusal.Refusal.{Refusal}
use Rattle.footprint.specs.Commands.{Command}
use Rattle.footprint.specs.Inquiry.{Inquiry}
use Rattle.tree_access.specs.Placing.{Ruling, placed_in}
use Rattle.tree_access.specs.Readings.{reading_of}
use Rattle.footprint.specs.Steps.{Step}
use Rattle.transaction.specs.declared.stop.Stop.{Stop}
use Rattle.transaction.specs.declared.stop.Stop.TheVariants.{Refused, OutOfMemory}
use Rattle.transaction.specs.Seen.{Transacted}

-- What a function does, starting from a tree: its value with the tree that it leaves, or its
-- refusal; and the keys of what it looks at.
pub record Run (X : Type 0) : Type 0 where
  pub conclusion : Entries → Result (X × Entries) Refusal
  pub keys : Entries → List Key

-- a value with an unchanged tree, or the refusal
abbrev pub with_tree : {X : Type 0} → Entries → Result X Refusal → Result (X × Entries) Refusal
with_tree t (Ok x) = Ok (x, t)
with_tree t (Err refusal) = Err refusal

-- the tree with everything placed that a ruling places, or the refusal
abbrev pub placed_by : Ruling → Entries → Result (Unit {0} × Entries) Refusal
placed_by (Ok placed) t = Ok (tt, placed_in placed t)
placed_by (Err refusal) t = Err refusal

-- an inquiry leaves the tree as it is
abbrev pub asking : {X : Type 0} → Inquiry X → Run X
asking q = record { conclusion = λ t. Ok (q.conclusion t, t); keys = q.keys }

-- the same for an inquiry that may result in a refusal
abbrev pub asking_for : {X : Type 0} → Inquiry (Result X Refusal) → Run X
asking_for q = record { conclusion = λ t. with_tree t (q.conclusion t); keys = q.keys }

-- a step leaves the tree with what it places
abbrev pub taking : Step → Run (Unit {0})
taking step = record { conclusion = λ t. placed_by (step.conclusion t) t; keys = step.keys }

-- these notices with the tree that a ruling leaves, or the refusal
abbrev pub reported_by : NoticeMap → Ruling → Entries → Result (NoticeMap × Entries) Refusal
reported_by notices (Ok placed) t = Ok (notices, placed_in placed t)
reported_by notices (Err refusal) t = Err refusal

-- a command reports its notices, and leaves the tree with what its step places
abbrev pub doing : Command → Run NoticeMap
doing command = record {
  conclusion = λ t. reported_by (command.conclusion t).0 ((command.conclusion t).1.conclusion t) t;
  keys = λ t. command.keys t ++ (command.conclusion t).1.keys t;
}

-- What follows a run in the tree that it leaves, given its value; nothing follows a refusal.
abbrev pub concluded_after : {X Y : Type 0} → (X → Run Y) → Result (X × Entries) Refusal → Result (Y × Entries) Refusal
concluded_after next (Ok done) = (next done.0).conclusion done.1
concluded_after next (Err refusal) = Err refusal

abbrev pub keys_after : {X Y : Type 0} → (X → Run Y) → Result (X × Entries) Refusal → List Key
keys_after next (Ok done) = (next done.0).keys done.1
keys_after next (Err refusal) = []

-- a run, and then another; if either is refused, both are
abbrev pub and_then : {X Y : Type 0} → Run X → (X → Run Y) → Run Y
and_then run next = record {
  conclusion = λ t. concluded_after next (run.conclusion t);
  keys = λ t. run.keys t ++ keys_after next (run.conclusion t);
}

-- notices of an earlier run with those of this one, or its refusal
abbrev pub reported_too : NoticeMap → Result (NoticeMap × Entries) Refusal → Result (NoticeMap × Entries) Refusal
reported_too notices (Ok done) = Ok (joined notices done.0, done.1)
reported_too notices (Err refusal) = Err refusal

-- a run that reports these notices, too
abbrev pub reporting_too : NoticeMap → Run NoticeMap → Run NoticeMap
reporting_too notices run = record { conclusion = λ t. reported_too notices (run.conclusion t); keys = run.keys }

-- Two commands in one transaction: the second begins with the tree that the first leaves, and the
-- notices of both are reported.
abbrev pub doing_both : (first second : Command) → Run NoticeMap
doing_both first second = and_then (doing first) (λ notices. reporting_too notices (doing second))

-- The contract of functions that are given a transaction, from its state before to its state
-- afterwards: with this result, they did what the run says. If memory ran out, only the first tree
-- is known to be the same.
abbrev pub Runs : {X : Type 0} → Run X → (old new : Transacted) → Result X Stop → Type 0
Runs run old new (Ok x) = (run.conclusion old.tree ≡ Ok (x, new.tree)) × (new.keys ≡ old.keys ++ run.keys old.tree) × (new.first ≡ old.first)
Runs run old new (Err (Refused refusal)) = (run.conclusion old.tree ≡ Err refusal) × (new.keys ≡ old.keys ++ run.keys old.tree) × (new.first ≡ old.first)
Runs run old new (Err OutOfMemory) = new.first ≡ old.first

-- The contract of functions that decide without a transaction: the result is this value or refusal,
-- unless memory ran out.
abbrev pub Gives : {X : Type 0} → Result X Refusal → Result X Stop → Type 0
Gives decided (Ok x) = decided ≡ Ok x
Gives decided (Err (Refused refusal)) = decided ≡ Err refusal
Gives decided (Err OutOfMemory) = Unit {0}

-- an entry is put at a slot, or what is there is removed
abbrev pub put : List ℕ → Option Entry → Transacted → Transacted
put slot entry old = record old { tree = set_entry old.tree slot entry }

-- the outcome with this answer and these changes, and the reading of the first tree
abbrev pub ended : Transacted → Answer → List Change → Outcome
ended txn answer changes = record { answer = answer; changes = changes; reading = reading_of txn.keys txn.first }

-- The outcome of a command that has ended. Its changes lead from the first tree to the last one; a
-- refusal has none. There is no outcome if memory ran out.
abbrev pub Closes : Transacted → Result NoticeMap Stop → Outcome → Type 0
Closes txn (Ok notices) outcome = outcome ≡ ended txn (answers.Done notices) (changes_between txn.first txn.tree)
Closes txn (Err (Refused refusal)) outcome = outcome ≡ ended txn (answers.Refused refusal) []
Closes txn (Err OutOfMemory) outcome = ⊥

-- the same for a command that reports nothing
abbrev pub silently : Result (Unit {0}) Stop → Result NoticeMap Stop
silently (Ok done) = Ok map.empty
silently (Err stop) = Err stop
