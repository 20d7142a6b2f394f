-- What happens while the lock is held once.
use Rattle.std.specs.Prelude.{◌≡◌, ℕ, Bool, List, Some, ◌⊎◌}
use Rattle.link_tree.specs.Trees.{Entries}
use Rattle.footprint.specs.Inquiry.{Inquiry}
use Rattle.footprint.specs.Operations.{Effect, outcome_of}
use Rattle.history.specs.Logs.{Log}
use Rattle.history.specs.Plans.{Planned, IsCommit}
use Rattle.history.specs.Rows.{row_at}
use Rattle.history.specs.declared.plan.Commit.TheVariants as commits
use Rattle.history.specs.declared.row.RedoRefusal.{RedoRefusal}
use Rattle.history.specs.declared.row.Request.{Request}
use Rattle.history.specs.declared.row.Request.TheVariants.{Do, Undo, Redo}
use Rattle.history.specs.declared.row.Row.{Row}
use Rattle.history.specs.declared.row.RowReply.{RowReply}
use Rattle.history.specs.declared.row.RowReply.TheVariants.{Answered, Undid, UndoRefused, Redid, RedoRefused}
use Rattle.history.specs.declared.row.UndoRefusal.{UndoRefusal}
use Rattle.shared_admin.specs.declared.holds.Settled.{Settled}
use Rattle.shared_admin.specs.declared.holds.Settled.TheVariants.{Committed, Stale}

-- The row of this number has this reply.
abbrev pub IsReplyOf : {O : Type 0} → List (Row O) → ℕ → RowReply → Type 0
IsReplyOf {O} rows n reply = (row : Row O) × (row_at rows n ≡ Some row) × (row.reply ≡ reply)

-- It is the reply of an undo or a redo.
abbrev pub IsOfToggle : RowReply → Type 0
IsOfToggle (Answered answer) = ⊥
IsOfToggle (Undid n) = Unit {0}
IsOfToggle (UndoRefused refusal) = Unit {0}
IsOfToggle (Redid n) = Unit {0}
IsOfToggle (RedoRefused refusal) = Unit {0}

-- It is a reply to this request, whatever the history contains: the operation's answer on some
-- tree; or the row that was asked for was undone or redone, or that was refused.
abbrev pub IsReplyTo : {O : Type 0} → (O → Inquiry Effect) → Request O → RowReply → Type 0
IsReplyTo meaning (Do c) reply = (t : Entries) × (reply ≡ Answered (outcome_of meaning c t).answer)
IsReplyTo meaning (Undo n) reply = (reply ≡ Undid n) ⊎ ((refusal : UndoRefusal) × (reply ≡ UndoRefused refusal))
IsReplyTo meaning (Redo n) reply = (reply ≡ Redid n) ⊎ ((refusal : RedoRefusal) × (reply ≡ RedoRefused refusal))

-- The result of committing a plan. The reply that is returned with the number is that of the row.
abbrev pub Settles : {O : Type 0} → (O → Bool) → (O → Inquiry Effect) → Log O → List ℕ → Planned O → Log O → Settled (Planned O) → Type 0
Settles asks meaning old operator plan new (Committed row) = IsCommit asks meaning old operator plan new (commits.Committed row.number) × IsReplyOf new.rows row.number row.reply
Settles asks meaning old operator plan new (Stale kept at) = IsCommit asks meaning old operator plan new (commits.Stale kept at)

-- The reply of a plan that is committed is its answer. A stale plan is returned as it was passed in.
abbrev pub KeepsPlan : {O : Type 0} → Planned O → Settled (Planned O) → Type 0
KeepsPlan plan (Committed row) = row.reply ≡ Answered plan.outcome.answer
KeepsPlan plan (Stale kept at) = kept ≡ plan
