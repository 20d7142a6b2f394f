-- Why a run of sessions isn't closed.
use Rattle.std.specs.Prelude.{◌≡◌, ℕ, ◌<◌, ◌≤◌, ◌⊎◌, Bool, List, [], Result, Ok, Err, length}
use Rattle.std.specs.List.{IsDistinct}
use Rattle.std.specs.Str.{bytes_eq}
use Rattle.link_tree.specs.Trees.{Entries}
use Rattle.footprint.specs.Inquiry.{Inquiry}
use Rattle.footprint.specs.Operations.{Effect}
use Rattle.history.specs.Logs.{Log}
use Rattle.history.specs.Rows.{run, calls_of}
use Rattle.history.specs.declared.history.CallError.{CallError}
use Rattle.history.specs.declared.history.CallError.TheVariants as calls
use Rattle.shared_admin.specs.declared.close.CloseFault.TheVariants.{Mismatch}
use Rattle.shared_admin.specs.declared.close.Unclosed.{Unclosed}
use Rattle.shared_admin.specs.declared.log.SessionLog.{SessionLog}
use Rattle.shared_admin.specs.declared.shared.OpenError.{OpenError}
use Rattle.shared_admin.specs.declared.shared.OpenError.TheVariants as opens
use Rattle.shared_admin.specs.Closing.{IsClosed, IsFault}
use Rattle.shared_admin.specs.Sharing.{MayShare}
use Rattle.sessions.specs.Fed.{IsUnserved}
use Rattle.sessions.specs.declared.asks.Ask.{Ask}
use Rattle.sessions.specs.declared.desk.Answered.{Answered}
use Rattle.sessions.specs.declared.desk.Issued.{Issued}
use Rattle.sessions.specs.declared.faults.RunError.{RunError}
use Rattle.sessions.specs.declared.faults.RunError.TheVariants.{TooManySessions, SameOperator, NoWorker, Full, OutOfMemory, Close}
use Rattle.sessions.specs.declared.faults.WorkFault.{WorkFault}
use Rattle.sessions.specs.declared.faults.WorkFault.TheVariants as faults

-- the worker's error for a call that made no row
abbrev pub of_call : CallError → WorkFault
of_call calls.Full = faults.Full
of_call calls.OutOfMemory = faults.OutOfMemory

-- which of two errors is reported: that no worker could be started comes before a full history, and
-- that before out of memory
abbrev pub told : WorkFault → CallError → WorkFault
told faults.NoWorker why = faults.NoWorker
told faults.Full why = faults.Full
told faults.OutOfMemory why = of_call why

-- The error of the first workers and the last one.
abbrev pub IsFaultOf : {A B : Type 0} → Result A WorkFault → Result B CallError → WorkFault → Type 0
IsFaultOf (Ok first) (Ok last) fault = ⊥
IsFaultOf (Ok first) (Err why) fault = fault ≡ of_call why
IsFaultOf (Err before) (Ok last) fault = fault ≡ before
IsFaultOf (Err before) (Err why) fault = fault ≡ told before why

module _ {H L : Type 0} where
  -- the error if a history can't be shared
  abbrev pub of_open : OpenError → RunError H L
  of_open opens.TooManySessions = TooManySessions
  of_open opens.SameOperator = SameOperator
  of_open opens.OutOfMemory = OutOfMemory

  -- the error if workers didn't serve all requests
  abbrev pub of_worker : WorkFault → RunError H L
  of_worker faults.NoWorker = NoWorker
  of_worker faults.Full = Full
  of_worker faults.OutOfMemory = OutOfMemory

  -- `TooManySessions` is reported exactly if there are too many operators, and `SameOperator`
  -- exactly if one is in the list twice and there aren't too many; so any other reason is reported
  -- only if these operators may share a history.
  abbrev pub IsRunError : List (List ℕ) → RunError H L → Type 0
  IsRunError operators TooManySessions = 16 < length operators
  IsRunError operators SameOperator = (length operators ≤ 16) × (¬ IsDistinct bytes_eq operators)
  IsRunError operators NoWorker = MayShare operators
  IsRunError operators Full = MayShare operators
  IsRunError operators OutOfMemory = MayShare operators
  IsRunError operators (Close left) = MayShare operators

  -- If the run wasn't closed, this holds of the history that is returned.
  abbrev pub IfUnclosed : RunError H L → (Unclosed H L → Type 0) → Type 0
  IfUnclosed TooManySessions P = Unit {0}
  IfUnclosed SameOperator P = Unit {0}
  IfUnclosed NoWorker P = Unit {0}
  IfUnclosed Full P = Unit {0}
  IfUnclosed OutOfMemory P = Unit {0}
  IfUnclosed (Close left) P = P left

module _ {O : Type 0} (asks : O → Bool) (meaning : O → Inquiry Effect) (tree : Entries) (operators : List (List ℕ)) where
  -- The history that is returned is a legal one.
  abbrev pub ComesBackLegal : Unclosed (Log O) (List (SessionLog O)) → Type 0
  ComesBackLegal left = left.history.rows ≡ run asks meaning left.history.first [] (calls_of left.history.rows)

  -- The run isn't closed, and the error that is reported is its first.
  abbrev pub ComesBackUnclosed : Unclosed (Log O) (List (SessionLog O)) → Type 0
  ComesBackUnclosed left = IsFault tree operators left.logs left.history left.fault × (¬ IsClosed tree operators left.logs left.history)

  -- What is returned if the logs don't match the rows.
  pub record IsUnclosed (left : Unclosed (Log O) (List (SessionLog O))) : Type 0 where
    pub unclosed : ComesBackUnclosed left
    pub legal : ComesBackLegal left

  -- What is returned if the logs don't match the rows; or they do, but an operator wasn't served
  -- exactly the requests passed to it, by these jobs and their answers.
  pub record IsUnfed (issued : List Issued) (answers : List Answered) (asked : List (Ask O)) (left : Unclosed (Log O) (List (SessionLog O))) : Type 0 where
    pub unfed : ComesBackUnclosed left
        ⊎ (IsClosed tree operators left.logs left.history × ((operator : List ℕ) × (place : ℕ) × (left.fault ≡ Mismatch operator place) × IsUnserved issued answers asked left.logs operator place))
    pub legal : ComesBackLegal left

  -- The same for some jobs and answers: nothing is known of what passes through channels.
  abbrev pub IsUnfedBySome : List (Ask O) → Unclosed (Log O) (List (SessionLog O)) → Type 0
  IsUnfedBySome asked left = (issued : List Issued) × (answers : List Answered) × IsUnfed issued answers asked left
