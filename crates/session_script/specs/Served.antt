-- What a run with sessions writes for an input, and what its errors mean.
use Rattle.std.specs.Prelude.{◌≡◌, ℕ, ◌<◌, List, [], ◌∷◌, length, map, All, IsTrue, Option, Result, Ok, Err}
use Rattle.std.specs.List.{IsDistinct}
use Rattle.std.specs.Str.{bytes_eq}
use Rattle.std.specs.Io.KnownBytes.{Appends, Keeps}
use Rattle.byte_streams.specs.Streams.{IsCalm, StopsIn}
use Rattle.byte_streams.specs.declared.counters.Counters.{Counters}
use Rattle.link_tree.specs.Trees.{Entries}
use Rattle.history.specs.Logs.{Log}
use Rattle.history.specs.Rows as histories
use Rattle.history.specs.declared.row.Row.{Row}
use Rattle.shared_admin.specs.Sharing.{is_among}
use Rattle.shared_admin.specs.declared.log.SessionLog.{SessionLog}
use Rattle.sessions.specs.Fed.{asked}
use Rattle.sessions.specs.Runs.{requests_in}
use Rattle.sessions.specs.declared.asks.Ask.{Ask}
use Rattle.sessions.specs.declared.faults.RunError.{RunError}
use Rattle.sessions.specs.declared.faults.RunError.TheVariants as errors
use Rattle.unit_script.specs.Actions.{asks, meaning}
use Rattle.unit_script.specs.OpenScripts.{RunStops}
use Rattle.unit_script.specs.Runs.{FaultCause}
use Rattle.unit_script.specs.Texts.{text_of}
use Rattle.unit_script.specs.declared.action.Action.{Action}
use Rattle.unit_script.specs.declared.call.Call.{Call}
use Rattle.unit_script.specs.declared.reason.ScriptFault.TheVariants.{NoCalls, Bad}
use Rattle.unit_script.specs.declared.run_fault.InputFault.{InputFault}
use Rattle.unit_script.specs.declared.run_fault.InputFault.TheVariants as inputs
use Rattle.unit_script.specs.declared.run_fault.RunFault.TheVariants as runs
use Rattle.session_script.specs.declared.fault.SessionsFault.{SessionsFault}
use Rattle.session_script.specs.declared.fault.SessionsFault.TheVariants as faults

-- the operators of calls, one for each
abbrev pub operators_of : List Call → List (List ℕ)
operators_of = map (λ call. call.operator)

-- the requests of calls, in the form in which they are passed to sessions
abbrev pub asks_of : List Call → List (Ask Action)
asks_of = map (λ call. record { operator = call.operator; request = call.request })

-- Rows of calls whose operators worked concurrently: they are what one thread makes on the tree
-- from the rows' own requests, in their order; and each operator's rows are exactly those of its
-- calls, in their order.
pub record AreServed (tree : Entries) (calls : List Call) (rows : List (Row Action)) : Type 0 where
  pub legal : rows ≡ histories.run asks meaning tree [] (histories.calls_of rows)
  pub own : (operator : List ℕ) → requests_in rows operator ≡ asked operator (asks_of calls)

-- Calls are of more than sixteen different operators.
abbrev pub AreOfTooMany : List Call → Type 0
AreOfTooMany calls = (operators : List (List ℕ)) × IsDistinct bytes_eq operators × All (λ operator. IsTrue (is_among (operators_of calls) operator)) operators × (16 < length operators)

-- A history of the input's calls.
pub record IsServedHistory (given : Result (Entries × List Call) InputFault) (history : Log Action) : Type 0 where
  pub tree : Entries
  pub calls : List Call
  pub given_is : given ≡ Ok (tree, calls)
  pub first : history.first ≡ tree
  pub served : AreServed tree calls history.rows

-- The text of a history of the input's calls: its rows, and the inventory of the resulting tree.
abbrev pub HasServed : Result (Entries × List Call) InputFault → (List ℕ → Type 0) → Type 0
HasServed given Text = (history : Log Action) × IsServedHistory given history × Text (text_of history.first history.rows)

-- The input's calls are of at most sixteen operators.
abbrev pub IsOfFew : Result (Entries × List Call) InputFault → Type 0
IsOfFew given = (tree : Entries) × (calls : List Call) × (given ≡ Ok (tree, calls)) × (¬ AreOfTooMany calls)

-- What an error means for the input. Faults of the input come first, then too many operators.
abbrev pub InputFaultOf : SessionsFault → Result (Entries × List Call) InputFault → Type 0
InputFaultOf (faults.Run (runs.Inventory fault n)) given = given ≡ Err (inputs.Inventory fault n)
InputFaultOf (faults.Run runs.NoCalls) given = given ≡ Err (inputs.Script NoCalls)
InputFaultOf (faults.Run (runs.BadCall line reason)) given = given ≡ Err (inputs.Script (Bad line reason))
InputFaultOf (faults.Run runs.Full) given = IsOfFew given
InputFaultOf (faults.Run (runs.WriteFault n)) given = ⊥
InputFaultOf (faults.Run (runs.InventoryRead n)) given = Unit {0}
InputFaultOf (faults.Run runs.ReadFault) given = Unit {0}
InputFaultOf (faults.Run runs.OutOfMemory) given = Unit {0}
InputFaultOf faults.TooManySessions given = (tree : Entries) × (calls : List Call) × (given ≡ Ok (tree, calls)) × AreOfTooMany calls
InputFaultOf faults.NoWorker given = IsOfFew given
InputFaultOf (faults.Close fault) given = IsOfFew given

-- The same; and on a write fault exactly the reported number of bytes of the text were written.
abbrev pub SessionsFaultOf : SessionsFault → (old new : Option (List ℕ)) → Result (Entries × List Call) InputFault → Type 0
SessionsFaultOf (faults.Run (runs.WriteFault n)) old new given = HasServed given (λ text. StopsIn old new text n)
SessionsFaultOf fault old new given = InputFaultOf fault given

-- On any error other than a write fault, nothing was written.
abbrev pub IsSilent : SessionsFault → (old new : Option (List ℕ)) → Type 0
IsSilent (faults.Run (runs.WriteFault n)) old new = Unit {0}
IsSilent fault old new = Keeps old new

-- How far the input was read when a read fault occurred.
abbrev pub SessionsStops : SessionsFault → (old new : Option (List ℕ)) → Type 0
SessionsStops (faults.Run fault) old new = RunStops fault old new
SessionsStops other old new = Unit {0}

-- A read or write fault occurs only if the source or sink failed, or was interrupted too often. With
-- a fault that is reported after the whole input was read, the source didn't fail.
abbrev pub SessionsCause : SessionsFault → (source_old source_new sink_old sink_new : Counters) → Type 0
SessionsCause (faults.Run fault) source_old source_new sink_old sink_new = FaultCause fault source_old source_new sink_old sink_new
SessionsCause other source_old source_new sink_old sink_new = IsCalm source_old source_new

-- for the proofs: what an error means for the calls, after they were read
abbrev pub ServeFault : List Call → SessionsFault → Type 0
ServeFault calls faults.TooManySessions = AreOfTooMany calls
ServeFault calls faults.NoWorker = ¬ AreOfTooMany calls
ServeFault calls (faults.Close fault) = ¬ AreOfTooMany calls
ServeFault calls (faults.Run runs.Full) = ¬ AreOfTooMany calls
ServeFault calls (faults.Run runs.OutOfMemory) = Unit {0}
ServeFault calls (faults.Run (runs.Inventory fault n)) = ⊥
ServeFault calls (faults.Run runs.NoCalls) = ⊥
ServeFault calls (faults.Run (runs.BadCall line reason)) = ⊥
ServeFault calls (faults.Run (runs.WriteFault n)) = ⊥
ServeFault calls (faults.Run (runs.InventoryRead n)) = ⊥
ServeFault calls (faults.Run runs.ReadFault) = ⊥

-- the error of a run whose sessions didn't complete or could not be closed
abbrev pub fault_of : RunError (Log Action) (List (SessionLog Action)) → SessionsFault
fault_of errors.TooManySessions = faults.TooManySessions
fault_of errors.SameOperator = faults.TooManySessions
fault_of errors.NoWorker = faults.NoWorker
fault_of errors.Full = faults.Run runs.Full
fault_of errors.OutOfMemory = faults.Run runs.OutOfMemory
fault_of (errors.Close left) = faults.Close left.fault
