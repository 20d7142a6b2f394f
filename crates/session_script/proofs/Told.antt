-- What errors mean, step by step.
use Rattle.std.proofs.Common.{◌≡◌, ℕ, List, Option, Result, Ok, Err, subst, arith}
use Rattle.std.specs.Prelude.{IfOk, IfErr}
use Rattle.byte_streams.specs.Streams.{IsCalm, StopsIn}
use Rattle.byte_streams.specs.declared.counters.Counters.{Counters}
use Rattle.link_tree.specs.Reads.{SentBefore}
use Rattle.link_tree.specs.declared.writing.WriteError.{WriteError}
use Rattle.link_tree.specs.declared.writing.WriteError.TheVariants as writes
use Rattle.link_tree.specs.Inventory.{◌>>=◌, inventory_of}
use Rattle.link_tree.specs.Trees.{Entries}
use Rattle.link_tree.specs.declared.inventory_fault.InventoryFault.{InventoryFault}
use Rattle.history.specs.Logs.{Log}
use Rattle.shared_admin.specs.Sharing.{MayShare}
use Rattle.shared_admin.specs.declared.log.SessionLog.{SessionLog}
use Rattle.sessions.specs.Faults.{IsRunError}
use Rattle.sessions.specs.declared.faults.RunError.{RunError}
use Rattle.sessions.specs.declared.faults.RunError.TheVariants as desks
use Rattle.unit_script.specs.declared.action.Action.{Action}
use Rattle.unit_script.specs.Runs.{FaultsAs, in_inventory, in_script, input_of, run_fault_of}
use Rattle.unit_script.specs.Script.{script_of}
use Rattle.unit_script.specs.declared.call.Call.{Call}
use Rattle.unit_script.specs.declared.reason.ScriptFault.{ScriptFault}
use Rattle.unit_script.specs.declared.reason.ScriptFault.TheVariants.{NoCalls, Bad}
use Rattle.unit_script.specs.declared.run_fault.InputError.{InputError}
use Rattle.unit_script.specs.declared.run_fault.InputError.TheVariants as errors
use Rattle.unit_script.specs.declared.run_fault.InputFault.{InputFault}
use Rattle.unit_script.specs.declared.run_fault.InputFault.TheVariants as inputs
use Rattle.unit_script.specs.declared.run_fault.RunFault.TheVariants as runs
use Rattle.session_script.specs.declared.fault.SessionsFault.{SessionsFault}
use Rattle.session_script.specs.declared.fault.SessionsFault.TheVariants as faults
use Rattle.session_script.specs.Served.{AreOfTooMany, InputFaultOf, ServeFault, SessionsCause, SessionsFaultOf, fault_of}

abbrev read_both : Entries → List Call → Result (Entries × List Call) InputFault
read_both tree calls = Ok (tree, calls)

never_full_calls : (tree : Entries) (read : Result (List Call) ScriptFault) → (in_script read >>= read_both tree) ≡ Err inputs.Full → ⊥
never_full_calls tree (Err e) is = cc
never_full_calls tree (Ok calls) is = cc

-- too many calls are not an error of reading
never_full : (read : Result (Entries × List ℕ) (InventoryFault × ℕ)) → (in_inventory read >>= λ found. in_script (script_of found.1) >>= read_both found.0) ≡ Err inputs.Full → ⊥
never_full (Err e) is = cc
never_full (Ok found) is = never_full_calls found.0 (script_of found.1) is

-- a fault of the input
pub of_input : (e : InputError) (input : List ℕ) → FaultsAs e (input_of input) → InputFaultOf (faults.Run (run_fault_of e)) (input_of input)
of_input (errors.Fault (inputs.Inventory fault n)) input is = is
of_input (errors.Fault (inputs.Script NoCalls)) input is = is
of_input (errors.Fault (inputs.Script (Bad line reason))) input is = is
of_input (errors.Fault inputs.Full) input is = absurd (never_full (inventory_of input) is)
of_input (errors.InventoryRead n) input is = tt
of_input errors.ReadFault input is = tt
of_input errors.OutOfMemory input is = tt

-- an error of serving the calls of an input
pub of_calls : (tree : Entries) (calls : List Call) (given : Result (Entries × List Call) InputFault) → given ≡ Ok (tree, calls) → (fault : SessionsFault) → ServeFault calls fault → InputFaultOf fault given
of_calls tree calls given is faults.TooManySessions why = (tree, calls, is, why)
of_calls tree calls given is faults.NoWorker why = (tree, calls, is, why)
of_calls tree calls given is (faults.Close fault) why = (tree, calls, is, why)
of_calls tree calls given is (faults.Run runs.Full) why = (tree, calls, is, why)
of_calls tree calls given is (faults.Run runs.OutOfMemory) why = tt
of_calls tree calls given is (faults.Run (runs.Inventory fault n)) why = absurd why
of_calls tree calls given is (faults.Run runs.NoCalls) why = absurd why
of_calls tree calls given is (faults.Run (runs.BadCall line reason)) why = absurd why
of_calls tree calls given is (faults.Run (runs.WriteFault n)) why = absurd why
of_calls tree calls given is (faults.Run (runs.InventoryRead n)) why = absurd why
of_calls tree calls given is (faults.Run runs.ReadFault) why = absurd why

-- an error of a run of sessions
pub of_desk : (calls : List Call) (operators : List (List ℕ)) → MayShare operators → (¬ AreOfTooMany calls) → (e : RunError (Log Action) (List (SessionLog Action))) → IsRunError operators e → ServeFault calls (fault_of e)
of_desk calls operators share few desks.TooManySessions why = absurd (omega (arith, share.0, why))
of_desk calls operators share few desks.SameOperator why = absurd (why.1 share.1)
of_desk calls operators share few desks.NoWorker why = few
of_desk calls operators share few desks.Full why = few
of_desk calls operators share few desks.OutOfMemory why = tt
of_desk calls operators share few (desks.Close left) why = few

-- before anything is written, an error is the input's
pub unsent : (fault : SessionsFault) (old new : Option (List ℕ)) (given : Result (Entries × List Call) InputFault) → InputFaultOf fault given → SessionsFaultOf fault old new given
unsent faults.TooManySessions old new given why = why
unsent faults.NoWorker old new given why = why
unsent (faults.Close fault) old new given why = why
unsent (faults.Run runs.Full) old new given why = why
unsent (faults.Run runs.OutOfMemory) old new given why = why
unsent (faults.Run (runs.Inventory fault n)) old new given why = why
unsent (faults.Run runs.NoCalls) old new given why = why
unsent (faults.Run (runs.BadCall line reason)) old new given why = why
unsent (faults.Run (runs.WriteFault n)) old new given why = absurd why
unsent (faults.Run (runs.InventoryRead n)) old new given why = why
unsent (faults.Run runs.ReadFault) old new given why = why

pub both_ok : {A E : Type 0} {P Q R : A → Type 0} (r : Result A E) → IfOk r P → IfOk r Q → ((x : A) → P x → Q x → R x) → IfOk r R
both_ok (Ok x) p q f = f x p q
both_ok (Err e) p q f = tt

pub if_err : {A E : Type 0} {P Q : E → Type 0} (r : Result A E) → IfErr r P → ((e : E) → P e → Q e) → IfErr r Q
if_err (Ok x) p f = tt
if_err (Err e) p f = f e p

-- while calls are served, the source isn't read
pub served_cause : (calls : List Call) (e : SessionsFault) (old new sink_old sink_new : Counters) → ServeFault calls e → IsCalm old new → SessionsCause e old new sink_old sink_new
served_cause calls faults.TooManySessions old new sink_old sink_new why calm = calm
served_cause calls faults.NoWorker old new sink_old sink_new why calm = calm
served_cause calls (faults.Close fault) old new sink_old sink_new why calm = calm
served_cause calls (faults.Run runs.Full) old new sink_old sink_new why calm = calm
served_cause calls (faults.Run runs.OutOfMemory) old new sink_old sink_new why calm = tt
served_cause calls (faults.Run (runs.Inventory fault n)) old new sink_old sink_new why calm = absurd why
served_cause calls (faults.Run runs.NoCalls) old new sink_old sink_new why calm = absurd why
served_cause calls (faults.Run (runs.BadCall line reason)) old new sink_old sink_new why calm = absurd why
served_cause calls (faults.Run (runs.WriteFault n)) old new sink_old sink_new why calm = absurd why
served_cause calls (faults.Run (runs.InventoryRead n)) old new sink_old sink_new why calm = absurd why
served_cause calls (faults.Run runs.ReadFault) old new sink_old sink_new why calm = absurd why

-- what a write fault means for the text
pub sent_before : (r : Result (Unit {0}) WriteError) (n : ℕ) (old new : Option (List ℕ)) (text : List ℕ) → r ≡ Err (writes.Fault n) → IfErr r (λ e. SentBefore e old new text) → StopsIn old new text n
sent_before r n old new text is fault = subst (λ (r : Result (Unit {0}) WriteError). IfErr r (λ e. SentBefore e old new text)) is fault
