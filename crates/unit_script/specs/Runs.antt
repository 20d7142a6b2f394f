-- What a run writes for an input, and what its errors mean. The contract of `run` cites
-- `outcome_of`, `WritesAll`, `FaultOf`, `Silent` and `FaultCause`; that of `read_input` cites
-- `input_of`, `GivesInput`, `InputCause` and `InputStops`.
use Rattle.std.specs.Prelude.{◌≡◌, ◌≢◌, ℕ, nat_lt, if◌then◌else◌, List, length, Option, Some, Result, Ok, Err}
use Rattle.std.specs.Io.KnownBytes.{Appends, Keeps}
use Rattle.byte_streams.specs.Streams.{HasCause, IsCalm, StopsIn, Takes}
use Rattle.byte_streams.specs.declared.counters.Counters.{Counters}
use Rattle.link_tree.specs.Trees.{Entries}
use Rattle.link_tree.specs.Inventory.{◌>>=◌, inventory_of}
use Rattle.link_tree.specs.declared.inventory_fault.InventoryFault.{InventoryFault}
use Rattle.link_tree.specs.declared.inventory_fault.InventoryFault.TheVariants.{Duplicate}
use Rattle.unit_script.specs.declared.call.Call.{Call}
use Rattle.unit_script.specs.declared.reason.ScriptFault.{ScriptFault}
use Rattle.unit_script.specs.declared.reason.ScriptFault.TheVariants.{NoCalls, Bad}
use Rattle.unit_script.specs.declared.run_fault.InputFault.{InputFault}
use Rattle.unit_script.specs.declared.run_fault.InputFault.TheVariants.{Inventory, Script, Full}
use Rattle.unit_script.specs.declared.run_fault.InputError.{InputError}
use Rattle.unit_script.specs.declared.run_fault.InputError.TheVariants as inputs
use Rattle.unit_script.specs.declared.run_fault.RunFault.{RunFault}
use Rattle.unit_script.specs.declared.run_fault.RunFault.TheVariants as runs
use Rattle.unit_script.specs.Machine.{rows_of}
use Rattle.unit_script.specs.Script.{script_of}
use Rattle.unit_script.specs.OpenScripts.{IsOpenInput, IsOpenScript}
use Rattle.link_tree.specs.Reads.{IsUndecided}
use Rattle.unit_script.specs.Texts.{text_of}

abbrev pub in_inventory : {A : Type 0} → Result A (InventoryFault × ℕ) → Result A InputFault
in_inventory (Ok x) = Ok x
in_inventory (Err e) = Err (Inventory e.0 e.1)

abbrev pub in_script : {A : Type 0} → Result A ScriptFault → Result A InputFault
in_script (Ok x) = Ok x
in_script (Err fault) = Err (Script fault)

-- the output for calls on a tree; each call makes a row
unfoldable pub text_of_calls : Entries → List Call → Result (List ℕ) InputFault
text_of_calls tree calls = if nat_lt 1000000 (length calls) then Err Full else Ok (text_of tree (rows_of tree calls))

-- The tree and the calls of an input, or its first fault: that of the inventory, then that of the
-- script after it.
abbrev pub input_of : List ℕ → Result (Entries × List Call) InputFault
input_of input = do
  found ← in_inventory (inventory_of input)
  calls ← in_script (script_of found.1)
  Ok (found.0, calls)

-- The output for an input, or the input's first fault: too many calls are reported last.
abbrev pub outcome_of : List ℕ → Result (List ℕ) InputFault
outcome_of input = do
  given ← input_of input
  text_of_calls given.0 given.1

-- The whole output for the input was written.
abbrev pub WritesAll : Option (List ℕ) → Option (List ℕ) → Result (List ℕ) InputFault → Type 0
WritesAll old new given = (text : List ℕ) × (given ≡ Ok text) × Appends old new text

-- What each error of a run means for the input, and what was written before a write fault.
abbrev pub FaultOf : RunFault → Option (List ℕ) → Option (List ℕ) → Result (List ℕ) InputFault → Type 0
FaultOf (runs.WriteFault n) old new given = (text : List ℕ) × (given ≡ Ok text) × StopsIn old new text n
FaultOf (runs.Inventory fault n) old new given = given ≡ Err (Inventory fault n)
FaultOf runs.NoCalls old new given = given ≡ Err (Script NoCalls)
FaultOf (runs.BadCall line reason) old new given = given ≡ Err (Script (Bad line reason))
FaultOf runs.Full old new given = given ≡ Err Full
FaultOf (runs.InventoryRead n) old new given = Unit {0}
FaultOf runs.ReadFault old new given = Unit {0}
FaultOf runs.OutOfMemory old new given = Unit {0}

-- On any error other than a write fault, nothing was written.
abbrev pub Silent : RunFault → Option (List ℕ) → Option (List ℕ) → Type 0
Silent (runs.WriteFault n) old new = Unit {0}
Silent e old new = Keeps old new

-- A read or write fault occurs only if the source or sink failed, or was interrupted too often. A
-- write fault or a fault of the input is reported only if the source didn't fail; but a duplicate
-- may be reported after the source failed in a later entry.
abbrev pub FaultCause : RunFault → (source_old source_new sink_old sink_new : Counters) → Type 0
FaultCause (runs.WriteFault n) source_old source_new sink_old sink_new = HasCause sink_old sink_new × IsCalm source_old source_new
FaultCause (runs.InventoryRead n) source_old source_new sink_old sink_new = HasCause source_old source_new
FaultCause runs.ReadFault source_old source_new sink_old sink_new = HasCause source_old source_new
FaultCause (runs.Inventory fault n) source_old source_new sink_old sink_new = fault ≢ Duplicate → IsCalm source_old source_new
FaultCause runs.NoCalls source_old source_new sink_old sink_new = IsCalm source_old source_new
FaultCause (runs.BadCall line reason) source_old source_new sink_old sink_new = IsCalm source_old source_new
FaultCause runs.Full source_old source_new sink_old sink_new = IsCalm source_old source_new
FaultCause runs.OutOfMemory source_old source_new sink_old sink_new = Unit {0}

-- The error is the fault that the input has, unless the source failed or memory ran out.
abbrev pub FaultsAs : {A : Type 0} → InputError → Result A InputFault → Type 0
FaultsAs (inputs.Fault fault) read = read ≡ Err fault
FaultsAs (inputs.InventoryRead n) read = Unit {0}
FaultsAs inputs.ReadFault read = Unit {0}
FaultsAs inputs.OutOfMemory read = Unit {0}

-- What was read is the input's tree and calls, unless the source failed or memory ran out.
abbrev pub GivesInput : {X A : Type 0} → (X → A) → Result X InputError → Result A InputFault → Type 0
GivesInput view (Ok x) read = read ≡ Ok (view x)
GivesInput view (Err e) read = FaultsAs e read

-- A read fault has its cause in the source. With a fault of the input the source didn't fail; but a
-- duplicate may be reported after the source failed in a later entry.
abbrev pub InputCause : InputError → Counters → Counters → Type 0
InputCause (inputs.InventoryRead n) old new = HasCause old new
InputCause inputs.ReadFault old new = HasCause old new
InputCause (inputs.Fault (Inventory fault n)) old new = fault ≢ Duplicate → IsCalm old new
InputCause (inputs.Fault (Script fault)) old new = IsCalm old new
InputCause (inputs.Fault Full) old new = IsCalm old new
InputCause inputs.OutOfMemory old new = Unit {0}

-- How far the input was read when a read fault occurred.
abbrev pub InputStops : InputError → (old new : Option (List ℕ)) → Type 0
InputStops (inputs.InventoryRead n) old new = Takes old new (λ taken rest. IsUndecided n taken)
InputStops inputs.ReadFault old new = Takes old new (λ taken rest. IsOpenInput taken)
InputStops (inputs.Fault fault) old new = Unit {0}
InputStops inputs.OutOfMemory old new = Unit {0}

-- for the proofs: how far the script was read when a read fault occurred
abbrev pub ScriptStops : InputError → (old new : Option (List ℕ)) → Type 0
ScriptStops (inputs.InventoryRead n) old new = ⊥
ScriptStops inputs.ReadFault old new = Takes old new (λ taken rest. IsOpenScript taken)
ScriptStops (inputs.Fault fault) old new = Unit {0}
ScriptStops inputs.OutOfMemory old new = Unit {0}

-- for the proofs: the tree that was read is the inventory's, and what follows the inventory remains
-- in the source
abbrev pub TreeOfInput : Option (List ℕ) → Result Entries InputError → Result (Entries × List ℕ) InputFault → Type 0
TreeOfInput left (Ok tree) read = (rest : List ℕ) × (left ≡ Some rest) × (read ≡ Ok (tree, rest))
TreeOfInput left (Err e) read = FaultsAs e read

-- the fault of a run that has no output
abbrev pub run_fault_of : InputError → RunFault
run_fault_of (inputs.Fault (Inventory fault n)) = runs.Inventory fault n
run_fault_of (inputs.Fault (Script NoCalls)) = runs.NoCalls
run_fault_of (inputs.Fault (Script (Bad line reason))) = runs.BadCall line reason
run_fault_of (inputs.Fault Full) = runs.Full
run_fault_of (inputs.InventoryRead n) = runs.InventoryRead n
run_fault_of inputs.ReadFault = runs.ReadFault
run_fault_of inputs.OutOfMemory = runs.OutOfMemory
