-- The results of reading and writing an inventory, compared with what the bytes say.
use Rattle.std.specs.Prelude.{◌≡◌, ◌≢◌, ℕ, zero, suc, List, Option, Some, Result, Ok, Err}
use Rattle.std.specs.Io.KnownBytes.{Keeps}
use Rattle.unit_paths.specs.declared.fault.PathError.{PathError}
use Rattle.unit_paths.specs.declared.fault.PathError.TheVariants as paths
use Rattle.unit_paths.specs.declared.fault.TargetError.{TargetError}
use Rattle.unit_paths.specs.declared.fault.TargetError.TheVariants as targets
use Rattle.byte_streams.specs.Streams.{HasCause, IsCalm, StopsAt, StopsIn, Takes}
use Rattle.byte_streams.specs.declared.counters.Counters.{Counters}
use Rattle.byte_streams.specs.declared.read_error.ReadError.{ReadError}
use Rattle.byte_streams.specs.declared.read_error.ReadError.TheVariants as reads
use Rattle.byte_streams.specs.Blocks.{IsCutPrefix}
use Rattle.link_tree.specs.Trees.{Entries}
use Rattle.link_tree.specs.Inventory.{header, inventory_of}
use Rattle.link_tree.specs.declared.inventory_fault.InventoryFault.{InventoryFault}
use Rattle.link_tree.specs.declared.inventory_fault.InventoryFault.TheVariants as faults
use Rattle.link_tree.specs.declared.inventory_fault.InventoryError.{InventoryError}
use Rattle.link_tree.specs.declared.inventory_fault.InventoryError.TheVariants as inventories
use Rattle.link_tree.specs.declared.writing.WriteError.{WriteError}
use Rattle.link_tree.specs.declared.writing.WriteError.TheVariants as writes

-- how an invalid path or target in a line is reported
abbrev pub path_error_seen : PathError → ReadError InventoryFault
path_error_seen paths.BadPath = reads.Fault faults.BadPath
path_error_seen paths.OutOfMemory = reads.OutOfMemory

abbrev pub target_error_seen : TargetError → ReadError InventoryFault
target_error_seen targets.BadTarget = reads.Fault faults.BadPath
target_error_seen targets.OutOfMemory = reads.OutOfMemory

-- an error in the entry of this number
abbrev pub numbered : ℕ → ReadError InventoryFault → InventoryError
numbered number (reads.Fault fault) = inventories.Fault fault number
numbered number reads.ReadFault = inventories.ReadFault number
numbered number reads.OutOfMemory = inventories.OutOfMemory

-- A tree and the remaining bytes after it, or the first fault, unless the source failed or memory
-- ran out.
abbrev pub TreeOf : Option (List ℕ) → Result Entries InventoryError → Result (Entries × List ℕ) (InventoryFault × ℕ) → Type 0
TreeOf left (Ok tree) read = (rest : List ℕ) × (left ≡ Some rest) × (read ≡ Ok (tree, rest))
TreeOf left (Err (inventories.Fault fault number)) read = read ≡ Err (fault, number)
TreeOf left (Err (inventories.ReadFault number)) read = Unit {0}
TreeOf left (Err inventories.OutOfMemory) read = Unit {0}

-- the result of reading the remaining bytes, if these are known
abbrev pub ReadsTree : Option (List ℕ) → Option (List ℕ) → Result Entries InventoryError → (List ℕ → Result (Entries × List ℕ) (InventoryFault × ℕ)) → Type 0
ReadsTree old new result reading = (bytes : List ℕ) → old ≡ Some bytes → TreeOf new result (reading bytes)

-- The bytes taken decide nothing yet: they are a part of the header, or an inventory that is
-- truncated in the entry of this number.
abbrev pub IsUndecided : ℕ → List ℕ → Type 0
IsUndecided zero taken = IsCutPrefix header taken
IsUndecided (suc n) taken = inventory_of taken ≡ Err (faults.Truncated, suc n)

-- A fault is reported at the end of the bytes or at the byte that decides it, except a duplicate,
-- which may be reported later. A read fault occurs only while the bytes taken decide nothing, in
-- the entry that it names.
abbrev pub StopsInEntry : (ℕ → List ℕ → Type 0) → Result Entries InventoryError → (old new : Option (List ℕ)) → Type 0
StopsInEntry IsOpen (Ok tree) old new = Unit {0}
StopsInEntry IsOpen (Err (inventories.Fault fault number)) old new = fault ≢ faults.Duplicate → Takes old new (StopsAt (IsOpen number))
StopsInEntry IsOpen (Err (inventories.ReadFault number)) old new = Takes old new (λ taken rest. IsOpen number taken)
StopsInEntry IsOpen (Err inventories.OutOfMemory) old new = Unit {0}

-- A read fault has a cause. If a tree was read, or the inventory has a fault, the source didn't
-- fail; but a duplicate may be reported after the source failed in a later entry.
abbrev pub AccountsTree : Result Entries InventoryError → Counters → Counters → Type 0
AccountsTree (Ok tree) old new = IsCalm old new
AccountsTree (Err (inventories.ReadFault number)) old new = HasCause old new
AccountsTree (Err (inventories.Fault fault number)) old new = fault ≢ faults.Duplicate → IsCalm old new
AccountsTree (Err inventories.OutOfMemory) old new = Unit {0}

-- Only a prefix of the text was sent.
abbrev pub SentBefore : WriteError → Option (List ℕ) → Option (List ℕ) → List ℕ → Type 0
SentBefore writes.OutOfMemory old new text = Keeps old new
SentBefore (writes.Fault n) old new text = StopsIn old new text n

-- A write fault has a cause, and if a text was written, there was no failure.
abbrev pub AccountsWrite : Result (Unit {0}) WriteError → Counters → Counters → Type 0
AccountsWrite (Ok done) old new = IsCalm old new
AccountsWrite (Err (writes.Fault n)) old new = HasCause old new
AccountsWrite (Err writes.OutOfMemory) old new = Unit {0}
