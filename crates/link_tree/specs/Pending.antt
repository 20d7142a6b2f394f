-- For the proofs of this crate: entries at slots that were read and aren't in the tree yet. No
-- public contract uses it.
use Rattle.std.specs.Prelude.{◌≡◌, ◌≢◌, ℕ, ◌+◌, ◌*◌, ◌%◌, ◌^◌, ◌<◌, true, List, [], ◌∷◌, length, take, All, Option, Some, None, Result, Ok, Err, min}
use Rattle.unit_paths.specs.Paths.{parent, name_at}
use Rattle.unit_paths.specs.Slots.{is_slot}
use Rattle.link_tree.specs.Shape.{fits_at}
use Rattle.link_tree.specs.Trees.{Entries}
use Rattle.link_tree.specs.Inventory.{◌>>=◌, placed, in_entry}
use Rattle.link_tree.specs.declared.entry.Entry.{Entry}
use Rattle.link_tree.specs.declared.inventory_fault.InventoryFault.{InventoryFault}
use Rattle.link_tree.specs.declared.inventory_fault.InventoryFault.TheVariants.{Duplicate}
use Rattle.link_tree.specs.declared.inventory_fault.InventoryError.{InventoryError}
use Rattle.link_tree.specs.declared.inventory_fault.InventoryError.TheVariants as inventories
use Rattle.link_tree.specs.declared.pending.PendingEntry.{PendingEntry}

-- a key of 128 bits with a byte appended
abbrev pub shifted : ℕ → ℕ → ℕ
shifted key byte = (key * 256 % 2 ^ 128 + byte) % 2 ^ 128

abbrev pub with_bytes : ℕ → List ℕ → ℕ
with_bytes key [] = key
with_bytes key (b ∷ bs) = with_bytes (shifted key b) bs

-- the sort key of pending entries: the length of the directory, and the first bytes of the name
abbrev pub sort_key : List ℕ → ℕ
sort_key path = with_bytes (length (parent path)) (take 15 (name_at path))

-- entries are added to a tree one after another
abbrev pub place_all : Entries → List PendingEntry → Result Entries (InventoryFault × ℕ)
place_all m [] = Ok m
place_all m (one ∷ pending) = in_entry one.number (placed m (one.path, one.entry)) >>= λ grown. place_all grown pending

-- the result for all entries before it, with one more entry
abbrev pub with_entry : Result Entries (InventoryFault × ℕ) → ℕ → List ℕ × Entry → Result Entries (InventoryFault × ℕ)
with_entry read number entry = read >>= λ m. in_entry number (placed m entry)

-- an entry that is allowed at its path, which is a slot
abbrev pub IsAtSlot : PendingEntry → Type 0
IsAtSlot one = (is_slot one.path ≡ true) × (fits_at one.path one.entry ≡ true)

-- each number is smaller than those after it
abbrev pub AreRising : List PendingEntry → Type 0
AreRising [] = Unit {0}
AreRising (one ∷ pending) = All (λ later. one.number < later.number) pending × AreRising pending

-- pending entries are at slots, in the order in which they were read, with numbers before the next
pub record ArePending (next : ℕ) (pending : List PendingEntry) : Type 0 where
  pub at_slots : All IsAtSlot pending
  pub before : All (λ one. one.number < next) pending
  pub rising : AreRising pending

-- the smaller of two numbers, or the second if there is no first
abbrev pub earlier : Option ℕ → ℕ → ℕ
earlier None number = number
earlier (Some other) number = min other number

-- all were added to the tree, or the entry of this number was the first whose path was taken
abbrev pub IsInserted : Option ℕ → Entries → Result Entries (InventoryFault × ℕ) → Type 0
IsInserted None m placed = placed ≡ Ok m
IsInserted (Some number) m placed = placed ≡ Err (Duplicate, number)

-- one step of reading, from the result for all before it: the result is unchanged, or a fault is
-- reported, unless memory ran out
abbrev pub GivesOn : Result (Unit {0}) InventoryError → (new read : Result Entries (InventoryFault × ℕ)) → Type 0
GivesOn (Ok x) new read = new ≡ read
GivesOn (Err (inventories.Fault fault number)) new read = read ≡ Err (fault, number)
GivesOn (Err (inventories.ReadFault number)) new read = ⊥
GivesOn (Err inventories.OutOfMemory) new read = Unit {0}

-- a fault is a duplicate among the pending entries
abbrev pub IsDuplicate : InventoryError → Type 0
IsDuplicate (inventories.Fault fault number) = fault ≡ Duplicate
IsDuplicate (inventories.ReadFault number) = ⊥
IsDuplicate inventories.OutOfMemory = Unit {0}

-- or, if all before it were added to the tree, it is in the entry of this number
abbrev pub IsDuplicateOrAt : ℕ → Result Entries (InventoryFault × ℕ) → InventoryError → Type 0
IsDuplicateOrAt number before (inventories.Fault fault at) = fault ≢ Duplicate → (at ≡ number) × ((m : Entries) × (before ≡ Ok m))
IsDuplicateOrAt number before (inventories.ReadFault at) = ⊥
IsDuplicateOrAt number before inventories.OutOfMemory = Unit {0}
