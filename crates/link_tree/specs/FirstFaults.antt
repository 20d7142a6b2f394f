-- Which fault of an inventory is reported: the first in the order of reading, and within one entry
-- the first in a table.
use Rattle.std.specs.Prelude.{◌≡◌, ◌≢◌, ◌≤◌, ◌+◌, ◌↔◌, ℕ, Bool, true, false, not, ◌&&◌, ◌==◌, nat_lt, nat_le, if◌then◌else◌, List, [], ◌∷◌, ◌++◌, All, length, drop, Option, Some, None, is_some, Err, codes}
use Rattle.std.specs.List.{flat_map}
use Rattle.std.specs.Str.{bytes_eq}
use Rattle.std.specs.FinMap as map
use Rattle.unit_paths.specs.Paths.{is_path, is_target}
use Rattle.unit_paths.specs.Shape.{is_bad_shape}
use Rattle.byte_streams.specs.Lines.{Front, Whole, Last, Long, front_line}
use Rattle.link_tree.specs.EntryLines.{fields_of, length_of}
use Rattle.link_tree.specs.Grammar.{AreDistinct}
use Rattle.link_tree.specs.Inventory.{header, inventory_of}
use Rattle.link_tree.specs.Shape.{IsTree, is_crowded}
use Rattle.link_tree.specs.Trees.{Entries, entry_line}
use Rattle.link_tree.specs.declared.entry.Entry.{Entry}
use Rattle.link_tree.specs.declared.inventory_fault.InventoryFault.{InventoryFault}
use Rattle.link_tree.specs.declared.inventory_fault.InventoryFault.TheVariants as faults
use Prim.Native.Char.{code}

-- What may be wrong with an entry.
pub data Trouble : Type 0 where
  LongLine : Trouble
  NoLineEnd : Trouble
  UnknownLine : Trouble
  InvalidPath : Trouble
  LargeFile : Trouble
  NoRoom : Trouble
  CutFile : Trouble
  NoFileEnd : Trouble
  SamePath : Trouble
  UnderAnother : Trouble
  InvalidShape : Trouble

-- The order in which this is checked.
abbrev pub table : List Trouble
table = LongLine ∷ NoLineEnd ∷ UnknownLine ∷ InvalidPath ∷ LargeFile ∷ NoRoom ∷ CutFile ∷ NoFileEnd ∷ SamePath ∷ UnderAnother ∷ InvalidShape ∷ []

-- The fault as which it is reported.
abbrev pub reported_as : Trouble → InventoryFault
reported_as LongLine = faults.BadLine
reported_as NoLineEnd = faults.Truncated
reported_as UnknownLine = faults.BadLine
reported_as InvalidPath = faults.BadPath
reported_as LargeFile = faults.TooLarge
reported_as NoRoom = faults.TooMany
reported_as CutFile = faults.Truncated
reported_as NoFileEnd = faults.BadLine
reported_as SamePath = faults.Duplicate
reported_as UnderAnother = faults.UnderEntry
reported_as InvalidShape = faults.BadShape

-- The parts of a line, valid or not.
pub data Form : Type 0 where
  EndForm : Form
  FileForm : (size : ℕ) (path : List ℕ) → Form
  LinkForm : (path target : List ℕ) → Form

abbrev pub file_form : Option ℕ → (path : List ℕ) → Option Form
file_form None path = None
file_form (Some size) path = Some (FileForm size path)

abbrev pub form_by : (file link : Option (List ℕ × List ℕ)) → Option Form
form_by (Some file) link = file_form (length_of file.0) file.1
form_by None (Some link) = Some (LinkForm link.0 link.1)
form_by None None = None

abbrev pub form_of : List ℕ → Option Form
form_of line = if bytes_eq line (codes "end") then Some EndForm else form_by (fields_of (code "F") line) (fields_of (code "L") line)

-- the path or the target is invalid
abbrev pub has_invalid_path : Form → Bool
has_invalid_path EndForm = false
has_invalid_path (FileForm size path) = not (is_path path)
has_invalid_path (LinkForm path target) = not (is_path path && is_target target)

abbrev pub is_too_large : Form → Bool
is_too_large EndForm = false
is_too_large (FileForm size path) = nat_lt 1048576 size
is_too_large (LinkForm path target) = false

-- whether the line begins an entry whose path passes a test
abbrev pub has_path : (List ℕ → Bool) → Form → Bool
has_path test EndForm = false
has_path test (FileForm size path) = test path
has_path test (LinkForm path target) = test path

-- after the line there are too few bytes for the file and its line end
abbrev pub is_cut : (rest : List ℕ) → Form → Bool
is_cut rest EndForm = false
is_cut rest (FileForm size path) = nat_le (length rest) size
is_cut rest (LinkForm path target) = false

abbrev pub begins_otherwise : List ℕ → Bool
begins_otherwise [] = false
begins_otherwise (b ∷ bytes) = not (b == code "\n")

-- the byte after those of the file is no line end
abbrev pub lacks_end : (rest : List ℕ) → Form → Bool
lacks_end rest EndForm = false
lacks_end rest (FileForm size path) = begins_otherwise (drop size rest)
lacks_end rest (LinkForm path target) = false

-- whether this is wrong with a line and the entry that it begins: with or without room for an entry,
-- next to the entries before it, and with these bytes after the line
abbrev pub is_wrong : (room : Bool) → Entries → Form → (rest : List ℕ) → Trouble → Bool
is_wrong room m form rest LongLine = false
is_wrong room m form rest NoLineEnd = false
is_wrong room m form rest UnknownLine = false
is_wrong room m form rest InvalidPath = has_invalid_path form
is_wrong room m form rest LargeFile = is_too_large form
is_wrong room m form rest NoRoom = has_path (λ path. not room) form
is_wrong room m form rest CutFile = is_cut rest form
is_wrong room m form rest NoFileEnd = lacks_end rest form
is_wrong room m form rest SamePath = has_path (λ path. is_some (map.get m path)) form
is_wrong room m form rest UnderAnother = has_path (is_crowded m) form
is_wrong room m form rest InvalidShape = has_path is_bad_shape form

abbrev pub is_unknown_line : Trouble → Bool
is_unknown_line UnknownLine = true
is_unknown_line other = false

abbrev pub is_long_line : Trouble → Bool
is_long_line LongLine = true
is_long_line other = false

abbrev pub is_no_line_end : Trouble → Bool
is_no_line_end NoLineEnd = true
is_no_line_end other = false

abbrev pub is_wrong_by : (room : Bool) → Entries → Option Form → (rest : List ℕ) → Trouble → Bool
is_wrong_by room m None rest trouble = is_unknown_line trouble
is_wrong_by room m (Some form) rest trouble = is_wrong room m form rest trouble

-- whether this is wrong with the entry at the front of the bytes
abbrev pub applies_by : (room : Bool) → Entries → Front → Trouble → Bool
applies_by room m Long trouble = is_long_line trouble
applies_by room m (Last line) trouble = is_no_line_end trouble
applies_by room m (Whole line rest) trouble = is_wrong_by room m (form_of line) rest trouble

abbrev pub applies : (room : Bool) → Entries → List ℕ → Trouble → Bool
applies room m bytes trouble = applies_by room m (front_line 16384 bytes) trouble

-- This is wrong, and nothing before it in the table is.
pub record IsFirst (wrong : Trouble → Bool) (trouble : Trouble) : Type 0 where
  pub wrong_is : wrong trouble ≡ true
  pub before : List Trouble
  pub after : List Trouble
  pub place : table ≡ before ++ trouble ∷ after
  pub none : All (λ earlier. wrong earlier ≡ false) before

-- The first fault of an inventory, with the number of its entry: the header is missing; or the header
-- and the lines of some entries, which form a tree, come before an entry, and this is the first in
-- the table that is wrong with it.
pub data IsFirstFault (bytes : List ℕ) : InventoryFault → ℕ → Type 0 where
  InHeader : ((rest : List ℕ) → bytes ≢ header ++ rest) → IsFirstFault bytes faults.BadHeader 0
  InEntry : (entries : List (List ℕ × Entry)) (left : List ℕ) (trouble : Trouble) → bytes ≡ header ++ (flat_map entry_line entries ++ left) → AreDistinct entries → IsTree (map.from_entries entries)
      → length entries ≤ 65536 → IsFirst (applies (nat_lt (length entries) 65536) (map.from_entries entries) left) trouble → IsFirstFault bytes (reported_as trouble) (length entries + 1)

-- A fault is reported exactly if it is the first.
abbrev pub FirstFaultIsReported : Type 0
FirstFaultIsReported = (bytes : List ℕ) (fault : InventoryFault) (number : ℕ) → (inventory_of bytes ≡ Err (fault, number)) ↔ IsFirstFault bytes fault number
