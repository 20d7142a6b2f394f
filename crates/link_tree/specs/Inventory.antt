-- Reading an inventory: a function of the bytes, with the first fault in reading order.
use Rattle.std.specs.Prelude.{ℕ, ◌+◌, Bool, true, false, ◌==◌, nat_lt, if◌then◌else◌, List, [], ◌∷◌, length, take, drop, Option, Some, None, is_some, Result, Ok, Err, codes, zero, suc}
use Rattle.std.specs.Option.{option_map_or}
use Rattle.std.specs.FinMap as map
use Rattle.byte_streams.specs.Lines.{front_line, Front, Whole, Last, Long}
use Rattle.link_tree.specs.EntryLines.{line_of}
use Rattle.link_tree.specs.Trees.{Entries}
use Rattle.link_tree.specs.declared.entry.Entry.{Entry}
use Rattle.link_tree.specs.declared.entry.Entry.TheVariants.{File, Link}
use Rattle.link_tree.specs.declared.entry_line.EntryLine.{EntryLine}
use Rattle.link_tree.specs.declared.entry_line.EntryLine.TheVariants as lines
use Rattle.link_tree.specs.declared.inventory_fault.InventoryFault.{InventoryFault}
use Rattle.link_tree.specs.declared.inventory_fault.InventoryFault.TheVariants.{BadHeader, BadLine, Truncated, Duplicate, UnderEntry, BadShape, TooMany}
use Rattle.unit_paths.specs.Shape.{is_bad_shape}
use Rattle.byte_streams.specs.Blocks.{after_prefix}
use Rattle.link_tree.specs.Shape.{is_crowded}
use Prim.Native.Char.{code}

infixl 10 ◌>>=◌
abbrev pub ◌>>=◌ : {A B E : Type 0} → Result A E → (A → Result B E) → Result B E
(Ok x) >>= f = f x
(Err e) >>= f = Err e

-- one line, and the bytes after it
abbrev pub line_of_front : Front → Result (EntryLine × List ℕ) InventoryFault
line_of_front Long = Err BadLine
line_of_front (Last line) = Err Truncated
line_of_front (Whole line rest) = do
  said ← line_of line
  Ok (said, rest)

-- a line end comes next
abbrev pub ended : List ℕ → List ℕ → Result (List ℕ × List ℕ) InventoryFault
ended contents [] = Err Truncated
ended contents (b ∷ rest) = if b == code "\n" then Ok (contents, rest) else Err BadLine

-- this number of bytes of a file, and the bytes after their line end
unfoldable pub contents_at : ℕ → List ℕ → Result (List ℕ × List ℕ) InventoryFault
contents_at size bytes = if nat_lt (length bytes) size then Err Truncated else ended (take size bytes) (drop size bytes)

-- the entry that a line begins, and the bytes after it
abbrev pub entry_of : EntryLine → List ℕ → Result (Option (List ℕ × Entry) × List ℕ) InventoryFault
entry_of lines.End rest = Ok (None, rest)
entry_of (lines.Link path target) rest = Ok (Some (path, Link target), rest)
entry_of (lines.File path size) rest = do
  found ← contents_at size rest
  Ok (Some (path, File found.0), found.1)

-- only the line `end` is allowed
abbrev pub end_of : EntryLine → List ℕ → Result (Option (List ℕ × Entry) × List ℕ) InventoryFault
end_of lines.End rest = Ok (None, rest)
end_of (lines.Link path target) rest = Err TooMany
end_of (lines.File path size) rest = Err TooMany

-- the next entry, if there is room for one, or the end, and the bytes after it
abbrev pub entry_at : Bool → Front → Result (Option (List ℕ × Entry) × List ℕ) InventoryFault
entry_at room front = do
  found ← line_of_front front
  if room then entry_of found.0 found.1 else end_of found.0 found.1

-- with one more entry
unfoldable pub placed : Entries → List ℕ × Entry → Result Entries InventoryFault
placed m (path, entry) =
    if is_some (map.get m path) then Err Duplicate
    else if is_crowded m path then Err UnderEntry
    else if is_bad_shape path then Err BadShape
    else Ok (map.insert m path entry)

-- a fault in the entry of this number
abbrev pub in_entry : {A : Type 0} → ℕ → Result A InventoryFault → Result A (InventoryFault × ℕ)
in_entry number (Ok x) = Ok x
in_entry number (Err fault) = Err (fault, number)

-- The entries at the front, from the one of this number on, and the bytes after them. At most this
-- many more are allowed.
unfoldable pub entries_at : ℕ → ℕ → Entries → List ℕ → Result (Entries × List ℕ) (InventoryFault × ℕ)
entries_at zero number m bytes = do
  found ← in_entry number (entry_at false (front_line 16384 bytes))
  Ok (m, found.1)
entries_at (suc more) number m bytes = do
  found ← in_entry number (entry_at true (front_line 16384 bytes))
  option_map_or (λ entry. in_entry number (placed m entry) >>= λ grown. entries_at more (number + 1) grown found.1) found.0 (Ok (m, found.1))

-- the first line of every inventory
abbrev pub header : List ℕ
header = codes "unitadm-inventory 1\n"

-- the header, and the bytes after it
abbrev pub header_of : Option (List ℕ) → Result (Unit {0} × List ℕ) InventoryFault
header_of None = Err BadHeader
header_of (Some rest) = Ok (tt, rest)

abbrev pub header_at : List ℕ → Result (Unit {0} × List ℕ) InventoryFault
header_at bytes = header_of (after_prefix header bytes)

-- The tree of an inventory, and the bytes after it, or the first fault with the number of its
-- entry: that of the header is 0.
abbrev pub inventory_of : List ℕ → Result (Entries × List ℕ) (InventoryFault × ℕ)
inventory_of bytes = do
  found ← in_entry 0 (header_at bytes)
  entries_at 65536 1 map.empty found.1
