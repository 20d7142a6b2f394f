-- The names of all unit files of a tree: systemctl(1), "list-unit-files".
use Rattle.std.specs.Prelude.{ℕ, Bool, false, not, ◌&&◌, ◌==◌, if◌then◌else◌, List, [], ◌∷◌, Option, None, filter_map}
use Rattle.std.specs.Option.{option_map}
use Rattle.std.specs.FinMap as map
use Rattle.unit_paths.specs.Kinds.{is_unit_slot}
use Rattle.unit_paths.specs.Paths.{name_at}
use Rattle.unit_paths.specs.Slots.{slot_of}
use Rattle.link_tree.specs.Trees.{Entries}
use Rattle.load_path.specs.RealNames.{named}
use Rattle.states.specs.Dependencies.{set_of}
use Rattle.unit_lists.specs.Order.{order_text, last_name}
use Prim.Native.Char.{code}

-- a file whose name begins with a dot is hidden in its directory
unfoldable pub is_hidden : (name : List ℕ) → Bool
is_hidden [] = false
is_hidden (b ∷ bs) = b == code "."

-- the name that an entry at a path is listed with: that of the slot of a unit, in one of the four
-- directories
unfoldable pub listed_name : (path : List ℕ) → Option (List ℕ)
listed_name path = if is_unit_slot (slot_of path) && not (is_hidden (name_at path)) then named (name_at path) else None

-- what that name is listed by
abbrev pub text_at : (path : List ℕ) → Option (List ℕ)
text_at path = option_map order_text (listed_name path)

-- what the names of all entries of a tree are listed by
abbrev pub order_texts : Entries → List (List ℕ)
order_texts t = filter_map (λ e. text_at e.0) (map.entries t)

-- the names with which texts end
abbrev pub names_of : (texts : List (List ℕ)) → List (List ℕ)
names_of texts = filter_map (λ text. named (last_name text)) texts

-- The names of all unit files, each once, in the byte order of what they are listed by.
unfoldable pub unit_files : Entries → List (List ℕ)
unit_files t = names_of (map.keys (set_of (order_texts t)))
