-- Changes as JSON.
use Rattle.std.specs.Prelude.{ℕ, List, length, Option, Some, None, codes, map}
use Rattle.link_tree.specs.declared.entry.Entry.{Entry}
use Rattle.link_tree.specs.declared.entry.Entry.TheVariants.{File, Link}
use Rattle.link_tree.specs.declared.change.Change.{Change}
use Rattle.serde_json.specs.Data.{Data, null, array, object, Members, no_members}
use Rattle.serde_json.specs.View.{items_of}
use Rattle.root_json.specs.Objects.{◌with◌being◌, count, text_data}

-- what is at a path: how many bytes a file has, or where a link leads
abbrev pub with_entry : Members → Entry → Members
with_entry ms (File contents) = ms with codes "file" being count (length contents)
with_entry ms (Link target) = ms with codes "link" being text_data target

abbrev pub entry_data : Entry → Data
entry_data entry = object (with_entry no_members entry)

-- an entry, or null if there is none
abbrev pub side_data : Option Entry → Data
side_data None = null
side_data (Some entry) = entry_data entry

-- what was at a path, and what is there now
abbrev pub sides_data : List ℕ → Option Entry → Option Entry → Data
sides_data path before after = object (no_members
    with codes "path" being text_data path
    with codes "before" being side_data before
    with codes "after" being side_data after)

abbrev pub change_data : Change → Data
change_data change = sides_data change.path change.before change.after

-- changes, in their order
abbrev pub changes_data : List Change → Data
changes_data changes = array (items_of (map change_data changes))
