-- What contracts see of a transaction.
use Rattle.std.specs.Prelude.{◌≡◌, List, Option, Some, None}
use Rattle.link_tree.specs.Trees.{Entries}
use Rattle.tree_access.specs.declared.key.Key.{Key}

-- the tree as it was at first, the tree as it is now, and the keys of what was looked at, in order
pub record Transacted : Type 0 where
  pub first : Entries
  pub tree : Entries
  pub keys : List Key

-- the tree as it is now: the first one as long as nothing is edited
abbrev pub tree_of : Entries → Option (Entries × Entries) → Entries
tree_of first None = first
tree_of first (Some edit) = edit.1

-- the edit belongs to this tree
abbrev pub StartsAt : Entries → Option (Entries × Entries) → Type 0
StartsAt first None = Unit {0}
StartsAt first (Some edit) = edit.0 ≡ first
