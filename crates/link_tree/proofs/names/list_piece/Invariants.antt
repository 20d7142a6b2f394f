use Rattle.std.proofs.Common.{◌≡◌, ◌++◌, ℕ, List, drop}
use Rattle.name_lists.specs.Lists.{listed}
use Rattle.link_tree.specs.Belonging.{paths_of}
use Rattle.link_tree.proofs.names.list_piece.Given as goal

-- what is listed so far, and what remains
abbrev pub invariant-loop-item : goal.invariant-loop-item
invariant-loop-item l = (text : List ℕ) → listed l.lists text ++ paths_of l.scope text (drop l.item-index l.items) ≡ listed l.fn.lists text ++ paths_of l.scope text l.items
