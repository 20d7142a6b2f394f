use Rattle.std.proofs.Common.{◌≡◌, ◌++◌, ℕ, List, drop}
use Rattle.name_lists.specs.Lists.{listed}
use Rattle.link_tree.specs.Pieces.{joined}
use Rattle.link_tree.specs.Belonging.{paths_of}
use Rattle.link_tree.proofs.names.list_pieces.Given as goal

-- what is listed so far, and what remains
abbrev pub invariant-loop-piece : goal.invariant-loop-piece
invariant-loop-piece l = (text : List ℕ) → listed l.lists text ++ paths_of l.scope text (joined (drop l.piece-index l.pieces)) ≡ listed l.fn.lists text ++ paths_of l.scope text (joined l.pieces)
