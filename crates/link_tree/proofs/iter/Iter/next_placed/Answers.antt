use Rattle.std.proofs.Common.{◌<◌, List, length}
use Rattle.std.specs.Slice.Iter.{iter_rest}
use Rattle.std.proofs.lemmas.List.Elements.{All-rest}
use Rattle.link_tree.specs.Pieces.{Item}
use Rattle.link_tree.proofs.iter.Iter.next_placed.Goals as goal

pub invariant_of-self-2 : goal.invariant_of-self-2
invariant_of-self-2 c = All-rest (λ (piece : List Item). 0 < length piece) c.in_ok-piece.piece.now (iter_rest c.next-2.new.self) (iter_rest c.self.inside.pieces) c.in_ok-piece.ensures.steps c.self.invariant
