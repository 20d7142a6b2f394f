use Rattle.std.proofs.Common.{rules, of_calls}
use Rattle.std.proofs.lemmas.Fn.{always_returns_same}
use Rattle.link_tree.specs.Pieces.{ends_before}
use Rattle.link_tree.proofs.Spots.{holds}
use Rattle.link_tree.proofs.Ends.{pieces_parted}
use Rattle.link_tree.proofs.pieces.spot_of.Goals as goal

pub spot_in-requires-clause-first : goal.spot_in-requires-clause-first
spot_in-requires-clause-first c = (
  c.partition_point-piece.ensures.bound,
  c.partition_point-piece.ensures.partitioned (ends_before c.args.path.now) (always_returns_same _ _ _ (λ a r f called. search (rules, of_calls))) (pieces_parted c.args.path.now c.args.pieces.now (holds c.requires.0) c.requires.1),
)
