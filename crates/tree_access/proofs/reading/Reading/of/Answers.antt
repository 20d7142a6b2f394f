use Rattle.std.proofs.Common.{All, sym, subst}
use Rattle.std.specs.FinMap as map
use Rattle.tree_access.specs.Order.{KeySet}
use Rattle.tree_access.specs.Seeing.{SeesTheSame}
use Rattle.tree_access.proofs.KeySets.{All-in_set}
use Rattle.tree_access.proofs.reading.Reading.of.Goals as goal

pub read-requires : goal.read-requires
read-requires c =
    let Sees = SeesTheSame c.in_ok-gathered.gathered c.args.tree.now in
    subst (λ (these : KeySet). All Sees (map.keys these)) (sym c.in_ok-of.ensures) (All-in_set Sees c.args.keys c.in_ok-gathered.ensures)
