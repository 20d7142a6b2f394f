use Rattle.std.proofs.Common.{All, drop}
use Rattle.tree_access.specs.Seeing.{StandsIn}
use Rattle.tree_access.proofs.seeing.each_stands.Given as goal

-- if the rest is in the other tree, all is
abbrev pub invariant-loop-path : goal.invariant-loop-path
invariant-loop-path l = All (StandsIn l.key l.tree l.other) (drop l.path-index l.paths) → All (StandsIn l.key l.tree l.other) l.paths
