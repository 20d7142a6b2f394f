use Rattle.std.proofs.Common.{◌≡◌, ◌++◌, drop}
use Rattle.tree_access.proofs.Gathered.{walkers_of}
use Rattle.tree_access.proofs.keys.Keys.walkers.Given as goal

abbrev pub invariant-loop-key : goal.invariant-loop-key
invariant-loop-key l = l.walkers ++ walkers_of (drop l.key-index l.key-items) ≡ walkers_of l.key-items
