use Rattle.std.proofs.Common.{◌≡◌, ◌++◌, map}
use Rattle.footprint.proofs.net.NetChanges.into_changes.Given as goal

abbrev pub invariant-loop-path : goal.invariant-loop-path
invariant-loop-path l = l.changes ++ map (λ e. e.1) l._path-iterator ≡ map (λ e. e.1) l.initial._path-iterator
