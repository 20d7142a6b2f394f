use Rattle.std.proofs.Common.{◌≡◌, drop}
use Rattle.footprint.specs.Net.{noted}
use Rattle.footprint.proofs.net.NetChanges.note_all.Given as goal

abbrev pub invariant-loop-change : goal.invariant-loop-change
invariant-loop-change l = noted l.self l.tree (drop l.change-index l.changes) ≡ noted l.fn.self l.tree l.changes
