use Rattle.std.proofs.Common.{◌≡◌, All}
use Rattle.std.specs.Vec.Iter.{into_iter_items}
use Rattle.link_tree.specs.Pending.{IsAtSlot}
use Rattle.link_tree.proofs.Flushing.{inserted}
use Rattle.link_tree.proofs.pending.insert_all.Given as goal

-- the remaining entries give the same result as all of them, and are at slots
abbrev pub invariant-loop-path : goal.invariant-loop-path
invariant-loop-path l = record {
  leads : inserted l.taken l.tree (into_iter_items l.path-iterator) ≡ inserted l.initial.taken l.initial.tree (into_iter_items l.initial.path-iterator);
  at_slots : All IsAtSlot (into_iter_items l.path-iterator);
}
