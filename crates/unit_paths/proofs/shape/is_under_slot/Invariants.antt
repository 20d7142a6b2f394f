use Rattle.std.proofs.Common.{◌≡◌, [], take, drop}
use Rattle.unit_paths.specs.Shape.{is_under_slot}
use Rattle.unit_paths.proofs.shape.is_under_slot.Given as goal

-- no slot was found so far: the rest of the path decides
abbrev pub invariant-loop-i : goal.invariant-loop-i
invariant-loop-i l = is_under_slot (take l.i l.path) (drop l.i l.path) ≡ is_under_slot [] l.path
