use Rattle.std.specs.FinMap as map
use Rattle.footprint.proofs.Alike.{AreAlikeSoFar}
use Rattle.footprint.proofs.same.are_alike.Given as goal

-- the notices before this one are equal
abbrev pub invariant-loop-notice : goal.invariant-loop-notice
invariant-loop-notice l = AreAlikeSoFar l.notice-iterator l.others (map.values l.one) (map.values l.other)
