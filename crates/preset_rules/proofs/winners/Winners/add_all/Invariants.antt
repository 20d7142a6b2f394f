use Rattle.std.proofs.Common.{◌≡◌}
use Rattle.preset_rules.proofs.WinnersFound.{added}
use Rattle.preset_rules.proofs.winners.Winners.add_all.Given as goal

-- the remaining entries add what all entries add to the map at the beginning
abbrev pub invariant-loop-path : goal.invariant-loop-path
invariant-loop-path l = added l.place l.self l.path-iterator ≡ added l.place l.fn.self l.initial.path-iterator
