use Rattle.unit_file.specs.Notices.{joined}
use Rattle.unit_file.proofs.NoticeMaps.{AreToBeAdded}
use Rattle.unit_file.proofs.notices.Notices.insert_all.Given as goal

abbrev pub invariant-loop-line : goal.invariant-loop-line
invariant-loop-line l = AreToBeAdded l.line-iterator l.self (joined l.fn.self l.others)
