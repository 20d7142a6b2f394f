use Rattle.std.proofs.Common.{◌≡◌, drop}
use Rattle.sessions.specs.Desks.{first_amiss}
use Rattle.sessions.proofs.checking.settle.Given as goal

-- the answers so far were accepted
abbrev pub invariant-loop-answer : goal.invariant-loop-answer
invariant-loop-answer l = first_amiss l.desk.issued (drop l.answer-index l.fn.answers) ≡ first_amiss l.fn.desk.issued l.fn.answers
