use Rattle.std.proofs.Common.{◌≡◌, ◌++◌, drop}
use Rattle.kept_log.specs.Tables.{front}
use Rattle.kept_log.proofs.table.push_front.Given as goal

-- the text so far, and the first characters of what is left
abbrev pub invariant-loop-b : goal.invariant-loop-b
invariant-loop-b l = l.out.items ++ front l.left (drop l.b-index l.text) ≡ l.initial.out.items ++ front l.initial.left l.text
