use Rattle.std.proofs.Common.{◌≡◌, ◌++◌, drop}
use Rattle.root_runs.specs.Names.{part_text}
use Rattle.root_runs.proofs.names.push_part.Given as goal

-- the text so far, and that of what is left
abbrev pub invariant-loop-b : goal.invariant-loop-b
invariant-loop-b l = l.out.items ++ part_text (drop l.b-index l.part) ≡ l.fn.out.items ++ part_text l.part
