use Rattle.std.proofs.Common.{◌≡◌, ◌++◌, drop}
use Rattle.std.specs.List.{flat_map}
use Rattle.root_runs.specs.Messages.{answer_lines}
use Rattle.root_runs.proofs.answers.push_each_answer.Given as goal

-- what is there so far, and what is left
abbrev pub invariant-loop-row : goal.invariant-loop-row
invariant-loop-row l = l.out.items ++ flat_map (λ row. answer_lines row.reply) (drop l.row-index l.rows) ≡ l.fn.out.items ++ flat_map (λ row. answer_lines row.reply) l.rows
