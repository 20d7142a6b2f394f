use Rattle.std.proofs.Common.{◌≡◌, ◌++◌, drop}
use Rattle.std.specs.List.{flat_map}
use Rattle.root_runs.specs.Messages.{row_messages}
use Rattle.root_runs.proofs.messages.push_each_row.Given as goal

-- what is there so far, and what is left
abbrev pub invariant-loop-row : goal.invariant-loop-row
invariant-loop-row l = l.out.items ++ flat_map row_messages (drop l.row-index l.rows) ≡ l.fn.out.items ++ flat_map row_messages l.rows
