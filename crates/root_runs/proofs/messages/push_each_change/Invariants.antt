use Rattle.std.proofs.Common.{◌≡◌, ◌++◌, drop}
use Rattle.std.specs.List.{flat_map}
use Rattle.root_runs.specs.Messages.{change_lines}
use Rattle.root_runs.proofs.messages.push_each_change.Given as goal

-- what is there so far, and what is left
abbrev pub invariant-loop-change : goal.invariant-loop-change
invariant-loop-change l = l.out.items ++ flat_map (change_lines l.dry_run l.root) (drop l.change-index l.changes) ≡ l.fn.out.items ++ flat_map (change_lines l.dry_run l.root) l.changes
