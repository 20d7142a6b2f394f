use Rattle.std.proofs.Common.{◌≡◌, ◌++◌, drop}
use Rattle.std.specs.List.{flat_map}
use Rattle.kept_rows.specs.Others.{calls_of_change}
use Rattle.kept_rows.proofs.others.push_changes.Given as goal

-- the calls so far, and those of the changes that are left
abbrev pub invariant-loop-change : goal.invariant-loop-change
invariant-loop-change l = l.calls.items ++ flat_map calls_of_change (drop l.change-index l.changes) ≡ l.fn.calls.items ++ flat_map calls_of_change l.changes
