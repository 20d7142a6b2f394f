use Rattle.std.proofs.Common.{◌≡◌, ◌++◌, drop}
use Rattle.std.specs.List.{flat_map}
use Rattle.root_runs.specs.Messages.{line_of}
use Rattle.root_runs.proofs.answers.push_names.Given as goal

-- what is there so far, and what is left
abbrev pub invariant-loop-name : goal.invariant-loop-name
invariant-loop-name l = l.out.items ++ flat_map line_of (drop l.name-index l.names) ≡ l.fn.out.items ++ flat_map line_of l.names
