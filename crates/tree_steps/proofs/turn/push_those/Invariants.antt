use Rattle.std.proofs.Common.{◌≡◌, ◌++◌, drop}
use Rattle.tree_steps.specs.Steps.{those}
use Rattle.tree_steps.proofs.turn.push_those.Given as goal

abbrev pub invariant-loop-change : goal.invariant-loop-change
invariant-loop-change l = l.steps.items ++ those l.turn (drop l.change-index l.changes) ≡ l.fn.steps.items ++ those l.turn l.changes
