use Rattle.std.proofs.Common.{◌≡◌, ◌++◌}
use Rattle.std.specs.List.{filter}
use Rattle.unit_lists.specs.Selecting.{has_state}
use Rattle.unit_lists.proofs.selection.selected_lines.Given as goal

-- those so far, and those of the lines that are left
abbrev pub invariant-loop-line : goal.invariant-loop-line
invariant-loop-line l = l.these.items ++ filter (has_state l.states) l.line-iterator.rest.items ≡ filter (has_state l.states) l.fn.lines.items
