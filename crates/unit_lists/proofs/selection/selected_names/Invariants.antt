use Rattle.std.proofs.Common.{◌≡◌, ◌++◌, drop}
use Rattle.std.specs.List.{filter}
use Rattle.unit_lists.specs.Selecting.{is_selected}
use Rattle.unit_lists.proofs.selection.selected_names.Given as goal

-- those so far, and those of the names that are left
abbrev pub invariant-loop-name : goal.invariant-loop-name
invariant-loop-name l = l.these ++ filter (is_selected l.patterns l.types) (drop l.name-index l.names) ≡ filter (is_selected l.patterns l.types) l.names
