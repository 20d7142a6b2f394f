use Rattle.std.proofs.Common.{◌≡◌, ◌++◌, drop}
use Rattle.std.specs.List.{flat_map}
use Rattle.unit_lists.specs.Tables.{row}
use Rattle.unit_lists.proofs.table.push_rows.Given as goal

-- the text so far, and that of what is left
abbrev pub invariant-loop-line : goal.invariant-loop-line
invariant-loop-line l = l.out.items ++ flat_map (row l.widths) (drop l.line-index l.lines) ≡ l.fn.out.items ++ flat_map (row l.widths) l.lines
