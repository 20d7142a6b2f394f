use Rattle.std.proofs.Common.{◌≡◌, ◌++◌, drop}
use Rattle.std.specs.List.{flat_map}
use Rattle.kept_log.specs.Tables.{line_text}
use Rattle.kept_log.proofs.table.push_lines.Given as goal

-- the text so far, and that of the lines that are left
abbrev pub invariant-loop-line : goal.invariant-loop-line
invariant-loop-line l = l.out.items ++ flat_map (line_text l.widths) (drop l.line-index l.lines) ≡ l.fn.out.items ++ flat_map (line_text l.widths) l.lines
