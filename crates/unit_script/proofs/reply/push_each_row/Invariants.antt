use Rattle.std.proofs.Common.{◌≡◌, ◌++◌, ◌+◌, drop}
use Rattle.unit_script.specs.Texts.{rows_text}
use Rattle.unit_script.proofs.reply.push_each_row.Given as goal

-- the text so far, and that of the rest
abbrev pub invariant-loop-row : goal.invariant-loop-row
invariant-loop-row l = (l.number ≡ 1 + l.row-index) × (l.out.items ++ rows_text l.rows l.number (drop l.row-index l.rows) ≡ l.fn.out.items ++ rows_text l.rows 1 l.rows)
