use Rattle.std.proofs.Common.{◌≡◌, drop}
use Rattle.kept_log.specs.Tables.{number_width}
use Rattle.kept_log.proofs.table.number_width.Given as goal

-- the width so far, with the lines that are left
abbrev pub invariant-loop-line : goal.invariant-loop-line
invariant-loop-line l = number_width l.wide (drop l.line-index l.lines) ≡ number_width l.initial.wide l.lines
