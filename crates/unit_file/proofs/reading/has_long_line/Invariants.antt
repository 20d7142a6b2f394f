use Rattle.std.proofs.Common.{◌≡◌, ◌≤◌}
use Rattle.std.specs.List.{list_any}
use Rattle.unit_file.specs.Lines.{joined, joined_lines}
use Rattle.unit_file.specs.Reading.{is_too_long}
use Rattle.unit_file.proofs.Joining.{kept, is_long_after}
use Rattle.unit_file.proofs.reading.has_long_line.Given as goal

-- the lines left, after the bytes that are carried, decide the result
abbrev pub invariant-loop-line : goal.invariant-loop-line
invariant-loop-line l = (l.carried ≤ 1048576) × (is_long_after l.carried (joined (kept l.line-iterator)) ≡ list_any is_too_long (joined_lines l.fn.bytes))
