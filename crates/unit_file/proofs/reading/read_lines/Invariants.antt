use Rattle.std.proofs.Common.{◌≡◌, false}
use Rattle.unit_file.specs.Lines.{onto_next, joined, joined_lines}
use Rattle.unit_file.specs.Steps.{nothing}
use Rattle.unit_file.proofs.Joining.{kept}
use Rattle.unit_file.proofs.Folding.{read_from}
use Rattle.unit_file.proofs.reading.read_lines.Given as goal

-- the lines left, after the text that is carried, change what was read into what all lines ask for
abbrev pub invariant-loop-line : goal.invariant-loop-line
invariant-loop-line l = read_from l.inside l.text (onto_next l.carried.items (joined (kept l.line-iterator))) ≡ read_from false nothing (joined_lines l.fn.bytes)
