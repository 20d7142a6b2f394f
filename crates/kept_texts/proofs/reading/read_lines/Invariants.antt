use Rattle.std.proofs.Common.{◌≡◌, ◌+◌, drop, map}
use Rattle.kept_texts.specs.Readings.{read_lines}
use Rattle.kept_texts.proofs.reading.read_lines.Given as goal

-- the lines that are left decide
abbrev pub invariant-loop-line : goal.invariant-loop-line
invariant-loop-line l =
    (l.number ≡ l.fn.first + l.line-index)
    × (read_lines l.reading l.number (map (λ line. line.now) (drop l.line-index l.lines))
    ≡ read_lines l.fn.reading l.fn.first (map (λ line. line.now) l.fn.lines))
