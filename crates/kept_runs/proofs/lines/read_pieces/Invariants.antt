use Rattle.std.proofs.Common.{[], map as list_map}
use Rattle.kept_runs.specs.Lines.{calls_onto}
use Rattle.kept_runs.proofs.Adding.{LeadsToAll, IsTextOf}
use Rattle.kept_runs.proofs.lines.read_pieces.Given as goal

-- what is left leads to the calls of all, and the text is that of the lines so far
abbrev pub invariant-loop-before : goal.invariant-loop-before
invariant-loop-before l =
    LeadsToAll (λ piece. piece.now) l.pieces (calls_onto [] 1 (list_map (λ piece. piece.now) l.pieces)) l.before l.read.calls.items
    × IsTextOf (λ piece. piece.now) l.pieces l.before l.read.text.items
