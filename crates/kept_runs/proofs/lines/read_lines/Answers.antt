use Rattle.std.proofs.Common.{map as list_map, ap, ◌∙◌}
use Rattle.kept_runs.proofs.Accepted.{accepted_if_read}
use Rattle.kept_runs.proofs.lines.read_lines.Goals as goal

pub returns-clause-accepted : goal.returns-clause-accepted
returns-clause-accepted c =
    accepted_if_read c.read_pieces.result (λ read. read.text.items) _ c.args.lines.now c.read_pieces.ensures.text (ap (list_map (λ piece. piece.now)) c.deref.ensures.value ∙ c.in_ok-pieces.ensures)
