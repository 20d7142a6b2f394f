use Rattle.std.proofs.Common.{◌+◌, [], drop, map as list_map, subst}
use Rattle.kept_runs.specs.Lines.{calls_onto, IsLineError}
use Rattle.kept_runs.proofs.Adding.{next_line, line_read, all_read, one_more_line, text_of_all}
use Rattle.kept_runs.proofs.lines.read_pieces.Goals as goal

pub loop-before-preserved : goal.loop-before-preserved
loop-before-preserved c = (
  line_read (λ piece. piece.now) c.args.pieces.now (calls_onto [] 1 (list_map (λ piece. piece.now) c.args.pieces.now)) c.loop-before.before (record { ref_ptr = (0, 0); now = [] })
      c.loop-before.read.calls.items c.loop-before-test.true c.loop-before.invariant.0 _ c.in-Ok.ensures.calls,
  one_more_line (λ piece. piece.now) c.args.pieces.now c.loop-before.before (record { ref_ptr = (0, 0); now = [] })
      c.loop-before.read.text.items _ c.loop-before-test.true c.loop-before.invariant.1 c.in-Ok.ensures.text,
)

pub returns-in-Err-clause-fault : goal.returns-in-Err-clause-fault
returns-in-Err-clause-fault c =
    subst (λ all. IsLineError c.in-Err.error all)
    (next_line (λ piece. piece.now) c.args.pieces.now (calls_onto [] 1 (list_map (λ piece. piece.now) c.args.pieces.now)) c.loop-before.before (record { ref_ptr = (0, 0); now = [] })
    c.loop-before.read.calls.items c.loop-before-test.true c.loop-before.invariant.0)
    (c.in-Err.ensures.fault (list_map (λ piece. piece.now) (drop (c.loop-before.before + 1) c.args.pieces.now)))

pub returns-clause-calls : goal.returns-clause-calls
returns-clause-calls c =
    all_read (λ piece. piece.now) c.args.pieces.now (calls_onto [] 1 (list_map (λ piece. piece.now) c.args.pieces.now)) c.loop-before.before c.loop-before.read.calls.items c.loop-before-test.false c.loop-before.invariant.0

pub returns-clause-text : goal.returns-clause-text
returns-clause-text c =
    text_of_all (λ piece. piece.now) c.args.pieces.now c.loop-before.before c.loop-before.read.text.items c.loop-before-test.false c.loop-before.invariant.1
