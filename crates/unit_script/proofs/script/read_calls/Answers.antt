use Rattle.std.proofs.Common.{◌≤◌, rules, arith}
use Rattle.unit_script.proofs.Calls.{limit_ok, limit_err, reached_end, reached_bad, reached_more}
use Rattle.unit_script.proofs.OpenLines.{stops_at_limit, stops_in_line}
use Rattle.unit_script.proofs.script.read_calls.Goals as goal

pub returns-in-Ok-clause-calls : goal.returns-in-Ok-clause-calls
returns-in-Ok-clause-calls g c bytes e = limit_ok _ _ _ _ c.lines.invariant.calls _ c.read_end.ensures.end c.if-number-gt-MAX_LINES.true bytes e _ c.in-Ok.is

pub returns-in-Err-clause-calls : goal.returns-in-Err-clause-calls
returns-in-Err-clause-calls g c bytes e = limit_err _ _ _ _ c.lines.invariant.calls _ c.read_end.ensures.end c.if-number-gt-MAX_LINES.true bytes e _ c.in-Err.is

pub returns-in-Err-read_call-clause-calls : goal.returns-in-Err-read_call-clause-calls
returns-in-Err-read_call-clause-calls g c bytes e =
    let room : c.lines.number ≤ 2000000 = omega arith in
    rw c.in_line.ensures (reached_bad _ _ _ _ _ c.lines.invariant.calls _ c.read_call.ensures.call room bytes e _ c.in-Err-read_call.is)

pub returns-then-not-has_end-clause-calls : goal.returns-then-not-has_end-clause-calls
returns-then-not-has_end-clause-calls g c bytes e =
    let room : c.lines.number ≤ 2000000 = omega arith in
    reached_end _ _ _ _ _ c.lines.invariant.calls _ c.read_call.ensures.call room bytes e _ _ c.in-Ok-read_call.is c.if-not-has_end.true c.in-Ok-add_call.ensures

pub lines-preserved : goal.lines-preserved
lines-preserved g c =
    let room : c.lines.number ≤ 2000000 = omega arith in
    record {
      calm = search rules;
      from_one = omega arith;
      within = omega arith;
      calls = λ bytes e. reached_more _ _ _ _ _ c.lines.invariant.calls _ c.read_call.ensures.call room bytes e _ _ c.in-Ok-read_call.is c.if-not-has_end.false c.in-Ok-add_call.ensures;
    }

pub returns-in-Err-clause-stops : goal.returns-in-Err-clause-stops
returns-in-Err-clause-stops g c = stops_at_limit _ _ _ _ _ c.lines.invariant.calls _ _ c.in-Err.is c.read_end.ensures.stops

pub returns-in-Err-read_call-clause-stops : goal.returns-in-Err-read_call-clause-stops
returns-in-Err-read_call-clause-stops g c =
    let room : c.lines.number ≤ 2000000 = omega arith in
    rw c.in_line.ensures (stops_in_line _ _ _ _ _ c.lines.invariant.calls room _ _ c.in-Err-read_call.is c.read_call.ensures.stops)
