use Rattle.std.proofs.Common.{◌+◌, ◌∙◌, ap, sym, subst, Ok}
use Rattle.byte_streams.specs.Reads.{IsFaultOf}
use Rattle.kept_runs.specs.Lines.{call_of, calls_onto}
use Rattle.kept_runs.proofs.Adding.{line_adds, line_stops, adds_none, adds_line}
use Rattle.kept_runs.proofs.lines.ReadLines.read_line.Goals as goal

pub returns-in-Ok-None-clause-calls : goal.returns-in-Ok-None-clause-calls
returns-in-Ok-None-clause-calls c =
    λ more. line_adds c.args.self.now.calls.items c.args.number c.args.line.now _ (c.in-Ok-None.ensures ∙ ap (λ call. Ok call) c.in-Ok-None.field-0-is) more

pub returns-in_ok-push-in-Ok-Some-clause-calls : goal.returns-in_ok-push-in-Ok-Some-clause-calls
returns-in_ok-push-in-Ok-Some-clause-calls c =
    λ more. line_adds c.args.self.now.calls.items c.args.number c.args.line.now _ (c.in-Ok-Some.ensures ∙ ap (λ call. Ok call) c.in-Ok-Some.field-0-is) more
    ∙ ap (λ calls. calls_onto calls (c.args.number + 1) more) (sym c.in_ok-push-in-Ok-Some.ensures.calls)

pub returns-in-Err-Fault-clause-fault : goal.returns-in-Err-Fault-clause-fault
returns-in-Err-Fault-clause-fault c =
    λ more. line_stops c.args.self.now.calls.items c.args.number c.args.line.now _ (subst (λ e. IsFaultOf e (call_of c.args.line.now)) c.in-Err-Fault.field-0-is c.in-Err-Fault.ensures) more

pub returns-in-Ok-None-clause-text : goal.returns-in-Ok-None-clause-text
returns-in-Ok-None-clause-text c = adds_none c.args.self.now.text.items c.args.line.now (c.in-Ok-None.ensures ∙ ap (λ call. Ok call) c.in-Ok-None.field-0-is)

pub returns-in_ok-push-in-Ok-Some-clause-text : goal.returns-in_ok-push-in-Ok-Some-clause-text
returns-in_ok-push-in-Ok-Some-clause-text c =
    adds_line c.args.self.now.text.items _ c.args.line.now _ (c.in-Ok-Some.ensures ∙ ap (λ call. Ok call) c.in-Ok-Some.field-0-is) c.in_ok-push-in-Ok-Some.ensures.text
