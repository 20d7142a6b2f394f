use Rattle.std.proofs.Common.{◌≡◌, ◌∙◌, ap, Err}
use Rattle.link_tree.specs.declared.writing.WriteError.{WriteError}
use Rattle.link_tree.specs.declared.writing.WriteError.TheVariants as writes
use Rattle.link_tree.proofs.Stops.{returned}
use Rattle.unit_script.specs.Runs.{input_of}
use Rattle.session_script.proofs.Told.{unsent, sent_before}
use Rattle.session_script.proofs.serving.run_with_sessions.Goals as goal

pub returns-in_err-history-clause-fault : goal.returns-in_err-history-clause-fault
returns-in_err-history-clause-fault g c =
    rw (returned _ _ c.from_residual.ensures) (λ input is. unsent c.in_err-history.field-0.0 (g.K.Sink.written c.args.sink.now) (g.K.Sink.written c.args.sink.now) (input_of input) (c.in_err-history.ensures.fault input is))

pub returns-in-Ok-clause-ok : goal.returns-in-Ok-clause-ok
returns-in-Ok-clause-ok g c input is = (c.in_ok-history.history, c.in_ok-history.ensures.served input is, c.in-Ok.ensures.ok)

pub returns-in-Err-Fault-clause-fault : goal.returns-in-Err-Fault-clause-fault
returns-in-Err-Fault-clause-fault g c input is =
    let told : c.in-Err-Fault.field-0 ≡ writes.Fault c.in-Err-Fault.sent = rw c.in-Err-Fault.is at c.in-Err-Fault.field-0-is in
    let failed : c.write_history-written.result ≡ Err c.in-Err-Fault.field-0 = c.in-Err-Fault.is in
    let sent = sent_before c.write_history-written.result c.in-Err-Fault.sent _ _ _ (failed ∙ ap (λ (e : WriteError). Err e) told) c.write_history-written.ensures.fault in
    (c.in_ok-history.history, c.in_ok-history.ensures.served input is, sent)
