use Rattle.std.proofs.Common.{refl}
use Rattle.link_tree.proofs.Stops.{returned}
use Rattle.sessions.specs.Faults.{of_worker, IsUnclosed}
use Rattle.sessions.proofs.Reasons.{told_of_worker, unclosed}
use Rattle.sessions.proofs.Workers.{has_run_of, in_order_back}
use Rattle.sessions.proofs.run.serve_and_close.Goals as goal

pub returns-in_err-logs-clause-why : goal.returns-in_err-logs-clause-why
returns-in_err-logs-clause-why g c =
    let fault = c.in_err-logs.field-0.0 in
    (told_of_worker c.args.admin.operators (IsUnclosed g.O.Operation.asks g.O.Operation.meaning c.args.admin.first c.args.admin.operators) c.from_residual.result fault c.requires.share
    (returned c.from_residual.result (of_worker fault) c.from_residual.ensures)).0

pub returns-in_err-logs-clause-unclosed : goal.returns-in_err-logs-clause-unclosed
returns-in_err-logs-clause-unclosed g c =
    let fault = c.in_err-logs.field-0.0 in
    (told_of_worker c.args.admin.operators (IsUnclosed g.O.Operation.asks g.O.Operation.meaning c.args.admin.first c.args.admin.operators) c.from_residual.result fault c.requires.share
    (returned c.from_residual.result (of_worker fault) c.from_residual.ensures)).1

pub returns-in-Ok-clause-ran : goal.returns-in-Ok-clause-ran
returns-in-Ok-clause-ran g c =
    has_run_of c.args.admin c.args.admin.first c.args.admin.operators c.args.works c.in-Ok.run'.0 c.in_ok-logs.logs c.in-Ok.run'.1 refl c.requires.operators c.requires.share.1 c.in_ok-logs.ensures c.in-Ok.ensures.logs c.in-Ok.ensures.closed

pub returns-in-Ok-clause-order : goal.returns-in-Ok-clause-order
returns-in-Ok-clause-order g c = in_order_back c.args.works c.in_ok-logs.logs c.in-Ok.run'.1 c.in_ok-logs.ensures c.in-Ok.ensures.logs

pub returns-in-Err-clause-unclosed : goal.returns-in-Err-clause-unclosed
returns-in-Err-clause-unclosed g c =
    unclosed g.O.Operation.asks g.O.Operation.meaning c.args.admin c.args.admin.first c.args.admin.operators c.in_ok-logs.logs c.in-Err.left refl c.in-Err.ensures.logs_back c.in-Err.ensures.fault c.in-Err.ensures.not_closed c.in-Err.ensures.still_legal
