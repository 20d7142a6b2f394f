use Rattle.std.proofs.Common.{List, IfOk, subst}
use Rattle.history.specs.declared.row.Request.{Request}
use Rattle.sessions.specs.declared.run.Serves.{Serves}
use Rattle.sessions.specs.Runs.{IsWorkOf}
use Rattle.sessions.proofs.Workers.{gathered_are}
use Rattle.sessions.proofs.run.+serve_each.Goals as goal

pub returns : goal.returns
returns g t c =
    let kept = subst (λ (requests : List (Request g.row.O.Denot)). IfOk c.join-last.result (λ log. IsWorkOf c.in-Some.work.operator requests log)) c.of.ensures
    (subst (λ (promise : Serves g.row.O.Denot). IfOk c.join-last.result (λ log. IsWorkOf promise.operator promise.requests.value log)) c.in-Ok.ensures.ok c.join-last.ensures) in
    gathered_are c.pop.new.self c.args.works c.in-Some.work c.serve_each-before.result c.join-last.result c.in_ok-logs.logs c.in_ok-logs.log c.push.new.self c.in-Some.ensures.some c.in_ok-logs.ensures.ok.0 c.in_ok-logs.ensures.ok.1 c.serve_each-before.ensures kept c.in_ok-push.ensures.ok
