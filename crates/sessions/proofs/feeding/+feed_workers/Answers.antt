use Rattle.std.proofs.Common.{◌≡◌, ℕ, ◌-◌, ◌<◌, IfOk, arith, get_or, length, refl, subst, vec_len}
use Rattle.sessions.specs.declared.feeding.ServesOperator.{ServesOperator}
use Rattle.sessions.proofs.LogOrders.{in_order_then}
use Rattle.sessions.proofs.feeding.+feed_workers.Goals as goal

pub returns : goal.returns
returns g t c =
    let operators = c.args.operators.now in
    let n = vec_len c.args.feed.to in
    let some : 0 < length operators - n = omega (arith, c.if-left-eq0.false, c.len.ensures) in
    let operator = c.index-operators-left.result in
    let at = subst (λ (k : ℕ). operator ≡ get_or operators (length operators - k - 1) operator) c.len.ensures c.index-operators-left.is in
    let named = subst (λ (promise : ServesOperator). IfOk c.join-served.result (λ served. served.log.operator ≡ promise.operator)) c.in-Ok.ensures.ok c.join-served.ensures in
    in_order_then operators n (vec_len c.in_ok-feed.feed.to) (length operators - n) operator c.feed_workers-fed.result c.join-served.result c.in_ok-fed.fed
    c.in_ok-with_served.field-0 c.in_ok-fed.served refl some at c.in_ok-feed.ensures.1 c.in_ok-fed.ensures.ok.0 c.in_ok-fed.ensures.ok.1 c.feed_workers-fed.ensures named
    c.in_ok-with_served.ensures.logs
