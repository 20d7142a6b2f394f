use Rattle.std.proofs.Common.{◌-◌, arith, rules, tests, sym}
use Rattle.unit_name.proofs.Cuts.{last_cut, no_cut, after_last-none}
use Rattle.unit_lists.specs.Order.{is_nul}
use Rattle.unit_lists.proofs.order.last_name.Goals as goal

pub returns-then-text-i-eq0 : goal.returns-then-text-i-eq0
returns-then-text-i-eq0 c =
    (last_cut is_nul 0 c.args.text.now (c.loop-i.i - 1) (omega arith) (search (rules, tests))
    (λ k from below. c.loop-i.invariant k (omega arith) below)).2

pub returns : goal.returns
returns c = sym (after_last-none is_nul 0 c.args.text.now (no_cut is_nul 0 c.args.text.now (λ k below. c.loop-i.invariant k (omega arith) below)))
