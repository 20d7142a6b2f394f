use Rattle.std.proofs.Common.{◌==◌, ◌-◌, arith, rules, tests}
use Rattle.unit_name.proofs.Cuts.{last_cut, no_cut}
use Rattle.unit_name.proofs.cut.cut_at_last.Goals as goal

pub returns-then-text-i : goal.returns-then-text-i
returns-then-text-i c =
    last_cut (λ b. b == c.args.byte) 0 c.args.text.now (c.loop-i.i - 1) (omega arith) (search (rules, tests))
    (λ k from below. c.loop-i.invariant k (omega arith) below)

pub returns : goal.returns
returns c = no_cut (λ b. b == c.args.byte) 0 c.args.text.now (λ k below. c.loop-i.invariant k (omega arith) below)
