use Rattle.std.proofs.Common.{◌==◌, arith, rules, tests}
use Rattle.unit_name.proofs.Cuts.{first_cut, no_cut}
use Rattle.unit_name.proofs.cut.cut_at_first.Goals as goal

pub returns-then-b-byte : goal.returns-then-b-byte
returns-then-b-byte c = first_cut (λ b. b == c.args.byte) 0 c.args.text.now c.loop-i.i (omega arith) (search (rules, tests)) c.loop-i.invariant

pub returns : goal.returns
returns c = no_cut (λ b. b == c.args.byte) 0 c.args.text.now (λ k below. c.loop-i.invariant k (omega arith))
