use Rattle.std.proofs.Common.{◌-◌, arith, rules, tests, sym}
use Rattle.unit_paths.specs.Paths.{is_slash}
use Rattle.unit_name.proofs.Cuts.{last_cut, no_cut, after_last-none}
use Rattle.link_tree.proofs.belonging.last_part.Goals as goal

pub returns-then-target-i-eq47 : goal.returns-then-target-i-eq47
returns-then-target-i-eq47 c =
    (last_cut is_slash 0 c.args.target.now (c.loop-i.i - 1) (omega arith) (search (rules, tests))
    (λ k from below. c.loop-i.invariant k (omega arith) below)).2

pub returns : goal.returns
returns c = sym (after_last-none is_slash 0 c.args.target.now (no_cut is_slash 0 c.args.target.now (λ k below. c.loop-i.invariant k (omega arith) below)))
