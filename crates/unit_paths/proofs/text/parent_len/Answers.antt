use Rattle.std.proofs.Common.{◌∙◌, ap, length, take, arith}
use Rattle.unit_paths.proofs.Slashes.{take-parent, length-parent}
use Rattle.unit_paths.proofs.text.parent_len.Goals as goal

pub returns-clause-len : goal.returns-clause-len
returns-clause-len c = ap (λ dir. take (length dir) c.args.text.now) c.cut_at_last_slash.ensures.parent ∙ take-parent c.args.text.now

pub returns-clause-within : goal.returns-clause-within
returns-clause-within c =
    let same = ap length c.cut_at_last_slash.ensures.parent in
    omega (arith, same, length-parent c.args.text.now)
