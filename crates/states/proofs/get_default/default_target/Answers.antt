use Rattle.std.proofs.Common.{◌≡◌, Some, None, sym, ◌∙◌}
use Rattle.states.proofs.Others.{no_fault}
use Rattle.states.proofs.get_default.default_target.Goals as goal

pub unreachable-requires : goal.unreachable-requires
unreachable-requires c =
    let faulty = (rw c.in-Err-Bad.field-0-is at c.in-Err-Bad.ensures).0 in
    absurd (let both : None ≡ Some c.in-Err-Bad.field-0-0 = sym no_fault ∙ faulty in cc)
