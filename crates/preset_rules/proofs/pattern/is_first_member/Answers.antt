use Rattle.std.proofs.Common.{refl, arith}
use Rattle.preset_rules.proofs.Members.{members_at, no_members}
use Rattle.preset_rules.proofs.pattern.is_first_member.Goals as goal

pub returns-in-empty : goal.returns-in-empty
returns-in-empty c = no_members c.args.members.now c.args.b (omega arith)

pub returns-in-len1-up : goal.returns-in-len1-up
returns-in-len1-up c =
    let more = c.first_member.ensures in
    (members_at c.args.members.now c.args.b c.first_member.result.0 c.first_member.result.1.now _ (omega arith) refl more.found more.behind, grind arith)
