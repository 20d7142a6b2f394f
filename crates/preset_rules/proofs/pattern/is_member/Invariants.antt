use Rattle.std.proofs.Common.{◌≡◌, length}
use Rattle.preset_rules.specs.Patterns.{is_member}
use Rattle.preset_rules.proofs.pattern.is_member.Given as goal

-- the members that are left decide
abbrev pub invariant-loop-found : goal.invariant-loop-found
invariant-loop-found l = is_member l.members l.b ≡ is_member l.fn.members l.b

abbrev pub decreases-loop-found : goal.decreases-loop-found
decreases-loop-found l = length l.members
