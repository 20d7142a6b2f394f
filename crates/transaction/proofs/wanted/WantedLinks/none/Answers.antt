use Rattle.std.proofs.Common.{◌≡◌, [], rules}
use Rattle.transaction.proofs.Making.{none_at_slots}
use Rattle.transaction.proofs.wanted.WantedLinks.none.Goals as goal

pub invariant_of-result : goal.invariant_of-result
invariant_of-result c =
    let same : c.new.result.entries ≡ [] = search rules in
    rw same none_at_slots
