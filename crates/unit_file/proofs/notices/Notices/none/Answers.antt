use Rattle.std.proofs.Common.{◌≡◌, [], rules}
use Rattle.unit_file.proofs.NoticeMaps.{none_at_lines}
use Rattle.unit_file.proofs.notices.Notices.none.Goals as goal

pub invariant_of-result : goal.invariant_of-result
invariant_of-result c =
    let same : c.new.result.entries ≡ [] = search rules in
    rw same none_at_lines
