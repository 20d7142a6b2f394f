use Rattle.std.proofs.Common.{◌≡◌, ◌++◌, drop, map, codes}
use Rattle.std.specs.List.{flat_map}
use Rattle.root_runs.specs.Names.{part_text}
use Rattle.root_runs.proofs.names.push_other_parts.Given as goal

-- the text so far, and that of what is left
abbrev pub invariant-loop-part : goal.invariant-loop-part
invariant-loop-part l =
    l.out.items ++ flat_map (λ part. codes "-" ++ part_text part) (map (λ part. part.now) (drop l.part-index l.parts))
    ≡ l.fn.out.items ++ flat_map (λ part. codes "-" ++ part_text part) (map (λ part. part.now) l.parts)
