use Rattle.std.proofs.Common.{◌≡◌, not, map}
use Rattle.std.specs.List.{filter}
use Rattle.unit_file.specs.Install.{is_empty}
use Rattle.preset_rules.proofs.line.instances.Given as goal

-- the words among the parts so far
abbrev pub invariant-loop-word : goal.invariant-loop-word
invariant-loop-word l = l.list ≡ filter (λ word. not (is_empty word)) (map (λ part. part.now) l.yielded)
