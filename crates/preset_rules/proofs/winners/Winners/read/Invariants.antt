use Rattle.preset_rules.specs.Files.{presets_of}
use Rattle.preset_rules.proofs.Gathered.{GathersAlike}
use Rattle.preset_rules.proofs.winners.Winners.read.Given as goal

-- the remaining slots add what all slots add to the lists at the beginning
abbrev pub invariant-loop-name : goal.invariant-loop-name
invariant-loop-name l = GathersAlike l.tree (presets_of l.presets) l.rules.items l.fn.rules.items l.cells l.fn.cells l._name-iterator l.initial._name-iterator
