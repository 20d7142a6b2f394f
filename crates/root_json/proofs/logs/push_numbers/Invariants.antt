use Rattle.std.proofs.Common.{◌≡◌, ◌++◌, map, take}
use Rattle.serde_json.specs.View.{view}
use Rattle.root_json.specs.Objects.{count}
use Rattle.root_json.proofs.logs.push_numbers.Given as goal

abbrev pub invariant-loop-n : goal.invariant-loop-n
invariant-loop-n l = map view l.values.items ≡ map view l.initial.values.items ++ map count (take l.n-index l.numbers)
