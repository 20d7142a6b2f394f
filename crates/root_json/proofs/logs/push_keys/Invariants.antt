use Rattle.std.proofs.Common.{◌≡◌, ◌++◌, map, take}
use Rattle.serde_json.specs.View.{view}
use Rattle.root_json.specs.Logs.{key_data}
use Rattle.root_json.proofs.logs.push_keys.Given as goal

abbrev pub invariant-loop-observation : goal.invariant-loop-observation
invariant-loop-observation l = map view l.values.items ≡ map view l.initial.values.items ++ map key_data (take l.observation-index l.reading)
