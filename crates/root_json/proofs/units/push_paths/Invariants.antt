use Rattle.std.proofs.Common.{◌≡◌, ◌++◌, map, take}
use Rattle.serde_json.specs.View.{view}
use Rattle.root_json.specs.Objects.{text_data}
use Rattle.root_json.proofs.units.push_paths.Given as goal

abbrev pub invariant-loop-path : goal.invariant-loop-path
invariant-loop-path l = map view l.values.items ≡ map view l.initial.values.items ++ map text_data (take l.path-index l.paths)
