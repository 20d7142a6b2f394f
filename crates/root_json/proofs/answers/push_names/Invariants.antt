use Rattle.std.proofs.Common.{◌≡◌, ◌++◌, map, take}
use Rattle.serde_json.specs.View.{view}
use Rattle.root_json.specs.Objects.{text_data}
use Rattle.root_json.proofs.answers.push_names.Given as goal

abbrev pub invariant-loop-name : goal.invariant-loop-name
invariant-loop-name l = map view l.values.items ≡ map view l.initial.values.items ++ map text_data (take l.name-index l.names)
