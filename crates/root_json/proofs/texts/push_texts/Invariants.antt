use Rattle.std.proofs.Common.{◌≡◌, ◌++◌, map, take}
use Rattle.serde_json.specs.View.{view}
use Rattle.root_json.specs.Objects.{text_data}
use Rattle.root_json.proofs.texts.push_texts.Given as goal

abbrev pub invariant-loop-text : goal.invariant-loop-text
invariant-loop-text l = map view l.values.items ≡ map view l.initial.values.items ++ map text_data (map (λ text. text.now) (take l.text-index l.texts))
