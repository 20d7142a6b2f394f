-- One slot after another. Only contracts of internal functions that find the files use this, so it
-- need not be trusted.
use Rattle.std.specs.Prelude.{ℕ, List, is_some, if◌then◌else◌}
use Rattle.std.specs.FinMap as map
use Rattle.unit_paths.specs.Paths.{name_at}
use Rattle.preset_rules.specs.Files.{Winners}

-- one more slot, unless its file name is there
abbrev pub with_path : Winners → List ℕ → Winners
with_path winners path = if is_some (map.get winners (name_at path)) then winners else map.insert winners (name_at path) path
