-- At which paths a tree may have entries.
use Rattle.std.specs.Prelude.{ℕ, Bool, false, ◌&&◌, ◌||◌, ◌==◌, List, [], ◌∷◌, ◌++◌, is_some}
use Rattle.std.specs.List.{list_any}
use Rattle.unit_paths.specs.Paths.{is_slash}
use Rattle.unit_paths.specs.Places.{places, unit_directory, preset_places, preset_directory}
use Rattle.unit_paths.specs.Slots.{slots_in, is_slot}

-- whether one path lies beneath another: it begins with the whole of the other and a slash
unfoldable pub is_beneath : List ℕ → List ℕ → Bool
is_beneath [] above = false
is_beneath (b ∷ bs) [] = is_slash b
is_beneath (b ∷ bs) (a ∷ rest) = b == a && is_beneath bs rest

-- whether a path lies beneath a slot: what comes before one of its slashes is a slot. `done` is the
-- part already read, and the rest is still to be read.
unfoldable pub is_under_slot : List ℕ → List ℕ → Bool
is_under_slot done [] = false
is_under_slot done (b ∷ bs) = is_slash b && is_slot done || is_under_slot (done ++ b ∷ []) bs

-- whether a directory of units lies beneath the path; and below, one of presets
abbrev pub is_over_units : List ℕ → Bool
is_over_units path = list_any (λ place. is_beneath (unit_directory place) path) places

abbrev pub is_over_presets : List ℕ → Bool
is_over_presets path = list_any (λ place. is_beneath (preset_directory place) path) preset_places

-- No entry may be beneath a slot, at a directory that can contain slots, or above such a directory.
unfoldable pub is_bad_shape : List ℕ → Bool
is_bad_shape path = is_under_slot [] path || (is_some (slots_in path) || (is_over_units path || is_over_presets path))

-- whether one of two paths lies beneath the other
unfoldable pub is_close : List ℕ → List ℕ → Bool
is_close path other = is_beneath path other || is_beneath other path
