-- Paths as targets of links.
use Rattle.std.proofs.Common.{◌≡◌, ℕ, true, List, [], ◌∷◌, length, arith}
use Rattle.std.specs.Prelude.{nat_lt, nat_le, ◌&&◌}
use Rattle.std.specs.List.{list_all}
use Rattle.unit_paths.specs.declared.fault.TheConstants.{MAX_PATH}
use Rattle.std.proofs.lemmas.Bool.{and_parts, and_from, false≢true, lt-ltb}
use Rattle.unit_paths.specs.Paths.{is_path, is_target, is_absolute, is_text_byte}

-- a path can be the target of a link
pub path_target : (path : List ℕ) → is_path path ≡ true → is_target path ≡ true
unfolding is_path is_target is_absolute
path_target [] is = absurd (false≢true is)
path_target (b ∷ bs) is =
    let short = nat_le (length (b ∷ bs)) MAX_PATH in
    let bytes = list_all is_text_byte (b ∷ bs) in
    let parts = and_parts short (bytes && is_absolute (b ∷ bs)) is in
    and_from (nat_lt 0 (length (b ∷ bs))) (short && bytes) (lt-ltb 0 (length (b ∷ bs)) (omega arith)) (and_from short bytes parts.0 (and_parts bytes (is_absolute (b ∷ bs)) parts.1).0)
