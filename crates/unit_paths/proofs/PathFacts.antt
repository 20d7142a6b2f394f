-- Facts about a path.
use Rattle.std.proofs.Common.{◌≡◌, ℕ, ◌≤◌, true, ◌&&◌, List, ◌∷◌, length}
use Rattle.std.specs.Prelude.{nat_le}
use Rattle.std.specs.List.{list_all, slice_split}
use Rattle.std.proofs.lemmas.Bool.{and_parts, and_from, leb-true, le-leb}
use Rattle.unit_paths.specs.declared.fault.TheConstants.{MAX_PATH}
use Rattle.unit_paths.specs.Paths.{is_slash, is_part, is_text_byte, is_path, is_absolute}

pub record PathFacts (b : ℕ) (bs : List ℕ) : Type 0 where
  pub short : length (b ∷ bs) ≤ MAX_PATH
  pub bytes : list_all is_text_byte (b ∷ bs) ≡ true
  pub slash : is_slash b ≡ true
  pub parts : list_all is_part (slice_split is_slash bs) ≡ true

pub path_facts : (b : ℕ) (bs : List ℕ) → is_path (b ∷ bs) ≡ true → PathFacts b bs
unfolding is_path is_absolute
path_facts b bs is =
    let one = and_parts (nat_le (length (b ∷ bs)) MAX_PATH) (list_all is_text_byte (b ∷ bs) && (is_slash b && list_all is_part (slice_split is_slash bs))) is in
    let two = and_parts (list_all is_text_byte (b ∷ bs)) (is_slash b && list_all is_part (slice_split is_slash bs)) one.1 in
    let three = and_parts (is_slash b) (list_all is_part (slice_split is_slash bs)) two.1 in
    record { short = leb-true (length (b ∷ bs)) MAX_PATH one.0; bytes = two.0; slash = three.0; parts = three.1 }

pub path_from_facts : (b : ℕ) (bs : List ℕ) → PathFacts b bs → is_path (b ∷ bs) ≡ true
unfolding is_path is_absolute
path_from_facts b bs facts =
    and_from (nat_le (length (b ∷ bs)) MAX_PATH) _ (le-leb (length (b ∷ bs)) MAX_PATH facts.short)
    (and_from (list_all is_text_byte (b ∷ bs)) _ facts.bytes (and_from (is_slash b) _ facts.slash facts.parts))
