-- The values in trees: the parts of an entry, and how values are compared.
use Rattle.std.specs.Prelude.{◌≡◌, ℕ, Bool, false, List, ◌⊎◌, refl}
use Rattle.std.proofs.Common.{inl, inr}
use Rattle.std.specs.Coded.{Coded, code_by, coded_ℕ, coded_list, coded⊎}
use Rattle.std.specs.Str.{bytes_eq}
use Rattle.link_tree.specs.Files.{is_contents}
use Rattle.unit_paths.specs.Paths.{is_target}
use Rattle.link_tree.specs.declared.entry.Entry.{Entry}
use Rattle.link_tree.specs.declared.entry.Entry.TheVariants.{File, Link}

-- the bytes of a file, or the text of a link's target
abbrev pub bytes_of : Entry → List ℕ
bytes_of (File contents) = contents
bytes_of (Link target) = target

abbrev pub is_entry : Entry → Bool
is_entry (File contents) = is_contents contents
is_entry (Link target) = is_target target

-- whether two entries are equal: both files, or both links, with the same bytes
abbrev pub same_entry : Entry → Entry → Bool
same_entry (File one) (File other) = bytes_eq one other
same_entry (Link one) (Link other) = bytes_eq one other
same_entry (File one) (Link other) = false
same_entry (Link one) (File other) = false

-- an entry encoded as one of two texts
abbrev pub parts_of : Entry → List ℕ ⊎ List ℕ
parts_of (File contents) = inl contents
parts_of (Link target) = inr target

abbrev pub of_parts : List ℕ ⊎ List ℕ → Entry
of_parts (inl contents) = File contents
of_parts (inr target) = Link target

pub of_own_parts : (entry : Entry) → of_parts (parts_of entry) ≡ entry
of_own_parts (File contents) = refl
of_own_parts (Link target) = refl

abbrev pub coded_path : Coded (List ℕ)
coded_path = coded_list coded_ℕ

abbrev pub coded_entry : Coded Entry
coded_entry = code_by (List ℕ ⊎ List ℕ) (coded⊎ coded_path coded_path) parts_of of_parts of_own_parts
