-- The name of the default target, and links at other paths.
use Rattle.std.proofs.Common.{◌≡◌, ℕ, Bool, List, None, refl}
use Rattle.std.specs.Prelude.{not, IsPermutation}
use Rattle.std.specs.FinMap as map
use Rattle.std.specs.List.{list_any}
use Rattle.std.specs.Str.{bytes_eq}
use Rattle.std.proofs.lemmas.List.Sorted.{list_any-IsPermutation}
use Rattle.unit_name.specs.Parts.{type_text}
use Rattle.unit_name.specs.Name.{name_fault, part_fault, prefix_of, stem_of, suffix_of, type_of, type_named}
use Rattle.link_tree.specs.declared.entry.Entry.{Entry}
use Rattle.link_tree.specs.Trees.{Entries}
use Rattle.states.specs.GetDefault.{default_target}
use Rattle.states.specs.IsEnabled.{has_other}

pub no_fault : name_fault default_target ≡ None
unfolding name_fault part_fault prefix_of stem_of suffix_of type_of type_named type_text
no_fault = refl

abbrev pub is_other : (own : List ℕ) → List ℕ × Entry → Bool
is_other own link = not (bytes_eq link.0 own)

-- in any order of the links
pub same_in_order : (own : List ℕ) (links : Entries) (xs : List (List ℕ × Entry)) → IsPermutation xs (map.entries links) → list_any (is_other own) xs ≡ has_other own links
same_in_order own links xs same = list_any-IsPermutation (is_other own) xs (map.entries links) same
