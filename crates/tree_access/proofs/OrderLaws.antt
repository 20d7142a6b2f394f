-- The order of keys is total, and keys that compare as equal are equal.
use Rattle.std.specs.Prelude.{◌≡◌, ℕ, Bool, true, false, List, ◌⊎◌, refl}
use Rattle.std.proofs.Common.{inl, inr, sym, ap, ◌∙◌}
use Rattle.std.specs.Cmp.{IsTotalOrder}
use Rattle.std.specs.Cmp.Lexicographic.{nat_list_cmp_total}
use Rattle.std.proofs.lemmas.Cmp.{on_total}
use Rattle.std.specs.FinMap.{IsAntisymmetric}
use Rattle.std.proofs.lemmas.Map.Lookups.{exact_bytes}
use Rattle.unit_paths.specs.declared.place.Scope.TheVariants.{Etc, Run}
use Rattle.tree_access.specs.declared.key.Key.{Key}
use Rattle.tree_access.specs.declared.key.Key.TheVariants.{Cell, Marked, Presets, Links}
use Rattle.tree_access.specs.Order.{spelling, key_cmp}

pub key_cmp_total : IsTotalOrder key_cmp
key_cmp_total = on_total spelling nat_list_cmp_total

-- a key as one of two texts, or none
abbrev pub parts_of : Key → List ℕ ⊎ (Bool × List ℕ) ⊎ Bool
parts_of (Cell path) = inl path
parts_of (Marked Etc name) = inr (inl (false, name))
parts_of (Marked Run name) = inr (inl (true, name))
parts_of Presets = inr (inr false)
parts_of Links = inr (inr true)

abbrev pub of_parts : List ℕ ⊎ (Bool × List ℕ) ⊎ Bool → Key
of_parts (inl path) = Cell path
of_parts (inr (inl (false, name))) = Marked Etc name
of_parts (inr (inl (true, name))) = Marked Run name
of_parts (inr (inr false)) = Presets
of_parts (inr (inr true)) = Links

pub of_own_parts : (key : Key) → of_parts (parts_of key) ≡ key
of_own_parts (Cell path) = refl
of_own_parts (Marked Etc name) = refl
of_own_parts (Marked Run name) = refl
of_own_parts Presets = refl
of_own_parts Links = refl

-- keys with the same encoding have the same parts
same_parts : (key other : Key) → spelling key ≡ spelling other → parts_of key ≡ parts_of other
same_parts (Cell path) (Cell other) same = let here : path ≡ other = cc in ap inl here
same_parts (Marked Etc name) (Marked Etc other) same = let here : name ≡ other = cc in ap (λ n. inr (inl (false, n))) here
same_parts (Marked Run name) (Marked Run other) same = let here : name ≡ other = cc in ap (λ n. inr (inl (true, n))) here
same_parts Presets Presets same = refl
same_parts Links Links same = refl
same_parts (Cell path) (Marked scope other) same = cc
same_parts (Cell path) Presets same = cc
same_parts (Cell path) Links same = cc
same_parts (Marked scope name) (Cell other) same = cc
same_parts (Marked Etc name) (Marked Run other) same = cc
same_parts (Marked Run name) (Marked Etc other) same = cc
same_parts (Marked scope name) Presets same = cc
same_parts (Marked scope name) Links same = cc
same_parts Presets (Cell other) same = cc
same_parts Presets (Marked scope other) same = cc
same_parts Presets Links same = cc
same_parts Links (Cell other) same = cc
same_parts Links (Marked scope other) same = cc
same_parts Links Presets same = cc

-- keys that compare as equal are equal
pub exact_keys : IsAntisymmetric key_cmp
exact_keys key other alike = sym (of_own_parts key) ∙ ap of_parts (same_parts key other (exact_bytes (spelling key) (spelling other) alike)) ∙ of_own_parts other
