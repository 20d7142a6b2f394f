-- The keys for the links of names.
use Rattle.std.proofs.Common.{◌≡◌, ℕ, false, List, [], ◌∷◌, All, map as list_map, refl}
use Rattle.std.proofs.lemmas.List.Elements.{All-nil, All-cons}
use Rattle.unit_paths.specs.declared.place.Scope.{Scope}
use Rattle.tree_access.specs.declared.key.Key.{Key}
use Rattle.tree_access.specs.declared.key.Key.TheVariants.{Marked}
use Rattle.tree_access.specs.Keys.{is_cell}

-- none of them is a cell
pub none_is_cell : (scope : Scope) (names : List (List ℕ)) → All (λ key. is_cell key ≡ false) (list_map (Marked scope) names)
none_is_cell scope [] = All-nil (λ (key : Key). is_cell key ≡ false)
none_is_cell scope (name ∷ names) = All-cons (λ (key : Key). is_cell key ≡ false) (Marked scope name) (list_map (Marked scope) names) refl (none_is_cell scope names)
