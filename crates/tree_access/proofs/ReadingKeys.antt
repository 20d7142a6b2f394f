-- The keys of a reading are those by which it was made, so it doesn't matter on which of the two
-- trees must agree.
use Rattle.std.proofs.Common.{◌≡◌, false, List, [], ◌∷◌, map as list_map, All, refl, ap, ◌∙◌, subst}
use Rattle.std.proofs.lemmas.List.Elements.{All-head, All-tail}
use Rattle.link_tree.specs.declared.change.Change.{Change}
use Rattle.link_tree.specs.Trees.{Entries}
use Rattle.tree_access.specs.declared.key.Key.{Key}
use Rattle.tree_access.specs.Keys.{seen, touches, Agree, AgreeOn, Untouched}
use Rattle.tree_access.specs.Readings.{in_order, observed, reading_of, keys_of}
use Rattle.tree_access.proofs.KeySets.{All-in_order, in_order-All}

keys_observed : (keys : List Key) (t : Entries) → keys_of (list_map (observed t) keys) ≡ keys
keys_observed [] t = refl
keys_observed (key ∷ keys) t = ap (λ ks. key ∷ ks) (keys_observed keys t)

pub keys_of_reading : (keys : List Key) (t : Entries) → keys_of (reading_of keys t) ≡ in_order keys
keys_of_reading keys t = keys_observed (in_order keys) t

-- changes that touch no key of a reading touch none of the keys by which it was made
pub untouched_keys : (changes : List Change) (keys : List Key) (t : Entries) → Untouched changes (keys_of (reading_of keys t)) → Untouched changes keys
untouched_keys changes keys t free =
    let P : Key → Type 0 = λ key. All (λ change. touches change key ≡ false) changes in
    in_order-All P keys (subst (All P) (keys_of_reading keys t) free)

observed_alike : (keys : List Key) (t u : Entries) → AgreeOn keys t u → list_map (observed t) keys ≡ list_map (observed u) keys
observed_alike [] t u agree = refl
observed_alike (key ∷ keys) t u agree =
    let here : seen key t ≡ seen key u = All-head (λ k. Agree k t u) key keys agree in
    let rest = observed_alike keys t u (All-tail (λ k. Agree k t u) key keys agree) in
    ap (λ s. record { key = key; seen = s } ∷ list_map (observed t) keys) here ∙ ap (λ os. observed u key ∷ os) rest

-- trees that agree on keys have the same reading by them
pub reading_alike : (keys : List Key) (t u : Entries) → AgreeOn keys t u → reading_of keys t ≡ reading_of keys u
reading_alike keys t u agree = observed_alike (in_order keys) t u (All-in_order (λ k. Agree k t u) keys agree)
