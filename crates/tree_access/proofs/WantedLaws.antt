-- What is wanted all at once.
use Rattle.std.specs.Prelude.{◌≡◌, ℕ, List, [], ◌∷◌, map as list_map, Option, Ok, Err, refl}
use Rattle.std.proofs.Common.{ap, ◌∙◌}
use Rattle.std.specs.FinMap as map
use Rattle.std.proofs.lemmas.List.Elements.{All-head, All-tail}
use Rattle.link_tree.specs.Trees.{Entries}
use Rattle.tree_access.specs.declared.key.Key.{Key}
use Rattle.tree_access.specs.declared.key.Key.TheVariants.{Cell}
use Rattle.tree_access.specs.Keys.{Agree, AgreeOn}
use Rattle.tree_access.proofs.KeyLaws.{same_there}
use Rattle.tree_access.specs.Placing.{Ruling, IsLookedAt, ruled_at, concluded_after, wanted_at, all_wanted}
use Rattle.tree_access.proofs.PlacingLaws.{none_looked_at, path_looked_at, more_looked_at}

-- a path, and what is wanted there
abbrev Link : Type 0
Link = List ℕ × Option (List ℕ)

-- what the rule leaves at one of the paths
abbrev pub left_at : Link → Entries → Ruling
left_at link t = ruled_at link.0 (wanted_at link.1 link.0 (map.get t link.0))

abbrev pub cells_of : List Link → List Key
cells_of links = list_map Cell (list_map (λ link. link.0) links)

same_wanted : (links : List Link) (t u : Entries) → AgreeOn (cells_of links) t u → all_wanted links t ≡ all_wanted links u
same_wanted [] t u agree = refl
same_wanted (link ∷ links) t u agree =
    let there = same_there link.0 t u (All-head (λ key. Agree key t u) (Cell link.0) (cells_of links) agree) in
    let rest = same_wanted links t u (All-tail (λ key. Agree key t u) (Cell link.0) (cells_of links) agree) in
    ap (λ (o : Ruling). concluded_after o (λ left. all_wanted links t) t) (ap (λ there. ruled_at link.0 (wanted_at link.1 link.0 there)) there) ∙ before (left_at link u) rest
  where
    before : (first : Ruling) → all_wanted links t ≡ all_wanted links u → concluded_after first (λ left. all_wanted links t) t ≡ concluded_after first (λ left. all_wanted links u) u
    before (Ok placed) rest = ap (λ later. concluded_after (Ok placed) (λ left. later) t) rest
    before (Err refusal) rest = refl

pub all_wanted_agree : (links : List Link) (t u : Entries) → AgreeOn (cells_of links) t u → (all_wanted links t ≡ all_wanted links u) × (cells_of links ≡ cells_of links)
all_wanted_agree links t u agree = (same_wanted links t u agree, refl)

looked_first : (link : Link) (links : List Link) (t : Entries) (first : Ruling) → IsLookedAt (Cell link.0 ∷ []) first → IsLookedAt (cells_of links) (all_wanted links t)
    → IsLookedAt (cells_of (link ∷ links)) (concluded_after first (λ left. all_wanted links t) t)
looked_first link links t (Ok placed) looked rest = more_looked_at (Cell link.0 ∷ []) (cells_of links) placed (all_wanted links t) looked rest
looked_first link links t (Err refusal) looked rest = tt

pub all_wanted_looked_at : (links : List Link) (t : Entries) → IsLookedAt (cells_of links) (all_wanted links t)
all_wanted_looked_at [] t = none_looked_at
all_wanted_looked_at (link ∷ links) t =
    looked_first link links t (left_at link t) (path_looked_at link.0 (wanted_at link.1 link.0 (map.get t link.0))) (all_wanted_looked_at links t)
