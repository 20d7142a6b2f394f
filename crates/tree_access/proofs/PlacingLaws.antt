-- Trees that agree on what was looked at change in the same way.
use Rattle.std.specs.Prelude.{◌≡◌, ℕ, Bool, true, false, List, [], ◌∷◌, ◌++◌, map as list_map, All, Contains, Option, Some, None, Result, Ok, Err, refl}
use Rattle.std.proofs.Common.{cond, ap, sym, subst, ◌∙◌, inl, inr}
use Rattle.std.specs.List.{list_any}
use Rattle.std.specs.Str.{bytes_eq}
use Rattle.std.specs.FinMap as map
use Rattle.std.proofs.lemmas.Bool.{cases_Bool, true≢false, or_parts}
use Rattle.std.proofs.lemmas.List.Elements.{All-head, All-tail, All-nil, All-cons, All-append, All-contains, All-weaker, Contains-append_left, Contains-append_right, Contains-push}
use Rattle.link_tree.specs.declared.change.Change.{Change}
use Rattle.link_tree.specs.declared.entry.Entry.{Entry}
use Rattle.link_tree.specs.Trees.{Entries, set_entry, after_changes}
use Rattle.link_tree.specs.Differences.{same, differences, changes_between}
use Rattle.link_tree.proofs.Changed.{same_bytes, get-set, get-set_other}
use Rattle.link_tree.proofs.Differences.{change_at, get-differences, same_differences, same-itself}
use Rattle.tree_access.specs.declared.key.Key.{Key}
use Rattle.tree_access.specs.declared.key.Key.TheVariants.{Cell}
use Rattle.tree_access.specs.declared.refusal.Refusal.{Refusal}
use Rattle.tree_access.specs.Keys.{Agree, AgreeOn}
use Rattle.tree_access.proofs.KeyLaws.{same_there, agree_on_after}
use Rattle.tree_access.specs.Placing.{Placed, Ruling, placed_in, IsLookedAt, ruled_at, placed_before, concluded_after, keys_after}

-- if two trees have the same entry at a path, they still do after the same placing
placed_alike : (placed : List Placed) (t u : Entries) (path : List ℕ) → map.get t path ≡ map.get u path → map.get (placed_in placed t) path ≡ map.get (placed_in placed u) path
placed_alike [] t u path same = same
placed_alike (p ∷ placed) t u path same =
    placed_alike placed (set_entry t p.0 p.1) (set_entry u p.0 p.1) path
    (get-set t p.0 p.1 path ∙ ap (λ there. cond (bytes_eq path p.0) p.1 there) same ∙ sym (get-set u p.0 p.1 path))

-- what is placed, as changes
abbrev as_changes : List Placed → List Change
as_changes placed = list_map (λ p. record { path = p.0; before = None; after = p.1 }) placed

placed_changes : (placed : List Placed) (t : Entries) → after_changes (as_changes placed) t ≡ placed_in placed t
placed_changes [] t = refl
placed_changes (p ∷ placed) t = placed_changes placed (set_entry t p.0 p.1)

-- trees that agree on keys still agree on them after the same placing
agree_placed : (keys : List Key) (placed : List Placed) (t u : Entries) → AgreeOn keys t u → AgreeOn keys (placed_in placed t) (placed_in placed u)
agree_placed keys placed t u agree =
    subst (λ m. AgreeOn keys m (placed_in placed u)) (placed_changes placed t)
    (subst (λ m. AgreeOn keys (after_changes (as_changes placed) t) m) (placed_changes placed u) (agree_on_after keys (as_changes placed) t u agree))

-- if trees agree on keys, they have the same entry at a cell that is one of them
same_at : (keys : List Key) (t u : Entries) (path : List ℕ) → AgreeOn keys t u → Contains keys (Cell path) → map.get t path ≡ map.get u path
same_at keys t u path agree here = same_there path t u (All-contains (λ key. Agree key t u) keys (Cell path) agree here)

-- whether something is placed at a path
abbrev is_placed : List Placed → List ℕ → Bool
is_placed placed path = list_any (λ p. bytes_eq path p.0) placed

placed_other : (placed : List Placed) (t : Entries) (path : List ℕ) → is_placed placed path ≡ false → map.get (placed_in placed t) path ≡ map.get t path
placed_other [] t path away = refl
placed_other (p ∷ placed) t path away =
    let off = or_parts (bytes_eq path p.0) (is_placed placed path) away in
    placed_other placed (set_entry t p.0 p.1) path off.1 ∙ get-set_other t p.0 p.1 path off.0

placed_at_key : (keys : List Key) (placed : List Placed) (path : List ℕ) → All (λ p. Contains keys (Cell p.0)) placed → is_placed placed path ≡ true → Contains keys (Cell path)
placed_at_key keys [] path all here = absurd (true≢false (sym here))
placed_at_key keys (p ∷ placed) path all here = elim (cases_Bool (bytes_eq path p.0)) [
  | inl at ↦ subst (λ q. Contains keys (Cell q)) (sym (same_bytes path p.0 at)) (All-head (λ p. Contains keys (Cell p.0)) p placed all)
  | inr away ↦ placed_at_key keys placed path (All-tail (λ p. Contains keys (Cell p.0)) p placed all) (rw away at here)
]

-- if a tree differs at a path after placing, something was placed there
pub differs_at_key : (keys : List Key) (placed : List Placed) (t : Entries) → All (λ p. Contains keys (Cell p.0)) placed
    → (path : List ℕ) → same (map.get t path) (map.get (placed_in placed t) path) ≡ false → Contains keys (Cell path)
differs_at_key keys placed t all path differs = elim (cases_Bool (is_placed placed path)) [
  | inl here ↦ placed_at_key keys placed path all here
  | inr away ↦ absurd (true≢false (sym (ap (same (map.get t path)) (placed_other placed t path away) ∙ same-itself (map.get t path)) ∙ differs))
]

-- what changes at a path, if the same entry was there
changes_alike : (keys : List Key) (placed : List Placed) (t u : Entries) → All (λ p. Contains keys (Cell p.0)) placed → AgreeOn keys t u
    → (path : List ℕ) → change_at t (placed_in placed t) path ≡ change_at u (placed_in placed u) path
changes_alike keys placed t u all agree path = elim (cases_Bool (is_placed placed path)) [
  | inl here ↦ (
      let there : map.get t path ≡ map.get u path = same_at keys t u path agree (placed_at_key keys placed path all here) in
      λ i. cond (same (there i) (placed_alike placed t u path there i)) None (Some (record { path = path; before = there i; after = placed_alike placed t u path there i })))
  | inr away ↦ unchanged t away ∙ sym (unchanged u away)
]
  where
    unchanged : (m : Entries) → is_placed placed path ≡ false → change_at m (placed_in placed m) path ≡ None
    unchanged m away = ap (λ there. cond (same (map.get m path) there) None (Some (record { path = path; before = map.get m path; after = there }))) (placed_other placed m path away)
        ∙ ap (λ b. cond b None (Some (record { path = path; before = map.get m path; after = map.get m path }))) (same-itself (map.get m path))

-- What a ruling has as its effect on a tree depends on no more of the tree than its changes.
pub record IsByChanges {X : Type 0} (effect : Entries → Ruling → X) : Type 0 where
  pub done : (placed : List Placed) (t u : Entries) → changes_between t (placed_in placed t) ≡ changes_between u (placed_in placed u) → effect t (Ok placed) ≡ effect u (Ok placed)
  pub refused : (refusal : Refusal) (t u : Entries) → effect t (Err refusal) ≡ effect u (Err refusal)

-- a ruling has the same effect on trees that agree on keys, if these include the cells of all paths
-- at which it places something
effect_alike : {X : Type 0} (effect : Entries → Ruling → X) → IsByChanges effect → (keys : List Key) (ruling : Ruling) (t u : Entries) → IsLookedAt keys ruling → AgreeOn keys t u
    → effect t ruling ≡ effect u ruling
unfolding changes_between
effect_alike effect by keys (Ok placed) t u looked agree =
    let same_changes : differences t (placed_in placed t) ≡ differences u (placed_in placed u) =
    same_differences _ _ (λ path. get-differences t (placed_in placed t) path ∙ changes_alike keys placed t u looked agree path ∙ sym (get-differences u (placed_in placed u) path)) in
    by.done placed t u (ap map.values same_changes)
effect_alike effect by keys (Err refusal) t u looked agree = by.refused refusal t u

-- more keys before the first, or after the last
more_keys : (before keys : List Key) (placed : List Placed) → All (λ p. Contains keys (Cell p.0)) placed → All (λ p. Contains (before ++ keys) (Cell p.0)) placed
more_keys before keys placed looked = All-weaker (λ p. Contains keys (Cell p.0)) (λ p. Contains (before ++ keys) (Cell p.0)) (λ p here. Contains-append_right before keys (Cell p.0) here) placed looked

later_keys : (keys later : List Key) (placed : List Placed) → All (λ p. Contains keys (Cell p.0)) placed → All (λ p. Contains (keys ++ later) (Cell p.0)) placed
later_keys keys later placed looked = All-weaker (λ p. Contains keys (Cell p.0)) (λ p. Contains (keys ++ later) (Cell p.0)) (λ p here. Contains-append_left keys later (Cell p.0) here) placed looked

pub none_looked_at : IsLookedAt [] (Ok [])
none_looked_at = All-nil (λ (p : Placed). Contains [] (Cell p.0))

pub path_looked_at : (path : List ℕ) (left : Result (Option Entry) Refusal) → IsLookedAt (Cell path ∷ []) (ruled_at path left)
path_looked_at path (Ok entry) = All-cons (λ p. Contains (Cell path ∷ []) (Cell p.0)) (path, entry) [] (Contains-push [] (Cell path)) (All-nil (λ p. Contains (Cell path ∷ []) (Cell p.0)))
path_looked_at path (Err refusal) = tt

pub looked_before : (before keys : List Key) (ruling : Ruling) → IsLookedAt keys ruling → IsLookedAt (before ++ keys) ruling
looked_before before keys (Ok placed) looked = more_keys before keys placed looked
looked_before before keys (Err refusal) looked = tt

pub more_looked_at : (before keys : List Key) (placed : List Placed) (ruling : Ruling) → All (λ p. Contains before (Cell p.0)) placed → IsLookedAt keys ruling → IsLookedAt (before ++ keys) (placed_before placed ruling)
more_looked_at before keys placed (Ok more) first looked = All-append (λ p. Contains (before ++ keys) (Cell p.0)) placed more (later_keys before keys placed first) (more_keys before keys more looked)
more_looked_at before keys placed (Err refusal) first looked = tt

-- the ruling of a step, given the keys at which it looks
module _ (conclusion : Entries → Ruling) (keys : Entries → List Key)
    (agreement : (t u : Entries) → AgreeOn (keys t) t u → (conclusion t ≡ conclusion u) × (keys t ≡ keys u))
    (looked : (t : Entries) → IsLookedAt (keys t) (conclusion t)) where
  -- it has the same effect on trees that agree on these
  pub effects_agree : {X : Type 0} (effect : Entries → Ruling → X) → IsByChanges effect → (t u : Entries) → AgreeOn (keys t) t u → (effect t (conclusion t) ≡ effect u (conclusion u)) × (keys t ≡ keys u)
  effects_agree effect by t u agree =
      let found = agreement t u agree in
      (effect_alike effect by (keys t) (conclusion t) t u (looked t) agree ∙ ap (effect u) found.0, found.1)

  -- and has the same result after the same ruling on either
  pub agreement_after : (first : Ruling) (t u : Entries) → AgreeOn (keys_after first keys t) t u
      → (concluded_after first conclusion t ≡ concluded_after first conclusion u) × (keys_after first keys t ≡ keys_after first keys u)
  agreement_after (Ok placed) t u agree =
      let found = agreement (placed_in placed t) (placed_in placed u) (agree_placed (keys (placed_in placed t)) placed t u agree) in
      (ap (placed_before placed) found.0, found.1)
  agreement_after (Err refusal) t u agree = (refl, refl)

  pub looked_after : (before : List Key) (first : Ruling) (t : Entries) → IsLookedAt before first → IsLookedAt (before ++ keys_after first keys t) (concluded_after first conclusion t)
  looked_after before (Ok placed) t here = more_looked_at before (keys (placed_in placed t)) placed (conclusion (placed_in placed t)) here (looked (placed_in placed t))
  looked_after before (Err refusal) t here = tt
