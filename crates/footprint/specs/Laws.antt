-- Laws of operations and of what they look at; each is the contract of a public function.
use Rattle.std.specs.Prelude.{◌≡◌, ◌↔◌, ℕ, true, List, Option, Some, None, Ok, Err}
use Rattle.std.specs.Ordering.{is_le}
use Rattle.std.specs.FinMap as map
use Rattle.link_tree.specs.declared.change.Change.{Change}
use Rattle.link_tree.specs.declared.entry.Entry.{Entry}
use Rattle.link_tree.specs.Trees.{path_cmp, Entries, AreFrom, after_changes, inverse_of}
use Rattle.tree_access.specs.declared.refusal.Refusal.{Refusal}
use Rattle.tree_access.specs.declared.key.Key.{Key}
use Rattle.tree_access.specs.Keys.{Agree, AgreeOn, Untouched}
use Rattle.footprint.specs.Inquiry.{Inquiry}
use Rattle.footprint.specs.Operations.{Effect, outcome_of}
use Rattle.tree_access.specs.Placing.{Placed, Wanted, wanted_at, placed_in}
use Rattle.tree_access.specs.Readings.{keys_of}
use Rattle.footprint.specs.Steps.{all_at_once}

-- Trees that agree on a key still agree on it after the same changes.
abbrev pub AgreeAfterChanges : Type 0
AgreeAfterChanges = (key : Key) (changes : List Change) (t u : Entries) → Agree key t u → Agree key (after_changes changes t) (after_changes changes u)

-- An operation has the same outcome, with the same reading, in trees that agree on what it looked
-- at.
abbrev pub ComesToTheSame : {O : Type 0} → (O → Inquiry Effect) → Type 0
ComesToTheSame {O} meaning = (c : O) (t u : Entries) → AgreeOn (keys_of (outcome_of meaning c t).reading) t u → outcome_of meaning c t ≡ outcome_of meaning c u

-- What an operation changes can be undone in one step, and the result is exactly the tree before.
abbrev pub IsTakenBack : {O : Type 0} → (O → Inquiry Effect) → Type 0
IsTakenBack {O} meaning = (c : O) (t : Entries) →
    let changes = (outcome_of meaning c t).changes in
    AreFrom (after_changes changes t) (inverse_of changes) × (after_changes (inverse_of changes) (after_changes changes t) ≡ t)

-- Two commands, one right after the other, can be swapped if neither makes a change that touches a
-- key at which the other looks: the outcome of each is the same, and they leave the same tree.
abbrev pub MayChangePlaces : {A B : Type 0} → (A → Inquiry Effect) → (B → Inquiry Effect) → Type 0
MayChangePlaces {A} {B} first second = (a : A) (b : B) (t : Entries) →
    let a_first = outcome_of first a t in
    let then_b = outcome_of second b (after_changes a_first.changes t) in
    let b_first = outcome_of second b t in
    let then_a = outcome_of first a (after_changes b_first.changes t) in
    Untouched a_first.changes (keys_of then_b.reading) → Untouched then_b.changes (keys_of a_first.reading) →
    (b_first ≡ then_b) × (then_a ≡ a_first)
    × (after_changes then_a.changes (after_changes b_first.changes t) ≡ after_changes then_b.changes (after_changes a_first.changes t))

-- A link is wanted at a path, and what is there is in its way.
abbrev pub IsRefusedAt : Wanted → Entries → List ℕ → Refusal → Type 0
IsRefusedAt wanted t path refusal = (link : Option (List ℕ)) × (map.get wanted path ≡ Some link) × (wanted_at link path (map.get t path) ≡ Err refusal)

-- Links made all at once are refused exactly if something is in the way of one of them, and the
-- refusal names the least such path.
abbrev pub RefusedAtTheLeast : Type 0
RefusedAtTheLeast = (wanted : Wanted) (t : Entries) (refusal : Refusal) →
    ((all_at_once wanted).conclusion t ≡ Err refusal)
    ↔ ((path : List ℕ) × IsRefusedAt wanted t path refusal × ((other : List ℕ) (why : Refusal) → IsRefusedAt wanted t other why → is_le (path_cmp path other) ≡ true))

-- the entry at a path after all links are made at once: the result of the link that is wanted
-- there, or what was there
abbrev pub IsLeft : (wanted : Option (Option (List ℕ))) → List ℕ → (before after : Option Entry) → Type 0
IsLeft None path before after = after ≡ before
IsLeft (Some link) path before after = wanted_at link path before ≡ Ok after

-- Otherwise each wanted link is made, and all else stays.
abbrev pub LeftAllAtOnce : Type 0
LeftAllAtOnce = (wanted : Wanted) (t : Entries) (placed : List Placed) → (all_at_once wanted).conclusion t ≡ Ok placed
    → (path : List ℕ) → IsLeft (map.get wanted path) path (map.get t path) (map.get (placed_in placed t) path)
