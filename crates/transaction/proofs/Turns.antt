-- For loops that take one argument after another: steps in turn, in a form in which each turn of
-- the loop computes one step.
use Rattle.std.proofs.Common.{◌≡◌, List, [], ◌∷◌, ◌++◌, Result, Ok, Err, refl, sym, ap, ◌∙◌}
use Rattle.link_tree.specs.Trees.{Entries}
use Rattle.tree_access.specs.declared.key.Key.{Key}
use Rattle.tree_access.specs.declared.refusal.Refusal.{Refusal}
use Rattle.tree_access.specs.Placing.{Placed, Ruling, placed_in, placed_before, concluded_after, keys_after}
use Rattle.footprint.specs.Steps.{Step, each_in_turn}
use Rattle.footprint.proofs.Turns.{left_more}
use Rattle.transaction.specs.Runs.{Run, taking, placed_by}
use Rattle.transaction.specs.Seen.{Transacted}

-- the rest of a run, which is done only if the first part was not refused
abbrev pub concluded_on : (Entries → Result (Unit {0} × Entries) Refusal) → Result (Unit {0} × Entries) Refusal → Result (Unit {0} × Entries) Refusal
concluded_on on (Ok done) = on done.1
concluded_on on (Err refusal) = Err refusal

abbrev pub looked_on : (Entries → List Key) → Result (Unit {0} × Entries) Refusal → List Key
looked_on on (Ok done) = on done.1
looked_on on (Err refusal) = []

abbrev pub concluded : {A : Type 0} → (A → Step) → List A → Entries → Result (Unit {0} × Entries) Refusal
concluded step [] t = Ok (tt, t)
concluded step (a ∷ rest) t = concluded_on (concluded step rest) (placed_by ((step a).conclusion t) t)

abbrev pub looked : {A : Type 0} → (A → Step) → List A → Entries → List Key
looked step [] t = []
looked step (a ∷ rest) t = (step a).keys t ++ looked_on (looked step rest) (placed_by ((step a).conclusion t) t)

-- one step for each of these arguments, in turn
abbrev pub turns : {A : Type 0} → (A → Step) → List A → Run (Unit {0})
turns step args = record { conclusion = concluded step args; keys = looked step args }

pub placed_more : (placed : List Placed) (ruling : Ruling) (t : Entries) → placed_by (placed_before placed ruling) t ≡ placed_by ruling (placed_in placed t)
placed_more placed (Ok more) t = ap alone (left_more placed (Ok more) t)
  where
    alone : Result Entries Refusal → Result (Unit {0} × Entries) Refusal
    alone (Ok u) = Ok (tt, u)
    alone (Err refusal) = Err refusal
placed_more placed (Err refusal) t = refl

then_concluded : (ruling : Ruling) (next : Entries → Ruling) (t : Entries) → concluded_on (λ u. placed_by (next u) u) (placed_by ruling t) ≡ placed_by (concluded_after ruling next t) t
then_concluded (Ok placed) next t = sym (placed_more placed (next (placed_in placed t)) t)
then_concluded (Err refusal) next t = refl

then_looked : (ruling : Ruling) (keys : Entries → List Key) (t : Entries) → looked_on keys (placed_by ruling t) ≡ keys_after ruling keys t
then_looked (Ok placed) keys t = refl
then_looked (Err refusal) keys t = refl

-- This form does the same as `each_in_turn`.
pub turns_conclude : {A : Type 0} (step : A → Step) (args : List A) (t : Entries) → concluded step args t ≡ placed_by ((each_in_turn step args).conclusion t) t
turns_conclude step [] t = refl
turns_conclude step (a ∷ rest) t =
    (λ i. concluded_on (λ u. turns_conclude step rest u i) (placed_by ((step a).conclusion t) t)) ∙ then_concluded ((step a).conclusion t) (each_in_turn step rest).conclusion t

pub turns_look : {A : Type 0} (step : A → Step) (args : List A) (t : Entries) → looked step args t ≡ (each_in_turn step args).keys t
turns_look step [] t = refl
turns_look step (a ∷ rest) t =
    ap (λ keys. (step a).keys t ++ keys)
    ((λ i. looked_on (λ u. turns_look step rest u i) (placed_by ((step a).conclusion t) t)) ∙ then_looked ((step a).conclusion t) (each_in_turn step rest).keys t)

-- How far a function has come that is given a transaction: from the state as it is now, the rest of
-- a run leads to what the whole of it leads to from the first state, and what the rest looks at is
-- added to what was looked at so far.
abbrev pub Goes : {X : Type 0} → (rest whole : Run X) → (old now : Transacted) → Type 0
Goes rest whole old now = (rest.conclusion now.tree ≡ whole.conclusion old.tree) × (now.keys ++ rest.keys now.tree ≡ old.keys ++ whole.keys old.tree) × (now.first ≡ old.first)

-- The invariant of a loop over the arguments of steps in turn.
abbrev pub GoesOn : {A : Type 0} → (A → Step) → (rest args : List A) → (old now : Transacted) → Type 0
GoesOn step rest args old now = Goes (turns step rest) (taking (each_in_turn step args)) old now
