-- What commands are made of: steps, which look at a tree and determine which entries are wanted at
-- which paths.
use Rattle.std.specs.FinMap as map
use Rattle.std.specs.Prelude.{◌≡◌, ℕ, List, [], ◌∷◌, ◌++◌, map as list_map, Result, Ok, Err}
use Rattle.link_tree.specs.Trees.{Entries}
use Rattle.link_tree.proofs.Agreeing.{both_agree}
use Rattle.tree_access.specs.declared.key.Key.{Key}
use Rattle.tree_access.specs.declared.key.Key.TheVariants.{Cell}
use Rattle.tree_access.specs.declared.refusal.Refusal.{Refusal}
use Rattle.footprint.specs.Inquiry.{Inquiry, over, giving, stands_at}
use Rattle.tree_access.specs.Keys.{Agree, AgreeOn}
use Rattle.tree_access.specs.Placing.{Ruling, IsLookedAt, ruled_at, concluded_after, keys_after, Wanted, all_wanted}
use Rattle.tree_access.proofs.PlacingLaws.{none_looked_at, path_looked_at, looked_before, agreement_after, looked_after}
use Rattle.tree_access.specs.Rules.{Rule}
use Rattle.tree_access.proofs.WantedLaws.{all_wanted_agree, all_wanted_looked_at}

-- A step of a command is an inquiry that determines what is wanted at which paths, or the reason to
-- refuse, and that looks at the cell of each path at which something is placed.
pub record Step : Type 0 where
  pub conclusion : Entries → Ruling
  pub keys : Entries → List Key
  pub agreement : (t u : Entries) → AgreeOn (keys t) t u → (conclusion t ≡ conclusion u) × (keys t ≡ keys u)
  pub looked : (t : Entries) → IsLookedAt (keys t) (conclusion t)

abbrev pub step_of : (q : Inquiry Ruling) → ((t : Entries) → IsLookedAt (q.keys t) (q.conclusion t)) → Step
step_of q looked = record { conclusion = q.conclusion; keys = q.keys; agreement = q.agreement; looked = looked }

-- all stays as it is
abbrev pub nothing : Step
nothing = step_of (over (Ok [])) (λ t. none_looked_at)

-- the command is refused
abbrev pub refuse : Refusal → Step
refuse refusal = step_of (over (Err refusal)) (λ t. tt)

-- a path is left as a rule says, given what is there
abbrev pub ruled : Rule → List ℕ → Step
ruled rule path = step_of (giving (stands_at path) (λ there. ruled_at path (rule path there))) (λ t. path_looked_at path (rule path (map.get t path)))

-- the result of an inquiry decides the step
infixl 10 ◌>>=◌
abbrev pub ◌>>=◌ : {X : Type 0} → Inquiry X → (X → Step) → Step
q >>= f = record {
  conclusion = λ t. (f (q.conclusion t)).conclusion t;
  keys = λ t. q.keys t ++ (f (q.conclusion t)).keys t;
  agreement = both_agree Agree q.conclusion q.keys (λ x. (f x).conclusion) (λ x. (f x).keys) q.agreement (λ x. (f x).agreement);
  looked = λ t. looked_before (q.keys t) ((f (q.conclusion t)).keys t) ((f (q.conclusion t)).conclusion t) ((f (q.conclusion t)).looked t);
}

-- the step for what was found, unless that is a refusal
abbrev pub unless_refused : {X : Type 0} → (X → Step) → Result X Refusal → Step
unless_refused on (Ok x) = on x
unless_refused on (Err refusal) = refuse refusal

-- a step, and then another in the tree that the first leaves; if either is refused, both are
abbrev pub and_then : (first second : Step) → Step
and_then first second = record {
  conclusion = λ t. concluded_after (first.conclusion t) second.conclusion t;
  keys = λ t. first.keys t ++ keys_after (first.conclusion t) second.keys t;
  agreement = both_agree Agree first.conclusion first.keys (λ ruling. concluded_after ruling second.conclusion) (λ ruling. keys_after ruling second.keys) first.agreement
      (agreement_after second.conclusion second.keys second.agreement second.looked);
  looked = λ t. looked_after second.conclusion second.keys second.agreement second.looked (first.keys t) (first.conclusion t) t (first.looked t);
}

-- One way to place: a step for each argument, one after another, up to a refusal.
abbrev pub each_in_turn : {A : Type 0} → (A → Step) → List A → Step
each_in_turn step [] = nothing
each_in_turn step (a ∷ rest) = and_then (step a) (each_in_turn step rest)

-- The other: all at once. The cell of every path is looked at, even if something else is there or
-- nothing is done. The refusal is that of the first path, in byte order, at which something is in
-- the way.
abbrev pub all_at_once : Wanted → Step
all_at_once wanted = record {
  conclusion = all_wanted (map.entries wanted);
  keys = λ t. list_map Cell (map.keys wanted);
  agreement = all_wanted_agree (map.entries wanted);
  looked = all_wanted_looked_at (map.entries wanted);
}
