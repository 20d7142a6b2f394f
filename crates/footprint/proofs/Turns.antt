-- Arguments that are processed one after another, each in the tree that the earlier ones left.
use Rattle.std.proofs.Common.{◌≡◌, List, [], ◌∷◌, ◌++◌, Result, Ok, Err, refl, ap, ◌∙◌}
use Rattle.link_tree.specs.Trees.{Entries, set_entry}
use Rattle.tree_access.specs.declared.key.Key.{Key}
use Rattle.tree_access.specs.declared.refusal.Refusal.{Refusal}
use Rattle.tree_access.specs.Placing.{Placed, Ruling, placed_in, placed_before, concluded_after, keys_after}
use Rattle.footprint.specs.Steps.{Step, each_in_turn}

-- the tree that a ruling leaves, or the refusal
abbrev pub left_by : Ruling → Entries → Result Entries Refusal
left_by (Ok placed) t = Ok (placed_in placed t)
left_by (Err refusal) t = Err refusal

abbrev pub leaves : Step → Entries → Result Entries Refusal
leaves s t = left_by (s.conclusion t) t

abbrev pub goes_on : (Entries → Result Entries Refusal) → Result Entries Refusal → Result Entries Refusal
goes_on on (Ok u) = on u
goes_on on (Err refusal) = Err refusal

-- the tree that is left after the arguments are processed one after another
abbrev pub in_turn : {A : Type 0} → (A → Step) → List A → Entries → Result Entries Refusal
in_turn step [] t = Ok t
in_turn step (a ∷ rest) t = goes_on (in_turn step rest) (leaves (step a) t)

abbrev pub looks_on : (Entries → List Key) → Result Entries Refusal → List Key
looks_on on (Ok u) = on u
looks_on on (Err refusal) = []

-- the keys at which these steps look
abbrev pub keys_in_turn : {A : Type 0} → (A → Step) → List A → Entries → List Key
keys_in_turn step [] t = []
keys_in_turn step (a ∷ rest) t = (step a).keys t ++ looks_on (keys_in_turn step rest) (leaves (step a) t)

-- placing two lists joined is placing one after the other
placed_in-append : (first second : List Placed) (t : Entries) → placed_in (first ++ second) t ≡ placed_in second (placed_in first t)
placed_in-append [] second t = refl
placed_in-append (p ∷ first) second t = placed_in-append first second (set_entry t p.0 p.1)

pub left_more : (placed : List Placed) (ruling : Ruling) (t : Entries) → left_by (placed_before placed ruling) t ≡ left_by ruling (placed_in placed t)
left_more placed (Ok more) t = ap (λ u. Ok u) (placed_in-append placed more t)
left_more placed (Err refusal) t = refl

-- the tree that a step and then another leave
left_then : (ruling : Ruling) (next : Step) (t : Entries) → left_by (concluded_after ruling next.conclusion t) t ≡ goes_on (leaves next) (left_by ruling t)
left_then (Ok placed) next t = left_more placed (next.conclusion (placed_in placed t)) t
left_then (Err refusal) next t = refl

looked_then : (ruling : Ruling) (next : Step) (t : Entries) → keys_after ruling next.keys t ≡ looks_on next.keys (left_by ruling t)
looked_then (Ok placed) next t = refl
looked_then (Err refusal) next t = refl

module _ {A : Type 0} (step : A → Step) where
  -- placing for each argument in turn leaves the tree that the arguments leave in turn
  pub all_turns : (args : List A) (t : Entries) → left_by ((each_in_turn step args).conclusion t) t ≡ in_turn step args t
  all_turns [] t = refl
  all_turns (a ∷ rest) t = left_then ((step a).conclusion t) (each_in_turn step rest) t ∙ ap (λ on. goes_on on (leaves (step a) t)) (λ i u. all_turns rest u i)

  -- and its keys are the keys of those steps
  pub all_keys : (args : List A) (t : Entries) → (each_in_turn step args).keys t ≡ keys_in_turn step args t
  all_keys [] t = refl
  all_keys (a ∷ rest) t =
      ap (λ keys. (step a).keys t ++ keys)
      (looked_then ((step a).conclusion t) (each_in_turn step rest) t ∙ ap (λ on. looks_on on (leaves (step a) t)) (λ i u. all_keys rest u i))
