-- Arguments that are taken in turn are refused exactly if one is, in the tree in which its turn
-- comes.
use Rattle.std.proofs.Common.{◌≡◌, List, [], ◌∷◌, ◌++◌, ◌↔◌, Ok, Err, refl, sym, ap, ◌∙◌}
use Rattle.link_tree.specs.Trees.{Entries}
use Rattle.tree_access.specs.declared.refusal.Refusal.{Refusal}
use Rattle.tree_access.specs.Placing.{Ruling, placed_in}
use Rattle.footprint.specs.Steps.{Step, each_in_turn}
use Rattle.footprint.proofs.Turns.{left_by, goes_on, in_turn, all_turns}
use Rattle.footprint_laws.specs.Sets.{AreTaken, HasTurn}
use Rattle.footprint_laws.specs.Sets.AreTaken.{NoMore, OneMore}
use Rattle.refusal_laws.proofs.Rulings.{refused}

ruling_left : (ruling : Ruling) (t : Entries) (refusal : Refusal) → left_by ruling t ≡ Err refusal → ruling ≡ Err refusal
ruling_left (Ok placed) t refusal is = cc
ruling_left (Err other) t refusal is = let same : other ≡ refusal = cc in ap refused same

module _ {A : Type 0} (step : A → Step) where
  abbrev pub IsRefusedInTurn : List A → Entries → Refusal → Type 0
  IsRefusedInTurn args t refusal = (u : Entries) × (one : A) × HasTurn step args t u one × ((step one).conclusion u ≡ Err refusal)

  one_refused : (args : List A) (t : Entries) (refusal : Refusal) → in_turn step args t ≡ Err refusal → IsRefusedInTurn args t refusal
  one_refused [] t refusal is = cc
  one_refused (first ∷ args) t refusal is = by_ruling (λ u. one_refused args u refusal) ((step first).conclusion t) refl is
    where
      by_ruling : ((u : Entries) → in_turn step args u ≡ Err refusal → IsRefusedInTurn args u refusal) → (ruling : Ruling) → (step first).conclusion t ≡ ruling
          → goes_on (in_turn step args) (left_by ruling t) ≡ Err refusal → IsRefusedInTurn (first ∷ args) t refusal
      by_ruling on (Ok placed) at is =
          let rest = on (placed_in placed t) is in
          (rest.0, rest.1, (first ∷ rest.2.0, rest.2.1, ap (λ args. first ∷ args) rest.2.2, OneMore first rest.2.0 t rest.0 placed at rest.2.3), rest.3)
      by_ruling on (Err other) at is = (t, first, ([], args, refl, NoMore t), at ∙ ruling_left (Err other) t refusal is)

  taken_before : (before after : List A) (one : A) (t u : Entries) (refusal : Refusal) → AreTaken step before t u → (step one).conclusion u ≡ Err refusal → in_turn step (before ++ one ∷ after) t ≡ Err refusal
  taken_before [] after one t _ refusal (NoMore _) is = ap (λ ruling. goes_on (in_turn step after) (left_by ruling t)) is
  taken_before (first ∷ before) after one t u refusal (OneMore _ _ _ _ placed at taken) is =
      ap (λ ruling. goes_on (in_turn step (before ++ one ∷ after)) (left_by ruling t)) at ∙ taken_before before after one (placed_in placed t) u refusal taken is

  pub refused_in_turn : (args : List A) (t : Entries) (refusal : Refusal) → ((each_in_turn step args).conclusion t ≡ Err refusal) ↔ IsRefusedInTurn args t refusal
  refused_in_turn args t refusal = (
    λ is. one_refused args t refusal (sym (all_turns step args t) ∙ ap (λ ruling. left_by ruling t) is),
    λ why. ruling_left ((each_in_turn step args).conclusion t) t refusal
        (all_turns step args t ∙ ap (λ args. in_turn step args t) why.2.2 ∙ taken_before why.2.0 why.2.1 why.1 t why.0 refusal why.2.3 why.3),
  )
