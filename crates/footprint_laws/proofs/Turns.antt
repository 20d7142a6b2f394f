-- Arguments that are taken in turn look at the keys of each, in the tree in which its turn comes.
use Rattle.std.proofs.Common.{◌≡◌, List, [], ◌∷◌, ◌++◌, Contains, Ok, Err, refl, sym, ap, subst, inl, inr}
use Rattle.std.proofs.lemmas.List.Elements.{Contains-append_left, Contains-append_right, Contains-append_cases}
use Rattle.link_tree.specs.Trees.{Entries}
use Rattle.tree_access.specs.declared.key.Key.{Key}
use Rattle.tree_access.specs.Placing.{Ruling, placed_in}
use Rattle.footprint.specs.Steps.{Step}
use Rattle.footprint.proofs.Turns.{left_by, leaves, looks_on, keys_in_turn}
use Rattle.footprint_laws.specs.Sets.{AreTaken, HasTurn}
use Rattle.footprint_laws.specs.Sets.AreTaken.{NoMore, OneMore}
use Rattle.footprint_laws.proofs.Keys.{no_key}

module _ {A : Type 0} (step : A → Step) where
  abbrev pub LooksInTurn : List A → Entries → Key → Type 0
  LooksInTurn args t key = (u : Entries) × (one : A) × HasTurn step args t u one × Contains ((step one).keys u) key

  pub turn_only : (args : List A) (t : Entries) (key : Key) → Contains (keys_in_turn step args t) key → LooksInTurn args t key
  turn_only [] t key here = no_key key here
  turn_only (first ∷ args) t key here = elim (Contains-append_cases ((step first).keys t) (looks_on (keys_in_turn step args) (leaves (step first) t)) key here) [
    | inl own ↦ (t, first, ([], args, refl, NoMore t), own)
    | inr later ↦ by_ruling (λ u. turn_only args u key) ((step first).conclusion t) refl later
  ]
    where
      by_ruling : ((u : Entries) → Contains (keys_in_turn step args u) key → LooksInTurn args u key) → (ruling : Ruling) → (step first).conclusion t ≡ ruling → Contains (looks_on (keys_in_turn step args) (left_by ruling t)) key → LooksInTurn (first ∷ args) t key
      by_ruling on (Ok placed) is here =
          let rest = on (placed_in placed t) here in
          (rest.0, rest.1, (first ∷ rest.2.0, rest.2.1, ap (λ args. first ∷ args) rest.2.2, OneMore first rest.2.0 t rest.0 placed is rest.2.3), rest.3)
      by_ruling on (Err refusal) is here = no_key key here

  turn_behind : (before after : List A) (one : A) (t u : Entries) (key : Key) → AreTaken step before t u → Contains ((step one).keys u) key → Contains (keys_in_turn step (before ++ one ∷ after) t) key
  turn_behind [] after one t _ key (NoMore _) here = Contains-append_left ((step one).keys t) (looks_on (keys_in_turn step after) (leaves (step one) t)) key here
  turn_behind (first ∷ before) after one t u key (OneMore _ _ _ _ placed is taken) here =
      Contains-append_right ((step first).keys t) (looks_on (keys_in_turn step (before ++ one ∷ after)) (leaves (step first) t)) key
      (subst (λ ruling. Contains (looks_on (keys_in_turn step (before ++ one ∷ after)) (left_by ruling t)) key) (sym is) (turn_behind before after one (placed_in placed t) u key taken here))

  pub turn_all : (args : List A) (t u : Entries) (one : A) (key : Key) → HasTurn step args t u one → Contains ((step one).keys u) key → Contains (keys_in_turn step args t) key
  turn_all args t u one key turn here = subst (λ args. Contains (keys_in_turn step args t) key) (sym turn.2) (turn_behind turn.0 turn.1 one t u key turn.3 here)
