-- Going through a reading, one observation after another.
use Rattle.std.proofs.Common.{◌≡◌, ℕ, ◌+◌, ◌<◌, ◌≤◌, List, [], ◌∷◌, ◌++◌, length, take, drop, get_or, suc, refl, sym, ap, subst, ◌∙◌, arith}
use Rattle.std.proofs.lemmas.List.{drop_more, take_all, take-append-drop}
use Rattle.std.proofs.Math.Seq.{take-suc}
use Rattle.std.proofs.lemmas.List.Elements.{All-nil, All-cons, All-append}
use Rattle.link_tree.specs.Trees.{Entries}
use Rattle.tree_access.specs.declared.reading.Observation.{Observation}
use Rattle.tree_access.specs.Readings.{Holds, HoldsIn, IsFirstOther}

module _ (t : Entries) (items : List Observation) (i : ℕ) (o : Observation) (is : o ≡ get_or items i o) (within : i < length items) (before : HoldsIn t (take i items)) where
  split : items ≡ take i items ++ o ∷ drop (i + 1) items
  split = sym (take-append-drop i items) ∙ ap (λ rest. take i items ++ rest) (drop_more items i o within ∙ ap (λ x. x ∷ drop (i + 1) items) (sym is))

  -- the first that doesn't hold
  pub first_other : (Holds t o → ⊥) → IsFirstOther t items o.key
  first_other off = (take i items, o, drop (i + 1) items, split, before, off, refl)

  one_longer : take (i + 1) items ≡ take i items ++ o ∷ []
  one_longer = let next : i + 1 ≡ suc i = omega arith in ap (λ n. take n items) next ∙ take-suc items i o within ∙ ap (λ x. take i items ++ x ∷ []) (sym is)

  -- one more that holds
  pub one_more : Holds t o → HoldsIn t (take (i + 1) items)
  one_more on = subst (HoldsIn t) (sym one_longer) (All-append (Holds t) (take i items) (o ∷ []) before (All-cons (Holds t) o [] on (All-nil (Holds t))))

-- all hold
pub all_hold : (t : Entries) (items : List Observation) (i : ℕ) → length items ≤ i → HoldsIn t (take i items) → HoldsIn t items
all_hold t items i through before = subst (HoldsIn t) (take_all i items through) before
