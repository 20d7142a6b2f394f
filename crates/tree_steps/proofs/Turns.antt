-- Changes that start from what is in a tree may be made in turns.
use Rattle.std.proofs.Common.{◌≡◌, ℕ, true, false, cond, List, [], ◌∷◌, ◌++◌, Option, Some, None, refl, sym, ap, ◌∙◌, subst, inl, inr}
use Rattle.std.specs.Prelude.{not, ◌&&◌, is_some}
use Rattle.std.specs.Str.{bytes_eq}
use Rattle.std.specs.FinMap as map
use Rattle.std.proofs.lemmas.List.{append_assoc}
use Rattle.std.proofs.lemmas.Bool.{cases_Bool}
use Rattle.link_tree.specs.declared.entry.Entry.{Entry}
use Rattle.link_tree.specs.declared.entry.Entry.TheVariants.{File, Link}
use Rattle.link_tree.specs.declared.change.Change.{Change}
use Rattle.link_tree.specs.Trees.{Entries, KeepsPath, AreFrom, after_change, after_changes}
use Rattle.link_tree.specs.Differences.{changes_between}
use Rattle.link_tree.proofs.Changed.{get-set, get-set_other, same_tree, same_bytes, other_bytes, after_at, after_at-kept, get-after_changes}
use Rattle.link_tree.proofs.Leads.{leads}
use Rattle.tree_steps.specs.declared.turn.Turn.TheVariants.{FilesPut, LinksPut, LinksTaken, FilesTaken}
use Rattle.tree_steps.specs.Steps.{is_file, is_link, comes_in, those, in_turn, steps_between, IsOnTheWay, LeadsOn, LeadsInTurn}

-- a path that no change is at, with one more change of another path anywhere in the list
keeps_more : (q : List ℕ) (xs ys : List Change) (c : Change) → KeepsPath q (xs ++ ys) → bytes_eq q c.path ≡ false → KeepsPath q (xs ++ c ∷ ys)
keeps_more q [] ys c h away = (away, h)
keeps_more q (x ∷ xs) ys c h away = (h.0, keeps_more q xs ys c h.1 away)

-- the first change may be made later
from_later : (m : Entries) (c : Change) (xs ys : List Change) → AreFrom m (c ∷ (xs ++ ys)) → AreFrom m (xs ++ c ∷ ys)
from_later m c [] ys h = h
from_later m c (x ∷ xs) ys h = (h.2.0, keeps_more x.path xs ys c h.2.1 (other_bytes c.path x.path h.1.0), from_later m c xs ys (h.0, h.1.1, h.2.2))

-- two changes of different paths have the same result in either order
either_order : (q : List ℕ) (c x : Change) (o : Option Entry) → bytes_eq c.path x.path ≡ false
    → cond (bytes_eq q x.path) x.after (cond (bytes_eq q c.path) c.after o) ≡ cond (bytes_eq q c.path) c.after (cond (bytes_eq q x.path) x.after o)
either_order q c x o apart = elim (cases_Bool (bytes_eq q c.path)) [
  | inl here ↦ (
      let away : bytes_eq q x.path ≡ false = subst (λ p. bytes_eq p x.path ≡ false) (sym (same_bytes q c.path here)) apart in
      rw (here, away) refl)
  | inr other ↦ rw other refl
]

leaves_later : (q : List ℕ) (c : Change) (xs ys : List Change) (o : Option Entry) → KeepsPath c.path (xs ++ ys) → after_at (xs ++ c ∷ ys) q o ≡ after_at (c ∷ (xs ++ ys)) q o
leaves_later q c [] ys o h = refl
leaves_later q c (x ∷ xs) ys o h = leaves_later q c xs ys (cond (bytes_eq q x.path) x.after o) h.1 ∙ ap (after_at (xs ++ ys) q) (sym (either_order q c x o h.0))

-- One list is the other with one more change somewhere in it.
abbrev IsWith : Change → (fewer more : List Change) → Type 0
IsWith c fewer more = (front : List Change) × (back : List Change) × (front ++ back ≡ fewer) × (front ++ c ∷ back ≡ more)

-- the turn of a change, by its entries before and after
abbrev TurnsOf : Change → Option Entry → Option Entry → Type 0
TurnsOf c before after =
    (comes_in FilesPut c ≡ is_file after) × (comes_in LinksPut c ≡ is_link after)
    × (comes_in LinksTaken c ≡ (not (is_some after) && is_link before)) × (comes_in FilesTaken c ≡ (not (is_some after) && not (is_link before)))

turns : (c : Change) (before after : Option Entry) → c.before ≡ before → c.after ≡ after → TurnsOf c before after
turns c before after was is =
    (ap is_file is, ap is_link is, (λ i. not (is_some (is i)) && is_link (was i)), (λ i. not (is_some (is i)) && not (is_link (was i))))

-- one more change is somewhere in its turn
one_more : (c : Change) (cs : List Change) → IsWith c (in_turn cs) (in_turn (c ∷ cs))
one_more c cs = by_sides c.before c.after (turns c c.before c.after refl refl)
  where
    fp : List Change
    fp = those FilesPut cs

    lp : List Change
    lp = those LinksPut cs

    lt : List Change
    lt = those LinksTaken cs

    ft : List Change
    ft = those FilesTaken cs

    by_sides : (before after : Option Entry) → TurnsOf c before after → IsWith c (in_turn cs) (in_turn (c ∷ cs))
    by_sides before (Some (File contents)) at = rw (at.0, at.1, at.2, at.3) ([], fp ++ lp ++ lt ++ ft, refl, refl)
    by_sides before (Some (Link target)) at = rw (at.0, at.1, at.2, at.3) (
      fp,
      lp ++ lt ++ ft,
      sym (append_assoc fp (lp ++ lt) ft) ∙ ap (λ front. front ++ ft) (sym (append_assoc fp lp lt)),
      sym (append_assoc fp (c ∷ (lp ++ lt)) ft) ∙ ap (λ front. front ++ ft) (sym (append_assoc fp (c ∷ lp) lt)),
    )
    by_sides (Some (Link target)) None at = rw (at.0, at.1, at.2, at.3) (fp ++ lp, lt ++ ft, sym (append_assoc (fp ++ lp) lt ft), sym (append_assoc (fp ++ lp) (c ∷ lt) ft))
    by_sides (Some (File contents)) None at = rw (at.0, at.1, at.2, at.3) (fp ++ lp ++ lt, ft, refl, refl)
    by_sides None None at = rw (at.0, at.1, at.2, at.3) (fp ++ lp ++ lt, ft, refl, refl)

keeps_with : (q : List ℕ) (c : Change) (fewer more : List Change) → IsWith c fewer more → KeepsPath q fewer → bytes_eq q c.path ≡ false → KeepsPath q more
keeps_with q c fewer more at h away = subst (KeepsPath q) at.3 (keeps_more q at.0 at.1 c (subst (KeepsPath q) (sym at.2) h) away)

from_with : (m : Entries) (c : Change) (fewer more : List Change) → IsWith c fewer more → AreFrom m (c ∷ fewer) → AreFrom m more
from_with m c fewer more at h = subst (AreFrom m) at.3 (from_later m c at.0 at.1 (subst (λ cs. AreFrom m (c ∷ cs)) (sym at.2) h))

leaves_with : (q : List ℕ) (c : Change) (fewer more : List Change) (o : Option Entry) → IsWith c fewer more → KeepsPath c.path fewer → after_at more q o ≡ after_at (c ∷ fewer) q o
leaves_with q c fewer more o at h =
    ap (λ cs. after_at cs q o) (sym at.3) ∙ leaves_later q c at.0 at.1 o (subst (KeepsPath c.path) (sym at.2) h) ∙ ap (λ cs. after_at (c ∷ cs) q o) at.2

-- in turns, changes keep the same paths, start from the same tree and have the same result
turn_keeps : (q : List ℕ) (cs : List Change) → KeepsPath q cs → KeepsPath q (in_turn cs)
turn_keeps q [] h = tt
turn_keeps q (c ∷ cs) h = keeps_with q c (in_turn cs) (in_turn (c ∷ cs)) (one_more c cs) (turn_keeps q cs h.1) h.0

turn_from : (m : Entries) (cs : List Change) → AreFrom m cs → AreFrom m (in_turn cs)
turn_from m [] h = tt
turn_from m (c ∷ cs) h = from_with m c (in_turn cs) (in_turn (c ∷ cs)) (one_more c cs) (h.0, turn_keeps c.path cs h.1, turn_from m cs h.2)

turn_leaves : (m : Entries) (q : List ℕ) (cs : List Change) (o : Option Entry) → AreFrom m cs → after_at (in_turn cs) q o ≡ after_at cs q o
turn_leaves m q [] o h = refl
turn_leaves m q (c ∷ cs) o h =
    leaves_with q c (in_turn cs) (in_turn (c ∷ cs)) o (one_more c cs) (turn_keeps c.path cs h.1) ∙ turn_leaves m q cs (cond (bytes_eq q c.path) c.after o) h.2

turn_to : (m : Entries) (cs : List Change) → AreFrom m cs → after_changes (in_turn cs) m ≡ after_changes cs m
turn_to m cs h = same_tree _ _ (λ q. get-after_changes (in_turn cs) m q ∙ turn_leaves m q cs (map.get m q) h ∙ sym (get-after_changes cs m q))

-- changes still start from the tree after a change of another path was made
still_from : (m : Entries) (c : Change) (cs : List Change) → KeepsPath c.path cs → AreFrom m cs → AreFrom (after_change c m) cs
still_from m c [] apart h = tt
still_from m c (d ∷ ds) apart h =
    (get-set_other m c.path c.after d.path (other_bytes c.path d.path apart.0) ∙ h.0, h.1, still_from m c ds apart.1 h.2)

module _ (old new : Entries) where
  -- a path that was changed has its final entry
  next_on_way : (now : Entries) (c : Change) (cs : List Change) → IsOnTheWay old new now → KeepsPath c.path cs → after_changes cs (after_change c now) ≡ new → IsOnTheWay old new (after_change c now)
  next_on_way now c cs way apart to path = elim (cases_Bool (bytes_eq path c.path)) [
    | inl here ↦ inr (
        let next : Entries = after_change c now in
        sym (after_at-kept cs path (map.get next path) (subst (λ p. KeepsPath p cs) (sym (same_bytes path c.path here)) apart))
        ∙ sym (get-after_changes cs next path) ∙ ap (λ t. map.get t path) to)
    | inr away ↦ (
        let same : map.get (after_change c now) path ≡ map.get now path = get-set now c.path c.after path ∙ ap (λ b. cond b c.after (map.get now path)) away in
        elim (way path) [ inl was ↦ inl (same ∙ was) | inr is ↦ inr (same ∙ is) ])
  ]

  leads_on : (now : Entries) (cs : List Change) → IsOnTheWay old new now → AreFrom now cs → after_changes cs now ≡ new → LeadsOn old new now cs
  leads_on now [] way from to = to
  leads_on now (c ∷ cs) way from to =
      (way, from.0, leads_on (after_change c now) cs (next_on_way now c cs way from.1 to) (still_from now c cs from.1 from.2) to)

  pub steps_from : AreFrom old (steps_between old new)
  steps_from = turn_from old (changes_between old new) ((leads old new).from)

  pub steps_to : after_changes (steps_between old new) old ≡ new
  steps_to = let way = leads old new in turn_to old (changes_between old new) way.from ∙ way.to

  pub steps_lead : LeadsInTurn old new (steps_between old new)
  steps_lead = leads_on old (steps_between old new) (λ path. inl refl) steps_from steps_to
