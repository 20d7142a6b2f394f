-- Net changes are those from the first tree to the last.
use Rattle.std.proofs.Common.{◌≡◌, ◌≢◌, ℕ, Bool, true, false, cond, ◌||◌, List, [], ◌∷◌, ◌++◌, Option, Some, None, All, refl, sym, ◌∙◌, ap, subst, inl, inr}
use Rattle.std.specs.Option.{option_or}
use Rattle.std.specs.List.{flat_map, list_any}
use Rattle.std.specs.Str.{bytes_eq}
use Rattle.std.specs.Cmp.Lexicographic.{nat_list_cmp_total}
use Rattle.std.specs.FinMap as map
use Rattle.std.specs.FinMap.{find}
use Rattle.std.proofs.lemmas.Bool.{cases_Bool, or_parts}
use Rattle.std.proofs.lemmas.List.Elements.{All-head, All-tail}
use Rattle.link_tree.specs.declared.entry.Entry.{Entry}
use Rattle.link_tree.specs.declared.change.Change.{Change}
use Rattle.link_tree.specs.Trees.{path_cmp, Entries, KeepsPath, AreFrom, after_changes}
use Rattle.link_tree.specs.Differences.{same, change, differences, changes_between}
use Rattle.link_tree.proofs.Shapes.{same_key}
use Rattle.link_tree.proofs.Changed.{is_at, same_bytes, at_bytes, after_at, after_at-kept, get-after_changes}
use Rattle.link_tree.proofs.Differences.{change_at, get-differences, same_differences, same-itself, same_is}
use Rattle.footprint.specs.Net.{change_of, net_change, row, paths_of, net_map, net}
use Rattle.footprint.specs.Operations.{AreChanges}

-- the change from one entry to another at a path, if the two differ
abbrev from_to : List ℕ → Option Entry → Option Entry → Option Change
from_to q before after = cond (same before after) None (Some (change q before after))

other : (before after : Option Entry) → before ≢ after → same before after ≡ false
other before after apart = elim (cases_Bool (same before after)) [
  | inl alike ↦ absurd (apart (same_is before after alike))
  | inr away ↦ away
]

-- the change at a path records what was there before and what is there after
change_there : (t : Entries) (cs : List Change) (q : List ℕ) → AreFrom t cs → All (λ c. c.before ≢ c.after) cs → change_of cs q ≡ from_to q (map.get t q) (after_at cs q (map.get t q))
change_there t [] q from real = ap (λ b. cond b None (Some (change q (map.get t q) (map.get t q)))) (sym (same-itself (map.get t q)))
change_there t (c ∷ cs) q from real = elim (cases_Bool (bytes_eq q c.path)) [
  | inl here ↦ (
      let at = same_bytes q c.path here in
      let left : after_at (c ∷ cs) q (map.get t q) ≡ c.after =
      ap (λ b. after_at cs q (cond b c.after (map.get t q))) here ∙ after_at-kept cs q c.after (subst (λ p. KeepsPath p cs) (sym at) from.1) in
      let stood : map.get t q ≡ c.before = ap (map.get t) at ∙ from.0 in
      ap (λ b. cond b (Some c) (change_of cs q)) here
      ∙ sym (ap (λ b. cond b None (Some (change c.path c.before c.after))) (other c.before c.after (All-head (λ d. d.before ≢ d.after) c cs real)))
      ∙ (λ i. from_to (sym at i) (sym stood i) (sym left i)))
  | inr away ↦ ap (λ b. cond b (Some c) (change_of cs q)) away ∙ change_there t cs q from.2 (All-tail (λ d. d.before ≢ d.after) c cs real)
      ∙ sym (ap (λ b. from_to q (map.get t q) (after_at cs q (cond b c.after (map.get t q)))) away)
]

-- so it is the difference of the trees there
pub change_is : (t : Entries) (cs : List Change) (q : List ℕ) → AreChanges t cs → change_of cs q ≡ change_at t (after_changes cs t) q
change_is t cs q these = change_there t cs q these.from these.real ∙ ap (from_to q (map.get t q)) (sym (get-after_changes cs t q))

module _ (f : List ℕ → Option Change) (q : List ℕ) where
  find-row : (p : List ℕ) (o : Option Change) (rest : List (List ℕ × Change)) → find path_cmp q (row p o ++ rest) ≡ cond (is_at q p) (option_or o (find path_cmp q rest)) (find path_cmp q rest)
  find-row p None rest = sym (either (is_at q p) (find path_cmp q rest))
    where
      either : (b : Bool) (o : Option Change) → cond b o o ≡ o
      either true o = refl
      either false o = refl
  find-row p (Some c) rest = refl

  step : (p : List ℕ) (any : Bool) → cond (is_at q p) (option_or (f p) (cond any (f q) None)) (cond any (f q) None) ≡ cond (is_at q p || any) (f q) None
  step p any = elim (cases_Bool (is_at q p)) [
    | inl here ↦ rw here (subst (λ k. option_or (f k) (cond any (f q) None) ≡ f q) (same_key q p here) (here_too any (f q)))
    | inr away ↦ rw away refl
  ]
    where
      here_too : (any : Bool) (o : Option Change) → option_or o (cond any o None) ≡ o
      here_too any (Some c) = refl
      here_too true None = refl
      here_too false None = refl

  find-rows : (ps : List (List ℕ)) → find path_cmp q (flat_map (λ p. row p (f p)) ps) ≡ cond (list_any (is_at q) ps) (f q) None
  find-rows [] = refl
  find-rows (p ∷ ps) =
      find-row p (f p) (flat_map (λ p. row p (f p)) ps)
      ∙ ap (λ o. cond (is_at q p) (option_or (f p) o) o) (find-rows ps)
      ∙ step p (list_any (is_at q) ps)

any-append : (q : List ℕ) (ps qs : List (List ℕ)) → list_any (is_at q) (ps ++ qs) ≡ (list_any (is_at q) ps || list_any (is_at q) qs)
any-append q [] qs = refl
any-append q (p ∷ ps) qs = ap (λ b. is_at q p || b) (any-append q ps qs) ∙ or_assoc (is_at q p) _ _
  where
    or_assoc : (x y z : Bool) → (x || (y || z)) ≡ ((x || y) || z)
    or_assoc true y z = refl
    or_assoc false y z = refl

none_listed : (q : List ℕ) (cs : List Change) → list_any (is_at q) (paths_of cs) ≡ false → change_of cs q ≡ None
none_listed q [] h = refl
none_listed q (c ∷ cs) h =
    let off = or_parts (is_at q c.path) (list_any (is_at q) (paths_of cs)) h in
    ap (λ b. cond b (Some c) (change_of cs q)) (sym (at_bytes q c.path) ∙ off.0) ∙ none_listed q cs off.1

-- what the net changes are at each path
pub get-net : (cs ds : List Change) (q : List ℕ) → map.get (net_map cs ds) q ≡ net_change (change_of cs q) (change_of ds q)
unfolding net_map
get-net cs ds q =
    let f : List ℕ → Option Change = λ p. net_change (change_of cs p) (change_of ds p) in
    map.get-from_entries nat_list_cmp_total (flat_map (λ p. row p (f p)) (paths_of cs ++ paths_of ds)) q
    ∙ find-rows f q (paths_of cs ++ paths_of ds)
    ∙ all_paths (list_any (is_at q) (paths_of cs ++ paths_of ds)) refl
  where
    all_paths : (b : Bool) → list_any (is_at q) (paths_of cs ++ paths_of ds) ≡ b → cond b (net_change (change_of cs q) (change_of ds q)) None ≡ net_change (change_of cs q) (change_of ds q)
    all_paths true h = refl
    all_paths false h =
        let off = or_parts (list_any (is_at q) (paths_of cs)) (list_any (is_at q) (paths_of ds)) (sym (any-append q (paths_of cs) (paths_of ds)) ∙ h) in
        sym (λ i. net_change (none_listed q cs off.0 i) (none_listed q ds off.1 i))

-- from one entry to another, and from that to a third
one_after_another : (q : List ℕ) (x y z : Option Entry) → net_change (from_to q x y) (from_to q y z) ≡ from_to q x z
one_after_another q x y z = by_both (same x y) (same y z) refl refl
  where
    by_both : (a b : Bool) → same x y ≡ a → same y z ≡ b → net_change (cond a None (Some (change q x y))) (cond b None (Some (change q y z))) ≡ from_to q x z
    by_both true true is_x is_z =
        ap (λ b. cond b None (Some (change q x z))) (sym (same-itself x) ∙ ap (same x) (same_is x y is_x ∙ same_is y z is_z))
    by_both true false is_x is_z = ap (λ b. cond b None (Some (change q y z))) (sym is_z) ∙ ap (λ o. from_to q o z) (sym (same_is x y is_x))
    by_both false true is_x is_z = ap (λ b. cond b None (Some (change q x y))) (sym is_x) ∙ ap (from_to q x) (same_is y z is_z)
    by_both false false is_x is_z = refl

module _ (t : Entries) (cs ds : List Change) (first : AreChanges t cs) (second : AreChanges (after_changes cs t) ds) where
  -- the net changes are those from the first tree to the last, by their paths
  net_differences : net_map cs ds ≡ differences t (after_changes ds (after_changes cs t))
  net_differences =
      let u : Entries = after_changes cs t in
      let v : Entries = after_changes ds u in
      same_differences _ _ (λ q.
      get-net cs ds q
      ∙ (λ i. net_change (change_is t cs q first i) (change_is u ds q second i))
      ∙ one_after_another q (map.get t q) (map.get u q) (map.get v q)
      ∙ sym (get-differences t v q))

  -- and in order
  pub net_between : net cs ds ≡ changes_between t (after_changes ds (after_changes cs t))
  unfolding net changes_between
  net_between = ap (λ m. map.values m) net_differences
