-- What mask and unmask leave, path by path.
use Rattle.std.proofs.Common.{◌≡◌, ℕ, Bool, true, false, cond, not, ◌&&◌, List, [], ◌∷◌, Option, Some, None, Result, Ok, Err, refl, sym, ◌∙◌, ap, subst, inl, inr}
use Rattle.std.specs.Prelude.{is_none, codes}
use Rattle.std.specs.List.{list_any, find}
use Rattle.std.specs.Option.{option_map_or}
use Rattle.std.specs.Str.{bytes_eq}
use Rattle.std.specs.FinMap as map
use Rattle.std.proofs.lemmas.Bool.{cases_Bool, false≢true, not-true}
use Rattle.link_tree.specs.declared.entry.Entry.{Entry}
use Rattle.unit_paths.specs.Canonical.{is_null_target, merged, walked, with_part, start_of, begins_with_slash}
use Rattle.link_tree.specs.Links.{is_null_link}
use Rattle.unit_paths.specs.Paths.{is_path, is_part, is_text_byte, is_absolute}
use Rattle.link_tree.specs.Trees.{Entries, set_entry}
use Rattle.link_tree.proofs.Changed.{same_bytes, get-set}
use Rattle.unit_paths.specs.declared.place.Scope.{Scope}
use Rattle.slot_commands.specs.declared.mask.Mask.{Mask}
use Rattle.tree_access.specs.declared.refusal.Refusal.{Refusal}
use Rattle.tree_access.specs.declared.refusal.Refusal.TheVariants.{Exists}
use Rattle.tree_access.specs.Placing.{ruled_at}
use Rattle.tree_access.specs.Rules.{Rule}
use Rattle.slot_commands.specs.Masks.{mask_link, is_mask, mask_at, unmask_at, ruled_unit, each_ruled, has_mask, is_in_the_way, masked, unmasked, slots_of, FillsEmptySlots, MaskFills, UnmaskEmpties}
use Rattle.footprint.proofs.Turns.{left_by, goes_on, in_turn, all_turns}
use Rattle.slot_commands.proofs.Outcomes.{refuses, leaves_tree}

-- the tree with a rule followed at one path after another, each on the tree that the earlier ones
-- left
abbrev followed : Rule → List (List ℕ) → Entries → Result Entries Refusal
followed rule [] t = Ok t
followed rule (path ∷ paths) t = goes_on (followed rule paths) (left_by (ruled_at path (rule path (map.get t path))) t)

turns_followed : (rule : Rule) (scope : Scope) (units : List (List ℕ)) (t : Entries) → in_turn (ruled_unit rule scope) units t ≡ followed rule (slots_of scope units) t
turns_followed rule scope [] t = refl
turns_followed rule scope (unit ∷ units) t = ap (λ on. goes_on on (left_by ((ruled_unit rule scope unit).conclusion t) t)) (λ i u. turns_followed rule scope units u i)

is_followed : (rule : Rule) (scope : Scope) (units : List (List ℕ)) (t : Entries) → left_by ((each_ruled rule scope units).conclusion t) t ≡ followed rule (slots_of scope units) t
is_followed rule scope units t = all_turns (ruled_unit rule scope) units t ∙ turns_followed rule scope units t

-- The rule of mask, followed at some paths, fails at the first one that has anything but a link to
-- /dev/null. If there is no such path, links to /dev/null fill the empty ones, and nothing else
-- changes.
abbrev FillsEmptyPaths : Entries → List (List ℕ) → Option (List ℕ) → Type 0
FillsEmptyPaths t paths (Some path) = followed mask_at paths t ≡ Err (Exists path)
FillsEmptyPaths t paths None = (u : Entries) × (followed mask_at paths t ≡ Ok u) × ((path : List ℕ) → map.get u path ≡ masked t paths path)

-- what unmask leaves at a path
abbrev pub left : List ℕ → Option Entry → Option Entry
left path there = cond (has_mask path there) None there

pub unmask_left : (path : List ℕ) (there : Option Entry) → unmask_at path there ≡ Ok (left path there)
unmask_left path None = refl
unmask_left path (Some entry) = elim (is_mask path entry) as (λ b. cond {A = Result (Option Entry) Refusal} b (Ok None) (Ok (Some entry)) ≡ Ok (cond b None (Some entry))) [ true ↦ refl | false ↦ refl ]

left_unmasked : (path : List ℕ) (there : Option Entry) → has_mask path (left path there) ≡ false
left_unmasked path None = refl
left_unmasked path (Some entry) = elim (cases_Bool (is_mask path entry)) [
  | inl mask ↦ rw mask refl
  | inr other ↦ rw other other
]

followed-ok : (rule : List ℕ → Option Entry → Result (Option Entry) Refusal) (p : List ℕ) (ps : List (List ℕ)) (t : Entries) (o : Option Entry) → rule p (map.get t p) ≡ Ok o → followed rule (p ∷ ps) t ≡ followed rule ps (set_entry t p o)
followed-ok rule p ps t o h = ap (λ ruled. goes_on (followed rule ps) (left_by (ruled_at p ruled) t)) h

and_off : (b : Bool) {A : Type 0} (x y : A) → cond (b && false) x y ≡ y
and_off true x y = refl
and_off false x y = refl

unmasked-next : (t : Entries) (p : List ℕ) (ps : List (List ℕ)) (q : List ℕ) → unmasked (set_entry t p (left p (map.get t p))) ps q ≡ unmasked t (p ∷ ps) q
unmasked-next t p ps q = ap (λ there. cond (list_any (bytes_eq q) ps && has_mask q there) None there) (get-set t p (left p (map.get t p)) q) ∙ elim (cases_Bool (bytes_eq q p)) [
  | inl here ↦ rw here (subst (λ k. cond (list_any (bytes_eq q) ps && has_mask q (left k (map.get t k))) None (left k (map.get t k)) ≡ left q (map.get t q)) (same_bytes q p here) (settled q (list_any (bytes_eq q) ps) (map.get t q)))
  | inr away ↦ rw away refl
]
  where
    settled : (q : List ℕ) (b : Bool) (o : Option Entry) → cond (b && has_mask q (left q o)) None (left q o) ≡ left q o
    settled q b o = ap (λ mask. cond (b && mask) None (left q o)) (left_unmasked q o) ∙ and_off b None (left q o)

empties : (t : Entries) (paths : List (List ℕ)) → (u : Entries) × (followed unmask_at paths t ≡ Ok u) × ((path : List ℕ) → map.get u path ≡ unmasked t paths path)
empties t [] = (t, refl, λ q. refl)
empties t (p ∷ ps) =
    let rest = empties (set_entry t p (left p (map.get t p))) ps in
    (rest.0, followed-ok unmask_at p ps t _ (unmask_left p (map.get t p)) ∙ rest.1, λ q. rest.2 q ∙ unmasked-next t p ps q)

null_link : (path : List ℕ) → is_null_target path (codes "/dev/null") ≡ true
unfolding is_null_target is_path merged walked with_part is_part start_of begins_with_slash is_text_byte is_absolute
null_link path = refl

-- what mask leaves at a path if nothing is in the way
abbrev pub filled : Option Entry → Option Entry
filled None = Some mask_link
filled (Some entry) = Some entry

abbrev pub obstructs : List ℕ → Option Entry → Bool
obstructs path there = option_map_or (λ entry. not (is_null_link path entry)) there false

pub mask_filled : (path : List ℕ) (there : Option Entry) → obstructs path there ≡ false → mask_at path there ≡ Ok (filled there)
mask_filled path None free = refl
mask_filled path (Some entry) free = elim (cases_Bool (is_null_link path entry)) [
  | inl mask ↦ rw mask refl
  | inr other ↦ absurd (false≢true (sym free ∙ ap not other))
]

pub mask_refused : (path : List ℕ) (there : Option Entry) → obstructs path there ≡ true → mask_at path there ≡ Err (Exists path)
mask_refused path None h = absurd (false≢true h)
mask_refused path (Some entry) h = rw (not-true (is_null_link path entry) h) refl

filled_free : (path : List ℕ) (there : Option Entry) → obstructs path there ≡ false → obstructs path (filled there) ≡ false
filled_free path None free = ap not (null_link path)
filled_free path (Some entry) free = free

followed-err : (rule : List ℕ → Option Entry → Result (Option Entry) Refusal) (p : List ℕ) (ps : List (List ℕ)) (t : Entries) (refusal : Refusal) → rule p (map.get t p) ≡ Err refusal → followed rule (p ∷ ps) t ≡ Err refusal
followed-err rule p ps t refusal h = ap (λ ruled. goes_on (followed rule ps) (left_by (ruled_at p ruled) t)) h

module _ (t : Entries) (p : List ℕ) (free : obstructs p (map.get t p) ≡ false) where
  abbrev pub next : Entries
  next = set_entry t p (filled (map.get t p))

  -- at all paths, the same entries are in the way as before
  pub alike : (q : List ℕ) → is_in_the_way next q ≡ is_in_the_way t q
  alike q = ap (obstructs q) (get-set t p (filled (map.get t p)) q) ∙ elim (cases_Bool (bytes_eq q p)) [
    | inl here ↦ rw here (subst (λ k. obstructs k (filled (map.get t p)) ≡ obstructs k (map.get t k)) (sym (same_bytes q p here)) (filled_free p (map.get t p) free ∙ sym free))
    | inr away ↦ rw away refl
  ]

  module _ (ps : List (List ℕ)) where
    masked-next : (q : List ℕ) → masked next ps q ≡ masked t (p ∷ ps) q
    masked-next q = ap (λ there. cond (list_any (bytes_eq q) ps && is_none there) (Some mask_link) there) (get-set t p (filled (map.get t p)) q) ∙ elim (cases_Bool (bytes_eq q p)) [
      | inl here ↦ rw here (subst (λ k. cond (list_any (bytes_eq q) ps && is_none (filled (map.get t k))) (Some mask_link) (filled (map.get t k)) ≡ cond (is_none (map.get t q)) (Some mask_link) (map.get t q)) (same_bytes q p here) (settled (list_any (bytes_eq q) ps) (map.get t q)))
      | inr away ↦ rw away refl
    ]
      where
        settled : (b : Bool) (o : Option Entry) → cond (b && is_none (filled o)) (Some mask_link) (filled o) ≡ cond (is_none o) (Some mask_link) o
        settled b None = and_off b (Some mask_link) (Some mask_link)
        settled b (Some entry) = and_off b (Some mask_link) (Some entry)

    later : (found : Option (List ℕ)) → FillsEmptyPaths next ps found → FillsEmptyPaths t (p ∷ ps) found
    later (Some path) rest = followed-ok mask_at p ps t (filled (map.get t p)) (mask_filled p (map.get t p) free) ∙ rest
    later None rest = (rest.0, followed-ok mask_at p ps t (filled (map.get t p)) (mask_filled p (map.get t p) free) ∙ rest.1, λ q. rest.2 q ∙ masked-next q)

fills : (t : Entries) (paths : List (List ℕ)) → FillsEmptyPaths t paths (find (is_in_the_way t) paths)
fills t [] = (t, refl, λ q. refl)
fills t (p ∷ ps) = elim (cases_Bool (is_in_the_way t p)) [
  | inl here ↦ rw here (followed-err mask_at p ps t (Exists p) (mask_refused p (map.get t p) here))
  | inr free ↦ rw free (subst (λ (way : List ℕ → Bool). FillsEmptyPaths t (p ∷ ps) (find way ps)) (λ i q. alike t p free q i) (later t p free ps _ (fills (next t p free) ps)))
]

pub unmask_empties : UnmaskEmpties
unmask_empties = λ unmask t.
    let rest = empties t (slots_of unmask.scope unmask.units) in
    leaves_tree t ((each_ruled unmask_at unmask.scope unmask.units).conclusion t) rest.0 (unmasked t (slots_of unmask.scope unmask.units)) (is_followed unmask_at unmask.scope unmask.units t ∙ rest.1) rest.2

by_first : (mask : Mask) (t : Entries) (found : Option (List ℕ)) → FillsEmptyPaths t (slots_of mask.scope mask.units) found → FillsEmptySlots mask t found
by_first mask t (Some slot) h = refuses t ((each_ruled mask_at mask.scope mask.units).conclusion t) (Exists slot) (is_followed mask_at mask.scope mask.units t ∙ h)
by_first mask t None h = leaves_tree t ((each_ruled mask_at mask.scope mask.units).conclusion t) h.0 (masked t (slots_of mask.scope mask.units)) (is_followed mask_at mask.scope mask.units t ∙ h.1) h.2

pub mask_fills : MaskFills
mask_fills = λ mask t. by_first mask t (find (is_in_the_way t) (slots_of mask.scope mask.units)) (fills t (slots_of mask.scope mask.units))
