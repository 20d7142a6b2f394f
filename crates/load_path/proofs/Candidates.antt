-- What is looked at while a unit is looked up.
use Rattle.std.proofs.Common.{◌≡◌, ℕ, zero, suc, ◌≤◌, true, List, [], ◌∷◌, ◌++◌, All, Option, Some, None, is_some, refl, sym, ap, subst, ◌∙◌, arith, ◌⊎◌, inl, inr}
use Rattle.std.specs.Prelude.{Contains, map as list_map}
use Rattle.std.specs.FinMap as map
use Rattle.std.proofs.lemmas.Bool.{false≢true}
use Rattle.std.proofs.lemmas.List.Elements.{All-nil, All-cons, All-head, All-tail, Contains-append_left, Contains-append_right, Contains-append_cases}
use Rattle.unit_name.specs.declared.kind.Kind.{Kind}
use Rattle.unit_name.specs.declared.kind.Kind.TheVariants.{Plain, Template, Instance}
use Rattle.unit_name.specs.Parts.{kind_of}
use Rattle.unit_name.specs.Name.{instance_of, template_of}
use Rattle.unit_paths.specs.Places.{places}
use Rattle.unit_paths.specs.Slots.{unit_slot}
use Rattle.unit_paths.specs.declared.place.Place.{Place}
use Rattle.link_tree.specs.Trees.{Entries}
use Rattle.link_tree.specs.declared.entry.Entry.{Entry}
use Rattle.load_path.specs.Search.{Search}
use Rattle.load_path.specs.Follow.{chain_from, followed, follow}
use Rattle.load_path.specs.Chains.{Leads}
use Rattle.load_path.specs.Find.{Standing, entry_or, first_in, first_of_template, or_template, first_entry, found_from, find}
use Rattle.load_path.specs.Laws.{slots_for, template_slots, candidates, IsTried, IsFirstEntry, FindLooksAlongChain}
use Rattle.load_path.proofs.Along.{first_cell, later_cell, follow_looks_along_chain}

abbrev pub Slot : Type 0
Slot = Place × List ℕ

module _ (t : Entries) where
  -- the candidates that are looked at, and the first one that has an entry
  abbrev pub after_one : Option Entry → List (List ℕ) → List (List ℕ)
  after_one None cells = cells
  after_one (Some entry) cells = []

  abbrev pub or_later : Slot → Option Entry → Option Standing → Option Standing
  or_later slot None later = later
  or_later slot (Some entry) later = Some (slot.0, slot.1, entry)

  pub tried : List Slot → List (List ℕ)
  tried [] = []
  tried (slot ∷ rest) = slot.1 ∷ after_one (map.get t slot.1) (tried rest)

  unfoldable pub found : List Slot → Option Standing
  found [] = None
  found (slot ∷ rest) = or_later slot (map.get t slot.1) (found rest)

  abbrev slots_in : List Place → List ℕ → List Slot
  slots_in ps name = list_map (λ place. (place, unit_slot place name)) ps

  entry_or-is : (rest : Search (Option Standing)) (slot : Slot) (o : Option Entry)
      → ((entry_or rest slot.0 slot.1 o).cells t ≡ after_one o (rest.cells t)) × ((entry_or rest slot.0 slot.1 o).conclusion t ≡ or_later slot o (rest.conclusion t))
  entry_or-is rest slot None = (refl, refl)
  entry_or-is rest slot (Some entry) = (refl, refl)

  first_in-is : (ps : List Place) (name : List ℕ) → ((first_in ps name).cells t ≡ tried (slots_in ps name)) × ((first_in ps name).conclusion t ≡ found (slots_in ps name))
  unfolding tried found
  first_in-is [] name = (refl, refl)
  first_in-is (place ∷ ps) name =
      let slot : Slot = (place, unit_slot place name) in
      let there = map.get t slot.1 in
      let here = entry_or-is (first_in ps name) slot there in
      let rest = first_in-is ps name in (
        ap (λ cells. slot.1 ∷ cells) (here.0 ∙ ap (after_one there) rest.0),
        here.1 ∙ ap (or_later slot there) rest.1,
      )

  template-is : (kind : Kind) (name : List ℕ) → ((first_of_template kind name).cells t ≡ tried (template_slots kind name)) × ((first_of_template kind name).conclusion t ≡ found (template_slots kind name))
  unfolding tried found
  template-is Plain name = (refl, refl)
  template-is Template name = (refl, refl)
  template-is Instance name = first_in-is places (template_of name)

  -- the cells of later candidates, which are only looked at if nothing was found before
  abbrev unless_found : Option Standing → List (List ℕ) → List (List ℕ)
  unless_found None cells = cells
  unless_found (Some first) cells = []

  abbrev or_found : Option Standing → Option Standing → Option Standing
  or_found None later = later
  or_found (Some first) later = Some first

  join-one : (slot : Slot) (o : Option Entry) (rest more : List (List ℕ)) (first : Option Standing)
      → after_one o (rest ++ unless_found first more) ≡ after_one o rest ++ unless_found (or_later slot o first) more
  join-one slot None rest more first = refl
  join-one slot (Some entry) rest more first = refl

  join-later : (slot : Slot) (o : Option Entry) (first later : Option Standing) → or_later slot o (or_found first later) ≡ or_found (or_later slot o first) later
  join-later slot None first later = refl
  join-later slot (Some entry) first later = refl

  joined : (xs ys : List Slot) → (tried (xs ++ ys) ≡ tried xs ++ unless_found (found xs) (tried ys)) × (found (xs ++ ys) ≡ or_found (found xs) (found ys))
  unfolding tried found
  joined [] ys = (refl, refl)
  joined (slot ∷ xs) ys =
      let rest = joined xs ys in
      let there = map.get t slot.1 in (
        ap (λ cells. slot.1 ∷ cells) (ap (after_one there) rest.0 ∙ join-one slot there (tried xs) (tried ys) (found xs)),
        ap (or_later slot there) rest.1 ∙ join-later slot there (found xs) (found ys),
      )

  or_template-is : (name : List ℕ) (o : Option Standing)
      → ((or_template name o).cells t ≡ unless_found o (tried (template_slots (kind_of (instance_of name)) name)))
      × ((or_template name o).conclusion t ≡ or_found o (found (template_slots (kind_of (instance_of name)) name)))
  or_template-is name None = template-is (kind_of (instance_of name)) name
  or_template-is name (Some first) = (refl, refl)

  pub first_entry-is : (name : List ℕ) → ((first_entry name).cells t ≡ tried (candidates name)) × ((first_entry name).conclusion t ≡ found (candidates name))
  unfolding first_entry
  first_entry-is name =
      let own = first_in-is places name in
      let more = or_template-is name ((first_in places name).conclusion t) in
      let both = joined (slots_for name) (template_slots (kind_of (instance_of name)) name) in (
        ap (λ cells. (first_in places name).cells t ++ cells) more.0
            ∙ ap (λ cells. cells ++ unless_found ((first_in places name).conclusion t) (tried (template_slots (kind_of (instance_of name)) name))) own.0
            ∙ ap (λ o. tried (slots_for name) ++ unless_found o (tried (template_slots (kind_of (instance_of name)) name))) own.1 ∙ sym both.0,
        more.1 ∙ ap (λ o. or_found o (found (template_slots (kind_of (instance_of name)) name))) own.1 ∙ sym both.1,
      )

  -- the position of a candidate among the others
  abbrev Splits : List Slot → Slot → Type 0
  Splits xs slot = (before after : List Slot) × (xs ≡ before ++ slot ∷ after) × All (λ earlier. map.get t earlier.1 ≡ None) before

  here : (slot : Slot) (rest : List Slot) → Splits (slot ∷ rest) slot
  here slot rest = ([], rest, refl, All-nil (λ (earlier : Slot). map.get t earlier.1 ≡ None))

  behind : (one slot : Slot) (rest : List Slot) → map.get t one.1 ≡ None → Splits rest slot → Splits (one ∷ rest) slot
  behind one slot rest none (before, after, is, all) = (one ∷ before, after, ap (λ xs. one ∷ xs) is, All-cons (λ (earlier : Slot). map.get t earlier.1 ≡ None) one before none all)

  later_to : (one : Slot) (rest : List Slot) (cell : List ℕ) (o : Option Entry) → map.get t one.1 ≡ o → Contains (after_one o (tried rest)) cell
      → (Contains (tried rest) cell → (slot : Slot) × Splits rest slot × (slot.1 ≡ cell)) → (slot : Slot) × Splits (one ∷ rest) slot × (slot.1 ≡ cell)
  later_to one rest cell None at h next = let found = next h in (found.0, behind one found.0 rest at found.1, found.2)
  later_to one rest cell (Some entry) at (k, within, is) next = absurd (omega (arith, within))

  tried_to : (xs : List Slot) (cell : List ℕ) → Contains (tried xs) cell → (slot : Slot) × Splits xs slot × (slot.1 ≡ cell)
  unfolding tried
  tried_to [] cell (k, within, is) = absurd (omega (arith, within))
  tried_to (one ∷ rest) cell (zero, within, is) = (one, here one rest, is)
  tried_to (one ∷ rest) cell (suc k, within, is) = later_to one rest cell (map.get t one.1) refl (k, omega (arith, within), is) (λ h. tried_to rest cell h)

  found_by : (one : Slot) (rest : List Slot) (first : Standing) (o : Option Entry) → map.get t one.1 ≡ o → or_later one o (found rest) ≡ Some first
      → (found rest ≡ Some first → Splits rest (first.0, first.1) × (map.get t first.1 ≡ Some first.2)) → Splits (one ∷ rest) (first.0, first.1) × (map.get t first.1 ≡ Some first.2)
  found_by one rest first None at h next = let later = next h in (behind one (first.0, first.1) rest at later.0, later.1)
  found_by one rest first (Some entry) at h next =
      let same : (one.0, one.1, entry) ≡ first = cc in
      subst (λ (f : Standing). Splits (one ∷ rest) (f.0, f.1) × (map.get t f.1 ≡ Some f.2)) same (here one rest, at)

  pub found_to : (xs : List Slot) (first : Standing) → found xs ≡ Some first → Splits xs (first.0, first.1) × (map.get t first.1 ≡ Some first.2)
  unfolding found
  found_to [] first h = cc
  found_to (one ∷ rest) first h = found_by one rest first (map.get t one.1) refl h (λ later. found_to rest first later)

  -- the other direction
  none_at : (one : Slot) (before : List Slot) → All (λ earlier. map.get t earlier.1 ≡ None) (one ∷ before) → map.get t one.1 ≡ None
  none_at one before all = All-head (λ (earlier : Slot). map.get t earlier.1 ≡ None) one before all

  tried_at : (before : List Slot) (slot : Slot) (after : List Slot) → All (λ earlier. map.get t earlier.1 ≡ None) before → Contains (tried (before ++ slot ∷ after)) slot.1
  unfolding tried
  tried_at [] slot after all = first_cell slot.1 _
  tried_at (one ∷ before) slot after all =
      later_cell one.1 slot.1 _ (subst (λ o. Contains (after_one o (tried (before ++ slot ∷ after))) slot.1) (sym (none_at one before all))
      (tried_at before slot after (All-tail (λ (earlier : Slot). map.get t earlier.1 ≡ None) one before all)))

  pub found_at : (before : List Slot) (slot : Slot) (after : List Slot) (entry : Entry) → All (λ earlier. map.get t earlier.1 ≡ None) before → map.get t slot.1 ≡ Some entry
      → found (before ++ slot ∷ after) ≡ Some (slot.0, slot.1, entry)
  unfolding found
  found_at [] slot after entry all at = ap (λ o. or_later slot o (found after)) at
  found_at (one ∷ before) slot after entry all at =
      ap (λ o. or_later one o (found (before ++ slot ∷ after))) (none_at one before all) ∙ found_at before slot after entry (All-tail (λ (earlier : Slot). map.get t earlier.1 ≡ None) one before all) at

  -- the cells of the chain from the first entry
  abbrev chain_cells : Option Standing → List (List ℕ)
  chain_cells None = []
  chain_cells (Some first) = (chain_from first.1 first.2).cells t

  found_from-cells : (name : List ℕ) (o : Option Standing) → (found_from name o).cells t ≡ chain_cells o
  found_from-cells name None = refl
  found_from-cells name (Some first) = refl

  find-cells : (name : List ℕ) → (find name).cells t ≡ tried (candidates name) ++ chain_cells (found (candidates name))
  unfolding find
  find-cells name =
      let first = first_entry-is name in
      ap (λ cells. cells ++ (found_from name ((first_entry name).conclusion t)).cells t) first.0
      ∙ ap (λ cells. tried (candidates name) ++ cells) (found_from-cells name ((first_entry name).conclusion t) ∙ ap chain_cells first.1)

  followed-cells : (path : List ℕ) (entry : Entry) → map.get t path ≡ Some entry → (follow path).cells t ≡ path ∷ (chain_from path entry).cells t
  unfolding follow
  followed-cells path entry at = ap (λ o. path ∷ (followed path o).cells t) at

  module _ (name cell : List ℕ) where
    abbrev OnChain : Type 0
    OnChain = (slot : Slot) × IsFirstEntry t name slot × (links : ℕ) × (links ≤ 8) × Leads t slot.1 links cell

    chain_to : (o : Option Standing) → found (candidates name) ≡ o → Contains (chain_cells o) cell → OnChain
    chain_to None is (k, within, at) = absurd (omega (arith, within))
    chain_to (Some first) is here =
        let entry = found_to (candidates name) first is in
        let way = (follow_looks_along_chain first.1 cell t).0 (subst (λ cells. Contains cells cell) (sym (followed-cells first.1 first.2 entry.1)) (later_cell first.1 cell _ here)) in
        ((first.0, first.1), (entry.0, ap is_some entry.1), way.0, way.1, way.2)

    find_to : Contains ((find name).cells t) cell → ((slot : Slot) × IsTried t name slot × (slot.1 ≡ cell)) ⊎ OnChain
    find_to h = elim (Contains-append_cases (tried (candidates name)) (chain_cells (found (candidates name))) cell (subst (λ cells. Contains cells cell) (find-cells name) h)) [
      | inl first ↦ inl (tried_to (candidates name) cell first)
      | inr on ↦ inr (chain_to (found (candidates name)) refl on)
    ]

    tried_from : (slot : Slot) → IsTried t name slot → slot.1 ≡ cell → Contains (tried (candidates name)) cell
    tried_from slot (before, after, is, none) same =
        subst (λ q. Contains (tried (candidates name)) q) same (subst (λ xs. Contains (tried xs) slot.1) (sym is) (tried_at before slot after none))

    chain_from_first : (slot : Slot) → IsTried t name slot → (o : Option Entry) → map.get t slot.1 ≡ o → is_some o ≡ true → Contains ((follow slot.1).cells t) cell
        → Contains (tried (candidates name) ++ chain_cells (found (candidates name))) cell
    chain_from_first slot is None at some h = absurd (false≢true some)
    chain_from_first slot is (Some entry) at some h = by_cell (subst (λ cells. Contains cells cell) (followed-cells slot.1 entry at) h)
      where
        by_cell : Contains (slot.1 ∷ (chain_from slot.1 entry).cells t) cell → Contains (tried (candidates name) ++ chain_cells (found (candidates name))) cell
        by_cell (zero, within, same) = Contains-append_left (tried (candidates name)) _ cell (tried_from slot is same)
        by_cell (suc k, within, same) =
            Contains-append_right (tried (candidates name)) (chain_cells (found (candidates name))) cell
            (subst (λ o. Contains (chain_cells o) cell) (sym (ap found is.2 ∙ found_at is.0 slot is.1 entry is.3 at)) (k, omega (arith, within), same))

    find_from : ((slot : Slot) × IsTried t name slot × (slot.1 ≡ cell)) ⊎ OnChain → Contains ((find name).cells t) cell
    find_from (inl (slot, is, same)) = subst (λ cells. Contains cells cell) (sym (find-cells name)) (Contains-append_left (tried (candidates name)) _ cell (tried_from slot is same))
    find_from (inr (slot, first, links, few, way)) =
        subst (λ cells. Contains cells cell) (sym (find-cells name))
        (chain_from_first slot first.0 (map.get t slot.1) refl first.1 ((follow_looks_along_chain slot.1 cell t).1 (links, few, way)))

pub find_looks_along_chain : FindLooksAlongChain
find_looks_along_chain name cell t = (find_to t name cell, find_from t name cell)
