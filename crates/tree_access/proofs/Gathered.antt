-- What several keys look at, gathered from a tree.
use Rattle.std.proofs.Common.{◌≡◌, ℕ, Bool, true, false, cond, List, [], ◌∷◌, ◌++◌, map as list_map, All, Contains, Option, Some, None, refl, sym, ap, ◌∙◌, inl, inr}
use Rattle.std.specs.FinMap as map
use Rattle.std.specs.List.{filter}
use Rattle.std.proofs.lemmas.Bool.{cases_Bool, true≢false, or_left, or_right}
use Rattle.std.proofs.lemmas.List.{append_assoc}
use Rattle.std.proofs.lemmas.List.Elements.{All-nil, All-cons, All-contains, All-contains_itself, All-weaker, filter_passes}
use Rattle.link_tree.specs.declared.entry.Entry.{Entry}
use Rattle.link_tree.specs.Trees.{Entries}
use Rattle.link_tree.proofs.Changed.{same_tree}
use Rattle.tree_access.specs.declared.key.Key.{Key}
use Rattle.tree_access.specs.declared.reading.Observation.{Observation}
use Rattle.tree_access.specs.declared.reading.Seen.{Seen}
use Rattle.tree_access.specs.Keys.{Chosen, is_cell, selects, any_selects, chosen_at, those, part, shown, seen}
use Rattle.tree_access.proofs.KeyLaws.{get-part, get-those}
use Rattle.tree_access.specs.Readings.{observed}
use Rattle.tree_access.specs.declared.key.Key.TheVariants.{Cell, Marked, Presets, Links}
use Rattle.tree_access.specs.Seeing.{SeesTheSame, walks}

-- choosing among entries of a wider choice gives the same as choosing among all
chosen_again : (chosen more : Chosen) (path : List ℕ) (there : Option Entry) → ((entry : Entry) → chosen path entry ≡ true → more path entry ≡ true)
    → chosen_at chosen path (chosen_at more path there) ≡ chosen_at chosen path there
chosen_again chosen more path None wider = refl
chosen_again chosen more path (Some entry) wider = elim (cases_Bool (more path entry)) [
  | inl here ↦ ap (λ b. chosen_at chosen path (cond b (Some entry) None)) here
  | inr away ↦ ap (λ b. chosen_at chosen path (cond b (Some entry) None)) away ∙ sym (unchosen (chosen path entry) refl away)
]
  where
    unchosen : (here : Bool) → chosen path entry ≡ here → more path entry ≡ false → chosen_at chosen path (Some entry) ≡ None
    unchosen true here away = absurd (true≢false (sym (wider entry here) ∙ away))
    unchosen false here away = ap (λ b. cond b (Some entry) None) here

-- A key that looks at no more than others sees the same in what these look at.
pub part_of_those : (key : Key) (more : Chosen) (t : Entries) → ((path : List ℕ) (entry : Entry) → selects key path entry ≡ true → more path entry ≡ true)
    → part key (those more t) ≡ part key t
part_of_those key more t wider = same_tree _ _ (λ path.
    get-part key (those more t) path
    ∙ ap (shown key path) (get-those more t path)
    ∙ chosen_again (selects key) more path (map.get t path) (wider path)
    ∙ sym (get-part key t path))

-- those of the keys for which all entries are scanned
abbrev pub walkers_of : List Key → List Key
walkers_of keys = filter walks keys

module _ (path : List ℕ) (entry : Entry) where
  -- what such a key looks at, one of them looks at
  abbrev IsSelected : List Key → Key → Type 0
  IsSelected keys key = walks key ≡ true → selects key path entry ≡ true → any_selects (walkers_of keys) path entry ≡ true

  one_more : (kept : Bool) (key : Key) (walkers : List Key) → any_selects walkers path entry ≡ true → any_selects (cond kept (key ∷ walkers) walkers) path entry ≡ true
  one_more true key walkers here = or_right (selects key path entry) (any_selects walkers path entry) here
  one_more false key walkers here = here

  all_selected : (keys : List Key) → All (IsSelected keys) keys
  all_selected [] = All-nil (IsSelected [])
  all_selected (key ∷ keys) =
      All-cons (IsSelected (key ∷ keys)) key keys
      (λ walking here. ap (λ b. any_selects (cond b (key ∷ walkers_of keys) (walkers_of keys)) path entry) walking ∙ or_left (selects key path entry) (any_selects (walkers_of keys) path entry) here)
      (All-weaker (IsSelected keys) (IsSelected (key ∷ keys)) (λ k selected walking here. one_more (walks key) key (walkers_of keys) (selected walking here)) keys (all_selected keys))

-- Keys see the same in the entries at which those of them look for which all entries are scanned.
pub gathered_shows : (keys : List Key) (t : Entries) → All (SeesTheSame (those (any_selects (walkers_of keys)) t) t) keys
gathered_shows keys t =
    All-weaker (Contains keys) (SeesTheSame (those (any_selects (walkers_of keys)) t) t)
    (λ key among walking. part_of_those key (any_selects (walkers_of keys)) t (λ path entry here. All-contains (IsSelected path entry keys) keys key (all_selected path entry keys) among walking here))
    keys (All-contains_itself keys)

pub no_cells : (keys : List Key) → All (λ key. is_cell key ≡ false) (walkers_of keys)
no_cells keys = All-weaker (λ key. walks key ≡ true) (λ key. is_cell key ≡ false) (λ key. walks_no_cell key) (walkers_of keys) (filter_passes walks keys)
  where
    walks_no_cell : (key : Key) → walks key ≡ true → is_cell key ≡ false
    walks_no_cell (Cell path) h = sym h
    walks_no_cell (Marked scope name) h = refl
    walks_no_cell Presets h = refl
    walks_no_cell Links h = refl

-- one more key is read
pub one_read : (t : Entries) (reading longer all : List Observation) (key : Key) (here : Seen) (left rest : List Key) → longer ≡ reading ++ record { key = key; seen = here } ∷ [] → here ≡ seen key t → left ≡ key ∷ rest
    → reading ++ list_map (observed t) left ≡ all → longer ++ list_map (observed t) rest ≡ all
one_read t reading longer all key here left rest pushed sees next so_far =
    ap (λ (r : List Observation). r ++ list_map (observed t) rest) (pushed ∙ ap (λ (s : Seen). reading ++ record { key = key; seen = s } ∷ []) sees)
    ∙ append_assoc reading (observed t key ∷ []) (list_map (observed t) rest)
    ∙ sym (ap (λ (ks : List Key). reading ++ list_map (observed t) ks) next)
    ∙ so_far
