-- Changes that touch none of some keys.
use Rattle.std.proofs.Common.{◌≡◌, ◌||◌, ℕ, Bool, true, false, cond, List, [], ◌∷◌, Option, Some, None, All, Contains, refl, sym, ap, ◌∙◌, subst, inl, inr}
use Rattle.std.specs.FinMap as map
use Rattle.std.specs.Str.{bytes_eq}
use Rattle.std.proofs.lemmas.Bool.{cases_Bool, false≢true, or_parts}
use Rattle.std.proofs.lemmas.List.Elements.{All-head, All-tail, All-nil, All-cons, All-weaker, All-contains}
use Rattle.std.proofs.lemmas.Slice.Eq.{bytes_eq-Decides}
use Rattle.link_tree.specs.declared.entry.Entry.{Entry}
use Rattle.link_tree.specs.declared.change.Change.{Change}
use Rattle.unit_paths.specs.declared.place.Scope.{Scope}
use Rattle.unit_paths.specs.Slots.{slot_of}
use Rattle.link_tree.specs.Trees.{Entries, AreFrom, KeepsPath, after_change, after_changes, taken_back, inverse_of}
use Rattle.link_tree.proofs.Changed.{same_tree, same_bytes, other_bytes, after_at, get-set, get-after_changes}
use Rattle.tree_access.specs.declared.key.Key.{Key}
use Rattle.tree_access.specs.declared.key.Key.TheVariants.{Cell, Marked, Presets, Links}
use Rattle.tree_access.specs.Keys.{shows, shown, is_marked, touches, Agree, AgreeOn, Untouched}
use Rattle.unit_paths.specs.Kinds.{is_preset, is_dependency}
use Rattle.tree_access.proofs.KeyLaws.{AgreeAt, agree_from, is_changed, unchanged, at_changed}

hidden : (key : Key) (path : List ℕ) (there : Option Entry) → shows key path there ≡ false → shown key path there ≡ None
hidden key path there h = ap (λ b. cond b there None) h

shows_cell : (cell path : List ℕ) (there : Option Entry) → bytes_eq path cell ≡ false → shows (Cell cell) path there ≡ false
shows_cell cell path None away = refl
shows_cell cell path (Some entry) away = away

shows_marked : (scope : Scope) (name path : List ℕ) (there : Option Entry) → is_marked scope name path there ≡ false → shows (Marked scope name) path there ≡ false
shows_marked scope name path None h = refl
shows_marked scope name path (Some entry) h = h

shows_presets : (path : List ℕ) (there : Option Entry) → is_preset (slot_of path) ≡ false → shows Presets path there ≡ false
shows_presets path None h = refl
shows_presets path (Some entry) h = h

shows_links : (path : List ℕ) (there : Option Entry) → is_dependency (slot_of path) ≡ false → shows Links path there ≡ false
shows_links path None h = refl
shows_links path (Some entry) h = h

-- a key that a change doesn't touch sees neither the entry before the change nor the entry after it
hidden_both : (key : Key) (c : Change) → touches c key ≡ false → (shown key c.path c.before ≡ None) × (shown key c.path c.after ≡ None)
hidden_both (Cell cell) c h = (hidden (Cell cell) c.path c.before (shows_cell cell c.path c.before h), hidden (Cell cell) c.path c.after (shows_cell cell c.path c.after h))
hidden_both (Marked scope name) c h =
    let parts = or_parts (is_marked scope name c.path c.before) (is_marked scope name c.path c.after) h in
    (hidden (Marked scope name) c.path c.before (shows_marked scope name c.path c.before parts.0), hidden (Marked scope name) c.path c.after (shows_marked scope name c.path c.after parts.1))
hidden_both Presets c h = (hidden Presets c.path c.before (shows_presets c.path c.before h), hidden Presets c.path c.after (shows_presets c.path c.after h))
hidden_both Links c h = (hidden Links c.path c.before (shows_links c.path c.before h), hidden Links c.path c.after (shows_links c.path c.after h))

-- what a change leaves at each path
after_one : (c : Change) (t : Entries) (path : List ℕ) → map.get (after_change c t) path ≡ cond (bytes_eq path c.path) c.after (map.get t path)
after_one c t path = get-set t c.path c.after path

one_change : (key : Key) (c : Change) (t : Entries) → map.get t c.path ≡ c.before → touches c key ≡ false → AgreeAt key t (after_change c t)
one_change key c t from free path = elim (cases_Bool (bytes_eq path c.path)) [
  | inl here ↦ (
      let same = same_bytes path c.path here in
      let none = hidden_both key c free in
      let before : shown key path (map.get t path) ≡ None = subst (λ p. shown key p (map.get t p) ≡ None) (sym same) (ap (shown key c.path) from ∙ none.0) in
      let after : shown key path c.after ≡ None = subst (λ p. shown key p c.after ≡ None) (sym same) none.1 in
      before ∙ sym (ap (shown key path) (after_one c t path ∙ ap (λ b. cond b c.after (map.get t path)) here) ∙ after))
  | inr away ↦ ap (shown key path) (sym (after_one c t path ∙ ap (λ b. cond b c.after (map.get t path)) away))
]

-- after a change at a path that the rest don't change, the tree still has what the rest start from
from_after : (c : Change) (cs : List Change) (t : Entries) → KeepsPath c.path cs → AreFrom t cs → AreFrom (after_change c t) cs
from_after c [] t apart h = tt
from_after c (d ∷ cs) t apart h =
    (after_one c t d.path ∙ ap (λ b. cond b c.after (map.get t d.path)) (other_bytes c.path d.path apart.0) ∙ h.0, h.1, from_after c cs t apart.1 h.2)

-- A key that no change touches sees the same before and after.
pub agree_untouched : (key : Key) (cs : List Change) (t : Entries) → AreFrom t cs → All (λ c. touches c key ≡ false) cs → Agree key t (after_changes cs t)
agree_untouched key [] t from free = refl
agree_untouched key (c ∷ cs) t from free =
    agree_from key t (after_change c t) (one_change key c t from.0 (All-head (λ d. touches d key ≡ false) c cs free))
    ∙ agree_untouched key cs (after_change c t) (from_after c cs t from.1 from.2) (All-tail (λ d. touches d key ≡ false) c cs free)

pub agree_on_untouched : (keys : List Key) (cs : List Change) (t : Entries) → AreFrom t cs → Untouched cs keys → AgreeOn keys t (after_changes cs t)
agree_on_untouched keys cs t from free =
    All-weaker (λ key. All (λ c. touches c key ≡ false) cs) (λ key. Agree key t (after_changes cs t)) (λ key h. agree_untouched key cs t from h) keys free

or_other : (a b : Bool) → (a || b) ≡ (b || a)
or_other true true = refl
or_other true false = refl
or_other false true = refl
or_other false false = refl

-- a change touches the same keys as its inverse
touches-taken_back : (c : Change) (key : Key) → touches (taken_back c) key ≡ touches c key
touches-taken_back c (Cell path) = refl
touches-taken_back c (Marked scope name) = or_other (is_marked scope name c.path c.after) (is_marked scope name c.path c.before)
touches-taken_back c Presets = refl
touches-taken_back c Links = refl

free-inverse : (key : Key) (cs : List Change) → All (λ c. touches c key ≡ false) cs → All (λ c. touches c key ≡ false) (inverse_of cs)
free-inverse key [] h = All-nil (λ c. touches c key ≡ false)
free-inverse key (c ∷ cs) h =
    All-cons (λ d. touches d key ≡ false) (taken_back c) (inverse_of cs)
    (touches-taken_back c key ∙ All-head (λ d. touches d key ≡ false) c cs h)
    (free-inverse key cs (All-tail (λ d. touches d key ≡ false) c cs h))

pub untouched-inverse : (cs : List Change) (keys : List Key) → Untouched cs keys → Untouched (inverse_of cs) keys
untouched-inverse cs keys h =
    All-weaker (λ key. All (λ c. touches c key ≡ false) cs) (λ key. All (λ c. touches c key ≡ false) (inverse_of cs)) (λ key free. free-inverse key cs free) keys h

-- no path is changed by both
abbrev pub AreApart : List Change → List Change → Type 0
AreApart ds cs = (path : List ℕ) → is_changed ds path ≡ true → is_changed cs path ≡ false

-- if no change touches a cell, its path is not changed
cell_kept : (cs : List Change) (path : List ℕ) → All (λ c. touches c (Cell path) ≡ false) cs → is_changed cs path ≡ false
cell_kept [] path h = refl
cell_kept (c ∷ cs) path h =
    ap (λ b. cond b true (is_changed cs path)) (other_bytes c.path path (All-head (λ d. touches d (Cell path) ≡ false) c cs h))
    ∙ cell_kept cs path (All-tail (λ d. touches d (Cell path) ≡ false) c cs h)

-- an operation looks at what it changes, so changes that touch nothing at which it looks are at
-- other paths
pub apart_from : (keys : List Key) (ds cs : List Change) → All (λ d. Contains keys (Cell d.path)) ds → Untouched cs keys → AreApart ds cs
apart_from keys ds cs confined free path here =
    at_changed (λ p. is_changed cs p ≡ false) ds path
    (All-weaker (λ d. Contains keys (Cell d.path)) (λ d. is_changed cs d.path ≡ false)
    (λ d at. cell_kept cs d.path (All-contains (λ key. All (λ c. touches c key ≡ false) cs) keys (Cell d.path) free at)) ds confined)
    here

-- such changes can be made in either order
pub changes_apart : (ds cs : List Change) (t : Entries) → AreApart ds cs → after_changes ds (after_changes cs t) ≡ after_changes cs (after_changes ds t)
changes_apart ds cs t apart = same_tree _ _ (λ path.
    get-after_changes ds (after_changes cs t) path ∙ ap (after_at ds path) (get-after_changes cs t path)
    ∙ (elim (cases_Bool (is_changed ds path)) [
      | inl here ↦ ap (after_at ds path) (unchanged cs path (map.get t path) (apart path here)) ∙ sym (unchanged cs path (after_at ds path (map.get t path)) (apart path here))
      | inr away ↦ unchanged ds path (after_at cs path (map.get t path)) away ∙ ap (after_at cs path) (sym (unchanged ds path (map.get t path) away))
    ])
    ∙ sym (get-after_changes cs (after_changes ds t) path ∙ ap (after_at cs path) (get-after_changes ds t path)))

-- the path of each change is a changed path
changed_itself : (c : Change) (cs : List Change) → is_changed (c ∷ cs) c.path ≡ true
changed_itself c cs = ap (λ b. cond b true (is_changed cs c.path)) ((bytes_eq-Decides c.path c.path).1 refl)

changed_later : (c : Change) (cs : List Change) (path : List ℕ) → is_changed cs path ≡ true → is_changed (c ∷ cs) path ≡ true
changed_later c cs path h = elim (cases_Bool (bytes_eq path c.path)) [
  | inl here ↦ ap (λ b. cond b true (is_changed cs path)) here
  | inr away ↦ ap (λ b. cond b true (is_changed cs path)) away ∙ h
]

not_changed : (ds cs : List Change) (path : List ℕ) → AreApart ds cs → is_changed cs path ≡ true → is_changed ds path ≡ false
not_changed ds cs path apart h = elim (cases_Bool (is_changed ds path)) [
  | inl here ↦ absurd (false≢true (sym (apart path here) ∙ h))
  | inr away ↦ away
]

-- and changes that start from a tree also start from the tree after others at other paths
pub from_apart : (ds cs : List Change) (t : Entries) → AreApart ds cs → AreFrom t cs → AreFrom (after_changes ds t) cs
from_apart ds [] t apart h = tt
from_apart ds (c ∷ cs) t apart h =
    let here = not_changed ds (c ∷ cs) c.path apart (changed_itself c cs) in
    let rest : AreApart ds cs = λ path there. elim (cases_Bool (is_changed cs path)) [
      | inl both ↦ absurd (false≢true (sym (apart path there) ∙ changed_later c cs path both))
      | inr away ↦ away
    ] in
    (get-after_changes ds t c.path ∙ unchanged ds c.path (map.get t c.path) here ∙ h.0, h.1, from_apart ds cs t rest h.2)
