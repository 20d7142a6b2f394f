-- What keys see in trees, path by path, and after changes.
use Rattle.std.proofs.Common.{◌≡◌, All, ℕ, Bool, true, false, ◌||◌, cond, List, [], ◌∷◌, map as list_map, Option, Some, None, refl, sym, ap, ◌∙◌, inl, inr, subst}
use Rattle.std.specs.FinMap as map
use Rattle.std.specs.FinMap.{get-retain_keys}
use Rattle.std.specs.Str.{bytes_eq}
use Rattle.std.proofs.lemmas.Bool.{cases_Bool, false≢true}
use Rattle.std.proofs.lemmas.List.Elements.{All-head, All-tail, All-nil, All-cons, All-weaker}
use Rattle.std.proofs.lemmas.Map.Lookups.{exact_bytes}
use Rattle.std.proofs.lemmas.Slice.Eq.{bytes_eq-Decides}
use Rattle.link_tree.specs.declared.entry.Entry.{Entry}
use Rattle.link_tree.specs.declared.change.Change.{Change}
use Rattle.link_tree.specs.Trees.{Entries, after_changes}
use Rattle.link_tree.proofs.Changed.{same_tree, same_bytes, after_at, get-after_changes}
use Rattle.load_path.specs.Search.{SameAt}
use Rattle.tree_access.specs.declared.key.Key.{Key}
use Rattle.tree_access.specs.declared.key.Key.TheVariants.{Cell, Marked, Presets, Links}
use Rattle.tree_access.specs.declared.reading.Seen.TheVariants as seens
use Rattle.tree_access.specs.Keys.{Chosen, is_chosen, chosen_at, those, selects, any_selects, shows, shown, part, Agree, AgreeOn}

-- the key sees the same at each path
abbrev pub AgreeAt : Key → Entries → Entries → Type 0
AgreeAt key t u = (path : List ℕ) → shown key path (map.get t path) ≡ shown key path (map.get u path)

-- the entry at a path among the chosen entries of a tree
pub get-those : (chosen : Chosen) (t : Entries) (path : List ℕ) → map.get (those chosen t) path ≡ chosen_at chosen path (map.get t path)
unfolding those
get-those chosen t path =
    get-retain_keys t (λ p. is_chosen chosen p (map.get t p)) path (λ x same. ap (λ p. is_chosen chosen p (map.get t p)) (sym (exact_bytes path x same)))

-- the entry at a path in the part of a tree that a key looks at
pub get-part : (key : Key) (t : Entries) (path : List ℕ) → map.get (part key t) path ≡ shown key path (map.get t path)
unfolding part
get-part key t path =
    get-retain_keys t (λ p. shows key p (map.get t p)) path (λ x same. ap (λ p. shows key p (map.get t p)) (sym (exact_bytes path x same)))

-- which is the same as the part that it selects
pub part_is : (key : Key) (t : Entries) → part key t ≡ those (selects key) t
part_is key t = same_tree _ _ (λ path. get-part key t path ∙ sym (get-those (selects key) t path))

pub same_part : (key : Key) (t u : Entries) → AgreeAt key t u → part key t ≡ part key u
same_part key t u alike = same_tree _ _ (λ path. get-part key t path ∙ alike path ∙ sym (get-part key u path))

module _ (path : List ℕ) where
  none_selects : (there : Option Entry) → chosen_at (any_selects []) path there ≡ None
  none_selects None = refl
  none_selects (Some entry) = refl

  -- one key more
  more_select : (key : Key) (keys : List Key) (there : Option Entry) → chosen_at (any_selects (key ∷ keys)) path there ≡ cond (shows key path there) there (chosen_at (any_selects keys) path there)
  more_select key keys None = refl
  more_select key keys (Some entry) = elim (selects key path entry) as (λ (here : Bool). cond (here || any_selects keys path entry) (Some entry) None ≡ cond here (Some entry) (chosen_at (any_selects keys) path (Some entry))) [
    | true ↦ refl
    | false ↦ refl
  ]

  shown_is_some : {P : Type 0} (key : Key) (there : Option Entry) → shows key path there ≡ true → there ≡ None → P
  shown_is_some key None is none = absurd (false≢true is)
  shown_is_some key (Some entry) is none = cc

  -- if one key sees the same in both, and the others do too, then all together do
  first_alike : (key : Key) (keys : List Key) (there other : Option Entry) → shown key path there ≡ shown key path other
      → chosen_at (any_selects keys) path there ≡ chosen_at (any_selects keys) path other → chosen_at (any_selects (key ∷ keys)) path there ≡ chosen_at (any_selects (key ∷ keys)) path other
  first_alike key keys there other same rest = more_select key keys there ∙ by_shown (shows key path there) refl (shows key path other) refl ∙ sym (more_select key keys other)
    where
      by_shown : (here : Bool) → shows key path there ≡ here → (too : Bool) → shows key path other ≡ too
          → cond (shows key path there) there (chosen_at (any_selects keys) path there) ≡ cond (shows key path other) other (chosen_at (any_selects keys) path other)
      by_shown true is true also =
          ap (λ b. cond b there (chosen_at (any_selects keys) path there)) is
          ∙ (sym (ap (λ b. cond b there None) is) ∙ same ∙ ap (λ b. cond b other None) also)
          ∙ sym (ap (λ b. cond b other (chosen_at (any_selects keys) path other)) also)
      by_shown false is false also =
          ap (λ b. cond b there (chosen_at (any_selects keys) path there)) is ∙ rest ∙ sym (ap (λ b. cond b other (chosen_at (any_selects keys) path other)) also)
      by_shown true is false also = shown_is_some key there is (sym (ap (λ b. cond b there None) is) ∙ same ∙ ap (λ b. cond b other None) also)
      by_shown false is true also = shown_is_some key other also (sym (ap (λ b. cond b other None) also) ∙ sym same ∙ ap (λ b. cond b there None) is)

part_alike : (key : Key) (t u : Entries) → part key t ≡ part key u → AgreeAt key t u
part_alike key t u same path = sym (get-part key t path) ∙ ap (λ m. map.get m path) same ∙ get-part key u path

shown_itself : (path : List ℕ) (there : Option Entry) → shown (Cell path) path there ≡ there
shown_itself path None = refl
shown_itself path (Some entry) = ap (λ b. cond b (Some entry) None) ((bytes_eq-Decides path path).1 refl)

shown_other : (cell path : List ℕ) (there : Option Entry) → bytes_eq path cell ≡ false → shown (Cell cell) path there ≡ None
shown_other cell path None away = refl
shown_other cell path (Some entry) away = ap (λ b. cond b (Some entry) None) away

cell_alike : (cell : List ℕ) (t u : Entries) → map.get t cell ≡ map.get u cell → AgreeAt (Cell cell) t u
cell_alike cell t u same path = elim (cases_Bool (bytes_eq path cell)) [
  | inl here ↦ subst (λ p. shown (Cell cell) p (map.get t p) ≡ shown (Cell cell) p (map.get u p)) (sym (same_bytes path cell here)) (ap (shown (Cell cell) cell) same)
  | inr away ↦ shown_other cell path (map.get t path) away ∙ sym (shown_other cell path (map.get u path) away)
]

-- if trees agree on a cell, they have the same entry there
pub same_there : (cell : List ℕ) (t u : Entries) → Agree (Cell cell) t u → map.get t cell ≡ map.get u cell
same_there cell t u agree = cc

-- trees agree on a key if it sees the same at each path
pub agree_from : (key : Key) (t u : Entries) → AgreeAt key t u → Agree key t u
agree_from (Cell cell) t u alike = ap seens.Entry (sym (shown_itself cell (map.get t cell)) ∙ alike cell ∙ shown_itself cell (map.get u cell))
agree_from (Marked scope name) t u alike = ap seens.Entries (same_part (Marked scope name) t u alike)
agree_from Presets t u alike = ap seens.Entries (same_part Presets t u alike)
agree_from Links t u alike = ap seens.Entries (same_part Links t u alike)

pub agree_at : (key : Key) (t u : Entries) → Agree key t u → AgreeAt key t u
agree_at (Cell cell) t u agree = cell_alike cell t u (same_there cell t u agree)
agree_at (Marked scope name) t u agree = let same : part (Marked scope name) t ≡ part (Marked scope name) u = cc in part_alike (Marked scope name) t u same
agree_at Presets t u agree = let same : part Presets t ≡ part Presets u = cc in part_alike Presets t u same
agree_at Links t u agree = let same : part Links t ≡ part Links u = cc in part_alike Links t u same

-- Trees that agree on several keys have the same entries at which one of these looks.
pub same_any : (keys : List Key) (t u : Entries) → AgreeOn keys t u → those (any_selects keys) t ≡ those (any_selects keys) u
same_any keys t u agree = same_tree _ _ (λ path. get-those (any_selects keys) t path ∙ alike keys path agree ∙ sym (get-those (any_selects keys) u path))
  where
    alike : (keys : List Key) (path : List ℕ) → AgreeOn keys t u → chosen_at (any_selects keys) path (map.get t path) ≡ chosen_at (any_selects keys) path (map.get u path)
    alike [] path agree = none_selects path (map.get t path) ∙ sym (none_selects path (map.get u path))
    alike (key ∷ keys) path agree =
        first_alike path key keys (map.get t path) (map.get u path) (agree_at key t u (All-head (λ key. Agree key t u) key keys agree) path)
        (alike keys path (All-tail (λ key. Agree key t u) key keys agree))

-- whether one of the changes is at the path
abbrev pub is_changed : List Change → List ℕ → Bool
is_changed [] path = false
is_changed (change ∷ changes) path = cond (bytes_eq path change.path) true (is_changed changes path)

pub unchanged : (changes : List Change) (path : List ℕ) (there : Option Entry) → is_changed changes path ≡ false → after_at changes path there ≡ there
unchanged [] path there away = refl
unchanged (c ∷ cs) path there away = elim (cases_Bool (bytes_eq path c.path)) [
  | inl here ↦ absurd (true_false (sym (ap (λ b. cond b true (is_changed cs path)) here) ∙ away))
  | inr other ↦ ap (λ b. after_at cs path (cond b c.after there)) other ∙ unchanged cs path there (sym (ap (λ b. cond b true (is_changed cs path)) other) ∙ away)
]
  where
    true_false : true ≡ false → ⊥
    true_false h = cc

-- what holds for each changed path holds for a path that is changed
pub at_changed : (P : List ℕ → Type 0) (ds : List Change) (path : List ℕ) → All (λ d. P d.path) ds → is_changed ds path ≡ true → P path
at_changed P [] path all h = absurd (false≢true h)
at_changed P (d ∷ ds) path all h = elim (cases_Bool (bytes_eq path d.path)) [
  | inl here ↦ subst P (sym (same_bytes path d.path here)) (All-head (λ x. P x.path) d ds all)
  | inr away ↦ at_changed P ds path (All-tail (λ x. P x.path) d ds all) (sym (ap (λ b. cond b true (is_changed ds path)) away) ∙ h)
]

-- what changes leave at a path that one of them changes, whatever was there before
pub after_any : (changes : List Change) (path : List ℕ) (there other : Option Entry) → is_changed changes path ≡ true → after_at changes path there ≡ after_at changes path other
after_any [] path there other changed = cc
after_any (c ∷ cs) path there other changed = elim (cases_Bool (bytes_eq path c.path)) [
  | inl here ↦ ap (λ b. after_at cs path (cond b c.after there)) here ∙ sym (ap (λ b. after_at cs path (cond b c.after other)) here)
  | inr away ↦
      ap (λ b. after_at cs path (cond b c.after there)) away
      ∙ after_any cs path there other (sym (ap (λ b. cond b true (is_changed cs path)) away) ∙ changed)
      ∙ sym (ap (λ b. after_at cs path (cond b c.after other)) away)
]

-- Trees that agree on a key still agree on it after the same changes.
pub agree_after : (key : Key) (changes : List Change) (t u : Entries) → Agree key t u → Agree key (after_changes changes t) (after_changes changes u)
agree_after key changes t u agree = agree_from key (after_changes changes t) (after_changes changes u) (λ path.
    ap (shown key path) (get-after_changes changes t path) ∙ (elim (cases_Bool (is_changed changes path)) [
      | inl here ↦ ap (shown key path) (after_any changes path (map.get t path) (map.get u path) here)
      | inr away ↦ ap (shown key path) (unchanged changes path (map.get t path) away) ∙ agree_at key t u agree path ∙ sym (ap (shown key path) (unchanged changes path (map.get u path) away))
    ]) ∙ sym (ap (shown key path) (get-after_changes changes u path)))

pub agree_on_after : (keys : List Key) (changes : List Change) (t u : Entries) → AgreeOn keys t u → AgreeOn keys (after_changes changes t) (after_changes changes u)
agree_on_after keys changes t u agree = All-weaker (λ key. Agree key t u) (λ key. Agree key (after_changes changes t) (after_changes changes u)) (λ key. agree_after key changes t u) keys agree

-- if trees agree on cells, they have the same entry at each
pub same_cells : (cells : List (List ℕ)) (t u : Entries) → AgreeOn (list_map Cell cells) t u → SameAt cells t u
same_cells [] t u agree = All-nil (λ cell. map.get t cell ≡ map.get u cell)
same_cells (cell ∷ cells) t u agree =
    All-cons (λ cell. map.get t cell ≡ map.get u cell) cell cells
    (same_there cell t u (All-head (λ key. Agree key t u) (Cell cell) (list_map Cell cells) agree))
    (same_cells cells t u (All-tail (λ key. Agree key t u) (Cell cell) (list_map Cell cells) agree))

-- What a search by cells finds, and what else is found with it: trees that agree on the cells' keys
-- give the same.
module _ {X : Type 0} (found : Entries → X) (cells : Entries → List (List ℕ)) (agrees : (t u : Entries) → SameAt (cells t) t u → (found t ≡ found u) × (cells t ≡ cells u)) where
  pub by_cells_agree : (t u : Entries) → AgreeOn (list_map Cell (cells t)) t u → (found t ≡ found u) × (list_map Cell (cells t) ≡ list_map Cell (cells u))
  by_cells_agree t u agree = let same = agrees t u (same_cells (cells t) t u agree) in (same.0, ap (list_map Cell) same.1)

  -- the cells themselves
  pub with_cells_agree : (t u : Entries) → AgreeOn (list_map Cell (cells t)) t u
      → (◌≡◌ {A = X × List (List ℕ)} (found t, cells t) (found u, cells u)) × (list_map Cell (cells t) ≡ list_map Cell (cells u))
  with_cells_agree t u agree = let same = agrees t u (same_cells (cells t) t u agree) in (λ i. (same.0 i, same.1 i), ap (list_map Cell) same.1)

-- nothing, and these keys are looked at
pub keys_agree : (keys : List Key) (t u : Entries) → AgreeOn keys t u → (◌≡◌ {A = Unit {0}} tt tt) × (keys ≡ keys)
keys_agree keys t u agree = (refl, refl)

-- a part of the tree
pub part_agrees : (key : Key) (t u : Entries) → AgreeOn (key ∷ []) t u → (part key t ≡ part key u) × (key ∷ [] ≡ key ∷ [])
part_agrees key t u agree = (same_part key t u (agree_at key t u (All-head (λ key. Agree key t u) key [] agree)), refl)

-- the parts of several keys together
pub parts_agree : (keys : List Key) (t u : Entries) → AgreeOn keys t u → (those (any_selects keys) t ≡ those (any_selects keys) u) × (keys ≡ keys)
parts_agree keys t u agree = (same_any keys t u agree, refl)

-- what is found in the tree after changes
pub after_agrees : {X : Type 0} (found : Entries → X) (keys : Entries → List Key) (changes : List Change)
    → ((t u : Entries) → AgreeOn (keys t) t u → (found t ≡ found u) × (keys t ≡ keys u))
    → (t u : Entries) → AgreeOn (keys (after_changes changes t)) t u
    → (found (after_changes changes t) ≡ found (after_changes changes u)) × (keys (after_changes changes t) ≡ keys (after_changes changes u))
after_agrees found keys changes agrees t u agree =
    agrees (after_changes changes t) (after_changes changes u) (agree_on_after (keys (after_changes changes t)) changes t u agree)
