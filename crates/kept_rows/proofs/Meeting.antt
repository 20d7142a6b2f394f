-- Changes that meet a reading of one cell, and changes that do not.
use Rattle.std.proofs.Common.{◌≡◌, ◌||◌, ℕ, Bool, true, false, List, [], ◌∷◌, All, refl, sym, ap, ◌∙◌, subst, inl, inr}
use Rattle.std.specs.Prelude.{◌⊎◌}
use Rattle.std.specs.List.{list_any}
use Rattle.std.specs.Str.{bytes_eq}
use Rattle.std.proofs.lemmas.Bool.{cases_Bool, false≢true, or_parts}
use Rattle.std.proofs.lemmas.Slice.Eq.{bytes_eq-Decides}
use Rattle.std.proofs.lemmas.List.Elements.{All-nil, All-cons, All-head, All-tail, All-map, All-weaker}
use Rattle.link_tree.specs.declared.change.Change.{Change}
use Rattle.link_tree.specs.Trees.{Entries, KeepsPath}
use Rattle.link_tree.proofs.Changed.{same_bytes, other_bytes}
use Rattle.tree_access.specs.declared.key.Key.{Key}
use Rattle.tree_access.specs.declared.key.Key.TheVariants.{Cell}
use Rattle.tree_access.specs.declared.reading.Observation.{Observation}
use Rattle.tree_access.specs.Keys.{touches, Untouched}
use Rattle.tree_access.specs.Readings.{keys_of, reading_of}
use Rattle.tree_access.proofs.KeySets.{All-in_order}
use Rattle.tree_access.proofs.ReadingKeys.{untouched_keys, keys_of_reading}
use Rattle.history.specs.Rows.{meets}

-- one of the changes is of a path
abbrev pub HasPath : List ℕ → List Change → Type 0
HasPath path [] = ⊥
HasPath path (change ∷ changes) = (change.path ≡ path) ⊎ HasPath path changes

-- the paths that some changes have or keep
pub has_or_keeps : (path : List ℕ) (changes : List Change) → KeepsPath path changes ⊎ HasPath path changes
has_or_keeps path [] = inl tt
has_or_keeps path (c ∷ cs) = elim (cases_Bool (bytes_eq path c.path)) [
  | inl here ↦ inr (inl (sym (same_bytes path c.path here)))
  | inr away ↦ elim (has_or_keeps path cs) [ inl kept ↦ inl (away, kept) | inr has ↦ inr (inr has) ]
]

-- what holds at the paths of all changes holds at each
pub at_had : (P : List ℕ → Type 0) (path : List ℕ) (changes : List Change) → All (λ change. P change.path) changes → HasPath path changes → P path
at_had P path [] all none = absurd none
at_had P path (c ∷ cs) all (inl here) = subst P here (All-head (λ change. P change.path) c cs all)
at_had P path (c ∷ cs) all (inr later) = at_had P path cs (All-tail (λ change. P change.path) c cs all) later

none_any : {A : Type 0} (p : A → Bool) (xs : List A) → list_any p xs ≡ false → All (λ x. p x ≡ false) xs
none_any p [] h = All-nil (λ x. p x ≡ false)
none_any p (x ∷ xs) h = let parts = or_parts (p x) (list_any p xs) h in All-cons (λ x. p x ≡ false) x xs parts.0 (none_any p xs parts.1)

-- changes that don't meet a reading touch none of its keys
unmet : (changes : List Change) (reading : List Observation) → meets changes reading ≡ false → Untouched changes (keys_of reading)
unmet changes reading h =
    All-map (λ key. All (λ change. touches change key ≡ false) changes) (λ (o : Observation). o.key) reading
    (All-weaker (λ (o : Observation). list_any (λ change. touches change o.key) changes ≡ false) (λ (o : Observation). All (λ change. touches change o.key ≡ false) changes)
    (λ o none. none_any (λ change. touches change o.key) changes none) reading (none_any (λ (o : Observation). list_any (λ change. touches change o.key) changes) reading h))

-- changes that touch no key are of no path whose cell is one
apart_cells : (changes : List Change) (path : List ℕ) → HasPath path changes → All (λ change. touches change (Cell path) ≡ false) changes → ⊥
apart_cells [] path none apart = none
apart_cells (change ∷ changes) path (inl here) apart =
    false≢true (sym (All-head (λ change. touches change (Cell path) ≡ false) change changes apart) ∙ (bytes_eq-Decides change.path path).1 here)
apart_cells (change ∷ changes) path (inr later) apart = apart_cells changes path later (All-tail (λ change. touches change (Cell path) ≡ false) change changes apart)

-- a change of a path meets a reading that looked at the cell there
pub meets_cell : (t : Entries) (at path : List ℕ) (changes : List Change) (keys : List Key) → keys ≡ Cell at ∷ [] → at ≡ path → HasPath path changes → meets changes (reading_of keys t) ≡ true
meets_cell t at path changes keys are same has = elim (cases_Bool (meets changes (reading_of keys t))) [
  | inl met ↦ met
  | inr not ↦ (
      let apart : Untouched changes (Cell path ∷ []) =
      subst (Untouched changes) (are ∙ ap (λ p. Cell p ∷ []) same) (untouched_keys changes keys t (unmet changes (reading_of keys t) not)) in
      absurd (apart_cells changes path has (All-head (λ key. All (λ change. touches change key ≡ false) changes) (Cell path) [] apart)))
]

-- changes that touch none of the keys of a reading don't meet it
none_touch : (changes : List Change) (key : Key) → All (λ change. touches change key ≡ false) changes → list_any (λ change. touches change key) changes ≡ false
none_touch [] key apart = refl
none_touch (c ∷ cs) key apart =
    ap (λ b. b || list_any (λ change. touches change key) cs) (All-head (λ change. touches change key ≡ false) c cs apart)
    ∙ none_touch cs key (All-tail (λ change. touches change key ≡ false) c cs apart)

not_met : (changes : List Change) (reading : List Observation) → Untouched changes (keys_of reading) → meets changes reading ≡ false
not_met changes [] apart = refl
not_met changes (o ∷ reading) apart =
    ap (λ b. b || meets changes reading) (none_touch changes o.key (All-head (λ key. All (λ change. touches change key ≡ false) changes) o.key (keys_of reading) apart))
    ∙ not_met changes reading (All-tail (λ key. All (λ change. touches change key ≡ false) changes) o.key (keys_of reading) apart)

kept_cell : (at : List ℕ) (changes : List Change) → KeepsPath at changes → All (λ change. touches change (Cell at) ≡ false) changes
kept_cell at [] kept = All-nil (λ change. touches change (Cell at) ≡ false)
kept_cell at (c ∷ cs) kept = All-cons (λ change. touches change (Cell at) ≡ false) c cs (other_bytes at c.path kept.0) (kept_cell at cs kept.1)

-- changes of other paths don't meet a reading that looked at one cell
pub other_cell : (t : Entries) (at : List ℕ) (changes : List Change) (keys : List Key) → keys ≡ Cell at ∷ [] → KeepsPath at changes → meets changes (reading_of keys t) ≡ false
other_cell t at changes keys are kept =
    let P : Key → Type 0 = λ key. All (λ change. touches change key ≡ false) changes in
    let on_keys : All P keys = subst (All P) (sym are) (All-cons P (Cell at) [] (kept_cell at changes kept) (All-nil P)) in
    not_met changes (reading_of keys t) (subst (All P) (sym (keys_of_reading keys t)) (All-in_order P keys on_keys))
