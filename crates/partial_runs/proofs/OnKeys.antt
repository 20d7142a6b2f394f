-- On which keys a part agrees with what is held.
use Rattle.std.proofs.Common.{◌≡◌, ℕ, true, cond, List, [], ◌∷◌, Option, Some, None, All, refl, sym, ap, ◌∙◌, inl, inr}
use Rattle.std.specs.FinMap as map
use Rattle.std.proofs.lemmas.Bool.{cases_Bool}
use Rattle.std.proofs.lemmas.List.Elements.{All-head, All-tail, All-weaker}
use Rattle.unit_paths.specs.Places.{scope_place}
use Rattle.unit_paths.specs.Slots.{slot_of}
use Rattle.unit_paths.specs.declared.place.Place.{Place}
use Rattle.unit_paths.specs.declared.place.Place.TheVariants.{Etc, Run, Local, Vendor}
use Rattle.unit_paths.specs.declared.place.Scope.{Scope}
use Rattle.link_tree.specs.declared.entry.Entry.{Entry}
use Rattle.link_tree.specs.Trees.{Entries}
use Rattle.tree_access.specs.declared.key.Key.{Key}
use Rattle.tree_access.specs.declared.key.Key.TheVariants.{Cell, Marked, Presets, Links}
use Rattle.tree_access.specs.declared.reading.Seen.TheVariants as seens
use Rattle.tree_access.proofs.KeyLaws.{agree_at, agree_from}
use Rattle.tree_access.specs.Keys.{selects, shown, Agree, AgreeOn}
use Rattle.disk.specs.Disks.{Held}
use Rattle.disk.specs.Partials.{IsIn, AreCaptured}
use Rattle.disk.specs.declared.partial.Area.{Area}
use Rattle.disk.specs.declared.partial.Area.TheVariants as areas
use Rattle.partial_runs.specs.Captures.{AreAllCaptured, links}
use Rattle.partial_runs.specs.Runs.{IsWithin}
use Rattle.partial_runs.proofs.Areas.{marked_in, preset_in, dependency_in}

no_some : {X P : Type 0} (x : X) → None ≡ Some x → P
no_some x h = cc

module _ (t : Held) (found : Entries) (within : IsWithin found t.entries) where
  -- A part agrees on a key if each entry at which the key looks was captured.
  agrees : (key : Key) → ((path : List ℕ) (entry : Entry) → selects key path entry ≡ true → map.get found path ≡ map.get t.entries path) → Agree key found t.entries
  agrees key captured = agree_from key found t.entries (λ path. at path (map.get found path) refl (map.get t.entries path) refl)
    where
      at : (path : List ℕ) (here : Option Entry) → map.get found path ≡ here → (there : Option Entry) → map.get t.entries path ≡ there
          → shown key path (map.get found path) ≡ shown key path (map.get t.entries path)
      at path (Some entry) here there is = ap (shown key path) (here ∙ sym (within path entry here))
      at path None here None there = ap (shown key path) (here ∙ sym there)
      at path None here (Some entry) there = elim (cases_Bool (selects key path entry)) [
        | inl looks ↦ ap (shown key path) (captured path entry looks)
        | inr off ↦ ap (shown key path) here ∙ sym (ap (λ b. cond b (Some entry) None) off) ∙ sym (ap (shown key path) there)
      ]

  pub on_cell : (path : List ℕ) → AreCaptured t found (λ q. q ≡ path) → Agree (Cell path) found t.entries
  on_cell path captured = ap seens.Entry (captured path refl).0

  pub on_marked : (scope : Scope) (name : List ℕ) → AreCaptured t found (IsIn (areas.Units (scope_place scope))) → Agree (Marked scope name) found t.entries
  on_marked scope name captured = agrees (Marked scope name) (λ path entry looks. (captured path (marked_in scope name path entry looks)).0)

  pub on_presets : AreCaptured t found (IsIn areas.Presets) → Agree Presets found t.entries
  on_presets captured = agrees Presets (λ path entry looks. (captured path (preset_in path (slot_of path) refl looks)).0)

  abbrev IsAreaCaptured : Area → Type 0
  IsAreaCaptured area = AreCaptured t found (IsIn area)

  one_of_four : All IsAreaCaptured links → (place : Place) → IsAreaCaptured (areas.Dependencies place)
  one_of_four all = by_place
    where
      after_etc : All IsAreaCaptured (areas.Dependencies Run ∷ areas.Dependencies Local ∷ areas.Dependencies Vendor ∷ [])
      after_etc = All-tail IsAreaCaptured (areas.Dependencies Etc) (areas.Dependencies Run ∷ areas.Dependencies Local ∷ areas.Dependencies Vendor ∷ []) all

      after_run : All IsAreaCaptured (areas.Dependencies Local ∷ areas.Dependencies Vendor ∷ [])
      after_run = All-tail IsAreaCaptured (areas.Dependencies Run) (areas.Dependencies Local ∷ areas.Dependencies Vendor ∷ []) after_etc

      after_local : All IsAreaCaptured (areas.Dependencies Vendor ∷ [])
      after_local = All-tail IsAreaCaptured (areas.Dependencies Local) (areas.Dependencies Vendor ∷ []) after_run

      by_place : (place : Place) → IsAreaCaptured (areas.Dependencies place)
      by_place Etc = All-head IsAreaCaptured (areas.Dependencies Etc) (areas.Dependencies Run ∷ areas.Dependencies Local ∷ areas.Dependencies Vendor ∷ []) all
      by_place Run = All-head IsAreaCaptured (areas.Dependencies Run) (areas.Dependencies Local ∷ areas.Dependencies Vendor ∷ []) after_etc
      by_place Local = All-head IsAreaCaptured (areas.Dependencies Local) (areas.Dependencies Vendor ∷ []) after_run
      by_place Vendor = All-head IsAreaCaptured (areas.Dependencies Vendor) [] after_local

  pub on_links : AreAllCaptured t found links → Agree Links found t.entries
  on_links all = agrees Links (λ path entry looks. let there = dependency_in path (slot_of path) refl looks in (one_of_four all there.0 path there.1).0)

-- A larger part agrees as well.
module _ (t f g : Entries) (grows : IsWithin f g) (within : IsWithin g t) where
  none_before : (path : List ℕ) (here : Option Entry) → map.get f path ≡ here → map.get g path ≡ None → map.get f path ≡ None
  none_before path None here none = here
  none_before path (Some entry) here none = no_some entry (sym none ∙ grows path entry here)

  pub agree_stays : (key : Key) → Agree key f t → Agree key g t
  agree_stays key agree = agree_from key g t (λ path. at path (map.get g path) refl)
    where
      at : (path : List ℕ) (here : Option Entry) → map.get g path ≡ here → shown key path (map.get g path) ≡ shown key path (map.get t path)
      at path (Some entry) here = ap (shown key path) (here ∙ sym (within path entry here))
      at path None here = ap (shown key path) (here ∙ sym (none_before path (map.get f path) refl here)) ∙ agree_at key f t agree path

  pub keys_stay : (keys : List Key) → AgreeOn keys f t → AgreeOn keys g t
  keys_stay keys agree = All-weaker (λ key. Agree key f t) (λ key. Agree key g t) (λ key. agree_stays key) keys agree
