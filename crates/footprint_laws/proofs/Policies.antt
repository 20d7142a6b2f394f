-- The keys by which a preset reads its rules.
use Rattle.std.proofs.Common.{◌≡◌, ℕ, cond, List, [], ◌∷◌, Contains, Option, Some, None, refl, sym, ap, subst, ◌∙◌, inl, inr}
use Rattle.std.specs.FinMap as map
use Rattle.std.proofs.lemmas.Bool.{cases_Bool}
use Rattle.std.proofs.lemmas.List.Elements.{Contains-append_left, Contains-append_right, Contains-append_cases}
use Rattle.unit_paths.specs.Kinds.{is_preset}
use Rattle.unit_paths.specs.Slots.{slot_of}
use Rattle.link_tree.specs.declared.entry.Entry.{Entry}
use Rattle.link_tree.specs.declared.entry.Entry.TheVariants as entries
use Rattle.link_tree.specs.Trees.{Entries}
use Rattle.load_path.specs.declared.following.End.{End}
use Rattle.load_path.specs.declared.following.End.TheVariants as ends
use Rattle.load_path.specs.Follow.{chain_from, end_of, followed, follow}
use Rattle.load_path.proofs.Along.{follow_looks_along_chain}
use Rattle.load_path.proofs.Chains.{file_is_led}
use Rattle.install_section.proofs.Least.{is_first, is_later, first_or_later, none_of}
use Rattle.preset_rules.specs.Files.{policy_of, presets_of, rules_behind, rules_at, rules_from, winners}
use Rattle.preset_rules.proofs.Agreeing.{presets_decide}
use Rattle.preset_rules.proofs.WinnersFound.{get-presets}
use Rattle.tree_access.specs.declared.key.Key.TheVariants.{Presets}
use Rattle.tree_access.specs.Keys.{part}
use Rattle.install_commands.proofs.Verdicts.{presets_part}
use Rattle.footprint_laws.specs.Installs.{IsPresetEnd}

-- the cells of the rules are the same for the entries that the key sees
same_cells : (t : Entries) → (policy_of (part Presets t)).cells t ≡ (policy_of t).cells t
same_cells t = ap (λ policy. policy.cells t) (ap policy_of (presets_part t) ∙ presets_decide t)

module _ (t : Entries) where
  -- what is at a slot of presets is in the tree
  stands : (slot target : List ℕ) → map.get (presets_of t) slot ≡ Some (entries.Link target) → map.get t slot ≡ Some (entries.Link target)
  stands slot target at = elim (cases_Bool (is_preset (slot_of slot))) [
    | inl is ↦ sym (ap (λ b. cond b (map.get t slot) None) is) ∙ sym (get-presets t slot) ∙ at
    | inr not ↦ (let never : None ≡ Some (entries.Link target) = sym (ap (λ b. cond b (map.get t slot) None) not) ∙ sym (get-presets t slot) ∙ at in cc)
  ]

  -- the paths to which the link at a slot leads
  abbrev way : (slot target : List ℕ) → List (List ℕ)
  way slot target = (chain_from slot (entries.Link target)).cells t

  abbrev end : (slot target : List ℕ) → End
  end slot target = end_of ((chain_from slot (entries.Link target)).conclusion t)

  module _ (slot target : List ℕ) (at : map.get t slot ≡ Some (entries.Link target)) where
    followed_end : (follow slot).conclusion t ≡ end slot target
    unfolding follow
    followed_end = ap (λ there. (followed slot there).conclusion t) at

    followed_way : (follow slot).cells t ≡ slot ∷ way slot target
    unfolding follow
    followed_way = ap (λ there. slot ∷ (followed slot there).cells t) at

    -- the file at the end is one of them
    file_there : (file : List ℕ) → end slot target ≡ ends.File file → Contains (way slot target) file
    file_there file is =
        let led = (file_is_led slot file t).0 (followed_end ∙ is) in
        let here : Contains (slot ∷ way slot target) file = subst (λ cells. Contains cells file) followed_way ((follow_looks_along_chain slot file t).1 (led.0, led.1, led.2)) in
        elim (first_or_later slot (way slot target) file here.0 here.1 here.2) [
          | inl same ↦ (let both : Some (entries.Link target) ≡ Some (entries.File led.3.0) = sym at ∙ ap (λ path. map.get t path) (sym same) ∙ led.3.1 in absurd (cc))
          | inr later ↦ later
        ]

    by_end : (cell : List ℕ) (given : End) → end slot target ≡ given → Contains ((rules_behind given).cells t) cell → Contains (way slot target) cell
    by_end cell ends.Missing is here = absurd (none_of [] cell refl here)
    by_end cell ends.Null is here = absurd (none_of [] cell refl here)
    by_end cell (ends.Dangling link) is here = absurd (none_of [] cell refl here)
    by_end cell (ends.File file) is here = elim (first_or_later file [] cell here.0 here.1 here.2) [
      | inl same ↦ subst (Contains (way slot target)) (sym same) (file_there file is)
      | inr none ↦ absurd (none_of [] cell refl none)
    ]

  slot_only : (slot cell : List ℕ) (there : Option Entry) → ((target : List ℕ) → there ≡ Some (entries.Link target) → map.get t slot ≡ Some (entries.Link target)) → Contains ((rules_at slot there).cells t) cell
      → (target : List ℕ) × (there ≡ Some (entries.Link target)) × Contains (way slot target) cell
  slot_only slot cell None at here = absurd (none_of [] cell refl here)
  slot_only slot cell (Some (entries.File contents)) at here = absurd (none_of [] cell refl here)
  slot_only slot cell (Some (entries.Link target)) at here = (
    target,
    refl,
    elim (Contains-append_cases (way slot target) ((rules_behind (end slot target)).cells t) cell here) [
      | inl led ↦ led
      | inr file ↦ by_end slot target (at target refl) cell (end slot target) refl file
    ],
  )

  slot_all : (slot cell target : List ℕ) → Contains (way slot target) cell → Contains ((rules_at slot (Some (entries.Link target))).cells t) cell
  slot_all slot cell target here = Contains-append_left (way slot target) ((rules_behind (end slot target)).cells t) cell here

  -- one slot after another
  abbrev IsFrom : (slots : List (List ℕ)) → (cell : List ℕ) → Type 0
  IsFrom slots cell = (slot target : List ℕ) × Contains slots slot × (map.get (presets_of t) slot ≡ Some (entries.Link target)) × Contains ((chain_from slot (entries.Link target)).cells t) cell

  from_only : (slots : List (List ℕ)) (cell : List ℕ) → Contains ((rules_from (presets_of t) slots).cells t) cell → IsFrom slots cell
  from_only [] cell here = absurd (none_of [] cell refl here)
  from_only (slot ∷ slots) cell here = elim (Contains-append_cases ((rules_at slot (map.get (presets_of t) slot)).cells t) ((rules_from (presets_of t) slots).cells t) cell here) [
    | inl own ↦ (let at = slot_only slot cell (map.get (presets_of t) slot) (stands slot) own in (slot, at.0, is_first slot slots slot refl, at.1, at.2))
    | inr later ↦ (let at = from_only slots cell later in (at.0, at.1, is_later slot slots at.0 at.2, at.3, at.4))
  ]

  from_all : (slots : List (List ℕ)) (cell : List ℕ) → IsFrom slots cell → Contains ((rules_from (presets_of t) slots).cells t) cell
  from_all [] cell from = absurd (none_of [] from.0 refl from.2)
  from_all (slot ∷ slots) cell from = elim (first_or_later slot slots from.0 from.2.0 from.2.1 from.2.2) [
    | inl same ↦
        Contains-append_left ((rules_at slot (map.get (presets_of t) slot)).cells t) ((rules_from (presets_of t) slots).cells t) cell
        (subst (λ slot. Contains ((rules_at slot (map.get (presets_of t) slot)).cells t) cell) same
        (subst (λ there. Contains ((rules_at from.0 there).cells t) cell) (sym from.3) (slot_all from.0 cell from.1 from.4)))
    | inr later ↦ Contains-append_right ((rules_at slot (map.get (presets_of t) slot)).cells t) ((rules_from (presets_of t) slots).cells t) cell (from_all slots cell (from.0, from.1, later, from.3, from.4))
  ]

  -- so the cells of the rules are the paths to which winning links lead
  cells_only : (path : List ℕ) → Contains ((policy_of t).cells t) path → IsPresetEnd t path
  unfolding policy_of
  cells_only path here = from_only (map.values (winners (presets_of t))) path here

  cells_all : (path : List ℕ) → IsPresetEnd t path → Contains ((policy_of t).cells t) path
  unfolding policy_of
  cells_all path from = from_all (map.values (winners (presets_of t))) path from

  pub policy_only : (path : List ℕ) → Contains ((policy_of (part Presets t)).cells t) path → IsPresetEnd t path
  policy_only path here = cells_only path (subst (λ cells. Contains cells path) (same_cells t) here)

  pub policy_all : (path : List ℕ) → IsPresetEnd t path → Contains ((policy_of (part Presets t)).cells t) path
  policy_all path from = subst (λ cells. Contains cells path) (sym (same_cells t)) (cells_all path from)
