-- Masked units are reported as masked.
use Rattle.std.proofs.Common.{◌≡◌, ◌≢◌, ℕ, Bool, true, false, List, [], ◌∷◌, ◌++◌, Option, Some, None, refl, sym, ap, ◌∙◌, arith, inl, inr}
use Rattle.std.specs.Prelude.{Contains, codes, is_some, is_none, not, if◌then◌else◌}
use Rattle.std.specs.FinMap as map
use Rattle.std.specs.List.{find as first_of, list_any}
use Rattle.std.specs.Option.{option_map_or}
use Rattle.std.specs.Str.{bytes_eq}
use Rattle.std.proofs.lemmas.Bool.{cases_Bool, false≢true, or_left, or_right}
use Rattle.std.proofs.lemmas.List.Elements.{All-nil, All-cons}
use Rattle.std.proofs.lemmas.Slice.Eq.{bytes_eq-Decides}
use Rattle.unit_paths.specs.declared.place.Place.{Place}
use Rattle.unit_paths.specs.declared.place.Place.TheVariants as places
use Rattle.unit_paths.specs.declared.place.Scope.{Scope}
use Rattle.unit_paths.specs.declared.place.Scope.TheVariants.{Etc, Run}
use Rattle.unit_paths.specs.Canonical.{canonical_text, is_null_target, merged, walked, with_part, start_of, begins_with_slash}
use Rattle.unit_paths.specs.Paths.{is_path, is_part, is_text_byte, is_absolute}
use Rattle.unit_paths.specs.Places.{scope_place}
use Rattle.unit_paths.specs.Slots.{unit_slot}
use Rattle.link_tree.specs.declared.entry.Entry.{Entry}
use Rattle.link_tree.specs.declared.entry.Entry.TheVariants.{File, Link}
use Rattle.link_tree.specs.Links.{is_null_link}
use Rattle.link_tree.specs.Trees.{Entries}
use Rattle.load_path.specs.Chains.{LinksToNull, LeadsTo}
use Rattle.load_path.specs.Chains.Leads.{Here}
use Rattle.load_path.specs.Chains.EndsAt.{AtNullLink}
use Rattle.load_path.specs.Find.{find}
use Rattle.load_path.specs.Laws.{template_slots}
use Rattle.load_path.specs.declared.finding.Found.TheVariants as founds
use Rattle.load_path.specs.declared.following.End.TheVariants as ends
use Rattle.load_path.proofs.FirstEntries.{names_are_found_by_first_entry}
use Rattle.unit_name.specs.Parts.{kind_of}
use Rattle.unit_name.specs.Name.{instance_of}
use Rattle.install_section.proofs.Least.{none_of, first_or_later}
use Rattle.footprint.specs.declared.answer.Answer.{Answer}
use Rattle.footprint.specs.declared.answer.Answer.TheVariants.{Done, Refused}
use Rattle.tree_access.specs.declared.refusal.Refusal.TheVariants.{Exists}
use Rattle.footprint.specs.declared.answer.StateWord.TheVariants.{Masked, MaskedRuntime}
use Rattle.slot_commands.specs.declared.mask.Mask.{Mask}
use Rattle.slot_commands.specs.Masks.{mask_link, mask_meaning, slots_of, is_in_the_way, masked, FillsEmptySlots}
use Rattle.slot_commands.proofs.Masked.{mask_fills}
use Rattle.install_commands.specs.Laws.{Leaves}
use Rattle.states.specs.Laws.Tells.{MaskedInRun, MaskedElsewhere}
use Rattle.states.proofs.Words.{words_are_told}
use Rattle.state_laws.specs.Laws.{IsToldMasked, MaskedAfterMask}

-- a link to /dev/null
null_link : (path : List ℕ) (entry : Entry) (t : Entries) → map.get t path ≡ Some entry → is_null_link path entry ≡ true → LinksToNull t path
unfolding is_null_target
null_link path (File contents) t there is = absurd (false≢true is)
null_link path (Link target) t there is = by_path (is_path (canonical_text path target)) refl is
  where
    by_path : (b : Bool) → is_path (canonical_text path target) ≡ b
        → option_map_or (λ p. bytes_eq p (codes "/dev/null")) (if b then Some (canonical_text path target) else None) false ≡ true → LinksToNull t path
    by_path true path_is null = (target, canonical_text path target, there, rw path_is refl, null)
    by_path false path_is null = absurd (false≢true null)

-- the link that masks is one
mask_null : (path : List ℕ) → is_null_link path mask_link ≡ true
unfolding is_null_target is_path merged walked with_part is_part start_of begins_with_slash is_text_byte is_absolute
mask_null path = refl

-- the entry at a slot that a mask filled leads to /dev/null
leads_to_null : (path : List ℕ) (there : Option Entry) (t u : Entries) → map.get t path ≡ there → is_in_the_way t path ≡ false
    → map.get u path ≡ (if is_none (map.get t path) then Some mask_link else map.get t path) → LinksToNull u path
leads_to_null path None t u there free left = null_link path mask_link u (left ∙ rw there refl) (mask_null path)
leads_to_null path (Some entry) t u there free left = null_link path entry u (left ∙ rw there refl) (elim (cases_Bool (is_null_link path entry)) [
  | inl is ↦ is
  | inr other ↦ absurd (false≢true (sym free ∙ rw there (ap not other)))
])

module _ (t : Entries) (unit : List ℕ) where
  abbrev behind : List (Place × List ℕ)
  behind = template_slots (kind_of (instance_of unit)) unit

  abbrev at : Place → Place × List ℕ
  at place = (place, unit_slot place unit)

  abbrev IsFree : Place × List ℕ → Type 0
  IsFree slot = map.get t slot.1 ≡ None

  leads : (path : List ℕ) → LinksToNull t path → LeadsTo t 8 path ends.Null
  leads path null = (0, 8, path, refl, Here path, AtNullLink (omega arith) null)

  stands : (path : List ℕ) → LinksToNull t path → is_some (map.get t path) ≡ true
  stands path null = ap (λ (o : Option Entry). is_some o) null.2

  -- in /etc it comes first
  etc_first : LinksToNull t (unit_slot places.Etc unit) → (find unit).conclusion t ≡ founds.Masked places.Etc
  etc_first null =
      let path = unit_slot places.Etc unit in
      ((names_are_found_by_first_entry unit t).masked places.Etc).1
      (path, (([], (at places.Run ∷ at places.Local ∷ at places.Vendor ∷ []) ++ behind, refl, All-nil IsFree), stands path null), leads path null)

  -- in /run it comes after that
  run_first : map.get t (unit_slot places.Etc unit) ≡ None → LinksToNull t (unit_slot places.Run unit) → (find unit).conclusion t ≡ founds.Masked places.Run
  run_first free null =
      let path = unit_slot places.Run unit in
      ((names_are_found_by_first_entry unit t).masked places.Run).1
      (path, ((at places.Etc ∷ [], (at places.Local ∷ at places.Vendor ∷ []) ++ behind, refl, All-cons IsFree (at places.Etc) [] free (All-nil IsFree)), stands path null), leads path null)

  told : (scope : Scope) → LinksToNull t (unit_slot (scope_place scope) unit) → IsToldMasked scope t unit
  told Etc null = (words_are_told unit t Masked).1 (MaskedElsewhere places.Etc (etc_first null) (λ same. absurd (let run : places.Etc ≡ places.Run = same in cc)))
  told Run null = λ free. (words_are_told unit t MaskedRuntime).1 (MaskedInRun (run_first free null))

-- a slot is among those of the units
contained : (scope : Scope) (units : List (List ℕ)) (unit : List ℕ) → Contains units unit → list_any (bytes_eq (unit_slot (scope_place scope) unit)) (slots_of scope units) ≡ true
contained scope [] unit here = absurd (none_of [] unit refl here)
contained scope (first ∷ rest) unit here =
    let slot = unit_slot (scope_place scope) unit in
    let own = bytes_eq slot (unit_slot (scope_place scope) first) in
    elim (first_or_later first rest unit here.0 here.1 here.2) [
      | inl same ↦ or_left own (list_any (bytes_eq slot) (slots_of scope rest)) ((bytes_eq-Decides slot (unit_slot (scope_place scope) first)).1 (ap (unit_slot (scope_place scope)) same))
      | inr later ↦ or_right own (list_any (bytes_eq slot) (slots_of scope rest)) (contained scope rest unit later)
    ]

-- if no path is blocked, none of the slots is
free_each : (t : Entries) (scope : Scope) (units : List (List ℕ)) → first_of (is_in_the_way t) (slots_of scope units) ≡ None
    → (unit : List ℕ) → Contains units unit → is_in_the_way t (unit_slot (scope_place scope) unit) ≡ false
free_each t scope [] free unit here = absurd (none_of [] unit refl here)
free_each t scope (first ∷ rest) free unit here = elim (cases_Bool (is_in_the_way t (unit_slot (scope_place scope) first))) [
  | inl way ↦ (let none : Some (unit_slot (scope_place scope) first) ≡ None = sym (rw way refl) ∙ free in cc)
  | inr other ↦ elim (first_or_later first rest unit here.0 here.1 here.2) [
    | inl same ↦ ap (λ name. is_in_the_way t (unit_slot (scope_place scope) name)) same ∙ other
    | inr later ↦ free_each t scope rest (sym (rw other refl) ∙ free) unit later
  ]
]

by_way : (mask : Mask) (t u : Entries) (found : Option (List ℕ)) → first_of (is_in_the_way t) (slots_of mask.scope mask.units) ≡ found → FillsEmptySlots mask t found → Leaves (mask_meaning mask) t u
    → (unit : List ℕ) → Contains mask.units unit → LinksToNull u (unit_slot (scope_place mask.scope) unit)
by_way mask t u (Some slot) way fills leaves unit here = absurd (refused ((mask_meaning mask).conclusion t).answer fills.0 leaves.1)
  where
    refused : (answer : Answer) → answer ≡ Refused (Exists slot) → answer ≡ Done leaves.0 → ⊥
    refused answer one other = cc
by_way mask t u None way fills leaves unit here =
    let slot = unit_slot (scope_place mask.scope) unit in
    leads_to_null slot (map.get t slot) t u refl (free_each t mask.scope mask.units way unit here)
    (ap (λ (m : Entries). map.get m slot) leaves.2 ∙ fills.1 slot ∙ rw (contained mask.scope mask.units unit here) refl)

pub masked_after_mask : MaskedAfterMask
masked_after_mask mask t u leaves unit here = told u unit mask.scope (by_way mask t u (first_of (is_in_the_way t) (slots_of mask.scope mask.units)) refl (mask_fills mask t) leaves unit here)
