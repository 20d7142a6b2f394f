-- Why link is refused.
use Rattle.std.proofs.Common.{◌≡◌, ℕ, true, false, List, [], Ok, Err, refl, sym, ap, subst, ◌∙◌, inl, inr}
use Rattle.std.specs.FinMap as map
use Rattle.std.proofs.lemmas.Bool.{cases_Bool}
use Rattle.unit_name.specs.Name.{is_unit_name}
use Rattle.unit_paths.specs.declared.place.Place.{Place}
use Rattle.unit_paths.specs.Kinds.{is_unit_slot}
use Rattle.unit_paths.specs.Paths.{name_at}
use Rattle.unit_paths.specs.Places.{scope_place}
use Rattle.unit_paths.specs.Slots.{slot_of, unit_slot}
use Rattle.link_tree.specs.Trees.{Entries}
use Rattle.load_path.specs.declared.following.End.{End}
use Rattle.load_path.specs.declared.following.End.TheVariants as ends
use Rattle.load_path.specs.Follow.{follow}
use Rattle.tree_access.specs.declared.refusal.Refusal.{Refusal}
use Rattle.tree_access.specs.declared.refusal.Refusal.TheVariants.{NotFound, Masked, Dangling, BadType, Exists}
use Rattle.tree_access.specs.declared.refusal.Subject.TheVariants as subjects
use Rattle.tree_access.specs.Placing.{Ruling}
use Rattle.slot_commands.specs.LinkUnits.{link_file, link_end, link_unit, link_steps}
use Rattle.footprint_laws.specs.Slots.{link_step}
use Rattle.refusal_laws.specs.Reasons.{IsTaken}
use Rattle.refusal_laws.specs.Slots.{WhyNotLinked, WhyNoLinks, LinkRefused}
use Rattle.refusal_laws.specs.Slots.WhyNotLinked.{NoFile, Mask, LeadsNowhere, NoUnitName, SlotTaken}
use Rattle.refusal_laws.specs.Slots.WhyNoLinks.{ForPath}
use Rattle.refusal_laws.proofs.Rulings.{refused, same_refusal, ruling_refused, refused_ruling}
use Rattle.refusal_laws.proofs.Taking.{link_taken, taken_link}
use Rattle.refusal_laws.proofs.Turned.{IsRefusedInTurn, refused_in_turn}

module _ (place : Place) (path : List ℕ) (t : Entries) where
  abbrev slot : List ℕ
  slot = unit_slot place (name_at path)

  abbrev Why : Refusal → Type 0
  Why refusal = WhyNotLinked place t path refusal

  file_refused : (file : List ℕ) → (follow path).conclusion t ≡ ends.File file → (refusal : Refusal) → (link_file place path).conclusion t ≡ Err refusal → Why refusal
  file_refused file at refusal is = elim (cases_Bool (is_unit_name (name_at path))) [
    | inr other ↦ subst Why (same_refusal (BadType (subjects.Path path)) refusal (rw other at is)) (NoUnitName file at other)
    | inl named ↦ elim (cases_Bool (is_unit_slot (slot_of path))) [
      | inl inside ↦ (let fine : Ok [] ≡ refused refusal = rw (named, inside) at is in cc)
      | inr outside ↦ (
          let taken = link_taken path slot t refusal (rw (named, outside) at is) in
          subst Why (sym taken.0) (SlotTaken file at named outside taken.1))
    ]
  ]

  end_refused : (end : End) → (follow path).conclusion t ≡ end → (refusal : Refusal) → (link_end place path end).conclusion t ≡ Err refusal → Why refusal
  end_refused ends.Missing at refusal is = subst Why (same_refusal (NotFound (subjects.Path path)) refusal is) (NoFile at)
  end_refused ends.Null at refusal is = subst Why (same_refusal (Masked (subjects.Path path)) refusal is) (Mask at)
  end_refused (ends.Dangling link) at refusal is = subst Why (same_refusal (Dangling link) refusal is) (LeadsNowhere link at)
  end_refused (ends.File file) at refusal is = file_refused file at refusal is

  path_refused : (refusal : Refusal) → (link_unit place path).conclusion t ≡ Err refusal → Why refusal
  unfolding link_unit
  path_refused refusal is = end_refused ((follow path).conclusion t) refl refusal is

  -- the ruling, by where the links lead
  abbrev by_end : End → Ruling
  by_end end = (link_end place path end).conclusion t

  by_follow : (link_unit place path).conclusion t ≡ by_end ((follow path).conclusion t)
  unfolding link_unit
  by_follow = refl

  other_refused : is_unit_name (name_at path) ≡ false → (link_file place path).conclusion t ≡ Err (BadType (subjects.Path path))
  other_refused other = rw other refl

  taken_refused : is_unit_name (name_at path) ≡ true → is_unit_slot (slot_of path) ≡ false → IsTaken t slot path → (link_file place path).conclusion t ≡ Err (Exists slot)
  taken_refused named outside taken = rw (named, outside) (taken_link path slot t taken)

  refused_path : (refusal : Refusal) → Why refusal → (link_unit place path).conclusion t ≡ Err refusal
  refused_path _ (NoFile at) = by_follow ∙ ap by_end at
  refused_path _ (Mask at) = by_follow ∙ ap by_end at
  refused_path _ (LeadsNowhere link at) = by_follow ∙ ap by_end at
  refused_path _ (NoUnitName file at other) = by_follow ∙ ap by_end at ∙ other_refused other
  refused_path _ (SlotTaken file at named outside taken) = by_follow ∙ ap by_end at ∙ taken_refused named outside taken

pub link_refused : LinkRefused
link_refused link t refusal = (
  λ is. by_turn ((refused_in_turn (link_step link) link.paths t refusal).0 (ruling_refused t map.empty refusal ((link_steps link).conclusion t) is)),
  λ why. refused_ruling t map.empty refusal ((link_steps link).conclusion t) ((refused_in_turn (link_step link) link.paths t refusal).1 (turned refusal why)),
)
  where
    by_turn : IsRefusedInTurn (link_step link) link.paths t refusal → WhyNoLinks link t refusal
    by_turn turn = ForPath turn.0 turn.1 refusal turn.2 (path_refused (scope_place link.scope) turn.1 turn.0 refusal turn.3)

    turned : (refusal : Refusal) → WhyNoLinks link t refusal → IsRefusedInTurn (link_step link) link.paths t refusal
    turned refusal (ForPath u path _ turn why) = (u, path, turn, refused_path (scope_place link.scope) path u refusal why)
