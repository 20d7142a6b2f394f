-- Why set-default is refused.
use Rattle.std.proofs.Common.{◌≡◌, ◌≢◌, ℕ, true, false, List, Option, Some, None, Ok, Err, refl, sym, ap, subst, ◌∙◌, inl, inr}
use Rattle.std.specs.FinMap as map
use Rattle.std.proofs.lemmas.Bool.{cases_Bool, false≢true}
use Rattle.unit_name.specs.declared.kind.UnitType.{UnitType}
use Rattle.unit_name.specs.declared.kind.UnitType.TheVariants as types
use Rattle.unit_name.specs.Name.{type_of}
use Rattle.unit_file.specs.Listed.{is_template_name}
use Rattle.link_tree.specs.declared.entry.Entry.{Entry}
use Rattle.link_tree.specs.declared.entry.Entry.TheVariants.{File, Link}
use Rattle.link_tree.specs.Trees.{Entries}
use Rattle.tree_access.specs.declared.refusal.Refusal.{Refusal}
use Rattle.tree_access.specs.declared.refusal.Refusal.TheVariants.{BadType, NeedsInstance, Exists}
use Rattle.tree_access.specs.declared.refusal.Subject.TheVariants as subjects
use Rattle.tree_access.specs.Placing.{ruled_at}
use Rattle.tree_access.specs.Rules.{leads_alike, relink_at}
use Rattle.footprint.specs.Units.{IsFound}
use Rattle.slot_commands.specs.declared.set_default.SetDefault.{SetDefault}
use Rattle.slot_commands.specs.SetDefault.{default_slot, is_target_type, default_file, default_steps}
use Rattle.refusal_laws.specs.Slots.{WhyNotDefault, SetDefaultRefused}
use Rattle.refusal_laws.specs.Slots.WhyNotDefault.{NoUnit, NoTarget, Template, FileThere}
use Rattle.refusal_laws.proofs.Rulings.{refused, same_refusal, ruling_refused, refused_ruling}
use Rattle.refusal_laws.proofs.Lookups.{why_refused, refused_without, refused_with}

is_target : (type : Option UnitType) → is_target_type type ≡ true → type ≡ Some types.Target
is_target None is = absurd (false≢true is)
is_target (Some types.Target) is = refl
is_target (Some types.Service) is = absurd (false≢true is)
is_target (Some types.Socket) is = absurd (false≢true is)
is_target (Some types.Device) is = absurd (false≢true is)
is_target (Some types.Mount) is = absurd (false≢true is)
is_target (Some types.Automount) is = absurd (false≢true is)
is_target (Some types.Swap) is = absurd (false≢true is)
is_target (Some types.Path) is = absurd (false≢true is)
is_target (Some types.Timer) is = absurd (false≢true is)
is_target (Some types.Slice) is = absurd (false≢true is)
is_target (Some types.Scope) is = absurd (false≢true is)

is_other : (type : Option UnitType) → type ≢ Some types.Target → is_target_type type ≡ false
is_other type other = elim (cases_Bool (is_target_type type)) [
  | inl target ↦ absurd (other (is_target type target))
  | inr not ↦ not
]

not_target : (type : Option UnitType) → is_target_type type ≡ false → type ≢ Some types.Target
not_target type not = λ same. false≢true (sym not ∙ ap is_target_type same)

module _ (set_default : SetDefault) (t : Entries) where
  abbrev name : List ℕ
  name = set_default.unit

  abbrev Why : Refusal → Type 0
  Why refusal = WhyNotDefault set_default t refusal

  module _ (real file : List ℕ) (found : IsFound t name real file) (refusal : Refusal) where
    by_entry : type_of name ≡ Some types.Target → is_template_name real ≡ false → (there : Option Entry) → map.get t default_slot ≡ there
        → ruled_at default_slot (relink_at file default_slot there) ≡ Err refusal → Why refusal
    by_entry target plain None at is = cc
    by_entry target plain (Some (File contents)) at is = subst Why (same_refusal (Exists default_slot) refusal is) (FileThere real file contents found target plain at)
    by_entry target plain (Some (Link other)) at is = elim (cases_Bool (leads_alike default_slot other file)) [
      | inl alike ↦ (let stays : ruled_at default_slot (Ok (Some (Link other))) ≡ refused refusal = rw alike at is in cc)
      | inr apart ↦ (let made : ruled_at default_slot (Ok (Some (Link file))) ≡ refused refusal = rw apart at is in cc)
    ]

    file_refused : (default_file name real file).conclusion t ≡ Err refusal → Why refusal
    unfolding default_file
    file_refused is = elim (cases_Bool (is_target_type (type_of name))) [
      | inr other ↦ subst Why (same_refusal (BadType (subjects.Unit name)) refusal (rw other at is)) (NoTarget real file found (not_target (type_of name) other))
      | inl target ↦ elim (cases_Bool (is_template_name real)) [
        | inl template ↦ subst Why (same_refusal (NeedsInstance real) refusal (rw (target, template) at is)) (Template real file found (is_target (type_of name) target) template)
        | inr plain ↦ by_entry (is_target (type_of name) target) plain (map.get t default_slot) refl (rw (target, plain) at is)
      ]
    ]

  only : (refusal : Refusal) → (default_steps set_default).conclusion t ≡ Err refusal → Why refusal
  only refusal is = elim (why_refused t name (default_file name) refusal is) [
    | inl none ↦ NoUnit refusal none
    | inr unit ↦ file_refused unit.0 unit.1 unit.2 refusal unit.3
  ]

  other_refused : (real file : List ℕ) → is_target_type (type_of name) ≡ false → (default_file name real file).conclusion t ≡ Err (BadType (subjects.Unit name))
  unfolding default_file
  other_refused real file other = rw other refl

  template_refused : (real file : List ℕ) → is_target_type (type_of name) ≡ true → is_template_name real ≡ true → (default_file name real file).conclusion t ≡ Err (NeedsInstance real)
  unfolding default_file
  template_refused real file target template = rw (target, template) refl

  there_refused : (real file contents : List ℕ) → is_target_type (type_of name) ≡ true → is_template_name real ≡ false → map.get t default_slot ≡ Some (File contents)
      → (default_file name real file).conclusion t ≡ Err (Exists default_slot)
  unfolding default_file
  there_refused real file contents target plain at = rw (target, plain) (ap (λ there. ruled_at default_slot (relink_at file default_slot there)) at)

  all : (refusal : Refusal) → Why refusal → (default_steps set_default).conclusion t ≡ Err refusal
  all refusal (NoUnit _ none) = refused_without t name (default_file name) refusal none
  all _ (NoTarget real file found other) = refused_with t name (default_file name) real file (BadType (subjects.Unit name)) found (other_refused real file (is_other (type_of name) other))
  all _ (Template real file found target template) =
      refused_with t name (default_file name) real file (NeedsInstance real) found (template_refused real file (ap is_target_type target) template)
  all _ (FileThere real file contents found target plain at) =
      refused_with t name (default_file name) real file (Exists default_slot) found (there_refused real file contents (ap is_target_type target) plain at)

pub set_default_refused : SetDefaultRefused
set_default_refused set_default t refusal = (
  λ is. only set_default t refusal (ruling_refused t map.empty refusal ((default_steps set_default).conclusion t) is),
  λ why. refused_ruling t map.empty refusal ((default_steps set_default).conclusion t) (all set_default t refusal why),
)
