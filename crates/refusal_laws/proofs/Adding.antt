-- Why add-wants and add-requires are refused.
use Rattle.std.proofs.Common.{◌≡◌, ◌≢◌, ℕ, true, List, Option, Some, None, Err, refl, sym, ap, subst, ◌∙◌, inl, inr}
use Rattle.std.specs.FinMap as map
use Rattle.std.proofs.lemmas.Bool.{cases_Bool}
use Rattle.unit_name.specs.declared.kind.Kind.{Kind}
use Rattle.unit_name.specs.declared.kind.Kind.TheVariants.{Plain, Template, Instance}
use Rattle.unit_name.specs.Name.{instance_of}
use Rattle.unit_name.specs.Parts.{kind_of}
use Rattle.unit_file.specs.Identity.{identity_of}
use Rattle.unit_file.specs.Listed.{stands_for_instance, as_instance, listed_name}
use Rattle.unit_paths.specs.Places.{scope_place}
use Rattle.link_tree.specs.Trees.{Entries}
use Rattle.tree_access.specs.declared.refusal.Refusal.{Refusal}
use Rattle.tree_access.specs.declared.refusal.Refusal.TheVariants.{NeedsInstance, Exists}
use Rattle.tree_access.specs.Placing.{Ruling}
use Rattle.footprint.specs.Units.{IsFound}
use Rattle.slot_commands.specs.declared.add_to.AddTo.{AddTo}
use Rattle.slot_commands.specs.AddTo.{as_dependency, default_of, name_listed, add_listed, add_file, add_unit, add_units, add_steps}
use Rattle.footprint_laws.specs.Slots.{add_step, added_slot}
use Rattle.refusal_laws.specs.Reasons.{IsTaken}
use Rattle.refusal_laws.specs.Slots.{LacksInstance, WhyNotAdded, WhyNoneAdded, AddRefused}
use Rattle.refusal_laws.specs.Slots.WhyNotAdded.{NoUnit, NoInstance, SlotTaken}
use Rattle.refusal_laws.specs.Slots.WhyNoneAdded.{NoTarget, ForUnit}
use Rattle.refusal_laws.proofs.Rulings.{same_refusal, ruling_refused, refused_ruling}
use Rattle.refusal_laws.proofs.Lookups.{why_refused, refused_without, refused_with}
use Rattle.refusal_laws.proofs.Taking.{link_taken, taken_link}
use Rattle.refusal_laws.proofs.Turned.{IsRefusedInTurn, refused_in_turn}

-- a name that isn't that of an instance
none_as : (kind : Kind) (name : List ℕ) → as_instance kind name ≡ None → kind ≢ Instance
none_as Plain name none = λ is. cc
none_as Template name none = λ is. cc
none_as Instance name none = cc

as_none : (kind : Kind) (name : List ℕ) → kind ≢ Instance → as_instance kind name ≡ None
as_none Plain name other = refl
as_none Template name other = refl
as_none Instance name other = absurd (other refl)

-- a template that represents its default instance and has none isn't listed; any other unit is
listed_none : (by unit identity : List ℕ) → listed_name by unit identity ≡ None → (stands_for_instance by unit ≡ true) × (kind_of (instance_of identity) ≢ Instance)
unfolding listed_name
listed_none by unit identity none = elim (cases_Bool (stands_for_instance by unit)) [
  | inl stands ↦ (stands, none_as (kind_of (instance_of identity)) identity (rw stands at none))
  | inr own ↦ (let some : Some unit ≡ None = rw own at none in cc)
]

none_listed : (by unit identity : List ℕ) → stands_for_instance by unit ≡ true → kind_of (instance_of identity) ≢ Instance → listed_name by unit identity ≡ None
unfolding listed_name
none_listed by unit identity stands other = rw stands (as_none (kind_of (instance_of identity)) identity other)

module _ (add : AddTo) (by : List ℕ) (t : Entries) where
  module _ (unit : List ℕ) where
    abbrev Why : Refusal → Type 0
    Why refusal = WhyNotAdded add by t unit refusal

    module _ (real file : List ℕ) where
      -- the name by which the unit is listed
      abbrev its_name : Option (List ℕ)
      its_name = name_listed by real (default_of (map.get t file))

      -- the ruling, by that name
      abbrev by_name : Option (List ℕ) → Ruling
      by_name name = (add_listed (scope_place add.scope) (as_dependency add.dependency) by real file name).conclusion t

      by_file : (add_file (scope_place add.scope) (as_dependency add.dependency) by real file).conclusion t ≡ by_name its_name
      unfolding add_file
      by_file = refl

      name_refused : IsFound t unit real file → (name : Option (List ℕ)) → its_name ≡ name → (refusal : Refusal) → by_name name ≡ Err refusal → Why refusal
      name_refused found None at refusal is =
          subst Why (same_refusal (NeedsInstance real) refusal is)
          (NoInstance real file found (listed_none by real (identity_of real (default_of (map.get t file))) at))
      name_refused found (Some name) at refusal is =
          let taken = link_taken file (added_slot add by name) t refusal is in
          subst Why (sym taken.0) (SlotTaken name file (real, found, at) taken.1)

      file_refused : IsFound t unit real file → (refusal : Refusal) → (add_file (scope_place add.scope) (as_dependency add.dependency) by real file).conclusion t ≡ Err refusal → Why refusal
      file_refused found refusal is = name_refused found its_name refl refusal (sym by_file ∙ is)

      lacking_refused : LacksInstance t by real file → (add_file (scope_place add.scope) (as_dependency add.dependency) by real file).conclusion t ≡ Err (NeedsInstance real)
      lacking_refused lacks = by_file ∙ ap by_name (none_listed by real (identity_of real (default_of (map.get t file))) lacks.0 lacks.1)

      taken_refused : (name : List ℕ) → its_name ≡ Some name → IsTaken t (added_slot add by name) file
          → (add_file (scope_place add.scope) (as_dependency add.dependency) by real file).conclusion t ≡ Err (Exists (added_slot add by name))
      taken_refused name at taken = by_file ∙ ap by_name at ∙ taken_link file (added_slot add by name) t taken

    unit_refused : (refusal : Refusal) → (add_step add by unit).conclusion t ≡ Err refusal → Why refusal
    unfolding add_unit
    unit_refused refusal is = elim (why_refused t unit (add_file (scope_place add.scope) (as_dependency add.dependency) by) refusal is) [
      | inl none ↦ NoUnit refusal none
      | inr found ↦ file_refused found.0 found.1 found.2 refusal found.3
    ]

    refused_unit : (refusal : Refusal) → Why refusal → (add_step add by unit).conclusion t ≡ Err refusal
    unfolding add_unit
    refused_unit refusal (NoUnit _ none) = refused_without t unit (add_file (scope_place add.scope) (as_dependency add.dependency) by) refusal none
    refused_unit _ (NoInstance real file found lacks) =
        refused_with t unit (add_file (scope_place add.scope) (as_dependency add.dependency) by) real file (NeedsInstance real) found (lacking_refused real file lacks)
    refused_unit _ (SlotTaken name file listed taken) =
        refused_with t unit (add_file (scope_place add.scope) (as_dependency add.dependency) by) listed.0 file (Exists (added_slot add by name)) listed.1
        (taken_refused listed.0 file name listed.2 taken)

module _ (add : AddTo) (t : Entries) where
  by_turn : (by file : List ℕ) (refusal : Refusal) → IsFound t add.target by file → IsRefusedInTurn (add_step add by) add.units t refusal → WhyNoneAdded add t refusal
  by_turn by file refusal found turn = ForUnit by file turn.0 turn.1 refusal found turn.2 (unit_refused add by turn.0 turn.1 refusal turn.3)

  only : (refusal : Refusal) → (add_steps add).conclusion t ≡ Err refusal → WhyNoneAdded add t refusal
  only refusal is = elim (why_refused t add.target (λ real file. add_units (scope_place add.scope) (as_dependency add.dependency) add.units real) refusal is) [
    | inl none ↦ NoTarget refusal none
    | inr found ↦ by_turn found.0 found.1 refusal found.2 ((refused_in_turn (add_step add found.0) add.units t refusal).0 found.3)
  ]

  all : (refusal : Refusal) → WhyNoneAdded add t refusal → (add_steps add).conclusion t ≡ Err refusal
  all refusal (NoTarget _ none) = refused_without t add.target (λ real file. add_units (scope_place add.scope) (as_dependency add.dependency) add.units real) refusal none
  all refusal (ForUnit by file u unit _ found turn why) =
      refused_with t add.target (λ real file. add_units (scope_place add.scope) (as_dependency add.dependency) add.units real) by file refusal found
      ((refused_in_turn (add_step add by) add.units t refusal).1 (u, unit, turn, refused_unit add by u unit refusal why))

pub add_refused : AddRefused
add_refused add t refusal = (
  λ is. only add t refusal (ruling_refused t map.empty refusal ((add_steps add).conclusion t) is),
  λ why. refused_ruling t map.empty refusal ((add_steps add).conclusion t) (all add t refusal why),
)
