-- A unit is looked up first: the step for it is refused exactly if no unit is found, or if what
-- follows is.
use Rattle.std.proofs.Common.{◌≡◌, ◌≢◌, ℕ, true, false, List, ◌⊎◌, ◌↔◌, Result, Ok, Err, refl, sym, ap, subst, ◌∙◌, inl, inr}
use Rattle.std.specs.Str.{bytes_eq}
use Rattle.std.proofs.lemmas.Bool.{cases_Bool, false≢true}
use Rattle.std.specs.Cmp.Lexicographic.{nat_list_eq_equiv}
use Rattle.unit_paths.specs.declared.place.Place.{Place}
use Rattle.link_tree.specs.Trees.{Entries}
use Rattle.link_tree.proofs.Changed.{same_bytes}
use Rattle.load_path.specs.declared.finding.Found.{Found}
use Rattle.load_path.specs.declared.finding.Found.TheVariants as founds
use Rattle.load_path.specs.Find.{find}
use Rattle.tree_access.specs.declared.refusal.Refusal.{Refusal}
use Rattle.tree_access.specs.declared.refusal.Refusal.TheVariants.{NotFound, Masked, Dangling, IsAlias}
use Rattle.tree_access.specs.declared.refusal.Subject.TheVariants as subjects
use Rattle.tree_access.specs.Placing.{Ruling}
use Rattle.footprint.specs.Steps.{Step, unless_refused}
use Rattle.footprint.specs.Units.{IsFound, found_unit, with_unit}
use Rattle.install_commands.specs.Check.{as_itself, one_checked}
use Rattle.refusal_laws.specs.Reasons.{WhyNoUnit, WhyAmiss}
use Rattle.refusal_laws.specs.Reasons.WhyNoUnit.{NoEntry, Mask, LeadsNowhere}
use Rattle.refusal_laws.specs.Reasons.WhyAmiss.{NoUnit, Alias}
use Rattle.refusal_laws.proofs.Rulings.{same_refusal}

module _ (t : Entries) (name : List ℕ) where
  -- what is found is no unit, for this reason
  found_none : (why : Refusal) → WhyNoUnit t name why → found_unit name ((find name).conclusion t) ≡ Err why
  found_none _ (NoEntry at) = ap (found_unit name) at
  found_none _ (Mask place at) = ap (found_unit name) at
  found_none _ (LeadsNowhere link at) = ap (found_unit name) at

  module _ (on : (real file : List ℕ) → Step) where
    -- the ruling, by what is found
    abbrev by_unit : Result (List ℕ × List ℕ) Refusal → Ruling
    by_unit unit = (unless_refused (λ (unit : List ℕ × List ℕ). on unit.0 unit.1) unit).conclusion t

    abbrev pub IsRefusedFor : Refusal → Type 0
    IsRefusedFor refusal = WhyNoUnit t name refusal ⊎ ((real file : List ℕ) × IsFound t name real file × ((on real file).conclusion t ≡ Err refusal))

    by_found : (refusal : Refusal) (found : Found) → (find name).conclusion t ≡ found → by_unit (found_unit name found) ≡ Err refusal → IsRefusedFor refusal
    by_found refusal founds.Missing at is = inl (subst (WhyNoUnit t name) (same_refusal (NotFound (subjects.Unit name)) refusal is) (NoEntry at))
    by_found refusal (founds.Masked place) at is = inl (subst (WhyNoUnit t name) (same_refusal (Masked (subjects.Unit name)) refusal is) (Mask place at))
    by_found refusal (founds.Dangling link) at is = inl (subst (WhyNoUnit t name) (same_refusal (Dangling link) refusal is) (LeadsNowhere link at))
    by_found refusal (founds.Unit real file place) at is = inr (real, file, (place, at), is)

    pub why_refused : (refusal : Refusal) → (with_unit name on).conclusion t ≡ Err refusal → IsRefusedFor refusal
    why_refused refusal is = by_found refusal ((find name).conclusion t) refl is

    pub refused_without : (refusal : Refusal) → WhyNoUnit t name refusal → (with_unit name on).conclusion t ≡ Err refusal
    refused_without refusal why = ap by_unit (found_none refusal why)

    pub refused_with : (real file : List ℕ) (refusal : Refusal) → IsFound t name real file → (on real file).conclusion t ≡ Err refusal → (with_unit name on).conclusion t ≡ Err refusal
    refused_with real file refusal found is = ap (λ found. by_unit (found_unit name found)) found.1 ∙ is

  -- a unit is checked: it must be found under its own name
  abbrev checked_as : Refusal → Result (Unit {0}) Refusal
  checked_as refusal = Err refusal

  same_check : (one other : Refusal) → checked_as one ≡ checked_as other → one ≡ other
  same_check one other is = cc

  checked_found : (refusal : Refusal) (found : Found) → (find name).conclusion t ≡ found → as_itself name (found_unit name found) ≡ Err refusal → WhyAmiss t name refusal
  checked_found refusal founds.Missing at is = NoUnit refusal (subst (WhyNoUnit t name) (same_check (NotFound (subjects.Unit name)) refusal is) (NoEntry at))
  checked_found refusal (founds.Masked place) at is = NoUnit refusal (subst (WhyNoUnit t name) (same_check (Masked (subjects.Unit name)) refusal is) (Mask place at))
  checked_found refusal (founds.Dangling link) at is = NoUnit refusal (subst (WhyNoUnit t name) (same_check (Dangling link) refusal is) (LeadsNowhere link at))
  checked_found refusal (founds.Unit real file place) at is = elim (cases_Bool (bytes_eq real name)) [
    | inl same ↦ (let fine : Ok tt ≡ checked_as refusal = rw same at is in cc)
    | inr other ↦
        subst (WhyAmiss t name) (same_check (IsAlias name real) refusal (rw other at is))
        (Alias real file (place, at) (λ same. false≢true (sym other ∙ subst (λ text. bytes_eq real text ≡ true) same (nat_list_eq_equiv.refl real))))
  ]

  own_name : (real : List ℕ) → real ≢ name → bytes_eq real name ≡ false
  own_name real apart = elim (cases_Bool (bytes_eq real name)) [
    | inl same ↦ absurd (apart (same_bytes real name same))
    | inr other ↦ other
  ]

  alias_refused : (real file : List ℕ) (place : Place) → real ≢ name → as_itself name (found_unit name (founds.Unit real file place)) ≡ Err (IsAlias name real)
  alias_refused real file place apart = rw (own_name real apart) refl

  amiss_checked : (refusal : Refusal) → WhyAmiss t name refusal → (one_checked name).conclusion t ≡ Err refusal
  amiss_checked refusal (NoUnit _ why) = ap (as_itself name) (found_none refusal why)
  amiss_checked _ (Alias real file found apart) = ap (λ found. as_itself name (found_unit name found)) found.1 ∙ alias_refused real file found.0 apart

  -- the check of one unit says why
  pub amiss : (refusal : Refusal) → ((one_checked name).conclusion t ≡ Err refusal) ↔ WhyAmiss t name refusal
  amiss refusal = (checked_found refusal ((find name).conclusion t) refl, amiss_checked refusal)
