-- Links to unit files aren't links to /dev/null.
use Rattle.std.proofs.Common.{◌≡◌, ℕ, Bool, true, false, List, [], ◌∷◌, ◌++◌, All, Option, Some, None, refl, sym, ap, subst, ◌∙◌}
use Rattle.std.specs.Prelude.{codes, if◌then◌else◌, map as list_map}
use Rattle.std.specs.Option.{option_map_or}
use Rattle.std.specs.Str.{bytes_eq}
use Rattle.std.proofs.lemmas.Bool.{false≢true}
use Rattle.std.proofs.lemmas.List.Elements.{All-nil, All-cons, All-append, All-contains, Contains-append_right}
use Rattle.std.proofs.lemmas.Slice.Eq.{bytes_eq-Decides}
use Rattle.unit_name.specs.declared.kind.Kind.{Kind}
use Rattle.unit_name.specs.declared.kind.Kind.TheVariants.{Plain, Template, Instance}
use Rattle.unit_name.specs.Parts.{kind_of, type_text, IsUnitName}
use Rattle.unit_name.specs.Name.{is_unit_name, instance_of, template_of, name_fault, part_fault, prefix_of, stem_of, suffix_of, type_of, type_named}
use Rattle.unit_name.proofs.Instances.{template_named}
use Rattle.unit_name.proofs.Names.{no_fault_in_name}
use Rattle.unit_paths.specs.Canonical.{canonical, canonical_text, is_null_target, merged}
use Rattle.unit_paths.specs.Paths.{is_path, name_at}
use Rattle.unit_paths.specs.Slots.{unit_slot}
use Rattle.unit_paths.specs.declared.place.Place.{Place}
use Rattle.unit_paths.specs.Places.{places}
use Rattle.unit_paths.proofs.Leading.{leads_by_parts}
use Rattle.unit_paths.proofs.Nulls.{merged_null}
use Rattle.unit_paths.proofs.UnitSlots.{unit_slot_path}
use Rattle.link_tree.specs.Trees.{Entries}
use Rattle.load_path.specs.Chains.{Leads, EndsAt, LeadsTo}
use Rattle.load_path.specs.Chains.Leads.{Here, Onward}
use Rattle.load_path.specs.Chains.EndsAt.{AtFile}
use Rattle.load_path.specs.Find.{find}
use Rattle.load_path.specs.Laws.{slots_for, template_slots, candidates, IsTried}
use Rattle.load_path.specs.declared.finding.Found.TheVariants as founds
use Rattle.load_path.specs.declared.following.End.TheVariants as ends
use Rattle.install_section.proofs.Least.{is_first}
use Rattle.load_path.proofs.FirstEntries.{names_are_found_by_first_entry}
use Rattle.load_path.proofs.Units.{is-name}

abbrev null : List ℕ
null = codes "/dev/null"

-- a link that leads to a file with the name of a unit
pub not_null : (link file : List ℕ) → is_path file ≡ true → is_unit_name (name_at file) ≡ true → is_null_target link file ≡ false
unfolding is_null_target name_at name_fault part_fault prefix_of stem_of suffix_of type_of type_named type_text
not_null link file path named =
    ap (λ (text : List ℕ). option_map_or (λ p. bytes_eq p null) (if is_path (merged text) then Some (merged text) else None) false) (leads_by_parts.itself link file path)
    ∙ merged_null file ∙ other (bytes_eq file null) refl
  where
    no_name : is_unit_name (name_at null) ≡ false
    no_name = refl

    other : (same : Bool) → bytes_eq file null ≡ same → bytes_eq file null ≡ false
    other true is = absurd (false≢true (sym no_name ∙ ap (λ p. is_unit_name (name_at p)) (sym ((bytes_eq-Decides file null).0 is)) ∙ named))
    other false is = is

-- of two links with the same target, either both or none lead to /dev/null
pub null_alike : (link one other : List ℕ) → canonical link one ≡ canonical link other → is_null_target link one ≡ is_null_target link other
unfolding is_null_target
null_alike link one other same = ap (λ (o : Option (List ℕ)). option_map_or (λ p. bytes_eq p null) o false) same

-- links from a valid path lead to valid paths
pub led_path : (t : Entries) (path last : List ℕ) (links : ℕ) → Leads t path links last → is_path path ≡ true → is_path last ≡ true
led_path t path last links (Here start) is = is
led_path t path last links (Onward from next to more link on) is = led_path t next last more on (of_canonical from link.0 next (is_path (canonical_text from link.0)) refl link.2)
  where
    of_canonical : (from target next : List ℕ) (b : Bool) → is_path (canonical_text from target) ≡ b → (if b then Some (canonical_text from target) else None) ≡ Some next → is_path next ≡ true
    of_canonical from target next true path_is same = (let at : canonical_text from target ≡ next = cc in subst (λ p. is_path p ≡ true) at path_is)
    of_canonical from target next false path_is same = cc

abbrev Slot : Type 0
Slot = Place × List ℕ

abbrev HasPath : Slot → Type 0
HasPath slot = is_path slot.1 ≡ true

slots_are_paths : (name : List ℕ) → is_unit_name name ≡ true → All HasPath (slots_for name)
slots_are_paths name valid = each places
  where
    each : (ps : List Place) → All HasPath (list_map (λ place. (place, unit_slot place name)) ps)
    each [] = All-nil HasPath
    each (p ∷ ps) = All-cons HasPath (p, unit_slot p name) (list_map (λ place. (place, unit_slot place name)) ps) (unit_slot_path p name valid) (each ps)

template_slots_are_paths : (kind : Kind) (name : List ℕ) → kind_of (instance_of name) ≡ kind → is_unit_name name ≡ true → All HasPath (template_slots kind name)
template_slots_are_paths Plain name is valid = All-nil HasPath
template_slots_are_paths Template name is valid = All-nil HasPath
template_slots_are_paths Instance name is valid = slots_are_paths (template_of name) (whole (template_named name (is-name name valid) (λ plain. absurd (let both : Plain ≡ Instance = sym plain ∙ is in cc))))
  where
    whole : IsUnitName (template_of name) → is_unit_name (template_of name) ≡ true
    whole named = rw (no_fault_in_name (template_of name) named) refl

-- a unit's file is at a valid path
pub file_path : (t : Entries) (name real file : List ℕ) (place : Place) → is_unit_name name ≡ true → (find name).conclusion t ≡ founds.Unit real file place → is_path file ≡ true
file_path t name real file place valid found =
    let by = ((names_are_found_by_first_entry name t).unit real file place).0 found in
    led by.0 by.1.0 by.2
  where
    all : All HasPath (candidates name)
    all = All-append HasPath (slots_for name) (template_slots (kind_of (instance_of name)) name) (slots_are_paths name valid) (template_slots_are_paths (kind_of (instance_of name)) name refl valid)

    tried : (slot : Slot) → IsTried t name slot → is_path slot.1 ≡ true
    tried slot at = All-contains HasPath (at.0 ++ slot ∷ at.1) slot (subst (All HasPath) at.2 all) (Contains-append_right at.0 (slot ∷ at.1) slot (is_first slot at.1 slot refl))

    led : (path : List ℕ) → IsTried t name (place, path) → LeadsTo t 8 path (ends.File file) → is_path file ≡ true
    led path at leads = last_path leads.2 leads.5 (led_path t path leads.2 leads.0 leads.4 (tried (place, path) at))
      where
        last_path : (last : List ℕ) → EndsAt t leads.1 last (ends.File file) → is_path last ≡ true → is_path file ≡ true
        last_path last (AtFile there) is = is
