-- Links that an enable makes belong to its units, and so the units are reported as enabled.
use Rattle.std.proofs.Common.{◌≡◌, ◌≢◌, ℕ, Bool, true, false, List, ◌++◌, Option, Some, None, Ok, Err, refl, sym, ap, subst, ◌∙◌, inl, inr}
use Rattle.std.specs.Prelude.{not, if◌then◌else◌}
use Rattle.std.specs.FinMap as map
use Rattle.std.specs.List.{after_last}
use Rattle.std.specs.Str.{bytes_eq}
use Rattle.std.proofs.lemmas.Bool.{false≢true, and_from, and_parts, or_left, or_right}
use Rattle.std.proofs.lemmas.Slice.Eq.{bytes_eq-Decides}
use Rattle.unit_name.specs.declared.kind.Kind.{Kind}
use Rattle.unit_name.specs.declared.kind.Kind.TheVariants.{Plain, Template, Instance}
use Rattle.unit_name.specs.Parts.{kind_of}
use Rattle.unit_name.specs.Name.{is_unit_name, instance_of, type_of}
use Rattle.unit_name.specs.Specifiers.{expansion}
use Rattle.unit_file.specs.declared.notice.Reason.TheVariants.{BadName}
use Rattle.unit_paths.specs.declared.place.Place.{Place}
use Rattle.unit_paths.specs.declared.place.Scope.{Scope}
use Rattle.unit_paths.specs.declared.place.Scope.TheVariants.{Etc, Run}
use Rattle.unit_paths.specs.declared.slot.Dependency.{Dependency}
use Rattle.unit_paths.specs.declared.slot.Dependency.TheVariants.{Wants, Requires, Upholds}
use Rattle.unit_paths.specs.declared.slot.Slot.TheVariants as slots
use Rattle.unit_paths.specs.Canonical.{canonical}
use Rattle.unit_paths.specs.Paths.{is_slash, name_at}
use Rattle.unit_paths.specs.Places.{scope_place, unit_directory}
use Rattle.unit_paths.specs.Slots.{unit_slot, dependency_slot, dependency_ending, slot_of_dependency, slot_of}
use Rattle.unit_paths.proofs.DependencySlots.{dependency_slot_is}
use Rattle.unit_paths.proofs.Slashes.{name-seam}
use Rattle.unit_paths.proofs.UnitSlots.{no_slash, name_facts, unit_slot_is}
use Rattle.link_tree.specs.declared.entry.Entry.TheVariants.{Link}
use Rattle.link_tree.specs.Links.{is_of_scope, is_instance, is_named, belongs}
use Rattle.link_tree.specs.Trees.{Entries}
use Rattle.load_path.proofs.Units.{unit_is_like_name}
use Rattle.install_section.specs.declared.section.Section.{Section}
use Rattle.install_section.specs.Closure.{IsUnit, Reached}
use Rattle.install_section.specs.Sections.{section_of, identity_in}
use Rattle.install_section.specs.WantedLaws.{IsListed, HasInstanceListed, HasAlias, AsksFor}
use Rattle.install_section.specs.Wishes.{alias_by, alias_meant, has_aliases, are_alike, may_have}
use Rattle.install_section.specs.Words.{name_or_reason, named_by}
use Rattle.load_path.specs.RealNames.{is_same_type}
use Rattle.install_section.proofs.Least.{some_is}
use Rattle.tree_access.specs.Rules.{LeadsAs}
use Rattle.footprint.specs.declared.answer.StateWord.TheVariants.{Enabled, EnabledRuntime}
use Rattle.install_commands.specs.declared.enable.Enable.{Enable}
use Rattle.install_commands.specs.Enable.{enable_meaning}
use Rattle.install_commands.specs.Laws.{Leaves}
use Rattle.install_commands.proofs.Checked.{check_passes}
use Rattle.install_commands.proofs.Enabled.{made, wants_of, enable_joins}
use Rattle.states.specs.Laws.{IsLinkedIn}
use Rattle.states.specs.Laws.Tells.{LinkedInEtc, LinkedInRun}
use Rattle.states.proofs.Words.{words_are_told}
use Rattle.state_laws.specs.Laws.{AsksToBeEnabled, IsToldEnabled, EnabledAfterEnable}
use Rattle.state_laws.proofs.Files.{reached_is_unit, identity_named, IsFileOf, file_of}
use Rattle.state_laws.proofs.NotNull.{not_null, null_alike}

-- a word names a unit
word_named : (identity word name : List ℕ) → named_by identity word ≡ Ok name → is_unit_name name ≡ true
word_named identity word name is = by_text (expansion identity word) is
  where
    by_name : (text : List ℕ) (b : Bool) → is_unit_name text ≡ b → (if b then Ok text else Err BadName) ≡ Ok name → is_unit_name name ≡ true
    by_name text true valid same = (let at : text ≡ name = cc in subst (λ n. is_unit_name n ≡ true) at valid)
    by_name text false valid same = cc

    by_text : (text : Option (List ℕ)) → name_or_reason text ≡ Ok name → is_unit_name name ≡ true
    by_text None same = cc
    by_text (Some text) same = by_name text (is_unit_name text) refl same

-- the slots of a scope are those of its directory
dependency_of_scope : (scope : Scope) (dependency : Dependency) → is_of_scope scope (Some (slot_of_dependency (scope_place scope) dependency)) ≡ true
dependency_of_scope Etc Wants = refl
dependency_of_scope Etc Requires = refl
dependency_of_scope Etc Upholds = refl
dependency_of_scope Run Wants = refl
dependency_of_scope Run Requires = refl
dependency_of_scope Run Upholds = refl

unit_of_scope : (scope : Scope) → is_of_scope scope (Some (slots.Unit (scope_place scope))) ≡ true
unit_of_scope Etc = refl
unit_of_scope Run = refl

-- a slot of a dependency is not a unit's slot
other_slot : (place : Place) (dependency : Dependency) → Some (slot_of_dependency place dependency) ≡ Some (slots.Unit place) → ⊥
other_slot place Wants same = cc
other_slot place Requires same = cc
other_slot place Upholds same = cc

module _ (scope : Scope) (u : Entries) (unit : List ℕ) where
  abbrev place : Place
  place = scope_place scope

  -- a link of the scope belongs to the unit, by its own name or by the last part of its target
  linked : (path file text : List ℕ) → map.get u path ≡ Some (Link text) → canonical path text ≡ canonical path file → IsFileOf unit file
      → is_of_scope scope (slot_of path) ≡ true → is_named unit path text ≡ true → path ≢ unit_slot place unit → IsLinkedIn scope u unit
  unfolding belongs
  linked path file text there alike facts of_scope named off = (path, Link text, there, is, off)
    where
      is : belongs scope unit path (Link text) ≡ true
      is = and_from _ _ (and_from _ _ of_scope (ap not (null_alike path text file alike ∙ not_null path file facts.path facts.named))) named

  at_dependency : (dependency : Dependency) (by name path : List ℕ) → is_unit_name by ≡ true → is_unit_name name ≡ true → is_unit_name unit ≡ true → path ≡ dependency_slot place dependency by name
      → (is_of_scope scope (slot_of path) ≡ true) × (path ≢ unit_slot place unit) × (name_at path ≡ name)
  at_dependency dependency by name path by_valid valid unit_valid at =
      let slot : slot_of path ≡ Some (slot_of_dependency place dependency) = ap slot_of at ∙ dependency_slot_is place dependency by name by_valid valid in (
        ap (is_of_scope scope) slot ∙ dependency_of_scope scope dependency,
        λ same. other_slot place dependency (sym slot ∙ ap slot_of same ∙ unit_slot_is place unit unit_valid),
        ap name_at at ∙ name-seam (unit_slot place (by ++ dependency_ending dependency)) name (no_slash name (name_facts name valid).bytes),
      )

  -- by its own name
  by_name : (path text : List ℕ) → name_at path ≡ unit → is_named unit path text ≡ true
  by_name path text at = or_left (bytes_eq (name_at path) unit) _ ((bytes_eq-Decides (name_at path) unit).1 at)

  -- by the name of the file to which it leads
  by_target : (path file : List ℕ) → kind_of (instance_of unit) ≢ Instance → name_at file ≡ unit → is_named unit path file ≡ true
  unfolding name_at
  by_target path file off at =
      or_right (bytes_eq (name_at path) unit) _ (and_from _ _ (ap not (no_instance (kind_of (instance_of unit)) off)) ((bytes_eq-Decides (after_last is_slash file) unit).1 at))
    where
      no_instance : (kind : Kind) → kind ≢ Instance → is_instance kind ≡ false
      no_instance Plain off = refl
      no_instance Template off = refl
      no_instance Instance off = absurd (off refl)

  -- an alias is a different name
  alias_off : (alias path : List ℕ) → is_unit_name alias ≡ true → is_unit_name unit ≡ true → may_have unit alias ≡ true → path ≡ unit_slot place alias → path ≢ unit_slot place unit
  unfolding may_have
  alias_off alias path valid unit_valid may at same =
      let other = (and_parts (not (bytes_eq alias unit)) (are_alike (instance_of alias) (instance_of unit))
      (and_parts (has_aliases (type_of unit)) _ (and_parts (is_same_type (type_of alias) (type_of unit)) _ may).1).1).0 in
      let alike : alias ≡ unit =
      sym (name-seam (unit_directory place) alias (no_slash alias (name_facts alias valid).bytes))
      ∙ ap name_at (sym at ∙ same)
      ∙ name-seam (unit_directory place) unit (no_slash unit (name_facts unit unit_valid).bytes) in
      false≢true (sym (ap not ((bytes_eq-Decides alias unit).1 alike)) ∙ other)

  alias_named : (name alias : List ℕ) (one other : Kind) → one ≢ Instance → alias_by one other unit name ≡ Some alias → name ≡ alias
  alias_named name alias Plain Plain off is = some_is name alias is
  alias_named name alias Plain Template off is = some_is name alias is
  alias_named name alias Plain Instance off is = some_is name alias is
  alias_named name alias Template Plain off is = some_is name alias is
  alias_named name alias Template Template off is = some_is name alias is
  alias_named name alias Template Instance off is = some_is name alias is
  alias_named name alias Instance other off is = absurd (off refl)

module _ (enable : Enable) (t u : Entries) (leaves : Leaves (enable_meaning enable) t u) (unit path : List ℕ) (reached : Reached t enable.units unit) (own : IsUnit u unit) where
  abbrev scope : Scope
  scope = enable.scope

  abbrev dir : Place
  dir = scope_place scope

  valid : is_unit_name unit ≡ true
  valid = (unit_is_like_name unit u unit own.0 own.1 own.2).0

  was : IsUnit t unit
  was =
      let links = made scope false enable.units t u leaves in
      reached_is_unit t enable.units ((check_passes enable.units t).0 (wants_of scope false enable.units t links.given links.are).0) unit reached

  is_file : (section : Section) (file : List ℕ) → (section_of unit).conclusion t ≡ Some section → file ≡ section.file → IsFileOf unit file
  is_file section file has at = subst (IsFileOf unit) (sym at) (file_of t unit valid was section has)

  leads : (file : List ℕ) → AsksFor t dir unit path file → LeadsAs u path file
  leads file asks = (enable_joins enable t u leaves).1 path file (unit, reached, asks)

  stands : (file : List ℕ) → AsksFor t dir unit path file → map.get t path ≡ None → map.get u path ≡ Some (Link file)
  stands file asks none = ((enable_joins enable t u leaves).0 path (Link file)).1 (inr (none, file, (unit, reached, asks), refl))

  by_own : (file : List ℕ) → IsListed t dir unit path file → IsLinkedIn scope u unit
  by_own file listed =
      let section = listed.0 in let by = listed.2 in let word = listed.3 in
      let link = leads file (inl listed) in
      let at = at_dependency scope u unit listed.1 by unit path (word_named (identity_in unit section) word.0 by word.2) valid valid listed.5 in
      linked scope u unit path file link.0 link.1 link.2 (is_file section file word.1.0 listed.6) at.0 (by_name scope u unit path link.0 at.2) at.1

  by_instance : (file : List ℕ) → HasInstanceListed t dir unit path file → map.get t path ≡ None → kind_of (instance_of unit) ≢ Instance → IsLinkedIn scope u unit
  by_instance file listed none off =
      let section = listed.0 in let by = listed.2 in let word = listed.3 in
      let name = identity_in unit section in
      let facts = is_file section file word.1.0 listed.7 in
      let at = at_dependency scope u unit listed.1 by name path (word_named name word.0 by word.2) (identity_named unit section.text.default_instance valid) valid listed.6 in
      linked scope u unit path file file (stands file (inr (inl listed)) none) refl facts at.0 (by_target scope u unit path file off (facts.own off)) at.1

  by_alias : (file : List ℕ) → HasAlias t dir unit path file → map.get t path ≡ None → kind_of (instance_of unit) ≢ Instance → IsLinkedIn scope u unit
  unfolding alias_meant
  by_alias file has none off =
      let section = has.0 in let word = has.1 in let name = has.2 in let alias = has.3 in
      let facts = is_file section file has.4.0 has.9 in
      let same : name ≡ alias = alias_named scope u unit name alias (kind_of (instance_of unit)) (kind_of (instance_of name)) off has.6 in
      let alias_valid : is_unit_name alias ≡ true = subst (λ n. is_unit_name n ≡ true) same (word_named (identity_in unit section) word name has.5) in
      linked scope u unit path file file (stands file (inr (inr has)) none) refl facts
      (ap (λ p. is_of_scope scope (slot_of p)) has.8 ∙ ap (is_of_scope scope) (unit_slot_is dir alias alias_valid) ∙ unit_of_scope scope)
      (by_target scope u unit path file off (facts.own off)) (alias_off scope u unit alias path alias_valid valid has.7 has.8)

  is_linked : AsksToBeEnabled t dir unit path → IsLinkedIn scope u unit
  is_linked asks = elim asks.1 [
    | inl listed ↦ by_own asks.0 listed
    | inr other ↦ elim other.0 [
      | inl instance ↦ by_instance asks.0 instance other.1 other.2
      | inr alias ↦ by_alias asks.0 alias other.1 other.2
    ]
  ]

told : (scope : Scope) (u : Entries) (unit : List ℕ) → IsUnit u unit → IsLinkedIn scope u unit → IsToldEnabled scope u unit
told Etc u unit own link = (words_are_told unit u Enabled).1 (LinkedInEtc own link)
told Run u unit own link = λ none. (words_are_told unit u EnabledRuntime).1 (LinkedInRun own none link)

pub enabled_after_enable : EnabledAfterEnable
enabled_after_enable enable t u leaves unit path reached asks own = told enable.scope u unit own (is_linked enable t u leaves unit path reached own asks)
