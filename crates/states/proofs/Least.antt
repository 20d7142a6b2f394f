-- Dependencies are the least set, and reversing them swaps the two units.
use Rattle.std.proofs.Common.{◌≡◌, ◌≢◌, ℕ, Bool, true, false, List, [], Some, None, if◌then◌else◌, Contains, refl, sym, ap, subst, ◌∙◌}
use Rattle.std.proofs.lemmas.Bool.{true≢false}
use Rattle.std.specs.FinMap as map
use Rattle.std.proofs.lemmas.List.Elements.{All-contains}
use Rattle.unit_name.specs.declared.kind.Kind.{Kind}
use Rattle.unit_name.specs.declared.kind.Kind.TheVariants.{Plain, Template, Instance}
use Rattle.unit_name.specs.Parts.{kind_of}
use Rattle.unit_name.specs.Name.{is_unit_name, instance_of, template_of}
use Rattle.unit_name.proofs.Instances.{instance_set}
use Rattle.unit_paths.specs.declared.place.Place.{Place}
use Rattle.unit_paths.specs.declared.slot.Dependency.{Dependency}
use Rattle.unit_paths.specs.declared.slot.Dependency.TheVariants.{Wants, Requires, Upholds}
use Rattle.unit_paths.specs.Slots.{dependency_slot, slot_of_dependency, slot_of}
use Rattle.unit_paths.proofs.DependencySlots.{dependency_slot_is}
use Rattle.link_tree.specs.declared.entry.Entry.{Entry}
use Rattle.link_tree.specs.declared.entry.Entry.TheVariants.{Link}
use Rattle.link_tree.specs.Trees.{Entries}
use Rattle.link_tree.proofs.Maps.{all_standing, all_listed}
use Rattle.load_path.proofs.Units.{is-name}
use Rattle.tree_access.specs.declared.key.Key.TheVariants.{Links}
use Rattle.tree_access.specs.Keys.{part}
use Rattle.unit_paths.specs.Kinds.{is_dependency}
use Rattle.tree_access.proofs.Parts.{part_selected, part_stands, stands_in_part}
use Rattle.states.specs.declared.step.Step.{Step}
use Rattle.states.specs.Dependencies.{HasLink, IsLinked, IsLinkedBy, Leads, Reached, turned, steps_of, ends_of, end_for, next_names, reached_names, dependencies}
use Rattle.states.specs.Dependencies.Leads.{OwnLink, LinkOfTemplate, BetweenTemplates}
use Rattle.states.specs.Dependencies.Reached.{Next, Further}
use Rattle.states.specs.DependencyLaws.{DependenciesAreLeast, DependenciesTurnRound}
use Rattle.states.proofs.Linked.{link_step, step_link}
use Rattle.states.proofs.Around.{Comes, of_next, in_next, of_ends, in_ends, of_steps, in_steps, steps_named, are_all, same_reached}
use Rattle.states.proofs.Around.Comes.{Own, Shared}
use Rattle.states.proofs.Ordered.{Contains-names_but}
use Rattle.states.proofs.Reaches.{Name}

plain_template : Plain ≡ Template → ⊥
plain_template h = cc

instance_template : Instance ≡ Template → ⊥
instance_template h = cc

module _ (t : Entries) where
  abbrev links : Entries
  links = part Links t

  abbrev all : List (List ℕ × Entry)
  all = map.entries links

  turned_round : (reverse : Bool) (made step : Step) → turned reverse made ≡ step → IsLinked t made.from made.to → IsLinkedBy reverse t step.from step.to
  turned_round true made step is linked = subst (λ (step : Step). IsLinked t step.to step.from) is linked
  turned_round false made step is linked = subst (λ (step : Step). IsLinked t step.from step.to) is linked

  -- an end of a step is that of a link
  end_linked : (reverse : Bool) (from to : Name) → Contains (ends_of (steps_of reverse all) from) to → IsLinkedBy reverse t from to
  end_linked reverse from to here =
      let step = of_ends (steps_of reverse all) from to here in
      let found = of_steps reverse all step.0 step.1 in
      let path = found.0.0 in
      let link = step_link path found.0.1 found.1 found.3 in
      let in_part : map.get links path ≡ Some found.0.1 = All-contains (λ (e : List ℕ × Entry). map.get links e.0 ≡ Some e.1) all found.0 (all_standing links) found.2 in
      let slot = dependency_slot link.place link.dependency found.1.from found.1.to in
      let stands : map.get t path ≡ Some (Link link.target) = part_stands Links t links refl path found.0.1 in_part (part_selected Links t links refl path found.0.1 in_part) ∙ ap (λ entry. Some entry) link.is in
      let has : HasLink t slot = subst (HasLink t) link.at (link.target, stands, link.other) in
      subst (λ from. IsLinkedBy reverse t from to) step.2 (subst (IsLinkedBy reverse t step.0.from) step.3 (turned_round reverse found.1 step.0 found.4 (link.from_good, link.to_good, link.place, link.dependency, has)))

  slot_selected : (place : Place) (dependency : Dependency) → is_dependency (Some (slot_of_dependency place dependency)) ≡ true
  slot_selected place Wants = refl
  slot_selected place Requires = refl
  slot_selected place Upholds = refl

  step_there : (reverse : Bool) (of name : Name) → IsLinked t of name → Contains (steps_of reverse all) (turned reverse (record { from = of; to = name }))
  step_there reverse of name (of_good, good, place, dependency, has) =
      let path = dependency_slot place dependency of name in
      let selected : is_dependency (slot_of path) ≡ true = ap is_dependency (dependency_slot_is place dependency of name of_good good) ∙ slot_selected place dependency in
      in_steps reverse all path (Link has.0) (record { from = of; to = name }) (all_listed links path (Link has.0) (stands_in_part Links t links refl path (Link has.0) has.1 selected))
      (link_step place dependency of name of_good good has.0 has.2)

  linked_end : (reverse : Bool) (from to : Name) → IsLinkedBy reverse t from to → Contains (ends_of (steps_of reverse all) from) to
  linked_end true from to linked = in_ends (steps_of true all) (record { from = from; to = to }) (step_there true to from linked)
  linked_end false from to linked = in_ends (steps_of false all) (record { from = from; to = to }) (step_there false from to linked)

  comes_leads : (reverse : Bool) (from to : Name) → Comes reverse (ends_of (steps_of reverse all)) from to → Leads reverse t from to
  comes_leads reverse from to (Own here) = OwnLink to (end_linked reverse from to here)
  comes_leads reverse from to (Shared end is here leads) = by_kind (kind_of (instance_of end)) refl leads
    where
      linked : IsLinkedBy reverse t (template_of from) end
      linked = end_linked reverse (template_of from) end here

      -- a link to a unit that is no template
      as_it_is : (way : Bool) → reverse ≡ way → kind_of (instance_of end) ≢ Template → (if way then None else Some end) ≡ Some to → Leads reverse t from to
      as_it_is true back other h = absurd (cc)
      as_it_is false forth other h =
          let same : end ≡ to = cc in
          subst (Leads reverse t from) same (LinkOfTemplate end forth is (subst (λ way. IsLinkedBy way t (template_of from) end) forth linked) other)

      by_kind : (kind : Kind) → kind_of (instance_of end) ≡ kind → end_for reverse (instance_of from) end kind ≡ Some to → Leads reverse t from to
      by_kind Template kind h = BetweenTemplates end to is linked kind h
      by_kind Plain kind h = as_it_is reverse refl (λ template. plain_template (sym kind ∙ template)) h
      by_kind Instance kind h = as_it_is reverse refl (λ template. instance_template (sym kind ∙ template)) h

  leads_comes : (reverse : Bool) (from to : Name) → Leads reverse t from to → Comes reverse (ends_of (steps_of reverse all)) from to
  leads_comes reverse from to (OwnLink _ linked) = Own (linked_end reverse from to linked)
  leads_comes reverse from to (BetweenTemplates end _ is linked template put) =
      Shared end is (linked_end reverse (template_of from) end linked) (ap (end_for reverse (instance_of from) end) template ∙ put)
  leads_comes reverse from to (LinkOfTemplate _ forth is linked other) =
      Shared to is (linked_end reverse (template_of from) to (subst (λ way. IsLinkedBy way t (template_of from) to) (sym forth) linked)) (by_kind (kind_of (instance_of to)) refl)
    where
      by_kind : (kind : Kind) → kind_of (instance_of to) ≡ kind → end_for reverse (instance_of from) to kind ≡ Some to
      by_kind Template kind = absurd (other kind)
      by_kind Plain kind = ap (λ way. if way then None else Some to) forth
      by_kind Instance kind = ap (λ way. if way then None else Some to) forth

pub dependencies_are_least : DependenciesAreLeast
unfolding dependencies
dependencies_are_least reverse unit name t =
    let steps = steps_of reverse (all t) in
    let but = Contains-names_but (reached_names reverse steps unit) unit name in
    let reached = are_all reverse steps unit (steps_named reverse (all t)) name in
    let next = next_names reverse (ends_of steps) in (
      λ here. let both = but.0 here in
          (same_reached (λ by to. Contains (next by) to) (Leads reverse t) (λ by to leads. comes_leads t reverse by to (of_next reverse (ends_of steps) by to leads)) unit name (reached.0 both.0), both.1),
      λ both. but.1 (reached.1 (same_reached (Leads reverse t) (λ by to. Contains (next by) to) (λ by to leads. in_next reverse (ends_of steps) by to (leads_comes t reverse by to leads)) unit name both.0), both.1),
    )

-- a first step can be put before others
before : (Steps : Name → Name → Type 0) (from by to : Name) → Steps from by → Reached Steps by to → Reached Steps from to
before Steps from by to first (Next _ leads) = Further by to (Next by first) leads
before Steps from by to first (Further last _ r leads) = Further last to (before Steps from by last first r) leads

module _ (t : Entries) (none : (of to : Name) → IsLinked t of to → kind_of (instance_of of) ≢ Template) where
  template_kind : (name : Name) → is_unit_name name ≡ true → kind_of (instance_of (template_of name)) ≡ Template
  template_kind name good = ap kind_of (instance_set name [] (is-name name good)).0

  -- a forward step is a link, since no template has one
  forward : (from to : Name) → is_unit_name from ≡ true → Leads false t from to → IsLinked t from to
  forward from to good (OwnLink _ linked) = linked
  forward from to good (LinkOfTemplate _ forth is linked other) = absurd (none (template_of from) to linked (template_kind from good))
  forward from to good (BetweenTemplates end _ is linked template put) = absurd (none (template_of from) end linked (template_kind from good))

  backward : (from to : Name) → Leads true t from to → IsLinked t to from
  backward from to (OwnLink _ linked) = linked
  backward from to (LinkOfTemplate _ forth is linked other) = absurd (true≢false forth)
  backward from to (BetweenTemplates end _ is linked template put) = absurd (none end (template_of from) linked template)

  forward_named : (from to : Name) → is_unit_name from ≡ true → Reached (Leads false t) from to → is_unit_name to ≡ true
  forward_named from to good (Next _ leads) = (forward from to good leads).1
  forward_named from to good (Further by _ r leads) = (forward by to (forward_named from by good r) leads).1

  turn_back : (from to : Name) → is_unit_name from ≡ true → Reached (Leads false t) from to → Reached (Leads true t) to from
  turn_back from to good (Next _ leads) = Next from (OwnLink from (forward from to good leads))
  turn_back from to good (Further by _ r leads) = before (Leads true t) to by from (OwnLink by (forward by to (forward_named from by good r) leads)) (turn_back from by good r)

  turn_forth : (from to : Name) → Reached (Leads true t) from to → Reached (Leads false t) to from
  turn_forth from to (Next _ leads) = Next from (OwnLink from (backward from to leads))
  turn_forth from to (Further by _ r leads) = before (Leads false t) to by from (OwnLink by (backward by to leads)) (turn_forth from by r)

pub dependencies_turn_round : DependenciesTurnRound
dependencies_turn_round unit name t unit_good name_good none =
    let forth = dependencies_are_least false unit name t in
    let back = dependencies_are_least true name unit t in (
      λ here. let both = forth.0 here in back.1 (turn_back t none unit name unit_good both.0, λ same. both.1 (sym same)),
      λ here. let both = back.0 here in forth.1 (turn_forth t none name unit both.0, λ same. both.1 (sym same)),
    )
