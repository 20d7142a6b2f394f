-- The names that steps reach are among the names that `names_around` lists.
use Rattle.std.proofs.Common.{◌≡◌, ℕ, zero, suc, Bool, true, false, List, ◌∷◌, map, Option, Some, None, Contains, filter_map, flat_map, refl, sym, ap, subst, ◌∙◌, inl, inr, if◌then◌else◌}
use Rattle.std.specs.Option.{option_map}
use Rattle.std.specs.Str.{bytes_eq}
use Rattle.std.specs.Cmp.Lexicographic.{nat_list_eq_equiv}
use Rattle.std.proofs.lemmas.Bool.{cases_Bool}
use Rattle.std.proofs.lemmas.List.Elements.{Contains-append_left, Contains-append_right}
use Rattle.unit_name.specs.declared.kind.Kind.{Kind}
use Rattle.unit_name.specs.declared.kind.Kind.TheVariants.{Plain, Template, Instance}
use Rattle.unit_name.specs.Parts.{kind_of}
use Rattle.unit_name.specs.Name.{is_unit_name, instance_of, template_of, with_instance}
use Rattle.unit_name.proofs.Instances.{instance_set}
use Rattle.link_tree.specs.declared.entry.Entry.{Entry}
use Rattle.link_tree.proofs.Changed.{same_bytes}
use Rattle.load_path.specs.RealNames.{named, put_in}
use Rattle.load_path.proofs.Units.{is-name}
use Rattle.install_section.proofs.Least.{some_is, is_first, is_later}
use Rattle.states.specs.declared.step.Step.{Step}
use Rattle.states.specs.Dependencies.{Reached, step_at, turned, steps_of, ends_of, end_for, ends_for, next_names, within, names_around, reached_names}
use Rattle.states.specs.Dependencies.Reached.{Next, Further}
use Rattle.states.specs.Reaching.{AreSame, AreReached}
use Rattle.states.proofs.Linked.{step_link}
use Rattle.states.proofs.Members.{none_in, in_either, in_flat_map, of_flat_map, in_filter_map, of_filter_map, in_map}
use Rattle.states.proofs.Reaches.{Name, all_within}

-- a text that is read as a name is that name
named_is : (text name : Name) → named text ≡ Some name → (name ≡ text) × (is_unit_name text ≡ true)
named_is text name h = elim (cases_Bool (is_unit_name text)) [
  | inl is ↦ (let same : Some text ≡ Some name = rw is at h in (sym (some_is text name same), is))
  | inr other ↦ (let none : None ≡ Some name = rw other at h in absurd (cc))
]

-- the instance that is put in is the instance of the result
put_is : (end : Name) (instance : Option Name) (name : Name) → is_unit_name end ≡ true → put_in end instance ≡ Some name → instance_of name ≡ instance
put_is end None name is h = absurd (cc)
put_is end (Some instance) name is h =
    let put = named_is (with_instance end instance) name h in
    ap instance_of put.0 ∙ (instance_set end instance (is-name end is)).0

-- Where one step from a name leads: to an end of its own, or to one of a step from its template.
pub data Comes (reverse : Bool) (ends : Name → List Name) (name to : Name) : Type 0 where
  Own : Contains (ends name) to → Comes reverse ends name to
  Shared : (end : Name) → kind_of (instance_of name) ≡ Instance → Contains (ends (template_of name)) end → end_for reverse (instance_of name) end (kind_of (instance_of end)) ≡ Some to
      → Comes reverse ends name to

module _ (reverse : Bool) (ends : Name → List Name) (name to : Name) where
  of_shared : (kind : Kind) → kind_of (instance_of name) ≡ kind → Contains (ends_for reverse (instance_of name) (ends (template_of name)) kind) to → Comes reverse ends name to
  of_shared Plain is here = absurd (none_in to here)
  of_shared Template is here = absurd (none_in to here)
  of_shared Instance is here =
      let found = of_filter_map (λ end. end_for reverse (instance_of name) end (kind_of (instance_of end))) (ends (template_of name)) to here in
      Shared found.0 is found.1 found.2

  pub of_next : Contains (next_names reverse ends name) to → Comes reverse ends name to
  unfolding next_names
  of_next here = elim (in_either (ends name) (ends_for reverse (instance_of name) (ends (template_of name)) (kind_of (instance_of name))) to here) [
    | inl own ↦ Own own
    | inr shared ↦ of_shared (kind_of (instance_of name)) refl shared
  ]

  pub in_next : Comes reverse ends name to → Contains (next_names reverse ends name) to
  unfolding next_names
  in_next (Own own) = Contains-append_left (ends name) (ends_for reverse (instance_of name) (ends (template_of name)) (kind_of (instance_of name))) to own
  in_next (Shared end is here leads) =
      Contains-append_right (ends name) (ends_for reverse (instance_of name) (ends (template_of name)) (kind_of (instance_of name))) to
      (subst (λ kind. Contains (ends_for reverse (instance_of name) (ends (template_of name)) kind) to) (sym is)
      (in_filter_map (λ end. end_for reverse (instance_of name) end (kind_of (instance_of end))) (ends (template_of name)) end to here leads))

-- so the order of the ends doesn't matter
same_comes : (reverse : Bool) (ends others : Name → List Name) → ((name : Name) → AreSame (ends name) (others name)) → (name to : Name) → Comes reverse ends name to → Comes reverse others name to
same_comes reverse ends others same name to (Own own) = Own ((same name to).0 own)
same_comes reverse ends others same name to (Shared end is here leads) = Shared end is ((same (template_of name) end).0 here) leads

pub same_next : (reverse : Bool) (ends others : Name → List Name) → ((name : Name) → AreSame (ends name) (others name)) → (name to : Name)
    → Contains (next_names reverse ends name) to → Contains (next_names reverse others name) to
same_next reverse ends others same name to here = in_next reverse others name to (same_comes reverse ends others same name to (of_next reverse ends name to here))

-- what is reached by some steps is also reached by others that include them
pub same_reached : (Leads Others : Name → Name → Type 0) → ((by to : Name) → Leads by to → Others by to) → (from name : Name) → Reached Leads from name → Reached Others from name
same_reached Leads Others same from name (Next _ leads) = Next name (same from name leads)
same_reached Leads Others same from name (Further by _ r leads) = Further by name (same_reached Leads Others same from by r) (same by name leads)

-- an end of steps
pub of_ends : (steps : List Step) (name to : Name) → Contains (ends_of steps name) to → (step : Step) × Contains steps step × (step.from ≡ name) × (step.to ≡ to)
of_ends steps name to here =
    let found = of_filter_map (λ step. if bytes_eq step.from name then Some step.to else None) steps to here in
    let is = by_test name to found.0 (bytes_eq found.0.from name) refl found.2 in
    (found.0, found.1, is.0, is.1)
  where
    by_test : (name to : Name) (step : Step) (b : Bool) → bytes_eq step.from name ≡ b → (if bytes_eq step.from name then Some step.to else None) ≡ Some to → (step.from ≡ name) × (step.to ≡ to)
    by_test name to step true at h = (let same : Some step.to ≡ Some to = rw at at h in (same_bytes step.from name at, cc))
    by_test name to step false at h = (let none : None ≡ Some to = rw at at h in absurd (cc))

pub in_ends : (steps : List Step) (step : Step) → Contains steps step → Contains (ends_of steps step.from) step.to
in_ends steps step here = in_filter_map (λ other. if bytes_eq other.from step.from then Some other.to else None) steps step step.to here (rw (nat_list_eq_equiv.refl step.from) refl)

-- the ends of steps are valid names
abbrev pub AreNamed : List Step → Type 0
AreNamed steps = (step : Step) → Contains steps step → is_unit_name step.to ≡ true

-- a step is that of a link
pub of_steps : (reverse : Bool) (links : List (List ℕ × Entry)) (step : Step) → Contains (steps_of reverse links) step
    → (link : List ℕ × Entry) × (made : Step) × Contains links link × (step_at link.0 link.1 ≡ Some made) × (turned reverse made ≡ step)
unfolding steps_of
of_steps reverse links step here =
    let found = of_filter_map (λ link. option_map (turned reverse) (step_at link.0 link.1)) links step here in
    let made = by_step (step_at found.0.0 found.0.1) found.2 in
    (found.0, made.0, found.1, made.1, made.2)
  where
    by_step : (o : Option Step) → option_map (turned reverse) o ≡ Some step → (made : Step) × (o ≡ Some made) × (turned reverse made ≡ step)
    by_step None h = absurd (cc)
    by_step (Some made) h = (made, refl, some_is (turned reverse made) step h)

pub in_steps : (reverse : Bool) (links : List (List ℕ × Entry)) (path : List ℕ) (entry : Entry) (made : Step) → Contains links (path, entry) → step_at path entry ≡ Some made
    → Contains (steps_of reverse links) (turned reverse made)
unfolding steps_of
in_steps reverse links path entry made here is =
    in_filter_map (λ link. option_map (turned reverse) (step_at link.0 link.1)) links (path, entry) (turned reverse made) here (ap (option_map (turned reverse)) is)

pub steps_named : (reverse : Bool) (links : List (List ℕ × Entry)) → AreNamed (steps_of reverse links)
steps_named reverse links step here =
    let found = of_steps reverse links step here in
    let link = step_link found.0.0 found.0.1 found.1 found.3 in
    ap (λ (step : Step). is_unit_name step.to) (sym found.4) ∙ either_way reverse found.1 link.from_good link.to_good
  where
    either_way : (reverse : Bool) (made : Step) → is_unit_name made.from ≡ true → is_unit_name made.to ≡ true → is_unit_name (turned reverse made).to ≡ true
    either_way true made from_good to_good = from_good
    either_way false made from_good to_good = to_good

module _ (reverse : Bool) (steps : List Step) (unit : Name) (names : AreNamed steps) where
  abbrev ends : List Name
  ends = map (λ step. step.to) steps

  -- the instance of a name is that of the unit, or of an end
  abbrev HasInstance : Name → Type 0
  HasInstance name = (other : Name) × Contains (unit ∷ ends) other × (instance_of name ≡ instance_of other)

  abbrev IsAround : Name → Type 0
  IsAround name = Contains (names_around steps unit) name × HasInstance name

  abbrev instances : Name → List Name
  instances end = filter_map (λ name. put_in end (instance_of name)) (unit ∷ ends)

  end_around : (end : Name) → Contains ends end → IsAround end
  end_around end here = (Contains-append_left ends (flat_map instances ends) end here, (end, is_later unit ends end here, refl))

  put_around : (end name to : Name) → Contains ends end → is_unit_name end ≡ true → HasInstance name → put_in end (instance_of name) ≡ Some to → IsAround to
  put_around end name to here good has put =
      let found : Contains (instances end) to = in_filter_map (λ name. put_in end (instance_of name)) (unit ∷ ends) has.0 to has.1 (ap (put_in end) (sym has.2) ∙ put) in
      (Contains-append_right ends (flat_map instances ends) to (in_flat_map instances ends end to here found), (has.0, has.1, put_is end (instance_of name) to good put ∙ has.2))

  -- if the step leads to the end itself
  as_it_is : (reverse : Bool) (end to : Name) → (if reverse then None else Some end) ≡ Some to → to ≡ end
  as_it_is true end to h = absurd (cc)
  as_it_is false end to h = sym (some_is end to h)

  shared_around : (end name to : Name) → Contains ends end → is_unit_name end ≡ true → HasInstance name → (kind : Kind) → end_for reverse (instance_of name) end kind ≡ Some to → IsAround to
  shared_around end name to here good has Template leads = put_around end name to here good has leads
  shared_around end name to here good has Plain leads = subst IsAround (sym (as_it_is reverse end to leads)) (end_around end here)
  shared_around end name to here good has Instance leads = subst IsAround (sym (as_it_is reverse end to leads)) (end_around end here)

  comes_around : (name to : Name) → HasInstance name → Comes reverse (ends_of steps) name to → IsAround to
  comes_around name to has (Own here) = (let found = of_ends steps name to here in end_around to (subst (Contains ends) found.3 (in_map (λ step. step.to) steps found.0 found.1)))
  comes_around name to has (Shared end is here leads) = (let found = of_ends steps (template_of name) end here in
      shared_around end name to (subst (Contains ends) found.3 (in_map (λ step. step.to) steps found.0 found.1)) (ap is_unit_name (sym found.3) ∙ names found.0 found.1) has (kind_of (instance_of end)) leads)

  abbrev next : Name → List Name
  next = next_names reverse (ends_of steps)

  all_around : (k : ℕ) (name : Name) → Contains (within k next unit) name → IsAround name
  all_around zero name here = absurd (none_in name here)
  all_around (suc k) name here = elim (in_either (next unit) (flat_map next (within k next unit)) name here) [
    | inl first ↦ comes_around unit name (unit, is_first unit ends unit refl, refl) (of_next reverse (ends_of steps) unit name first)
    | inr later ↦ (let found = of_flat_map next (within k next unit) name later in
        comes_around found.0 name (all_around k found.0 found.1).1 (of_next reverse (ends_of steps) found.0 name found.2))
  ]

  -- the names that are reached are those of the definition
  pub are_all : AreReached next unit (reached_names reverse steps unit)
  are_all = all_within next unit (names_around steps unit) (λ k name here. (all_around k name here).0)

-- so those that are found by ends in another order are the same
pub same_names : (reverse : Bool) (steps : List Step) (unit : Name) (ends : Name → List Name) (found : List Name)
    → AreNamed steps → ((name : Name) → AreSame (ends name) (ends_of steps name)) → AreReached (next_names reverse ends) unit found → AreSame found (reached_names reverse steps unit)
same_names reverse steps unit ends found names same all name = (
  λ here. (are_all reverse steps unit names name).1 (same_reached _ _ (same_next reverse ends (ends_of steps) same) unit name ((all name).0 here)),
  λ here. (all name).1 (same_reached _ _ (same_next reverse (ends_of steps) ends back) unit name ((are_all reverse steps unit names name).0 here)),
)
  where
    back : (name : Name) → AreSame (ends_of steps name) (ends name)
    back name end = ((same name end).1, (same name end).0)
