-- The units on which units depend, by links: systemctl(1), "list-dependencies"; systemd.unit(5),
-- "Description", on .wants/, .requires/ and .upholds/. First they are a set, by its rules; the walk
-- that lists them follows. `dependencies_are_least` says that both are the same.
use Rattle.std.specs.Prelude.{◌≡◌, ◌≢◌, ℕ, zero, suc, ◌-◌, Bool, true, false, not, ◌&&◌, if◌then◌else◌, List, [], ◌∷◌, ◌++◌, length, take, map as list_map, filter_map, flat_map, Option, Some, None}
use Rattle.std.specs.Option.{option_map}
use Rattle.std.specs.Str.{bytes_eq}
use Rattle.std.specs.FinMap as map
use Rattle.unit_name.specs.declared.kind.Kind.{Kind}
use Rattle.unit_name.specs.declared.kind.Kind.TheVariants.{Template, Instance}
use Rattle.unit_name.specs.Parts.{kind_of}
use Rattle.unit_name.specs.Name.{is_unit_name, instance_of, template_of}
use Rattle.unit_paths.specs.declared.place.Place.{Place}
use Rattle.unit_paths.specs.declared.slot.Dependency.{Dependency}
use Rattle.unit_paths.specs.declared.slot.Slot.{Slot}
use Rattle.unit_paths.specs.Canonical.{is_null_target}
use Rattle.unit_paths.specs.Paths.{name_at, parent_of}
use Rattle.unit_paths.specs.Slots.{slot_of, dependency_ending, dependency_slot}
use Rattle.unit_paths.specs.Kinds.{dependency_of}
use Rattle.link_tree.specs.declared.entry.Entry.{Entry}
use Rattle.link_tree.specs.declared.entry.Entry.TheVariants.{File, Link}
use Rattle.link_tree.specs.Trees.{Entries, path_cmp}
use Rattle.load_path.specs.RealNames.{put_in}
use Rattle.footprint.specs.declared.answer.Answer.{Answer}
use Rattle.footprint.specs.declared.answer.Answer.TheVariants.{Names}
use Rattle.tree_access.specs.declared.key.Key.TheVariants.{Links}
use Rattle.footprint.specs.Inquiry.{Inquiry, entries_seen, giving}
use Rattle.footprint.specs.Operations.{Effect}
use Rattle.states.specs.declared.step.Step.{Step}
use Rattle.states.specs.declared.dependencies.Dependencies.{Dependencies}
use Rattle.states.specs.Questions.{asked}

-- A link that isn't to /dev/null exists at this path.
abbrev pub HasLink : Entries → (path : List ℕ) → Type 0
HasLink t path = (target : List ℕ) × (map.get t path ≡ Some (Link target)) × (is_null_target path target ≡ false)

-- A unit is linked to another: at DIR/OF.wants/NAME, DIR/OF.requires/NAME or DIR/OF.upholds/NAME,
-- in one of the four directories.
abbrev pub IsLinked : Entries → (of name : List ℕ) → Type 0
IsLinked t of name =
    (is_unit_name of ≡ true) × (is_unit_name name ≡ true) × (place : Place) × (dependency : Dependency) × HasLink t (dependency_slot place dependency of name)

-- in reverse, the opposite
abbrev pub IsLinkedBy : (reverse : Bool) → Entries → (from to : List ℕ) → Type 0
IsLinkedBy false t from to = IsLinked t from to
IsLinkedBy true t from to = IsLinked t to from

-- Where one step leads from a unit: along its own links; and for an instance along those of its
-- template too. A link from a template to a unit that is no template leads to that unit, but not in
-- reverse, since that unit depends on the template alone. A link between two templates leads to the
-- other template's instance with the same instance name, if that is a valid name.
pub data Leads (reverse : Bool) (t : Entries) (from : List ℕ) : List ℕ → Type 0 where
  OwnLink : (to : List ℕ) → IsLinkedBy reverse t from to → Leads reverse t from to
  LinkOfTemplate : (to : List ℕ) → reverse ≡ false → kind_of (instance_of from) ≡ Instance → IsLinked t (template_of from) to → kind_of (instance_of to) ≢ Template → Leads reverse t from to
  BetweenTemplates : (end to : List ℕ) → kind_of (instance_of from) ≡ Instance → IsLinkedBy reverse t (template_of from) end → kind_of (instance_of end) ≡ Template → put_in end (instance_of from) ≡ Some to → Leads reverse t from to

-- The names that are reached from one name by one step or more.
pub data Reached (Leads : (from to : List ℕ) → Type 0) (from : List ℕ) : List ℕ → Type 0 where
  Next : (to : List ℕ) → Leads from to → Reached Leads from to
  Further : (by to : List ℕ) → Reached Leads from by → Leads by to → Reached Leads from to

-- A unit depends on all that it reaches, except itself. In reverse these depend on it.
abbrev pub IsDependency : (reverse : Bool) → Entries → (unit name : List ℕ) → Type 0
IsDependency reverse t unit name = Reached (Leads reverse t) unit name × (name ≢ unit)

-- From here on the walk: the ending of the name of the directory that contains a path, if the path
-- is the slot of a dependency
abbrev pub ending_of : Option Slot → Option (List ℕ)
ending_of slot = option_map dependency_ending (dependency_of slot)

-- the step from one unit to another, if both texts are names
abbrev pub named_step : (from to : List ℕ) → Option Step
named_step from to = if is_unit_name from && is_unit_name to then Some (record { from = from; to = to }) else None

-- the step from the unit whose directory this is, by its name and this ending
abbrev pub step_from : (directory : Option (List ℕ)) → (ending : Option (List ℕ)) → (to : List ℕ) → Option Step
step_from (Some directory) (Some ending) to = named_step (take (length (name_at directory) - length ending) (name_at directory)) to
step_from directory ending to = None

-- a link, and not one to /dev/null
abbrev pub is_other_link : (path : List ℕ) → Entry → Bool
is_other_link path (File contents) = false
is_other_link path (Link target) = not (is_null_target path target)

-- the step from the unit OF to the unit NAME by a link at DIR/OF.wants/NAME, DIR/OF.requires/NAME
-- or DIR/OF.upholds/NAME
unfoldable pub step_at : (path : List ℕ) → Entry → Option Step
step_at path entry = if is_other_link path entry then step_from (parent_of path) (ending_of (slot_of path)) (name_at path) else None

-- the same step; in reverse, the opposite one
abbrev pub turned : (reverse : Bool) → Step → Step
turned reverse step = if reverse then record { from = step.to; to = step.from } else step

-- the steps of these links
unfoldable pub steps_of : (reverse : Bool) → List (List ℕ × Entry) → List Step
steps_of reverse links = filter_map (λ link. option_map (turned reverse) (step_at link.0 link.1)) links

-- the names to which steps lead from a name
abbrev pub ends_of : List Step → (name : List ℕ) → List (List ℕ)
ends_of steps name = filter_map (λ step. if bytes_eq step.from name then Some step.to else None) steps

-- Where a step from a template leads its instances: if it is to another template, to that
-- template's instance with the same instance name, if that is a valid name. If it is to any other
-- unit, to that unit; but not in reverse, since that unit depends on the template alone.
abbrev pub end_for : (reverse : Bool) → (instance : Option (List ℕ)) → (end : List ℕ) → Kind → Option (List ℕ)
end_for reverse instance end Template = put_in end instance
end_for reverse instance end other = if reverse then None else Some end

abbrev pub ends_for : (reverse : Bool) → (instance : Option (List ℕ)) → (ends : List (List ℕ)) → Kind → List (List ℕ)
ends_for reverse instance ends Instance = filter_map (λ end. end_for reverse instance end (kind_of (instance_of end))) ends
ends_for reverse instance ends other = []

-- The names to which one step leads from a name, by the ends of the steps from each: its own steps,
-- and for an instance also those of its template.
unfoldable pub next_names : (reverse : Bool) → (ends : List ℕ → List (List ℕ)) → (name : List ℕ) → List (List ℕ)
next_names reverse ends name = ends name ++ ends_for reverse (instance_of name) (ends (template_of name)) (kind_of (instance_of name))

-- the names that are reached by at least one step and at most this number of steps
abbrev pub within : (steps : ℕ) → (next : List ℕ → List (List ℕ)) → (name : List ℕ) → List (List ℕ)
within zero next name = []
within (suc steps) next name = next name ++ flat_map next (within steps next name)

-- No other names can be reached: the ends of steps, and these with the instance name of the unit or
-- of an end put in.
abbrev pub names_around : List Step → (unit : List ℕ) → List (List ℕ)
names_around steps unit =
    let ends = list_map (λ step. step.to) steps in
    ends ++ flat_map (λ end. filter_map (λ name. put_in end (instance_of name)) (unit ∷ ends)) ends

-- the names that are reached by any number of steps: no more steps are needed than there are such
-- names
abbrev pub reached_names : (reverse : Bool) → List Step → (unit : List ℕ) → List (List ℕ)
reached_names reverse steps unit = within (length (names_around steps unit)) (next_names reverse (ends_of steps)) unit

-- names as a set: a map with a trivial value for each
abbrev pub NameSet : Type 0
NameSet = map.FinMap path_cmp (Unit {0})

abbrev pub set_of : List (List ℕ) → NameSet
set_of [] = map.empty
set_of (name ∷ names) = map.insert (set_of names) name tt

-- The names of the units on which a unit depends, without its own; in reverse, of those that depend
-- on it.
unfoldable pub dependencies : (reverse : Bool) → (unit : List ℕ) → (links : Entries) → NameSet
dependencies reverse unit links = map.remove (set_of (reached_names reverse (steps_of reverse (map.entries links)) unit)) unit

-- What the question looks up in a tree, and what it answers: the names, in byte order.
abbrev pub dependencies_answer : Dependencies → Inquiry Answer
dependencies_answer c = giving (entries_seen Links) (λ links. Names (map.keys (dependencies c.reverse c.unit links)))

abbrev pub dependencies_meaning : Dependencies → Inquiry Effect
dependencies_meaning c = asked (dependencies_answer c)
