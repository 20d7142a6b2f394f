-- Laws of dependencies, each the contract of a public function: systemctl(1), "list-dependencies".
use Rattle.std.specs.Prelude.{◌≡◌, ◌≢◌, ℕ, ◌↔◌, Bool, true, false, List, Contains}
use Rattle.std.specs.FinMap as map
use Rattle.unit_name.specs.declared.kind.Kind.TheVariants.{Template}
use Rattle.unit_name.specs.Parts.{kind_of}
use Rattle.unit_name.specs.Name.{is_unit_name, instance_of}
use Rattle.link_tree.specs.Trees.{Entries}
use Rattle.tree_access.specs.declared.key.Key.TheVariants.{Links}
use Rattle.tree_access.specs.Keys.{part}
use Rattle.states.specs.Dependencies.{IsLinked, IsDependency, dependencies}

-- The walk lists the dependencies of a unit, and no other names: the least set that is closed under
-- the steps, without the unit's own name.
abbrev pub DependenciesAreLeast : Type 0
DependenciesAreLeast = (reverse : Bool) (unit name : List ℕ) (t : Entries)
    → Contains (map.keys (dependencies reverse unit (part Links t))) name ↔ IsDependency reverse t unit name

-- If no link belongs to a template, one unit is a dependency of another exactly if the other is a
-- reverse dependency of the first.
abbrev pub DependenciesTurnRound : Type 0
DependenciesTurnRound = (unit name : List ℕ) (t : Entries) → is_unit_name unit ≡ true → is_unit_name name ≡ true
    → ((of to : List ℕ) → IsLinked t of to → kind_of (instance_of of) ≢ Template)
    → Contains (map.keys (dependencies false unit (part Links t))) name ↔ Contains (map.keys (dependencies true name (part Links t))) unit
