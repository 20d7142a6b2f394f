-- Which keys questions look at, each the contract of a public function.
use Rattle.std.specs.Prelude.{ℕ, ◌↔◌, List}
use Rattle.unit_paths.specs.declared.place.Scope.{Scope}
use Rattle.link_tree.specs.Trees.{Entries}
use Rattle.install_section.specs.Closure.{IsUnit}
use Rattle.tree_access.specs.declared.key.Key.{Key}
use Rattle.tree_access.specs.declared.key.Key.TheVariants.{Cell, Marked, Links}
use Rattle.states.specs.declared.dependencies.Dependencies.{Dependencies}
use Rattle.states.specs.declared.get_default.GetDefault.{GetDefault}
use Rattle.states.specs.declared.is_enabled.IsEnabled.{IsEnabled}
use Rattle.states.specs.Dependencies.{dependencies_meaning}
use Rattle.states.specs.GetDefault.{default_target, get_default_meaning}
use Rattle.states.specs.IsEnabled.{is_enabled_meaning}
use Rattle.footprint_laws.specs.Sets.{LooksAt, IsLookedUp}

-- get-default: the paths at which `default.target` is looked up.
pub data GetDefaultKeys (t : Entries) : Key → Type 0 where
  Target : (path : List ℕ) → IsLookedUp t default_target path → GetDefaultKeys t (Cell path)

abbrev pub GetDefaultLooks : Type 0
GetDefaultLooks = (c : GetDefault) (t : Entries) (key : Key) → LooksAt get_default_meaning c t key ↔ GetDefaultKeys t key

-- is-enabled: the paths at which the unit is looked up; and, if it is found under its own name, the
-- links that belong to it, in both scopes.
pub data IsEnabledKeys (t : Entries) (unit : List ℕ) : Key → Type 0 where
  Itself : (path : List ℕ) → IsLookedUp t unit path → IsEnabledKeys t unit (Cell path)
  ItsLinks : (scope : Scope) → IsUnit t unit → IsEnabledKeys t unit (Marked scope unit)

abbrev pub IsEnabledLooks : Type 0
IsEnabledLooks = (c : IsEnabled) (t : Entries) (key : Key) → LooksAt is_enabled_meaning c t key ↔ IsEnabledKeys t c.unit key

-- list-dependencies: all slots of dependencies, of the three kinds, and nothing else.
pub data DependencyKeys : Key → Type 0 where
  AllDependencies : DependencyKeys Links

abbrev pub DependenciesLook : Type 0
DependenciesLook = (c : Dependencies) (t : Entries) (key : Key) → LooksAt dependencies_meaning c t key ↔ DependencyKeys key
