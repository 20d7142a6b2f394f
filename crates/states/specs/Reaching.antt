-- Definitions for the private contracts of dependencies: no public contract cites this file.
use Rattle.std.specs.Prelude.{ℕ, List, [], ◌∷◌, ◌++◌, ◌↔◌, if◌then◌else◌, Option, Some, None, Contains}
use Rattle.std.specs.List.{list_any}
use Rattle.std.specs.Str.{bytes_eq}
use Rattle.std.specs.FinMap as map
use Rattle.link_tree.specs.Trees.{path_cmp}
use Rattle.states.specs.declared.step.Step.{Step}
use Rattle.states.specs.Dependencies.{Reached, ends_of, set_of}

-- the ends of steps, by the names from which they lead
abbrev pub EndMap : Type 0
EndMap = map.FinMap path_cmp (List (List ℕ))

abbrev pub or_none : Option (List (List ℕ)) → List (List ℕ)
or_none (Some names) = names
or_none None = []

unfoldable pub ends_at : EndMap → (name : List ℕ) → List (List ℕ)
ends_at ends name = or_none (map.get ends name)

-- adds one step
unfoldable pub with_step : EndMap → Step → EndMap
with_step ends step = map.insert ends step.from (ends_at ends step.from ++ step.to ∷ [])

-- adds a name, unless it is there already
unfoldable pub with_name : (names : List (List ℕ)) → (name : List ℕ) → List (List ℕ)
with_name names name = if list_any (bytes_eq name) names then names else names ++ name ∷ []

abbrev pub with_names : (names more : List (List ℕ)) → List (List ℕ)
with_names names [] = names
with_names names (name ∷ more) = with_names (with_name names name) more

-- the same names, in whatever order
abbrev pub AreSame : (names others : List (List ℕ)) → Type 0
AreSame names others = (name : List ℕ) → Contains names name ↔ Contains others name

-- these are the ends of steps
abbrev pub AreEnds : EndMap → List Step → Type 0
AreEnds ends steps = (name : List ℕ) → AreSame (ends_at ends name) (ends_of steps name)

-- these are all names that are reached from one name
abbrev pub AreReached : (next : List ℕ → List (List ℕ)) → (from : List ℕ) → (names : List (List ℕ)) → Type 0
AreReached next from names = (name : List ℕ) → Contains names name ↔ Reached (λ by to. Contains (next by) to) from name

-- the names except one, in byte order
abbrev pub names_but : (names : List (List ℕ)) → (left_out : List ℕ) → List (List ℕ)
names_but names left_out = map.keys (map.remove (set_of names) left_out)
