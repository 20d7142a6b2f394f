-- For the private contracts of this crate: no public contract cites it.
use Rattle.std.specs.Prelude.{ℕ, List, Option, Some, None}
use Rattle.std.specs.FinMap as map
use Rattle.states.specs.Dependencies.{NameSet}

-- a text more, if there is one
abbrev pub with_text : NameSet → Option (List ℕ) → NameSet
with_text texts None = texts
with_text texts (Some text) = map.insert texts text tt
