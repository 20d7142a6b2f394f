-- What two operations in one look up in a tree, and what effect they have.
use Rattle.std.specs.Prelude.{Bool, ◌&&◌}
use Rattle.footprint.specs.Inquiry.{Inquiry}
use Rattle.footprint.specs.Operations.{Effect}
use Rattle.footprint.specs.Then.{followed_by}
use Rattle.two_operations.specs.declared.then.Then.{Then}

abbrev pub first_of : {A B : Type 0} → Then A B → A
first_of c = c.first

abbrev pub second_of : {A B : Type 0} → Then A B → B
second_of c = c.second

-- the second after the first
abbrev pub then_meaning : {A B : Type 0} → (A → Inquiry Effect) → (B → Inquiry Effect) → Then A B → Inquiry Effect
then_meaning first second c = followed_by (first c.first) (second c.second)

-- Both together are a question if each is.
abbrev pub both_ask : {A B : Type 0} → (A → Bool) → (B → Bool) → Then A B → Bool
both_ask first second c = first c.first && second c.second
