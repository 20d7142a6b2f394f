-- How many bytes a run may read from a root.
use Rattle.std.specs.Prelude.{ℕ, Bool, true, false, ◌-◌, nat_le}

-- Whether so many bytes are allowed if so many are left; what isn't counted always is.
abbrev pub is_allowed : Bool → ℕ → ℕ → Bool
is_allowed true left bytes = nat_le bytes left
is_allowed false left bytes = true

-- How many are left afterwards: none if these were too many.
abbrev pub left_after : Bool → ℕ → ℕ → ℕ
left_after true left bytes = left - bytes
left_after false left bytes = left
