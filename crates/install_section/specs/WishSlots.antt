-- The paths of links that words ask for.
use Rattle.std.specs.Prelude.{◌≡◌, true}
use Rattle.unit_paths.specs.Slots.{is_slot}
use Rattle.install_section.specs.declared.wish.Wish.{Wish}
use Rattle.install_section.specs.declared.wish.Wish.TheVariants.{Link, Skip, NoInstance}

-- the path of a link that is asked for is a slot
abbrev pub IsAtSlot : Wish → Type 0
IsAtSlot (Link path) = is_slot path ≡ true
IsAtSlot (Skip reason) = Unit {0}
IsAtSlot NoInstance = Unit {0}
