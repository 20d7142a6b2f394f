-- The path of the default target.
use Rattle.std.proofs.Common.{◌≡◌, true, refl}
use Rattle.unit_name.specs.Parts.{type_text}
use Rattle.unit_name.specs.Name.{name_fault, part_fault, prefix_of, stem_of, suffix_of, type_of, type_named}
use Rattle.unit_paths.specs.Paths.{is_path, is_absolute, is_text_byte, is_part, parent, name_at}
use Rattle.unit_paths.specs.Places.{unit_directory, place_of, preset_place_of}
use Rattle.unit_paths.specs.Slots.{slot_of, slots_in, is_slot, dependency_directory_slots}
use Rattle.slot_commands.specs.SetDefault.{default_slot}

pub default_path : is_path default_slot ≡ true
unfolding is_path is_absolute is_text_byte is_part
default_path = refl

pub default_is_slot : is_slot default_slot ≡ true
unfolding unit_directory slot_of slots_in place_of preset_place_of parent name_at dependency_directory_slots name_fault part_fault prefix_of stem_of suffix_of type_of type_named type_text
default_is_slot = refl
