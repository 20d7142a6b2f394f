-- mask and unmask: systemctl(1), "Unit File Commands".
use Rattle.std.specs.Prelude.{ℕ, Bool, false, not, ◌&&◌, ◌||◌, ◌==◌, if◌then◌else◌, List, length, map as list_map, Option, Some, None, is_none, Ok, Err, codes}
use Rattle.std.specs.List.{list_any, find}
use Rattle.std.specs.Option.{option_map_or}
use Rattle.std.specs.Str.{bytes_eq}
use Rattle.std.specs.FinMap as map
use Rattle.link_tree.specs.declared.entry.Entry.{Entry}
use Rattle.link_tree.specs.declared.entry.Entry.TheVariants.{File, Link}
use Rattle.unit_paths.specs.declared.place.Scope.{Scope}
use Rattle.link_tree.specs.Links.{is_null_link}
use Rattle.unit_paths.specs.Slots.{unit_slot}
use Rattle.unit_paths.specs.Places.{scope_place}
use Rattle.link_tree.specs.Trees.{Entries}
use Rattle.tree_access.specs.declared.refusal.Refusal.TheVariants.{Exists}
use Rattle.footprint.specs.Commands.{silent, carried_out}
use Rattle.footprint.specs.Inquiry.{Inquiry}
use Rattle.footprint.specs.Operations.{Effect}
use Rattle.tree_access.specs.Rules.{Rule}
use Rattle.footprint.specs.Steps.{Step, each_in_turn, ruled}
use Rattle.slot_commands.specs.declared.mask.Mask.{Mask}
use Rattle.slot_commands.specs.declared.mask.Unmask.{Unmask}
use Rattle.slot_commands.specs.declared.mask.Rule.{Rule as RuleSeen}
use Rattle.slot_commands.specs.declared.mask.Rule.TheVariants as rules
use Rattle.slot_commands.specs.Effects.{Refuses, Leaves}

-- the link that masks a unit
abbrev pub mask_link : Entry
mask_link = Link (codes "/dev/null")

abbrev pub is_empty_file : Entry → Bool
is_empty_file (File contents) = length contents == 0
is_empty_file (Link target) = false

-- whether an entry at a slot masks its unit: a link to /dev/null or an empty file
abbrev pub is_mask : List ℕ → Entry → Bool
is_mask path entry = is_null_link path entry || is_empty_file entry

-- mask at one slot: an empty slot gets the link, and a link to /dev/null stays; anything else is in
-- the way, even an empty file
abbrev pub mask_at : Rule
mask_at path None = Ok (Some mask_link)
mask_at path (Some entry) = if is_null_link path entry then Ok (Some entry) else Err (Exists path)

-- unmask at one slot: a mask is removed, and anything else stays
abbrev pub unmask_at : Rule
unmask_at path None = Ok None
unmask_at path (Some entry) = if is_mask path entry then Ok None else Ok (Some entry)

-- the rule that the code follows
abbrev pub rule_of : RuleSeen → Rule
rule_of rules.Mask = mask_at
rule_of rules.Unmask = unmask_at

-- one unit: the rule is followed at its slot in the scope
abbrev pub ruled_unit : Rule → Scope → (unit : List ℕ) → Step
ruled_unit rule scope unit = ruled rule (unit_slot (scope_place scope) unit)

-- each of the units
abbrev pub each_ruled : Rule → Scope → (units : List (List ℕ)) → Step
each_ruled rule scope units = each_in_turn (ruled_unit rule scope) units

abbrev pub mask_steps : Mask → Step
mask_steps mask = each_ruled mask_at mask.scope mask.units

abbrev pub unmask_steps : Unmask → Step
unmask_steps unmask = each_ruled unmask_at unmask.scope unmask.units

-- What the commands look up in a tree, and what effect they have.
abbrev pub mask_meaning : Mask → Inquiry Effect
mask_meaning mask = carried_out (silent (mask_steps mask))

abbrev pub unmask_meaning : Unmask → Inquiry Effect
unmask_meaning unmask = carried_out (silent (unmask_steps unmask))

-- the slots of units in a scope
abbrev pub slots_of : Scope → (units : List (List ℕ)) → List (List ℕ)
slots_of scope units = list_map (unit_slot (scope_place scope)) units

-- whether anything but a link to /dev/null is at a path, for example a file
abbrev pub is_in_the_way : Entries → List ℕ → Bool
is_in_the_way t path = option_map_or (λ entry. not (is_null_link path entry)) (map.get t path) false

-- what is at a path after links to /dev/null have filled some paths
abbrev pub masked : Entries → List (List ℕ) → List ℕ → Option Entry
masked t paths path = if list_any (bytes_eq path) paths && is_none (map.get t path) then Some mask_link else map.get t path

-- The law of mask: it is refused for the first slot that has anything but a link to /dev/null. If
-- there is no such slot, links to /dev/null fill the empty ones, and nothing else changes.
abbrev pub FillsEmptySlots : Mask → Entries → Option (List ℕ) → Type 0
FillsEmptySlots mask t (Some slot) = Refuses ((mask_meaning mask).conclusion t) (Exists slot)
FillsEmptySlots mask t None = Leaves ((mask_meaning mask).conclusion t) t (masked t (slots_of mask.scope mask.units))

abbrev pub MaskFills : Type 0
MaskFills = (mask : Mask) (t : Entries) → FillsEmptySlots mask t (find (is_in_the_way t) (slots_of mask.scope mask.units))

-- whether there is a mask at a path
abbrev pub has_mask : List ℕ → Option Entry → Bool
has_mask path there = option_map_or (is_mask path) there false

-- what is at a path after masks were removed from some paths
abbrev pub unmasked : Entries → List (List ℕ) → List ℕ → Option Entry
unmasked t paths path = if list_any (bytes_eq path) paths && has_mask path (map.get t path) then None else map.get t path

-- The law of unmask: it is never refused, the links to /dev/null and the empty files at its slots
-- are removed, and nothing else changes.
abbrev pub UnmaskEmpties : Type 0
UnmaskEmpties = (unmask : Unmask) (t : Entries) → Leaves ((unmask_meaning unmask).conclusion t) t (unmasked t (slots_of unmask.scope unmask.units))
