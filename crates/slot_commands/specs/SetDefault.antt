-- set-default: systemctl(1), "Unit File Commands"; the link is default.target of
-- systemd.special(7).
use Rattle.std.specs.Prelude.{◌≡◌, ℕ, Bool, true, false, if◌then◌else◌, List, Option, Some, codes, ◌⊎◌}
use Rattle.std.specs.Str.{bytes_eq}
use Rattle.std.specs.FinMap as map
use Rattle.unit_name.specs.declared.kind.UnitType.{UnitType}
use Rattle.unit_name.specs.declared.kind.UnitType.TheVariants.{Target}
use Rattle.unit_name.specs.Name.{type_of}
use Rattle.link_tree.specs.declared.entry.Entry.TheVariants.{Link}
use Rattle.link_tree.specs.Trees.{Entries, after_changes}
use Rattle.footprint.specs.declared.answer.Answer.TheVariants.{Done}
use Rattle.tree_access.specs.declared.refusal.Subject.TheVariants.{Unit}
use Rattle.tree_access.specs.declared.refusal.Refusal.TheVariants.{BadType, NeedsInstance}
use Rattle.footprint.specs.Commands.{silent, carried_out}
use Rattle.footprint.specs.Inquiry.{Inquiry}
use Rattle.footprint.specs.Operations.{Effect}
use Rattle.tree_access.specs.Rules.{leads_alike, relink_at, LeadsAs}
use Rattle.footprint.specs.Steps.{Step, refuse, ruled}
use Rattle.slot_commands.specs.declared.set_default.SetDefault.{SetDefault}
use Rattle.unit_file.specs.Listed.{is_template_name}
use Rattle.footprint.specs.Units.{with_unit, IsFound}

-- the path of the link that names the default target
abbrev pub default_slot : List ℕ
default_slot = codes "/etc/systemd/system/default.target"

abbrev pub is_target_type : Option UnitType → Bool
is_target_type (Some Target) = true
is_target_type other = false

-- the result by the name as it was given, and by the own name and the file of the unit that was
-- found
unfoldable pub default_file : (name real file : List ℕ) → Step
default_file name real file =
    if is_target_type (type_of name) then (if is_template_name real then refuse (NeedsInstance real) else ruled (relink_at file) default_slot)
    else refuse (BadType (Unit name))

abbrev pub default_steps : SetDefault → Step
default_steps set_default = with_unit set_default.unit (default_file set_default.unit)

-- What the command looks up in a tree, and what effect it has.
abbrev pub default_meaning : SetDefault → Inquiry Effect
default_meaning set_default = carried_out (silent (default_steps set_default))

-- A link at a path that leads to the file stays, however its target is spelled. Any other link is
-- replaced, and an empty slot filled, by a link whose target is the file's path.
abbrev pub IsRelinked : (t u : Entries) → (path file : List ℕ) → Type 0
IsRelinked t u path file =
    ((text : List ℕ) × (map.get t path ≡ Some (Link text)) × (leads_alike path text file ≡ true) × (map.get u path ≡ Some (Link text)))
    ⊎ (((text : List ℕ) → map.get t path ≡ Some (Link text) → leads_alike path text file ≡ false) × (map.get u path ≡ Some (Link file)))

-- The link of default.target leads to the file of the unit that is found, and nothing else changes.
abbrev pub SetsDefault : SetDefault → (t u : Entries) → Type 0
SetsDefault set_default t u =
    (real : List ℕ) × (file : List ℕ) × IsFound t set_default.unit real file × LeadsAs u default_slot file × IsRelinked t u default_slot file
    × ((path : List ℕ) → bytes_eq path default_slot ≡ false → map.get u path ≡ map.get t path)

-- The law of set-default, if it is accepted.
abbrev pub DefaultIsSet : Type 0
DefaultIsSet = (set_default : SetDefault) (t : Entries) → ((default_meaning set_default).conclusion t).answer ≡ Done map.empty → SetsDefault set_default t (after_changes ((default_meaning set_default).conclusion t).changes t)
