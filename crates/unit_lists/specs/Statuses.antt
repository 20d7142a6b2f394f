-- What a tree says of one unit: systemctl(1), "status".
use Rattle.std.specs.Prelude.{ℕ, if◌then◌else◌, List, Option, Some, None, is_some}
use Rattle.std.specs.FinMap as map
use Rattle.unit_name.specs.declared.kind.Kind.{Kind}
use Rattle.unit_name.specs.declared.kind.Kind.TheVariants.{Plain, Template, Instance}
use Rattle.unit_name.specs.Name.{instance_of, template_of}
use Rattle.unit_name.specs.Parts.{kind_of}
use Rattle.unit_paths.specs.declared.place.Place.{Place}
use Rattle.unit_paths.specs.Slots.{unit_slot}
use Rattle.link_tree.specs.Trees.{Entries}
use Rattle.load_path.specs.declared.finding.Found.{Found}
use Rattle.load_path.specs.declared.finding.Found.TheVariants as founds

-- the slot of a name, or of the template of an instance
abbrev pub template_slot : Kind → Place → (name : List ℕ) → List ℕ
template_slot Plain place name = unit_slot place name
template_slot Template place name = unit_slot place name
template_slot Instance place name = unit_slot place (template_of name)

-- The slot of the directory at which the entry of a name is: its own, or that of its template.
abbrev pub entry_slot : Entries → Place → (name : List ℕ) → List ℕ
entry_slot t place name = if is_some (map.get t (unit_slot place name)) then unit_slot place name else template_slot (kind_of (instance_of name)) place name

-- the path of the entry that masks a unit
abbrev pub mask_of : Entries → (name : List ℕ) → Found → Option (List ℕ)
mask_of t name (founds.Masked place) = Some (entry_slot t place name)
mask_of t name founds.Missing = None
mask_of t name (founds.Dangling link) = None
mask_of t name (founds.Unit real file place) = None
