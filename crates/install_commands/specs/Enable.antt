-- Enabling units: systemctl(1), "enable".
use Rattle.std.specs.Prelude.{ℕ, Bool, false, List, [], ◌∷◌, Some, Result, Ok, Err}
use Rattle.std.specs.FinMap as map
use Rattle.unit_file.specs.Notices.{NoticeMap, joined}
use Rattle.unit_paths.specs.declared.place.Scope.{Scope}
use Rattle.install_section.specs.declared.closed.Closed.{Closed}
use Rattle.install_section.specs.declared.closed.ClosureFault.{ClosureFault}
use Rattle.install_section.specs.declared.closed.ClosureFault.TheVariants as closure_faults
use Rattle.install_section.specs.declared.wants.Wanted.{Wanted}
use Rattle.install_section.specs.declared.wants.WantedFault.{WantedFault}
use Rattle.install_section.specs.declared.wants.WantedFault.TheVariants as wanted_faults
use Rattle.install_section.specs.Closure.{closure}
use Rattle.install_section.specs.LinkSlots.{LinkMap}
use Rattle.install_section.specs.Wanted.{wanted}
use Rattle.tree_access.specs.declared.refusal.Refusal.{Refusal}
use Rattle.tree_access.specs.declared.refusal.Refusal.TheVariants.{TooMany, NeedsInstance, Clash}
use Rattle.footprint.specs.Commands.{Command, telling, unless_refused, carried_out}
use Rattle.footprint.specs.Inquiry.{Inquiry, by_cells, giving, ◌>>=◌}
use Rattle.footprint.specs.Operations.{Effect}
use Rattle.tree_access.specs.Placing as placing
use Rattle.footprint.specs.Steps.{all_at_once}
use Rattle.install_commands.specs.declared.enable.Enable.{Enable}
use Rattle.install_commands.specs.Check.{going_on, checked}

-- a closure, unless it has too many units
abbrev pub unless_too_many : Result Closed ClosureFault → Result Closed Refusal
unless_too_many (Ok closed) = Ok closed
unless_too_many (Err closure_faults.TooMany) = Err TooMany

-- the links that units want, with these notices too, unless one needs an instance or a path is
-- wanted twice
abbrev pub unless_at_odds : NoticeMap → Result Wanted WantedFault → Result Wanted Refusal
unless_at_odds notices (Ok wanted) = Ok (record { links = wanted.links; notices = joined notices wanted.notices })
unless_at_odds notices (Err (wanted_faults.NeedsInstance unit)) = Err (NeedsInstance unit)
unless_at_odds notices (Err (wanted_faults.Clash path)) = Err (Clash path)

-- the links that the units of a closure want; with `skip` a word that would need an instance asks
-- for nothing
abbrev pub closed_want : Scope → (skip : Bool) → Closed → Inquiry (Result Wanted Refusal)
closed_want scope skip closed = giving (by_cells (wanted closed.units scope skip)) (unless_at_odds closed.notices)

-- the links wanted by units and by the units that they name
abbrev pub units_want : Scope → (skip : Bool) → (units : List (List ℕ)) → Inquiry (Result Wanted Refusal)
units_want scope skip units = do
  closed ← giving (by_cells (closure units)) unless_too_many
  going_on (closed_want scope skip) closed

-- a link is wanted at each of the paths
abbrev pub with_links : placing.Wanted → List (List ℕ × List ℕ) → placing.Wanted
with_links wanted [] = wanted
with_links wanted (link ∷ links) = with_links (map.insert wanted link.0 (Some link.1)) links

abbrev pub to_stand : LinkMap → placing.Wanted
to_stand links = with_links map.empty (map.entries links)

-- makes the wanted links, all at once
abbrev pub links_made : Wanted → Command
links_made wanted = telling wanted.notices (all_at_once (to_stand wanted.links))

-- the links that units want, which are checked first
abbrev pub checked_want : Scope → (skip : Bool) → (units : List (List ℕ)) → Inquiry (Result Wanted Refusal)
checked_want scope skip units = do
  fine ← checked units
  going_on (λ fine. units_want scope skip units) fine

-- Checks units, and enables them and those that they name.
abbrev pub units_enabled : Scope → (skip : Bool) → (units : List (List ℕ)) → Command
units_enabled scope skip units = do
  wanted ← checked_want scope skip units
  unless_refused links_made wanted

abbrev pub enable_command : Enable → Command
enable_command enable = units_enabled enable.scope false enable.units

-- What the command looks up in a tree, and what effect it has.
abbrev pub enable_meaning : Enable → Inquiry Effect
enable_meaning enable = carried_out (enable_command enable)

-- what decides, before a link is looked at, whether the command is refused, and which links it
-- wants
abbrev pub enable_wants : Enable → Inquiry (Result Wanted Refusal)
enable_wants enable = checked_want enable.scope false enable.units
