-- Looking up a unit: systemd.unit(5), "Unit File Load Path".
use Rattle.std.specs.Prelude.{ℕ, List, [], ◌∷◌, Option, Some, None}
use Rattle.unit_name.specs.declared.kind.Kind.{Kind}
use Rattle.unit_name.specs.declared.kind.Kind.TheVariants.{Instance}
use Rattle.unit_name.specs.Parts.{kind_of}
use Rattle.unit_name.specs.Name.{instance_of, template_of}
use Rattle.unit_paths.specs.Places.{places}
use Rattle.unit_paths.specs.Slots.{unit_slot}
use Rattle.unit_paths.specs.Paths.{name_at}
use Rattle.link_tree.specs.declared.entry.Entry.{Entry}
use Rattle.unit_paths.specs.declared.place.Place.{Place}
use Rattle.load_path.specs.declared.following.ChainEnd.{ChainEnd}
use Rattle.load_path.specs.declared.following.ChainEnd.TheVariants as chains
use Rattle.load_path.specs.declared.finding.Found.{Found}
use Rattle.load_path.specs.declared.finding.Found.TheVariants.{Missing, Masked, Dangling, Unit}
use Rattle.load_path.specs.Search.{Search, over, look, giving, ◌>>=◌}
use Rattle.load_path.specs.Follow.{chain_from}
use Rattle.load_path.specs.RealNames.{real_name}

-- an entry that was found, with its directory and path
abbrev pub Standing : Type 0
Standing = Place × List ℕ × Entry

-- the entry, or else the result of the remaining search
abbrev pub entry_or : Search (Option Standing) → Place → List ℕ → Option Entry → Search (Option Standing)
entry_or rest place path None = rest
entry_or rest place path (Some entry) = over (Some (place, path, entry))

-- the first of the directories in which a unit has an entry
abbrev pub first_in : List Place → List ℕ → Search (Option Standing)
first_in [] name = over None
first_in (place ∷ rest) name = do
  entry ← look (unit_slot place name)
  entry_or (first_in rest name) place (unit_slot place name) entry

-- if an instance has no entry, that of its template is used
abbrev pub first_of_template : Kind → List ℕ → Search (Option Standing)
first_of_template Instance name = first_in places (template_of name)
first_of_template other name = over None

-- the entry that was found, or that of the template
abbrev pub or_template : List ℕ → Option Standing → Search (Option Standing)
or_template name None = first_of_template (kind_of (instance_of name)) name
or_template name (Some first) = over (Some first)

-- the entry of a name
unfoldable pub first_entry : List ℕ → Search (Option Standing)
first_entry name = do
  first ← first_in places name
  or_template name first

-- a file is the unit's if its name says so
abbrev pub unit_at : (file link : List ℕ) → Place → Option (List ℕ) → Found
unit_at file link place None = Dangling link
unit_at file link place (Some real) = Unit real file place

-- the result, by the end of the chain
abbrev pub found_at : List ℕ → Place → ChainEnd → Found
found_at name place chains.Null = Masked place
found_at name place (chains.File file link) = unit_at file link place (real_name name (name_at file))
found_at name place (chains.Dangling link) = Dangling link

-- the result, by the entry from which links are followed
abbrev pub found_from : List ℕ → Option Standing → Search Found
found_from name None = over Missing
found_from name (Some first) = giving (chain_from first.1 first.2) (found_at name first.0)

-- what a name is found to be: the directory is that of its entry, wherever the file is
unfoldable pub find : List ℕ → Search Found
find name = do
  first ← first_entry name
  found_from name first
