-- The [Install] section of a unit that is looked up: systemd.unit(5), "[Install] Section Options".
use Rattle.std.specs.Prelude.{ℕ, Bool, ◌&&◌, ◌==◌, List, [], Option, Some, None, length}
use Rattle.unit_file.specs.Identity.{identity_of}
use Rattle.unit_file.specs.Reading.{text_of}
use Rattle.link_tree.specs.declared.entry.Entry.{Entry}
use Rattle.link_tree.specs.declared.entry.Entry.TheVariants.{File}
use Rattle.load_path.specs.declared.finding.Found.{Found}
use Rattle.load_path.specs.declared.finding.Found.TheVariants.{Unit}
use Rattle.load_path.specs.Search.{Search, over, look, giving, ◌>>=◌}
use Rattle.load_path.specs.Find.{find}
use Rattle.install_section.specs.declared.section.Section.{Section}

-- the bytes of a file; none if there is no file
abbrev pub bytes_in : Option Entry → List ℕ
bytes_in (Some (File contents)) = contents
bytes_in other = []

abbrev pub section_in : (file : List ℕ) → Option Entry → Section
section_in file entry = record { file = file; text = text_of (bytes_in entry) }

abbrev pub section_by : Found → Search (Option Section)
section_by (Unit real file place) = giving (look file) (λ entry. Some (section_in file entry))
section_by other = over None

-- the section of a unit, which is looked up first; none if the name is no unit's
unfoldable pub section_of : (unit : List ℕ) → Search (Option Section)
section_of unit = do
  found ← find unit
  section_by found

-- whether a section names no unit and asks for no link: its five lists are empty
abbrev pub is_empty : Section → Bool
is_empty section =
    length section.text.also == 0 && length section.text.alias == 0 && length section.text.wanted_by == 0 && length section.text.required_by == 0 && length section.text.upheld_by == 0

-- the name with which the words of a unit's section are expanded
abbrev pub identity_in : (unit : List ℕ) → Section → List ℕ
identity_in unit section = identity_of unit section.text.default_instance
