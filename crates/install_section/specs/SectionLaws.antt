-- A law of sections, the contract of a public function.
use Rattle.std.specs.Prelude.{ℕ, ◌↔◌, List, Contains}
use Rattle.link_tree.specs.Trees.{Entries}
use Rattle.load_path.specs.Find.{find}
use Rattle.install_section.specs.Sections.{section_of}

-- Reading a unit's section looks at exactly the paths that looking the unit up looks at.
abbrev pub SectionLooksAsFind : Type 0
SectionLooksAsFind = (unit : List ℕ) (t : Entries) (cell : List ℕ) → Contains ((section_of unit).cells t) cell ↔ Contains ((find unit).cells t) cell
