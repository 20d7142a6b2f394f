-- A unit's file is one of the paths at which looking the unit up looks.
use Rattle.std.proofs.Common.{◌≡◌, ℕ, List, ◌++◌, Contains, refl, subst, inl, inr}
use Rattle.std.proofs.lemmas.List.{append-nil}
use Rattle.std.proofs.lemmas.List.Elements.{Contains-append_left, Contains-push_cases}
use Rattle.unit_paths.specs.declared.place.Place.{Place}
use Rattle.link_tree.specs.Trees.{Entries}
use Rattle.load_path.specs.declared.following.End.TheVariants as ends
use Rattle.load_path.specs.declared.finding.Found.{Found}
use Rattle.load_path.specs.declared.finding.Found.TheVariants.{Missing, Masked, Dangling, Unit}
use Rattle.load_path.specs.Find.{find}
use Rattle.load_path.proofs.Candidates.{find_looks_along_chain}
use Rattle.load_path.proofs.Chains.{follow_is_chain, file_is_led}
use Rattle.load_path.proofs.FirstEntries.{names_are_found_by_first_entry}
use Rattle.install_section.specs.Sections.{section_by, section_of}
use Rattle.install_section.specs.SectionLaws.{SectionLooksAsFind}

file_is_looked_at : (unit : List ℕ) (t : Entries) (real file : List ℕ) (place : Place) → (find unit).conclusion t ≡ Unit real file place → Contains ((find unit).cells t) file
file_is_looked_at unit t real file place is =
    let found = ((names_are_found_by_first_entry unit t).unit real file place).0 is in
    let led = (file_is_led found.0 file t).0 ((follow_is_chain found.0 (ends.File file) t).1 found.2) in
    (find_looks_along_chain unit file t).1 (inr ((place, found.0), found.1, led.0, led.1, led.2))

with_file : (unit : List ℕ) (t : Entries) (found : Found) → (find unit).conclusion t ≡ found → (cell : List ℕ) → Contains ((find unit).cells t ++ (section_by found).cells t) cell → Contains ((find unit).cells t) cell
with_file unit t Missing is cell here = subst (λ cells. Contains cells cell) (append-nil ((find unit).cells t)) here
with_file unit t (Masked place) is cell here = subst (λ cells. Contains cells cell) (append-nil ((find unit).cells t)) here
with_file unit t (Dangling link) is cell here = subst (λ cells. Contains cells cell) (append-nil ((find unit).cells t)) here
with_file unit t (Unit real file place) is cell here = elim (Contains-push_cases ((find unit).cells t) file cell here) [
  | inl before ↦ before
  | inr last ↦ subst (Contains ((find unit).cells t)) last (file_is_looked_at unit t real file place is)
]

pub looks_as_find : SectionLooksAsFind
unfolding section_of
looks_as_find = λ unit t cell. (
  with_file unit t ((find unit).conclusion t) refl cell,
  Contains-append_left ((find unit).cells t) ((section_by ((find unit).conclusion t)).cells t) cell,
)
