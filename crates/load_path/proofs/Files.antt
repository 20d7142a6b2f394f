-- The files that are found, and the names of their units.
use Rattle.std.proofs.Common.{◌≡◌, ℕ, zero, suc, ◌<◌, ◌&&◌, true, false, cond, List, [], ◌∷◌, length, Option, Some, None, refl, sym, ap, ◌∙◌, arith}
use Rattle.std.specs.FinMap as map
use Rattle.unit_name.specs.declared.kind.Kind.{Kind}
use Rattle.unit_name.specs.declared.kind.Kind.TheVariants.{Plain, Template, Instance}
use Rattle.unit_name.specs.Parts.{kind_of}
use Rattle.unit_name.specs.Name.{is_unit_name, type_of, instance_of, template_of}
use Rattle.unit_paths.specs.Canonical.{canonical}
use Rattle.unit_paths.specs.Places.{places}
use Rattle.unit_paths.specs.Slots.{unit_slot}
use Rattle.unit_paths.specs.Paths.{name_at}
use Rattle.link_tree.specs.Trees.{Entries}
use Rattle.link_tree.specs.declared.entry.Entry.{Entry}
use Rattle.link_tree.specs.declared.entry.Entry.TheVariants as entries
use Rattle.unit_paths.specs.declared.place.Place.{Place}
use Rattle.load_path.specs.declared.following.ChainEnd.{ChainEnd}
use Rattle.load_path.specs.declared.following.ChainEnd.TheVariants.{Null, File, Dangling}
use Rattle.load_path.specs.declared.finding.Found.TheVariants as founds
use Rattle.load_path.specs.Search.{Search, over, look, ◌>>=◌}
use Rattle.load_path.specs.Follow.{is_null, at_file, by_entry, by_path, chain, chain_from}
use Rattle.load_path.specs.RealNames.{is_same_type, by_kinds, real_name}
use Rattle.load_path.specs.Find.{Standing, entry_or, first_in, first_of_template, or_template, first_entry, unit_at, found_at, found_from, find}
use Rattle.load_path.specs.Laws.{UnitHasFile, PlainIsItsFile}
use Rattle.load_path.specs.Chains.{IsFileAt}

pub file-kept : (contents path link file last : List ℕ) → at_file contents path link ≡ File file last → (path ≡ file) × (0 < length contents)
file-kept [] path link file last h = absurd (cc)
file-kept (b ∷ bs) path link file last h = (cc, omega arith)

module _ (t : Entries) (file last : List ℕ) where
  entry-file : (on : List ℕ → Search ChainEnd) (path link : List ℕ) → ((target : List ℕ) → (on target).conclusion t ≡ File file last → IsFileAt t file)
      → (o : Option Entry) → map.get t path ≡ o → (by_entry on path link o).conclusion t ≡ File file last → IsFileAt t file
  entry-file on path link goes None is h = absurd (cc)
  entry-file on path link goes (Some (entries.File contents)) is h =
      let kept = file-kept contents path link file last h in
      (contents, ap (map.get t) (sym kept.0) ∙ is, kept.1)
  entry-file on path link goes (Some (entries.Link target)) is h = goes target h

  path-file : (on : List ℕ → List ℕ → Search ChainEnd) (link : List ℕ) → ((path target : List ℕ) → (on path target).conclusion t ≡ File file last → IsFileAt t file)
      → (o : Option (List ℕ)) → (by_path on link o).conclusion t ≡ File file last → IsFileAt t file
  path-file on link goes None h = absurd (cc)
  path-file on link goes (Some path) h = elim (is_null path) as (λ b. (cond b (over Null) (look path >>= by_entry (on path) path link)).conclusion t ≡ File file last → IsFileAt t file) [
    | true ↦ (λ h. absurd (cc))
    | false ↦ (λ h. entry-file (on path) path link (goes path) (map.get t path) refl h)
  ] h

  chain-file : (links : ℕ) (before link target : List ℕ) → (chain links before link target).conclusion t ≡ File file last → IsFileAt t file
  unfolding chain
  chain-file zero before link target h = absurd (cc)
  chain-file (suc links) before link target h = path-file (chain links link) link (λ path target. chain-file links link path target) (canonical link target) h

  chain_from-file : (path : List ℕ) (entry : Entry) → map.get t path ≡ Some entry → (chain_from path entry).conclusion t ≡ File file last → IsFileAt t file
  chain_from-file path entry is h = entry-file (chain 8 path path) path path (λ target. chain-file 8 path path target) (Some entry) is h

-- the entry is at its path in the tree
abbrev pub Stands : Entries → Option Standing → Type 0
Stands t None = Unit {0}
Stands t (Some first) = map.get t first.1 ≡ Some first.2

first_in-stands : (ps : List Place) (name : List ℕ) (t : Entries) → Stands t ((first_in ps name).conclusion t)
first_in-stands [] name t = tt
first_in-stands (place ∷ ps) name t =
    elim (map.get t (unit_slot place name)) as (λ o. map.get t (unit_slot place name) ≡ o → Stands t ((entry_or (first_in ps name) place (unit_slot place name) o).conclusion t)) [
      | None ↦ (λ none. first_in-stands ps name t)
      | Some entry ↦ (λ is. is)
    ] refl

template-stands : (kind : Kind) (name : List ℕ) (t : Entries) → Stands t ((first_of_template kind name).conclusion t)
template-stands Plain name t = tt
template-stands Template name t = tt
template-stands Instance name t = first_in-stands places (template_of name) t

or_template-stands : (name : List ℕ) (t : Entries) (o : Option Standing) → Stands t o → Stands t ((or_template name o).conclusion t)
or_template-stands name t None stands = template-stands (kind_of (instance_of name)) name t
or_template-stands name t (Some first) stands = stands

pub first_entry-stands : (name : List ℕ) (t : Entries) → Stands t ((first_entry name).conclusion t)
unfolding first_entry
first_entry-stands name t = or_template-stands name t ((first_in places name).conclusion t) (first_in-stands places name t)

-- facts about a unit that was found
pub record Known (name file real : List ℕ) (end : ChainEnd) : Type 0 where
  pub link : List ℕ
  pub is_end : end ≡ File file link
  pub is_real : real_name name (name_at file) ≡ Some real

unit-known : (name own link : List ℕ) (at place : Place) (real file : List ℕ) (o : Option (List ℕ)) → real_name name (name_at own) ≡ o → unit_at own link at o ≡ founds.Unit real file place → Known name file real (File own link)
unit-known name own link at place real file None is h = absurd (cc)
unit-known name own link at place real file (Some r) is h =
    let same_file : own ≡ file = cc in
    let same_real : Some r ≡ Some real = cc in
    record { link = link; is_end = ap (λ own. File own link) same_file; is_real = ap (λ own. real_name name (name_at own)) (sym same_file) ∙ is ∙ same_real }

pub found-known : (name : List ℕ) (at place : Place) (real file : List ℕ) (end : ChainEnd) → found_at name at end ≡ founds.Unit real file place → Known name file real end
found-known name at place real file Null h = absurd (cc)
found-known name at place real file (File own link) h = unit-known name own link at place real file (real_name name (name_at own)) refl h
found-known name at place real file (Dangling link) h = absurd (cc)

from-file : (name : List ℕ) (t : Entries) (place : Place) (real file : List ℕ) (o : Option Standing) → Stands t o → (found_from name o).conclusion t ≡ founds.Unit real file place
    → IsFileAt t file × (real_name name (name_at file) ≡ Some real)
from-file name t place real file None stands h = absurd (cc)
from-file name t place real file (Some first) stands h =
    let known = found-known name first.0 place real file ((chain_from first.1 first.2).conclusion t) h in
    (chain_from-file t file known.link first.1 first.2 stands known.is_end, known.is_real)

pub find-file : (name : List ℕ) (t : Entries) (real file : List ℕ) (place : Place) → (find name).conclusion t ≡ founds.Unit real file place → IsFileAt t file × (real_name name (name_at file) ≡ Some real)
unfolding find
find-file name t real file place h = from-file name t place real file ((first_entry name).conclusion t) (first_entry-stands name t) h

pub unit_has_file : UnitHasFile
unit_has_file = λ name t real file place h. (find-file name t real file place h).0

plain-kinds : (kind : Kind) (name file real : List ℕ) → by_kinds Plain kind name file ≡ Some real → real ≡ file
unfolding by_kinds
plain-kinds Plain name file real h = cc
plain-kinds Template name file real h = absurd (cc)
plain-kinds Instance name file real h = absurd (cc)

plain-real : (name file real : List ℕ) → kind_of (instance_of name) ≡ Plain → real_name name file ≡ Some real → real ≡ file
unfolding real_name
plain-real name file real plain h =
    elim (is_unit_name file && is_same_type (type_of name) (type_of file)) as (λ b. cond b (by_kinds (kind_of (instance_of name)) (kind_of (instance_of file)) name file) None ≡ Some real → real ≡ file) [
      | true ↦ (λ h. plain-kinds (kind_of (instance_of file)) name file real (ap (λ kind. by_kinds kind (kind_of (instance_of file)) name file) (sym plain) ∙ h))
      | false ↦ (λ h. absurd (cc))
    ] h

pub plain_is_its_file : PlainIsItsFile
plain_is_its_file = λ name t real file place plain h. plain-real name (name_at file) real plain (find-file name t real file place h).1
