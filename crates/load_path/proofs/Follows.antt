-- A unit is looked up by following what is in its slot.
use Rattle.std.proofs.Common.{◌≡◌, ℕ, List, Option, Some, None, refl, ap, subst, ◌∙◌, inl, inr}
use Rattle.std.specs.FinMap as map
use Rattle.unit_name.specs.declared.kind.Kind.{Kind}
use Rattle.unit_name.specs.declared.kind.Kind.TheVariants.{Plain, Template, Instance}
use Rattle.unit_name.specs.Parts.{kind_of}
use Rattle.unit_name.specs.Name.{instance_of, template_of}
use Rattle.unit_paths.specs.Places.{places}
use Rattle.unit_paths.specs.Paths.{name_at}
use Rattle.link_tree.specs.Trees.{Entries}
use Rattle.link_tree.specs.declared.entry.Entry.{Entry}
use Rattle.unit_paths.specs.declared.place.Place.{Place}
use Rattle.load_path.specs.declared.following.End.{End}
use Rattle.load_path.specs.declared.following.End.TheVariants as ends
use Rattle.load_path.specs.declared.following.ChainEnd.{ChainEnd}
use Rattle.load_path.specs.declared.following.ChainEnd.TheVariants.{Null, File, Dangling}
use Rattle.load_path.specs.declared.finding.Found.TheVariants as founds
use Rattle.load_path.specs.Follow.{chain_from, end_of, followed, follow}
use Rattle.load_path.specs.RealNames.{real_name}
use Rattle.load_path.specs.Find.{Standing, first_in, first_of_template, or_template, first_entry, unit_at, found_at, found_from, find}
use Rattle.load_path.specs.Laws.{place_in, IsSlotOf, UnitIsFollowed, MaskedIsFollowed}
use Rattle.load_path.proofs.Places.{found-place}
use Rattle.load_path.proofs.Files.{Stands, first_entry-stands, found-known}
use Rattle.load_path.proofs.Dangles.{IsSlotFor, first_in-slot}

abbrev InItsSlot : List ℕ → Option Standing → Type 0
InItsSlot name None = Unit {0}
InItsSlot name (Some first) = IsSlotOf name first.0 first.1

own-slot : (name : List ℕ) (o : Option Standing) → IsSlotFor name o → InItsSlot name o
own-slot name None slot = tt
own-slot name (Some first) slot = inl slot

its-template : (name : List ℕ) (o : Option Standing) → IsSlotFor (template_of name) o → InItsSlot name o
its-template name None slot = tt
its-template name (Some first) slot = inr slot

template-slot : (kind : Kind) (name : List ℕ) (t : Entries) → InItsSlot name ((first_of_template kind name).conclusion t)
template-slot Plain name t = tt
template-slot Template name t = tt
template-slot Instance name t = its-template name ((first_in places (template_of name)).conclusion t) (first_in-slot places (template_of name) t)

or_template-slot : (name : List ℕ) (t : Entries) (o : Option Standing) → IsSlotFor name o → InItsSlot name ((or_template name o).conclusion t)
or_template-slot name t None slot = template-slot (kind_of (instance_of name)) name t
or_template-slot name t (Some first) slot = own-slot name (Some first) slot

first_entry-slot : (name : List ℕ) (t : Entries) → InItsSlot name ((first_entry name).conclusion t)
unfolding first_entry
first_entry-slot name t = or_template-slot name t ((first_in places name).conclusion t) (first_in-slot places name t)

follow-entry : (t : Entries) (path : List ℕ) (entry : Entry) → map.get t path ≡ Some entry → (follow path).conclusion t ≡ end_of ((chain_from path entry).conclusion t)
unfolding follow
follow-entry t path entry is = ap (λ o. (followed path o).conclusion t) is

its-place : (own place : Place) → Some own ≡ Some place → own ≡ place
its-place own place h = cc

-- a slot that leads to an end
abbrev Follows : List ℕ → Entries → Place → End → Type 0
Follows name t place end = (path : List ℕ) × IsSlotOf name place path × ((follow path).conclusion t ≡ end)

follows : (name : List ℕ) (t : Entries) (own place : Place) (path : List ℕ) (entry : Entry) (end : ChainEnd) → IsSlotOf name own path → map.get t path ≡ Some entry → (chain_from path entry).conclusion t ≡ end → own ≡ place → Follows name t place (end_of end)
follows name t own place path entry end slot is ends same = (path, subst (λ place. IsSlotOf name place path) same slot, follow-entry t path entry is ∙ ap end_of ends)

from-unit : (name : List ℕ) (t : Entries) (place : Place) (real file : List ℕ) (o : Option Standing) → InItsSlot name o → Stands t o → (found_from name o).conclusion t ≡ founds.Unit real file place → Follows name t place (ends.File file)
from-unit name t place real file None slot stands h = absurd (cc)
from-unit name t place real file (Some first) slot stands h =
    let end = (chain_from first.1 first.2).conclusion t in
    let known = found-known name first.0 place real file end h in
    follows name t first.0 place first.1 first.2 (File file known.link) slot stands known.is_end (its-place first.0 place (found-place name first.0 place end (ap place_in h)))

masked-unit : (file link : List ℕ) (own place : Place) (o : Option (List ℕ)) → unit_at file link own o ≡ founds.Masked place → ⊥
masked-unit file link own place None h = absurd (cc)
masked-unit file link own place (Some real) h = absurd (cc)

masked-end : (name : List ℕ) (own place : Place) (end : ChainEnd) → found_at name own end ≡ founds.Masked place → end ≡ Null
masked-end name own place Null h = refl
masked-end name own place (File file link) h = absurd (masked-unit file link own place (real_name name (name_at file)) h)
masked-end name own place (Dangling link) h = absurd (cc)

from-masked : (name : List ℕ) (t : Entries) (place : Place) (o : Option Standing) → InItsSlot name o → Stands t o → (found_from name o).conclusion t ≡ founds.Masked place → Follows name t place ends.Null
from-masked name t place None slot stands h = absurd (cc)
from-masked name t place (Some first) slot stands h =
    let end = (chain_from first.1 first.2).conclusion t in
    follows name t first.0 place first.1 first.2 Null slot stands (masked-end name first.0 place end h) (its-place first.0 place (found-place name first.0 place end (ap place_in h)))

pub unit_is_followed : UnitIsFollowed
unfolding find
unit_is_followed = λ name t real file place h. from-unit name t place real file ((first_entry name).conclusion t) (first_entry-slot name t) (first_entry-stands name t) h

pub masked_is_followed : MaskedIsFollowed
unfolding find
masked_is_followed = λ name t place h. from-masked name t place ((first_entry name).conclusion t) (first_entry-slot name t) (first_entry-stands name t) h
