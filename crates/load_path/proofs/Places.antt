-- The directory that a result names is that of the name's entry.
use Rattle.std.proofs.Common.{◌≡◌, ℕ, Bool, cond, List, [], ◌∷◌, Option, Some, None, is_some, refl, sym, ap, ◌∙◌}
use Rattle.std.specs.List.{find as first_of}
use Rattle.std.specs.Option.{option_map, option_or}
use Rattle.std.specs.FinMap as map
use Rattle.unit_name.specs.declared.kind.Kind.{Kind}
use Rattle.unit_name.specs.declared.kind.Kind.TheVariants.{Plain, Template, Instance}
use Rattle.unit_name.specs.Parts.{kind_of}
use Rattle.unit_name.specs.Name.{instance_of, template_of}
use Rattle.unit_paths.specs.Places.{places}
use Rattle.unit_paths.specs.Slots.{unit_slot}
use Rattle.unit_paths.specs.Paths.{name_at}
use Rattle.link_tree.specs.Trees.{Entries}
use Rattle.link_tree.specs.declared.entry.Entry.{Entry}
use Rattle.unit_paths.specs.declared.place.Place.{Place}
use Rattle.load_path.specs.declared.following.ChainEnd.{ChainEnd}
use Rattle.load_path.specs.declared.following.ChainEnd.TheVariants.{Null, File, Dangling}
use Rattle.load_path.specs.declared.finding.Found.TheVariants as founds
use Rattle.load_path.specs.Search.{Search}
use Rattle.load_path.specs.Follow.{chain_from}
use Rattle.load_path.specs.RealNames.{real_name}
use Rattle.load_path.specs.Find.{Standing, entry_or, first_in, first_of_template, or_template, first_entry, unit_at, found_at, found_from, find}
use Rattle.load_path.specs.Laws.{template_place, entry_place, place_in, PlaceIsEntrys, MissingHasNoEntry}

abbrev its_place : Option Standing → Option Place
its_place o = option_map (λ first. first.0) o

abbrev has_entry : Entries → List ℕ → Place → Bool
has_entry t name place = is_some (map.get t (unit_slot place name))

entry_or-place : (rest : Search (Option Standing)) (place : Place) (path : List ℕ) (t : Entries) (later : Option Place) → its_place (rest.conclusion t) ≡ later → (o : Option Entry)
    → its_place ((entry_or rest place path o).conclusion t) ≡ cond (is_some o) (Some place) later
entry_or-place rest place path t later same None = same
entry_or-place rest place path t later same (Some entry) = refl

first_in-place : (ps : List Place) (name : List ℕ) (t : Entries) → its_place ((first_in ps name).conclusion t) ≡ first_of (has_entry t name) ps
first_in-place [] name t = refl
first_in-place (place ∷ ps) name t = entry_or-place (first_in ps name) place (unit_slot place name) t (first_of (has_entry t name) ps) (first_in-place ps name t) (map.get t (unit_slot place name))

template-place : (kind : Kind) (name : List ℕ) (t : Entries) → its_place ((first_of_template kind name).conclusion t) ≡ template_place kind t name
template-place Plain name t = refl
template-place Template name t = refl
template-place Instance name t = first_in-place places (template_of name) t

or_template-place : (name : List ℕ) (t : Entries) (o : Option Standing) → its_place ((or_template name o).conclusion t) ≡ option_or (its_place o) (template_place (kind_of (instance_of name)) t name)
or_template-place name t None = template-place (kind_of (instance_of name)) name t
or_template-place name t (Some first) = refl

first_entry-place : (name : List ℕ) (t : Entries) → its_place ((first_entry name).conclusion t) ≡ entry_place t name
unfolding first_entry
first_entry-place name t =
    or_template-place name t ((first_in places name).conclusion t)
    ∙ ap (λ place. option_or place (template_place (kind_of (instance_of name)) t name)) (first_in-place places name t)

unit-place : (file link : List ℕ) (own place : Place) (o : Option (List ℕ)) → place_in (unit_at file link own o) ≡ Some place → Some own ≡ Some place
unit-place file link own place None h = absurd (cc)
unit-place file link own place (Some real) h = h

pub found-place : (name : List ℕ) (own place : Place) (end : ChainEnd) → place_in (found_at name own end) ≡ Some place → Some own ≡ Some place
found-place name own place Null h = h
found-place name own place (File file link) h = unit-place file link own place (real_name name (name_at file)) h
found-place name own place (Dangling link) h = absurd (cc)

from-place : (name : List ℕ) (t : Entries) (place : Place) (o : Option Standing) → place_in ((found_from name o).conclusion t) ≡ Some place → its_place o ≡ Some place
from-place name t place None h = absurd (cc)
from-place name t place (Some first) h = found-place name first.0 place ((chain_from first.1 first.2).conclusion t) h

pub place_is_entrys : PlaceIsEntrys
unfolding find
place_is_entrys = λ name t place h. sym (first_entry-place name t) ∙ from-place name t place ((first_entry name).conclusion t) h

unit-there : (file link : List ℕ) (own : Place) (o : Option (List ℕ)) → unit_at file link own o ≡ founds.Missing → ⊥
unit-there file link own None h = absurd (cc)
unit-there file link own (Some real) h = absurd (cc)

found-there : (name : List ℕ) (own : Place) (end : ChainEnd) → found_at name own end ≡ founds.Missing → ⊥
found-there name own Null h = absurd (cc)
found-there name own (File file link) h = unit-there file link own (real_name name (name_at file)) h
found-there name own (Dangling link) h = absurd (cc)

from-missing : (name : List ℕ) (t : Entries) (o : Option Standing) → (found_from name o).conclusion t ≡ founds.Missing → its_place o ≡ None
from-missing name t None h = refl
from-missing name t (Some first) h = absurd (found-there name first.0 ((chain_from first.1 first.2).conclusion t) h)

from-none : (name : List ℕ) (t : Entries) (o : Option Standing) → its_place o ≡ None → (found_from name o).conclusion t ≡ founds.Missing
from-none name t None h = refl
from-none name t (Some first) h = absurd (cc)

pub missing_has_no_entry : MissingHasNoEntry
unfolding find
missing_has_no_entry = λ name t. (
  λ h. sym (first_entry-place name t) ∙ from-missing name t ((first_entry name).conclusion t) h,
  λ h. from-none name t ((first_entry name).conclusion t) (first_entry-place name t ∙ h),
)
