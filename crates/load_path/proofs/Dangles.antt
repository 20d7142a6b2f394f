-- What dangles is a link: a file in a slot at which a name is looked for is that unit's.
use Rattle.std.proofs.Common.{◌≡◌, ℕ, zero, suc, ◌+◌, true, false, cond, List, [], ◌∷◌, ◌++◌, length, length-append, get_or, drop, Option, Some, None, refl, sym, ap, subst, ◌∙◌, inl, inr, arith}
use Rattle.std.specs.List.{list_any, list_all}
use Rattle.std.specs.FinMap as map
use Rattle.std.proofs.Math.Seq.{drop-append-add}
use Rattle.std.proofs.lemmas.Bool.{cases_Bool, and_parts, eqb-true, false≢true}
use Rattle.std.proofs.lemmas.Slice.Eq.{bytes_eq-Decides}
use Rattle.unit_name.specs.declared.kind.Kind.{Kind}
use Rattle.unit_name.specs.declared.kind.Kind.TheVariants.{Plain, Template, Instance}
use Rattle.unit_name.specs.declared.kind.UnitType.{UnitType}
use Rattle.unit_name.specs.Parts.{is_name_byte, type_text, kind_of, IsUnitName}
use Rattle.unit_name.specs.Name.{type_of, instance_of, template_of}
use Rattle.unit_name.proofs.Names.{parts_read, no_fault_in_name}
use Rattle.unit_name.proofs.Instances.{instance_set, template_shared, template_named}
use Rattle.unit_paths.specs.Paths.{is_slash, name_at}
use Rattle.unit_paths.specs.Canonical.{canonical}
use Rattle.unit_paths.specs.Places.{places, unit_directory}
use Rattle.unit_paths.specs.Slots.{unit_slot}
use Rattle.link_tree.specs.Trees.{Entries}
use Rattle.link_tree.specs.declared.entry.Entry.{Entry}
use Rattle.link_tree.specs.declared.entry.Entry.TheVariants as entries
use Rattle.unit_paths.specs.declared.place.Place.{Place}
use Rattle.load_path.specs.declared.following.ChainEnd.{ChainEnd}
use Rattle.load_path.specs.declared.following.ChainEnd.TheVariants.{Null, File, Dangling}
use Rattle.load_path.specs.declared.finding.Found.TheVariants as founds
use Rattle.load_path.specs.Search.{Search, over, look, ◌>>=◌}
use Rattle.load_path.specs.Follow.{is_null, at_file, by_entry, by_path, chain, chain_from}
use Rattle.load_path.specs.RealNames.{is_same_type, is_same_instance, named, put_in, by_kinds, real_name}
use Rattle.load_path.specs.Find.{Standing, entry_or, first_in, first_of_template, or_template, first_entry, unit_at, found_at, found_from, find}
use Rattle.load_path.specs.Chains.{IsLinkAt}
use Rattle.load_path.specs.Laws.{DanglingIsLink}
use Rattle.load_path.proofs.Names.{name-after}
use Rattle.load_path.proofs.Units.{is-name}
use Rattle.load_path.proofs.Files.{Stands, first_entry-stands}

-- no byte of a name is a slash
no-slash : (name : List ℕ) → list_all is_name_byte name ≡ true → list_any is_slash name ≡ false
no-slash [] h = refl
no-slash (b ∷ bs) h =
    let both = and_parts (is_name_byte b) (list_all is_name_byte bs) h in
    elim (cases_Bool (is_slash b)) [
      | inl slash ↦ absurd (false≢true (subst (λ b. is_name_byte b ≡ true) (eqb-true b 47 slash) both.0))
      | inr other ↦ rw other (no-slash bs both.1)
    ]

at-seam : (dir name : List ℕ) → get_or (dir ++ 47 ∷ name) (length dir) 0 ≡ 47
at-seam [] name = refl
at-seam (b ∷ dir) name = at-seam dir name

-- the name part of a unit's slot is the unit's name
slot-name : (place : Place) (name : List ℕ) → IsUnitName name → name ≡ name_at (unit_slot place name)
slot-name place name is =
    let dir = unit_directory place in
    let next : suc (length dir) ≡ length dir + 1 = omega arith in
    let rest : drop (length dir + 1) (dir ++ 47 ∷ name) ≡ name = drop-append-add dir (47 ∷ name) 1 in
    let none : list_any is_slash (drop (suc (length dir)) (dir ++ 47 ∷ name)) ≡ false = ap (λ n. list_any is_slash (drop n (dir ++ 47 ∷ name))) next ∙ ap (list_any is_slash) rest ∙ no-slash name is.1.name_bytes in
    sym rest ∙ name-after (dir ++ 47 ∷ name) (length dir) (omega (arith, length-append dir (47 ∷ name))) (at-seam dir name) none

same-itself : (o : Option UnitType) (one : UnitType) → o ≡ Some one → is_same_type o o ≡ true
same-itself o one is = rw is ((bytes_eq-Decides (type_text one) (type_text one)).1 refl)

own-type : (name : List ℕ) → IsUnitName name → is_same_type (type_of name) (type_of name) ≡ true
own-type name is = same-itself (type_of name) is.0.unit_type (parts_read name is.0 is.1).2

own-kinds : (instance : Option (List ℕ)) (name : List ℕ) → instance_of name ≡ instance → by_kinds (kind_of instance) (kind_of instance) name name ≡ Some name
unfolding by_kinds
own-kinds None name is = refl
own-kinds (Some []) name is = refl
own-kinds (Some (b ∷ bs)) name is =
    let same : is_same_instance (instance_of name) (instance_of name) ≡ true = rw is ((bytes_eq-Decides (b ∷ bs) (b ∷ bs)).1 refl) in
    ap (λ b. cond b (Some name) None) same

-- a file with the same name as the unit
own-real : (name : List ℕ) → IsUnitName name → real_name name name ≡ Some name
unfolding real_name
own-real name is = rw (no_fault_in_name name is, own-type name is) (own-kinds (instance_of name) name refl)

filled-kinds : (kind : Kind) (instance : Option (List ℕ)) (name : List ℕ) → IsUnitName name → kind ≡ Instance → kind_of instance ≡ kind → instance_of name ≡ instance
    → by_kinds kind Template name (template_of name) ≡ Some name
unfolding by_kinds
filled-kinds Plain instance name valid is same own = absurd (cc)
filled-kinds Template instance name valid is same own = absurd (cc)
filled-kinds Instance None name valid is same own = absurd (cc)
filled-kinds Instance (Some text) name valid is same own =
    let whole = (template_shared name text valid).0 own in
    ap (put_in (template_of name)) own ∙ ap named whole ∙ rw (no_fault_in_name name valid) refl

instance-named : (name : List ℕ) → IsUnitName name → kind_of (instance_of name) ≡ Instance → IsUnitName (template_of name)
instance-named name valid is = template_named name valid (λ plain. absurd (let e : Plain ≡ Instance = sym plain ∙ is in not_both e))
  where
    not_both : Plain ≡ Instance → ⊥
    not_both e = absurd (cc)

-- a file with the name of the unit's template
template-real : (name : List ℕ) → IsUnitName name → kind_of (instance_of name) ≡ Instance → real_name name (template_of name) ≡ Some name
unfolding real_name
template-real name valid is =
    let template = instance-named name valid is in
    let set = instance_set name [] valid in
    let its_type : is_same_type (type_of name) (type_of (template_of name)) ≡ true = ap (is_same_type (type_of name)) set.2 ∙ own-type name valid in
    let its_kind : kind_of (instance_of (template_of name)) ≡ Template = ap kind_of set.0 in
    rw (no_fault_in_name (template_of name) template, its_type, its_kind) (filled-kinds (kind_of (instance_of name)) (instance_of name) name valid is refl refl)

-- The last link of a chain is a link in the tree.
abbrev LastIsLink : Entries → ChainEnd → Type 0
LastIsLink t Null = Unit {0}
LastIsLink t (File path link) = IsLinkAt t link
LastIsLink t (Dangling link) = IsLinkAt t link

file-last : (t : Entries) (contents path link : List ℕ) → IsLinkAt t link → LastIsLink t (at_file contents path link)
file-last t [] path link there = tt
file-last t (b ∷ bs) path link there = there

entry-last : (t : Entries) (on : List ℕ → Search ChainEnd) (path link : List ℕ) → IsLinkAt t link → ((target : List ℕ) → map.get t path ≡ Some (entries.Link target) → LastIsLink t ((on target).conclusion t))
    → (o : Option Entry) → map.get t path ≡ o → LastIsLink t ((by_entry on path link o).conclusion t)
entry-last t on path link there goes None is = there
entry-last t on path link there goes (Some (entries.File contents)) is = file-last t contents path link there
entry-last t on path link there goes (Some (entries.Link target)) is = goes target is

path-last : (t : Entries) (on : List ℕ → List ℕ → Search ChainEnd) (link : List ℕ) → IsLinkAt t link → ((path target : List ℕ) → map.get t path ≡ Some (entries.Link target) → LastIsLink t ((on path target).conclusion t))
    → (o : Option (List ℕ)) → LastIsLink t ((by_path on link o).conclusion t)
path-last t on link there goes None = there
path-last t on link there goes (Some path) = elim (is_null path) as (λ b. LastIsLink t ((cond b (over Null) (look path >>= by_entry (on path) path link)).conclusion t)) [
  | true ↦ tt
  | false ↦ entry-last t (on path) path link there (goes path) (map.get t path) refl
]

chain-last : (t : Entries) (links : ℕ) (last link target : List ℕ) → IsLinkAt t last → IsLinkAt t link → LastIsLink t ((chain links last link target).conclusion t)
unfolding chain
chain-last t zero last link target before there = before
chain-last t (suc links) last link target before there = path-last t (chain links link) link there (λ path target is. chain-last t links link path target there (target, is)) (canonical link target)

-- where an entry is looked for: in the slot of the name, or of its template
abbrev pub IsSlotFor : List ℕ → Option Standing → Type 0
IsSlotFor name None = Unit {0}
IsSlotFor name (Some first) = first.1 ≡ unit_slot first.0 name

pub first_in-slot : (ps : List Place) (name : List ℕ) (t : Entries) → IsSlotFor name ((first_in ps name).conclusion t)
first_in-slot [] name t = tt
first_in-slot (place ∷ ps) name t = elim (map.get t (unit_slot place name)) as (λ o. IsSlotFor name ((entry_or (first_in ps name) place (unit_slot place name) o).conclusion t)) [
  | None ↦ first_in-slot ps name t
  | Some entry ↦ refl
]

-- a file there belongs to the unit
abbrev IsOwn : List ℕ → Option Standing → Type 0
IsOwn name None = Unit {0}
IsOwn name (Some first) = real_name name (name_at first.1) ≡ Some name

own-slot : (name : List ℕ) → IsUnitName name → (o : Option Standing) → IsSlotFor name o → IsOwn name o
own-slot name valid None slot = tt
own-slot name valid (Some first) slot = ap (λ path. real_name name (name_at path)) slot ∙ ap (real_name name) (sym (slot-name first.0 name valid)) ∙ own-real name valid

template-slot : (name : List ℕ) → IsUnitName name → kind_of (instance_of name) ≡ Instance → (o : Option Standing) → IsSlotFor (template_of name) o → IsOwn name o
template-slot name valid is None slot = tt
template-slot name valid is (Some first) slot =
    ap (λ path. real_name name (name_at path)) slot ∙ ap (real_name name) (sym (slot-name first.0 (template_of name) (instance-named name valid is))) ∙ template-real name valid is

template-own : (kind : Kind) (name : List ℕ) (t : Entries) → IsUnitName name → kind_of (instance_of name) ≡ kind → IsOwn name ((first_of_template kind name).conclusion t)
template-own Plain name t valid is = tt
template-own Template name t valid is = tt
template-own Instance name t valid is = template-slot name valid is ((first_in places (template_of name)).conclusion t) (first_in-slot places (template_of name) t)

or_template-own : (name : List ℕ) (t : Entries) → IsUnitName name → (o : Option Standing) → IsSlotFor name o → IsOwn name ((or_template name o).conclusion t)
or_template-own name t valid None slot = template-own (kind_of (instance_of name)) name t valid refl
or_template-own name t valid (Some first) slot = own-slot name valid (Some first) slot

first_entry-own : (name : List ℕ) (t : Entries) → IsUnitName name → IsOwn name ((first_entry name).conclusion t)
unfolding first_entry
first_entry-own name t valid = or_template-own name t valid ((first_in places name).conclusion t) (first_in-slot places name t)

unit-last : (t : Entries) (file last link : List ℕ) (place : Place) (o : Option (List ℕ)) → IsLinkAt t last → unit_at file last place o ≡ founds.Dangling link → IsLinkAt t link
unit-last t file last link place None there h = let same : last ≡ link = cc in subst (IsLinkAt t) same there
unit-last t file last link place (Some real) there h = absurd (cc)

found-last : (t : Entries) (name link : List ℕ) (place : Place) (end : ChainEnd) → LastIsLink t end → found_at name place end ≡ founds.Dangling link → IsLinkAt t link
found-last t name link place Null there h = absurd (cc)
found-last t name link place (File file last) there h = unit-last t file last link place (real_name name (name_at file)) there h
found-last t name link place (Dangling last) there h = let same : last ≡ link = cc in subst (IsLinkAt t) same there

own-unit : (path link real : List ℕ) (place : Place) (o : Option (List ℕ)) → o ≡ Some real → unit_at path path place o ≡ founds.Dangling link → ⊥
own-unit path link real place None own h = absurd (cc)
own-unit path link real place (Some other) own h = absurd (cc)

own-file : (name contents path link : List ℕ) (place : Place) → real_name name (name_at path) ≡ Some name → found_at name place (at_file contents path path) ≡ founds.Dangling link → ⊥
own-file name [] path link place own h = absurd (cc)
own-file name (b ∷ bs) path link place own h = own-unit path link name place (real_name name (name_at path)) own h

entry-dangles : (t : Entries) (name path link : List ℕ) (place : Place) (entry : Entry) → map.get t path ≡ Some entry → real_name name (name_at path) ≡ Some name
    → found_at name place ((chain_from path entry).conclusion t) ≡ founds.Dangling link → IsLinkAt t link
entry-dangles t name path link place (entries.File contents) is own h = absurd (own-file name contents path link place own h)
entry-dangles t name path link place (entries.Link target) is own h = found-last t name link place ((chain 8 path path target).conclusion t) (chain-last t 8 path path target (target, is) (target, is)) h

from-dangles : (t : Entries) (name link : List ℕ) (o : Option Standing) → Stands t o → IsOwn name o → (found_from name o).conclusion t ≡ founds.Dangling link → IsLinkAt t link
from-dangles t name link None stands own h = absurd (cc)
from-dangles t name link (Some first) stands own h = entry-dangles t name first.1 link first.0 first.2 stands own h

pub dangling_is_link : DanglingIsLink
unfolding find
dangling_is_link = λ name t link valid h. from-dangles t name link ((first_entry name).conclusion t) (first_entry-stands name t) (first_entry-own name t (is-name name valid)) h
