-- The name of a unit, compared with the name that led to it.
use Rattle.std.proofs.Common.{◌≡◌, ℕ, ◌&&◌, Bool, true, false, cond, List, [], ◌∷◌, Option, Some, None, is_none, refl, sym, ap, subst, ◌∙◌}
use Rattle.std.proofs.lemmas.Bool.{and_parts}
use Rattle.unit_name.specs.declared.fault.NameFault.{NameFault}
use Rattle.unit_name.specs.declared.kind.UnitType.{UnitType}
use Rattle.unit_name.specs.declared.kind.UnitType.TheVariants as types
use Rattle.unit_name.specs.Parts.{kind_of, type_text, IsUnitName}
use Rattle.unit_name.specs.Name.{is_unit_name, name_fault, type_named, type_of, instance_of, with_instance}
use Rattle.unit_name.proofs.Names.{name_from_no_fault}
use Rattle.unit_name.proofs.Instances.{instance_set}
use Rattle.unit_paths.specs.Paths.{name_at}
use Rattle.link_tree.proofs.Changed.{same_bytes}
use Rattle.load_path.specs.RealNames.{is_same_type, is_same_instance, named, put_in, by_kinds, real_name}
use Rattle.load_path.specs.Laws.{UnitIsLikeName}
use Rattle.load_path.proofs.Files.{find-file}

no-fault : (fault : Option NameFault) → is_none fault ≡ true → fault ≡ None
no-fault None h = refl
no-fault (Some fault) h = absurd (cc)

pub is-name : (text : List ℕ) → is_unit_name text ≡ true → IsUnitName text
is-name text h = name_from_no_fault text (no-fault (name_fault text) h)

own-type : (one : UnitType) → type_named (type_text one) ≡ Some one
unfolding type_named type_text
own-type types.Service = refl
own-type types.Socket = refl
own-type types.Device = refl
own-type types.Mount = refl
own-type types.Automount = refl
own-type types.Swap = refl
own-type types.Target = refl
own-type types.Path = refl
own-type types.Timer = refl
own-type types.Slice = refl
own-type types.Scope = refl

same-type : (one other : Option UnitType) → is_same_type one other ≡ true → one ≡ other
same-type None other h = absurd (cc)
same-type (Some one) None h = absurd (cc)
same-type (Some one) (Some other) h = sym (own-type one) ∙ ap type_named (same_bytes (type_text one) (type_text other) h) ∙ own-type other

same-instance : (one other : Option (List ℕ)) → is_same_instance one other ≡ true → one ≡ other
same-instance None other h = absurd (cc)
same-instance (Some one) None h = absurd (cc)
same-instance (Some one) (Some other) h = ap (λ text. Some text) (same_bytes one other h)

-- facts about a real name, given the file's name and the instance of the name that was looked up
record Like (file : List ℕ) (instance : Option (List ℕ)) (real : List ℕ) : Type 0 where
  valid : is_unit_name real ≡ true
  its_type : type_of real ≡ type_of file
  its_instance : instance_of real ≡ instance

itself : (file : List ℕ) (instance : Option (List ℕ)) (real : List ℕ) → is_unit_name file ≡ true → instance_of file ≡ instance → Some file ≡ Some real → Like file instance real
itself file instance real valid same h =
    let is : file ≡ real = cc in
    subst (Like file instance) is (record { valid = valid; its_type = refl; its_instance = same })

filled : (file text real : List ℕ) → is_unit_name file ≡ true → named (with_instance file text) ≡ Some real → Like file (Some text) real
filled file text real valid h =
    let set = instance_set file text (is-name file valid) in
    elim (is_unit_name (with_instance file text)) as (λ b. is_unit_name (with_instance file text) ≡ b → cond b (Some (with_instance file text)) None ≡ Some real → Like file (Some text) real) [
      | true ↦ (λ named h. (let is : with_instance file text ≡ real = cc in subst (Like file (Some text)) is (record { valid = named; its_type = set.2; its_instance = set.0 })))
      | false ↦ (λ none h. absurd (cc))
    ] refl h

by_kinds-like : (one other : Option (List ℕ)) (name file real : List ℕ) → instance_of name ≡ one → instance_of file ≡ other → is_unit_name file ≡ true → by_kinds (kind_of one) (kind_of other) name file ≡ Some real → Like file one real
unfolding by_kinds
by_kinds-like None None name file real is own valid h = itself file None real valid own h
by_kinds-like None (Some []) name file real is own valid h = absurd (cc)
by_kinds-like None (Some (b ∷ bs)) name file real is own valid h = absurd (cc)
by_kinds-like (Some []) None name file real is own valid h = absurd (cc)
by_kinds-like (Some []) (Some []) name file real is own valid h = itself file (Some []) real valid own h
by_kinds-like (Some []) (Some (b ∷ bs)) name file real is own valid h = absurd (cc)
by_kinds-like (Some (a ∷ cs)) None name file real is own valid h = absurd (cc)
by_kinds-like (Some (a ∷ cs)) (Some []) name file real is own valid h = filled file (a ∷ cs) real valid (ap (put_in file) (sym is) ∙ h)
by_kinds-like (Some (a ∷ cs)) (Some (b ∷ bs)) name file real is own valid h =
    elim (is_same_instance (instance_of name) (instance_of file)) as (λ same. is_same_instance (instance_of name) (instance_of file) ≡ same → cond same (Some file) None ≡ Some real → Like file (Some (a ∷ cs)) real) [
      | true ↦ (λ same h. itself file (Some (a ∷ cs)) real valid (sym (same-instance (instance_of name) (instance_of file) same) ∙ is) h)
      | false ↦ (λ other h. absurd (cc))
    ] refl h

real-like : (name file real : List ℕ) → real_name name file ≡ Some real → (is_unit_name real ≡ true) × (type_of real ≡ type_of name) × (instance_of real ≡ instance_of name)
unfolding real_name
real-like name file real h =
    let Goal : Type 0 = (is_unit_name real ≡ true) × (type_of real ≡ type_of name) × (instance_of real ≡ instance_of name) in
    let both : Bool = is_unit_name file && is_same_type (type_of name) (type_of file) in
    elim both as (λ b. both ≡ b → cond b (by_kinds (kind_of (instance_of name)) (kind_of (instance_of file)) name file) None ≡ Some real → Goal) [
      | true ↦ (λ yes h.
          let parts = and_parts (is_unit_name file) (is_same_type (type_of name) (type_of file)) yes in
          let like = by_kinds-like (instance_of name) (instance_of file) name file real refl refl parts.0 h in
          (like.valid, like.its_type ∙ sym (same-type (type_of name) (type_of file) parts.1), like.its_instance))
      | false ↦ (λ no h. absurd (cc))
    ] refl h

pub unit_is_like_name : UnitIsLikeName
unit_is_like_name = λ name t real file place h. real-like name (name_at file) real (find-file name t real file place h).1
