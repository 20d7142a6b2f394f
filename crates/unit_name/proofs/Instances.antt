-- A name with another instance.
use Rattle.std.proofs.Common.{◌≡◌, ◌≢◌, refl, ℕ, ◌+◌, ◌≤◌, ◌&&◌, Bool, true, false, not, nat_lt, List, [], ◌++◌, length, Option, Some, None, codes, sym, ap, ◌∙◌, arith, append_assoc, length-append}
use Rattle.std.specs.List.{list_any, list_all}
use Rattle.std.proofs.lemmas.List.Folds.{list_all-append}
use Rattle.std.proofs.lemmas.Bool.{not-false, ltb-false, le-ltb}
use Rattle.unit_name.specs.declared.fault.InstanceFault.{InstanceFault}
use Rattle.unit_name.specs.declared.fault.InstanceFault.TheVariants.{TooLong, BadCharacter}
use Rattle.unit_name.specs.declared.kind.Kind.TheVariants.{Plain}
use Rattle.unit_name.specs.Parts.{is_at, is_name_byte, type_text, instance_spelling, spelling, kind_of, Parts, IsUnitName}
use Rattle.unit_name.specs.Name.{suffix_of, prefix_of, instance_of, type_named, type_of, template_of, with_instance, instance_fault}
use Rattle.unit_name.proofs.Names.{cond_none, IsRead, spelling_read}

-- the parts with another instance
abbrev with_part : Parts → List ℕ → Parts
with_part parts instance = record { prefix = parts.prefix; instance = Some instance; unit_type = parts.unit_type }

-- make up the name with that instance
with_instance-spelling : (text instance : List ℕ) (parts : Parts) → IsRead text parts → with_instance text instance ≡ spelling (with_part parts instance)
unfolding with_instance
with_instance-spelling text instance parts read =
    rw (read.prefix, read.suffix) (ap (λ front. front ++ codes "." ++ type_text parts.unit_type) (append_assoc parts.prefix (codes "@") instance))

-- what is read from a name, and from the name with another instance
name_read : (text : List ℕ) (name : IsUnitName text) → IsRead text name.0
name_read text name = spelling_read text name.0 name.1.spelled name.1.first_at

read_again : (text instance : List ℕ) (parts : Parts) → IsRead text parts → list_any is_at parts.prefix ≡ false → IsRead (with_instance text instance) (with_part parts instance)
read_again text instance parts read first_at =
    spelling_read (with_instance text instance) (with_part parts instance) (with_instance-spelling text instance parts read) first_at

pub instance_set : (text instance : List ℕ) → IsUnitName text → (instance_of (with_instance text instance) ≡ Some instance) × (prefix_of (with_instance text instance) ≡ prefix_of text) × (type_of (with_instance text instance) ≡ type_of text)
unfolding type_of
instance_set text instance name =
    let read = name_read text name in
    let again = read_again text instance name.0 read name.1.first_at in
    (again.instance, again.prefix ∙ sym read.prefix, ap type_named (again.suffix ∙ sym read.suffix))

with_part-same : (parts : Parts) (instance : List ℕ) → parts.instance ≡ Some instance → spelling (with_part parts instance) ≡ spelling parts
with_part-same parts instance same = ap (λ (o : Option (List ℕ)). (parts.prefix ++ instance_spelling o ++ codes ".") ++ type_text parts.unit_type) (sym same)

pub template_shared : (text instance : List ℕ) → IsUnitName text → (instance_of text ≡ Some instance → with_instance (template_of text) instance ≡ text) × (template_of (with_instance text instance) ≡ template_of text)
template_shared text instance name =
    let read = name_read text name in
    let template = read_again text [] name.0 read name.1.first_at in
    let again = read_again text instance name.0 read name.1.first_at in (
      λ own. with_instance-spelling (template_of text) instance (with_part name.0 []) template ∙ with_part-same name.0 instance (sym read.instance ∙ own) ∙ sym name.1.spelled,
      with_instance-spelling (with_instance text instance) [] (with_part name.0 instance) again ∙ sym (with_instance-spelling text [] name.0 read),
    )

-- the bytes of a name are those of its parts
and_parts : (a b : Bool) → (a && b) ≡ true → (a ≡ true) × (b ≡ true)
and_parts true b both = (refl, both)
and_parts false b both = absurd (cc)

bytes_of : (a b : List ℕ) → list_all is_name_byte (a ++ b) ≡ true → (list_all is_name_byte a ≡ true) × (list_all is_name_byte b ≡ true)
bytes_of a b all = and_parts (list_all is_name_byte a) (list_all is_name_byte b) (sym (list_all-append is_name_byte a b) ∙ all)

bytes_join : (a b : List ℕ) → list_all is_name_byte a ≡ true → list_all is_name_byte b ≡ true → list_all is_name_byte (a ++ b) ≡ true
bytes_join a b front back = list_all-append is_name_byte a b ∙ rw (front, back) refl

-- a name with an instance of name bytes is a name, if it is short
pub instance_named : (text instance : List ℕ) → IsUnitName text → list_all is_name_byte instance ≡ true → length (with_instance text instance) ≤ 255 → IsUnitName (with_instance text instance)
instance_named text instance name bytes short =
    let parts = name.0 in
    let spelled = with_instance-spelling text instance parts (name_read text name) in
    let own = bytes_of (parts.prefix ++ instance_spelling parts.instance ++ codes ".") (type_text parts.unit_type) (sym (ap (list_all is_name_byte) name.1.spelled) ∙ name.1.name_bytes) in
    let dotted = bytes_of (parts.prefix ++ instance_spelling parts.instance) (codes ".") own.0 in
    let prefix = bytes_of parts.prefix (instance_spelling parts.instance) dotted.0 in
    let all = bytes_join (parts.prefix ++ (codes "@" ++ instance) ++ codes ".") (type_text parts.unit_type) (bytes_join (parts.prefix ++ (codes "@" ++ instance)) (codes ".") (bytes_join parts.prefix (codes "@" ++ instance) prefix.0 (bytes_join (codes "@") instance refl bytes)) refl) own.1 in
    (with_part parts instance, record { spelled = spelled; with_prefix = name.1.with_prefix; first_at = name.1.first_at; name_bytes = ap (list_all is_name_byte) spelled ∙ all; short = short })

-- with other bytes it isn't a name
pub instance_bytes : (text instance : List ℕ) → IsUnitName (with_instance text instance) → list_all is_name_byte instance ≡ true
unfolding with_instance
instance_bytes text instance name =
    let suffixed = bytes_of (prefix_of text ++ codes "@" ++ instance ++ codes ".") (suffix_of text) name.1.name_bytes in
    let dotted = bytes_of (prefix_of text ++ codes "@" ++ instance) (codes ".") suffixed.0 in
    (bytes_of (prefix_of text ++ codes "@") instance dotted.0).1

length-with_part : (parts : Parts) (instance : List ℕ) → length (spelling (with_part parts instance)) ≡ length parts.prefix + length instance + length (type_text parts.unit_type) + 2
length-with_part parts instance = simp length-append (omega arith)

instance_in : (o : Option (List ℕ)) → kind_of o ≢ Plain → (instance : List ℕ) × (o ≡ Some instance)
instance_in None other = absurd (other refl)
instance_in (Some instance) other = (instance, refl)

-- the template of a name that isn't plain is a name
pub template_named : (text : List ℕ) → IsUnitName text → kind_of (instance_of text) ≢ Plain → IsUnitName (template_of text)
template_named text name other =
    let parts = name.0 in
    let read = name_read text name in
    let own = instance_in (instance_of text) other in
    let spelled : text ≡ spelling (with_part parts own.0) = name.1.spelled ∙ sym (with_part-same parts own.0 (sym read.instance ∙ own.1)) in
    let long = ap length spelled ∙ length-with_part parts own.0 in
    let short = ap length (with_instance-spelling text [] parts read) ∙ length-with_part parts [] in
    instance_named text [] name refl (omega (arith, long, short, name.1.short))

pub instance_from_no_fault : (text instance : List ℕ) → IsUnitName text → instance_fault text instance ≡ None → IsUnitName (with_instance text instance)
unfolding instance_fault
instance_from_no_fault text instance name none =
    let short = cond_none (nat_lt 255 (length (with_instance text instance))) TooLong _ none in
    let bytes = cond_none (not (list_all is_name_byte instance)) BadCharacter None short.1 in
    instance_named text instance name (not-false _ bytes.0) (ltb-false 255 _ short.0)

pub instance_faulty : (text instance : List ℕ) (fault : InstanceFault) → instance_fault text instance ≡ Some fault → ¬ IsUnitName (with_instance text instance)
unfolding instance_fault
instance_faulty text instance fault wrong = λ name.
    let short = le-ltb 255 (length (with_instance text instance)) name.1.short in
    let none : instance_fault text instance ≡ None = rw (short, instance_bytes text instance name) refl in
    cc
