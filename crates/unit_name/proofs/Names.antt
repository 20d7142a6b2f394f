-- A text is a name exactly if it has no fault; its parts are those that are read from it.
use Rattle.std.proofs.Common.{◌≡◌, refl, ℕ, ◌≤◌, ◌==◌, Bool, true, false, not, nat_lt, List, [], ◌∷◌, ◌++◌, length, Option, Some, None, is_none, sym, ap, subst, ◌∙◌, arith, append_assoc, append-nil, cond}
use Rattle.std.proofs.lemmas.Bool.{not-false, le-ltb, ltb-false, ne_eqb, eqb-true, eqb-false}
use Rattle.std.specs.Str.{bytes_eq}
use Rattle.std.proofs.lemmas.Slice.Eq.{bytes_eq-Decides}
use Rattle.std.specs.List.{list_any, list_all, find, before_first, after_first, before_last, after_last}
use Rattle.unit_name.specs.declared.kind.UnitType.{UnitType}
use Rattle.unit_name.specs.declared.kind.UnitType.TheVariants as types
use Rattle.unit_name.specs.declared.fault.NameFault.{NameFault}
use Rattle.unit_name.specs.declared.fault.NameFault.TheVariants.{TooLong, BadCharacter, NoPrefix, BadType}
use Rattle.unit_name.specs.Parts.{is_at, is_name_byte, type_text, instance_spelling, spelling, Parts, IsSpelledBy, IsUnitName}
use Rattle.unit_name.specs.Name.{is_dot, stem_of, suffix_of, prefix_of, instance_of, unit_types, type_named, type_of, name_fault, part_fault}
use Rattle.unit_name.proofs.Cuts.{first_seam, last_seam, before_first-none, first_cut_of, last_cut_of}

-- no type has a dot
type_text-dots : (unit_type : UnitType) → list_any is_dot (type_text unit_type) ≡ false
unfolding type_text
type_text-dots types.Service = refl
type_text-dots types.Socket = refl
type_text-dots types.Device = refl
type_text-dots types.Mount = refl
type_text-dots types.Automount = refl
type_text-dots types.Swap = refl
type_text-dots types.Target = refl
type_text-dots types.Path = refl
type_text-dots types.Timer = refl
type_text-dots types.Slice = refl
type_text-dots types.Scope = refl

-- a type is determined by its text
type_named-type_text : (unit_type : UnitType) → type_named (type_text unit_type) ≡ Some unit_type
unfolding type_named type_text
type_named-type_text types.Service = refl
type_named-type_text types.Socket = refl
type_named-type_text types.Device = refl
type_named-type_text types.Mount = refl
type_named-type_text types.Automount = refl
type_named-type_text types.Swap = refl
type_named-type_text types.Target = refl
type_named-type_text types.Path = refl
type_named-type_text types.Timer = refl
type_named-type_text types.Slice = refl
type_named-type_text types.Scope = refl

-- a stem without a dot after it: the stem and the suffix of `stem.suffix`
stem_of-seam : (stem suffix : List ℕ) → list_any is_dot suffix ≡ false → stem_of (stem ++ 46 ∷ suffix) ≡ stem
unfolding stem_of
stem_of-seam stem suffix none = let cut = last_seam is_dot 0 stem 46 suffix refl none in rw cut.0 cut.1

pub suffix_of-seam : (stem suffix : List ℕ) → list_any is_dot suffix ≡ false → suffix_of (stem ++ 46 ∷ suffix) ≡ suffix
unfolding suffix_of
suffix_of-seam stem suffix none = let cut = last_seam is_dot 0 stem 46 suffix refl none in rw cut.0 cut.2

prefix_of-plain : (text prefix : List ℕ) → stem_of text ≡ prefix → list_any is_at prefix ≡ false → (prefix_of text ≡ prefix) × (instance_of text ≡ None)
unfolding prefix_of instance_of
prefix_of-plain text prefix stem none = (rw stem (before_first-none is_at 0 prefix none), rw (stem, none) refl)

prefix_of-seam : (text prefix instance : List ℕ) → stem_of text ≡ prefix ++ 64 ∷ instance → list_any is_at prefix ≡ false → (prefix_of text ≡ prefix) × (instance_of text ≡ Some instance)
unfolding prefix_of instance_of
prefix_of-seam text prefix instance stem none =
    let cut = first_seam is_at 0 prefix 64 instance none refl in
    (rw stem cut.1, rw (stem, cut.0) (ap (λ (rest : List ℕ). Some rest) cut.2))

-- the prefix and the instance of a stem that they make up
stem_parts : (text prefix : List ℕ) (instance : Option (List ℕ)) → stem_of text ≡ prefix ++ instance_spelling instance → list_any is_at prefix ≡ false → (prefix_of text ≡ prefix) × (instance_of text ≡ instance)
stem_parts text prefix None stem none = prefix_of-plain text prefix (stem ∙ append-nil prefix) none
stem_parts text prefix (Some instance) stem none = prefix_of-seam text prefix instance stem none

spelling-seam : (parts : Parts) → spelling parts ≡ (parts.prefix ++ instance_spelling parts.instance) ++ 46 ∷ type_text parts.unit_type
spelling-seam parts = append_assoc (parts.prefix ++ instance_spelling parts.instance) (46 ∷ []) (type_text parts.unit_type)

-- what is read from a text that parts make up
pub record IsRead (text : List ℕ) (parts : Parts) : Type 0 where
  pub prefix : prefix_of text ≡ parts.prefix
  pub instance : instance_of text ≡ parts.instance
  pub suffix : suffix_of text ≡ type_text parts.unit_type

pub spelling_read : (text : List ℕ) (parts : Parts) → text ≡ spelling parts → list_any is_at parts.prefix ≡ false → IsRead text parts
spelling_read text parts spelled first_at =
    let dots = type_text-dots parts.unit_type in
    let seam : text ≡ (parts.prefix ++ instance_spelling parts.instance) ++ 46 ∷ type_text parts.unit_type = spelled ∙ spelling-seam parts in
    let stem = ap stem_of seam ∙ stem_of-seam (parts.prefix ++ instance_spelling parts.instance) (type_text parts.unit_type) dots in
    let suffix = ap suffix_of seam ∙ suffix_of-seam (parts.prefix ++ instance_spelling parts.instance) (type_text parts.unit_type) dots in
    let front = stem_parts text parts.prefix parts.instance stem first_at in
    record { prefix = front.0; instance = front.1; suffix = suffix }

-- the parts that make up a text are those that are read from it
pub parts_read : (text : List ℕ) (parts : Parts) → IsSpelledBy text parts → (prefix_of text ≡ parts.prefix) × (instance_of text ≡ parts.instance) × (type_of text ≡ Some parts.unit_type)
unfolding type_of
parts_read text parts spelled =
    let read = spelling_read text parts spelled.spelled spelled.first_at in
    (read.prefix, read.instance, ap type_named read.suffix ∙ type_named-type_text parts.unit_type)

pub parts_unique : (text : List ℕ) (parts others : Parts) → IsSpelledBy text parts → IsSpelledBy text others → parts ≡ others
parts_unique text parts others one other =
    let a = parts_read text parts one in
    let b = parts_read text others other in
    let prefix : parts.prefix ≡ others.prefix = sym a.0 ∙ b.0 in
    let instance : parts.instance ≡ others.instance = sym a.1 ∙ b.1 in
    let unit_type : parts.unit_type ≡ others.unit_type = let e = sym a.2 ∙ b.2 in cc in
    λ i. record { prefix = prefix i; instance = instance i; unit_type = unit_type i }

-- a name has no fault
no_fault_in_parts : (text : List ℕ) (parts : Parts) → IsSpelledBy text parts → name_fault text ≡ None
unfolding name_fault part_fault
no_fault_in_parts text parts spelled =
    let read = parts_read text parts spelled in
    let short : nat_lt 255 (length text) ≡ false = le-ltb 255 (length text) spelled.short in
    let with_prefix : (length (prefix_of text) == 0) ≡ false = ne_eqb (length (prefix_of text)) 0 (λ none. absurd (omega (arith, ap length read.0, spelled.with_prefix))) in
    rw (short, spelled.name_bytes, with_prefix, read.2) refl

pub no_fault_in_name : (text : List ℕ) → IsUnitName text → name_fault text ≡ None
no_fault_in_name text name = no_fault_in_parts text name.0 name.1

-- The parts that are read from a text without a fault make it up.
find_passes : {X : Type 0} (p : X → Bool) (xs : List X) (x : X) → find p xs ≡ Some x → p x ≡ true
find_passes p [] x found = absurd (cc)
find_passes p (y ∷ ys) x found =
    elim (p y) as (λ b. p y ≡ b → cond b (Some y) (find p ys) ≡ Some x → p x ≡ true) [
      | true ↦ λ here e. let same : y ≡ x = cc in subst (λ z. p z ≡ true) same here
      | false ↦ λ _ e. find_passes p ys x e
    ] refl found

type_text-named : (text : List ℕ) (unit_type : UnitType) → type_named text ≡ Some unit_type → text ≡ type_text unit_type
unfolding type_named
type_text-named text unit_type named = sym ((bytes_eq-Decides (type_text unit_type) text).0 (find_passes (λ other. bytes_eq (type_text other) text) unit_types unit_type named))

stem_again : (stem : List ℕ) → (stem ≡ before_first is_at stem ++ instance_spelling (cond (list_any is_at stem) (Some (after_first is_at stem)) None)) × (list_any is_at (before_first is_at stem) ≡ false)
stem_again stem =
    elim (list_any is_at stem) as (λ b. list_any is_at stem ≡ b → (stem ≡ before_first is_at stem ++ instance_spelling (cond b (Some (after_first is_at stem)) None)) × (list_any is_at (before_first is_at stem) ≡ false)) [
      | true ↦ λ any.
          let cut = first_cut_of is_at stem any in
          let seam = first_seam is_at 0 cut.before cut.at cut.after cut.none cut.passes in
          let before : before_first is_at stem ≡ cut.before = ap (before_first is_at) cut.is ∙ seam.1 in
          let after : after_first is_at stem ≡ cut.after = ap (after_first is_at) cut.is ∙ seam.2 in
          (rw (before, after) (cut.is ∙ ap (λ b. cut.before ++ b ∷ cut.after) (eqb-true cut.at 64 cut.passes)), ap (list_any is_at) before ∙ cut.none)
      | false ↦ λ none.
          let all = before_first-none is_at 0 stem none in
          (sym (append-nil _ ∙ all), ap (list_any is_at) all ∙ none)
    ] refl

type_named-nil : type_named [] ≡ None
unfolding type_named type_text
type_named-nil = refl

-- a text without a dot has no type
type_of-dotless : (text : List ℕ) → list_any is_dot text ≡ false → type_of text ≡ None
unfolding type_of suffix_of
type_of-dotless text none = rw none type_named-nil

stem_and_suffix : (text : List ℕ) (unit_type : UnitType) → type_of text ≡ Some unit_type → text ≡ stem_of text ++ 46 ∷ suffix_of text
unfolding stem_of suffix_of
stem_and_suffix text unit_type typed =
    elim (list_any is_dot text) as (λ b. list_any is_dot text ≡ b → text ≡ cond b (before_last is_dot text) text ++ 46 ∷ cond b (after_last is_dot text) []) [
      | true ↦ λ any.
          let cut = last_cut_of is_dot text any in
          let seam = last_seam is_dot 0 cut.before cut.at cut.after cut.passes cut.none in
          let before : before_last is_dot text ≡ cut.before = ap (before_last is_dot) cut.is ∙ seam.1 in
          let after : after_last is_dot text ≡ cut.after = ap (after_last is_dot) cut.is ∙ seam.2 in
          rw (before, after) (cut.is ∙ ap (λ b. cut.before ++ b ∷ cut.after) (eqb-true cut.at 46 cut.passes))
      | false ↦ λ none. absurd (let typeless = type_of-dotless text none in cc)
    ] refl

-- the parts that are read from a text without a fault make it up
spelled_by_reading : (text : List ℕ) (unit_type : UnitType) → (length (prefix_of text) == 0) ≡ false → list_all is_name_byte text ≡ true → length text ≤ 255 → type_of text ≡ Some unit_type → IsUnitName text
unfolding prefix_of instance_of type_of
spelled_by_reading text unit_type with_prefix name_bytes short typed =
    let parts : Parts = record { prefix = prefix_of text; instance = instance_of text; unit_type = unit_type } in
    let stem = stem_again (stem_of text) in
    let suffix = type_text-named (suffix_of text) unit_type typed in (
      parts,
      record {
        spelled = stem_and_suffix text unit_type typed ∙ ap (λ front. front ++ 46 ∷ suffix_of text) stem.0 ∙ ap (λ back. (prefix_of text ++ instance_spelling (instance_of text)) ++ 46 ∷ back) suffix ∙ sym (spelling-seam parts);
        with_prefix = omega (arith, eqb-false (length (prefix_of text)) 0 with_prefix);
        first_at = stem.1;
        name_bytes = name_bytes;
        short = short;
      },
    )

-- a chain of faults that returns none passes each test
pub cond_none : {F : Type 0} (b : Bool) (fault : F) (rest : Option F) → cond b (Some fault) rest ≡ None → (b ≡ false) × (rest ≡ None)
cond_none true fault rest e = absurd (cc)
cond_none false fault rest e = (refl, e)

some_of : {X : Type 0} (o : Option X) → is_none o ≡ false → (x : X) × (o ≡ Some x)
some_of None e = absurd (cc)
some_of (Some x) e = (x, refl)

pub name_from_no_fault : (text : List ℕ) → name_fault text ≡ None → IsUnitName text
unfolding name_fault part_fault
name_from_no_fault text none =
    let short = cond_none (nat_lt 255 (length text)) TooLong _ none in
    let name_bytes = cond_none (not (list_all is_name_byte text)) BadCharacter _ short.1 in
    let with_prefix = cond_none (length (prefix_of text) == 0) NoPrefix _ name_bytes.1 in
    let typed = cond_none (is_none (type_of text)) BadType _ with_prefix.1 in
    let unit_type = some_of (type_of text) typed.0 in
    spelled_by_reading text unit_type.0 with_prefix.0 (not-false _ name_bytes.0) (ltb-false 255 (length text) short.0) unit_type.1

-- a text with a fault isn't a name
pub faulty : (text : List ℕ) (fault : NameFault) → name_fault text ≡ Some fault → ¬ IsUnitName text
faulty text fault wrong = λ name. let right = no_fault_in_name text name in cc
