-- The names to which a link belongs, and the lists that change when the entry at a path changes.
use Rattle.std.proofs.Common.{◌≡◌, ℕ, Bool, true, false, cond, not, ◌&&◌, ◌||◌, List, [], Option, Some, None, refl, sym, ap, ◌∙◌, inl, inr}
use Rattle.std.specs.FinMap as map
use Rattle.std.specs.List.{after_last}
use Rattle.std.specs.Str.{bytes_eq}
use Rattle.std.proofs.lemmas.Bool.{cases_Bool}
use Rattle.std.proofs.lemmas.Slice.Eq.{bytes_eq-Decides}
use Rattle.unit_name.specs.Parts.{kind_of}
use Rattle.unit_name.specs.Name.{instance_of}
use Rattle.unit_paths.specs.Paths.{is_slash, name_at}
use Rattle.unit_paths.specs.Canonical.{is_null_target}
use Rattle.unit_paths.specs.Slots.{slot_of}
use Rattle.unit_paths.specs.declared.place.Scope.{Scope}
use Rattle.name_lists.specs.Lists.{Shelves, listed, relisted}
use Rattle.link_tree.specs.Links.{belongs, is_instance, is_named, is_of_scope}
use Rattle.link_tree.specs.Trees.{Entries, set_entry}
use Rattle.link_tree.specs.Belonging.{belonging, holds_at, may_belong, other_name, is_end, IsListed}
use Rattle.link_tree.specs.declared.entry.Entry.{Entry}
use Rattle.link_tree.specs.declared.entry.Entry.TheVariants.{File, Link}
use Rattle.link_tree.proofs.Belongings.{belonging_set, belonging_kept}
use Rattle.link_tree.proofs.Changed.{same_bytes, other_bytes}

abbrev end_of : List ℕ → List ℕ
end_of target = after_last is_slash target

-- an entry that is not a link of the scope belongs to no name
pub none_belongs : (scope : Scope) (name path : List ℕ) (o : Option Entry) → may_belong scope path o ≡ false → holds_at scope name path o ≡ false
unfolding belongs
none_belongs scope name path None none = refl
none_belongs scope name path (Some (File contents)) none = refl
none_belongs scope name path (Some (Link target)) none = ap (λ b. b && is_named name path target) none

-- such a link belongs to its own name and to the one at the end of its target
pub belongs_named : (scope : Scope) (name path target : List ℕ) → may_belong scope path (Some (Link target)) ≡ true → belongs scope name path (Link target) ≡ is_named name path target
unfolding belongs
belongs_named scope name path target may = ap (λ b. b && is_named name path target) may

-- a name that is neither the link's own nor the end of its target
pub another_name : (scope : Scope) (name path : List ℕ) (o : Option Entry) → bytes_eq name (name_at path) ≡ false → is_end name path o ≡ false → holds_at scope name path o ≡ false
unfolding belongs
another_name scope name path None own end = refl
another_name scope name path (Some (File contents)) own end = refl
another_name scope name path (Some (Link target)) own end =
    ap (λ b. is_of_scope scope (slot_of path) && not (is_null_target path target) && b) unnamed ∙ never (is_of_scope scope (slot_of path) && not (is_null_target path target))
  where
    never : (a : Bool) → (a && false) ≡ false
    never true = refl
    never false = refl

    away : bytes_eq (name_at path) name ≡ false
    away = other_bytes name (name_at path) own

    ends : bytes_eq (end_of target) name ≡ false
    ends = elim (cases_Bool (bytes_eq (end_of target) (name_at path))) [
      | inl same ↦ ap (λ (t : List ℕ). bytes_eq t name) (same_bytes (end_of target) (name_at path) same) ∙ away
      | inr other ↦ other_bytes name (end_of target) (sym (ap (λ b. not b && bytes_eq name (end_of target)) other) ∙ end)
    ]

    unnamed : is_named name path target ≡ false
    unnamed = ap (λ b. b || (not (is_instance (kind_of (instance_of name))) && bytes_eq (end_of target) name)) away
        ∙ ap (λ b. not (is_instance (kind_of (instance_of name))) && b) ends ∙ never (not (is_instance (kind_of (instance_of name))))

-- the lists are unchanged if nothing belongs to a name
pub nothing_changes : (scope : Scope) (lists : Shelves) (m : Entries) (p : List ℕ) (was now : Option Entry) → map.get m p ≡ was → IsListed scope m lists → may_belong scope p was ≡ false → may_belong scope p now ≡ false → IsListed scope (set_entry m p now) lists
nothing_changes scope lists m p was now stood listing none nor name =
    listing name ∙ sym (belonging_kept scope name m p now (ap (holds_at scope name p) stood ∙ none_belongs scope name p was none) (none_belongs scope name p now nor))

-- a list is updated if it may differ
choose : {X : Type 0} (b : Bool) (x y z : X) → y ≡ cond b x z → (b ≡ false → z ≡ x) → y ≡ x
choose true x y z is other = is
choose false x y z is other = is ∙ other refl

-- all lists that may differ were updated
pub all_relisted : (scope : Scope) (m : Entries) (p : List ℕ) (was now : Option Entry) (old one two three : Shelves) → map.get m p ≡ was → IsListed scope m old
    → ((t : List ℕ) → listed one t ≡ cond (bytes_eq t (name_at p)) (belonging scope t (set_entry m p now)) (listed old t))
    → ((t : List ℕ) → listed two t ≡ cond (is_end t p was) (belonging scope t (set_entry m p now)) (listed one t))
    → ((t : List ℕ) → listed three t ≡ cond (is_end t p now) (belonging scope t (set_entry m p now)) (listed two t))
    → IsListed scope (set_entry m p now) three
all_relisted scope m p was now old one two three stood listing first second third t =
    let new = belonging scope t (set_entry m p now) in
    choose (is_end t p now) new (listed three t) (listed two t) (third t) (λ not_now.
    choose (is_end t p was) new (listed two t) (listed one t) (second t) (λ not_was.
    choose (bytes_eq t (name_at p)) new (listed one t) (listed old t) (first t) (λ not_own.
    listing t ∙ sym (belonging_kept scope t m p now (ap (holds_at scope t p) stood ∙ another_name scope t p was not_own not_was) (another_name scope t p now not_own not_now)))))

-- the list of one name, made from the old list
pub relisted_is : (scope : Scope) (name p : List ℕ) (now : Option Entry) (m : Entries) (old : Shelves) (holds : Bool) → holds ≡ holds_at scope name p now → IsListed scope m old → relisted holds p (listed old name) ≡ belonging scope name (set_entry m p now)
relisted_is scope name p now m old holds is listing =
    ap (λ b. relisted b p (listed old name)) is ∙ ap (relisted (holds_at scope name p now) p) (listing name) ∙ sym (belonging_set scope name m p now)

-- looking up a name reads the list of that name
pub own_name : (name t : List ℕ) (f : List ℕ → List (List ℕ)) (x y : List (List ℕ)) → x ≡ f name → cond (bytes_eq t name) x y ≡ cond (bytes_eq t name) (f t) y
own_name name t f x y is = elim (cases_Bool (bytes_eq t name)) [
  | inl here ↦ ap (λ l. cond (bytes_eq t name) l y) (is ∙ ap f (sym (same_bytes t name here)))
  | inr away ↦ ap (λ b. cond b x y) away ∙ sym (ap (λ b. cond b (f t) y) away)
]

no_option : {X P : Type 0} {x : X} → ◌≡◌ {A = Option X} None (Some x) → P
no_option h = cc

some_same : {X : Type 0} {x y : X} → Some x ≡ Some y → x ≡ y
some_same h = cc

turned : (x y : List ℕ) → bytes_eq x y ≡ bytes_eq y x
turned x y = elim (cases_Bool (bytes_eq y x)) [
  | inl same ↦ ap (λ (z : List ℕ). bytes_eq x z) (same_bytes y x same) ∙ (bytes_eq-Decides x x).1 refl ∙ sym same
  | inr other ↦ other_bytes y x other ∙ sym other
]

module _ (path target text : List ℕ) where
  abbrev own : List ℕ
  own = name_at path

  abbrev end : List ℕ
  end = end_of target

  abbrev is_plain : Bool
  is_plain = not (is_instance (kind_of (instance_of text)))

  -- a link that belongs only to its own name
  pub one_name : other_name path target ≡ None → is_named text path target ≡ bytes_eq text own
  one_name none = ap (λ b. b || (is_plain && bytes_eq end text)) (turned own text) ∙ elim (cases_Bool (bytes_eq end text)) [
    | inr away ↦ ap (λ b. bytes_eq text own || (is_plain && b)) away ∙ without (bytes_eq text own) is_plain
    | inl here ↦ elim (cases_Bool (bytes_eq end own)) [
      | inl same ↦ let is : bytes_eq text own ≡ true = ap (λ (t : List ℕ). bytes_eq t own) (sym (same_bytes end text here)) ∙ same in ap (λ b. b || (is_plain && bytes_eq end text)) is ∙ sym is
      | inr other ↦ (let instance : is_instance (kind_of (instance_of end)) ≡ true = second (is_instance (kind_of (instance_of end))) (sym (ap (λ b. cond (b || is_instance (kind_of (instance_of end))) None (Some end)) other) ∙ none) in
          ap (λ b. bytes_eq text own || (not b && bytes_eq end text)) (ap (λ (t : List ℕ). is_instance (kind_of (instance_of t))) (sym (same_bytes end text here)) ∙ instance) ∙ never (bytes_eq text own))
    ]
  ]
    where
      without : (a b : Bool) → (a || (b && false)) ≡ a
      without true b = refl
      without false true = refl
      without false false = refl

      never : (a : Bool) → (a || false) ≡ a
      never true = refl
      never false = refl

      second : (b : Bool) → cond b None (Some end) ≡ None → b ≡ true
      second true h = refl
      second false h = no_option (sym h)

  -- a link that belongs to two names
  pub two_names : (name : List ℕ) → other_name path target ≡ Some name → (is_named text path target ≡ (bytes_eq text own || bytes_eq text name)) × (bytes_eq name own ≡ false)
  two_names name some = both (bytes_eq end own) (is_instance (kind_of (instance_of end))) refl refl some
    where
      both : (a b : Bool) → bytes_eq end own ≡ a → is_instance (kind_of (instance_of end)) ≡ b → cond (a || b) None (Some end) ≡ Some name → (is_named text path target ≡ (bytes_eq text own || bytes_eq text name)) × (bytes_eq name own ≡ false)
      both true b same kind h = no_option h
      both false true other kind h = no_option h
      both false false other kind h =
          let is : end ≡ name = some_same h in (
            ap (λ b. b || (is_plain && bytes_eq end text)) (turned own text) ∙ ap (λ b. bytes_eq text own || b) (elim (cases_Bool (bytes_eq end text)) [
              | inl here ↦ ap (λ b. not b && bytes_eq end text) (ap (λ (t : List ℕ). is_instance (kind_of (instance_of t))) (sym (same_bytes end text here)) ∙ kind)
              | inr away ↦ ap (λ b. is_plain && b) away ∙ never is_plain ∙ sym away
            ] ∙ turned end text ∙ ap (λ (n : List ℕ). bytes_eq text n) is),
            ap (λ (n : List ℕ). bytes_eq n own) (sym is) ∙ other,
          )
        where
          never : (a : Bool) → (a && false) ≡ false
          never true = refl
          never false = refl

-- the effect of updating two names on the list of a third
pub listed_twice : (text own name : List ℕ) (f : List (List ℕ) → List (List ℕ)) (l : List (List ℕ)) → bytes_eq name own ≡ false → cond (bytes_eq text name) (f (cond (bytes_eq text own) (f l) l)) (cond (bytes_eq text own) (f l) l) ≡ cond (bytes_eq text own || bytes_eq text name) (f l) l
listed_twice text own name f l apart = elim (cases_Bool (bytes_eq text own)) [
  | inl here ↦ (let away : bytes_eq text name ≡ false = ap (λ (t : List ℕ). bytes_eq t name) (same_bytes text own here) ∙ turned own name ∙ apart in
      ap (λ b. cond b (f (cond (bytes_eq text own) (f l) l)) (cond (bytes_eq text own) (f l) l)) away ∙ ap (λ b. cond b (f l) l) here ∙ sym (ap (λ b. cond (b || bytes_eq text name) (f l) l) here))
  | inr other ↦ ap (λ b. cond (bytes_eq text name) (f (cond b (f l) l)) (cond b (f l) l)) other ∙ sym (ap (λ b. cond (b || bytes_eq text name) (f l) l) other)
]

-- an entry that belongs to no name leaves the lists unchanged
pub none_listed : (scope : Scope) (text path : List ℕ) (entry : Entry) (more l : List (List ℕ)) → may_belong scope path (Some entry) ≡ false → l ≡ cond (belongs scope text path entry) more l
none_listed scope text path entry more l none = sym (ap (λ b. cond b more l) (none_belongs scope text path (Some entry) none))

-- a link of the scope was listed under each of its names
module _ (scope : Scope) (text path target : List ℕ) (entry : Entry) (is : entry ≡ Link target) (may : may_belong scope path (Some entry) ≡ true) (f : List (List ℕ) → List (List ℕ)) (l : List (List ℕ)) where
  belongs_is : belongs scope text path entry ≡ is_named text path target
  belongs_is = ap (belongs scope text path) is ∙ belongs_named scope text path target (sym (ap (λ e. may_belong scope path (Some e)) is) ∙ may)

  pub listed_once : other_name path target ≡ None → cond (bytes_eq text (name_at path)) (f l) l ≡ cond (belongs scope text path entry) (f l) l
  listed_once none = ap (λ b. cond b (f l) l) (sym (belongs_is ∙ one_name path target text none))

  pub listed_both : (name : List ℕ) → other_name path target ≡ Some name → cond (bytes_eq text name) (f (cond (bytes_eq text (name_at path)) (f l) l)) (cond (bytes_eq text (name_at path)) (f l) l) ≡ cond (belongs scope text path entry) (f l) l
  listed_both name some =
      let names = two_names path target text name some in
      listed_twice text (name_at path) name f l names.1 ∙ ap (λ b. cond b (f l) l) (sym (belongs_is ∙ names.0))

pub none_at_first : (name : List ℕ) → listed [] name ≡ []
unfolding listed
none_at_first name = refl
