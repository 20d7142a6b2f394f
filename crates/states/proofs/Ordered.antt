-- Names in byte order.
use Rattle.std.proofs.Common.{◌≡◌, Bool, true, false, cond, not, ◌&&◌, ◌||◌, List, [], ◌∷◌, map as list_map, Contains, Option, Some, None, refl, sym, ap, subst, ◌∙◌, inl, inr, ◌↔◌, if◌then◌else◌}
use Rattle.std.specs.Prelude.{is_some}
use Rattle.std.specs.BTreeSet.{BTreeSet, contains}
use Rattle.std.specs.Cmp.{eq_by_cmp_equiv}
use Rattle.std.specs.Cmp.Lexicographic.{nat_list_cmp_total, nat_list_eq_equiv}
use Rattle.std.specs.FinMap as map
use Rattle.std.specs.List.{list_any}
use Rattle.std.specs.List.Sorted.{IsStrictlySortedBy}
use Rattle.std.specs.Ordering.{eq_by_cmp}
use Rattle.std.specs.Str.{bytes_eq}
use Rattle.std.proofs.lemmas.Bool.{cases_Bool, false≢true, and_parts, and_from}
use Rattle.std.proofs.lemmas.Map.Lookups.{exact_bytes}
use Rattle.std.proofs.lemmas.Map.Views.{Contains-from_any, list_any-from_Contains}
use Rattle.link_tree.specs.Trees.{path_cmp}
use Rattle.link_tree.proofs.Changed.{same_bytes, is_at, at_bytes}
use Rattle.link_tree.proofs.Maps.{entries_again}
use Rattle.link_tree.proofs.Shapes.{same_key}
use Rattle.states.specs.Dependencies.{NameSet, set_of}
use Rattle.states.specs.Reaching.{AreSame, names_but}
use Rattle.states.proofs.Reaches.{Name}

-- whether a set has a name
abbrev pub has : NameSet → Name → Bool
has names name = is_some (map.get names name)

abbrev mark : Bool → Option (Unit {0})
mark b = cond b (Some tt) None

marks : (o : Option (Unit {0})) → o ≡ mark (is_some o)
marks None = refl
marks (Some u) = refl

pub same_set : (one other : NameSet) → ((name : Name) → has one name ≡ has other name) → one ≡ other
same_set one other same = map.same_map nat_list_cmp_total exact_bytes one other (λ name. marks (map.get one name) ∙ ap mark (same name) ∙ sym (marks (map.get other name)))

has-insert : (names : NameSet) (name other : Name) → has (map.insert names name tt) other ≡ (eq_by_cmp path_cmp other name || has names other)
has-insert names name other = ap is_some (map.get-insert nat_list_cmp_total names name tt other) ∙ some_or (eq_by_cmp path_cmp other name) (map.get names other)
  where
    some_or : (b : Bool) (o : Option (Unit {0})) → is_some (cond b (Some tt) o) ≡ (b || is_some o)
    some_or true o = refl
    some_or false o = refl

pub has-remove : (names : NameSet) (name other : Name) → has (map.remove names name) other ≡ (not (eq_by_cmp path_cmp other name) && has names other)
has-remove names name other = ap is_some (map.get-remove nat_list_cmp_total names name other) ∙ none_or (eq_by_cmp path_cmp other name) (map.get names other)
  where
    none_or : (b : Bool) (o : Option (Unit {0})) → is_some (cond b None o) ≡ (not b && is_some o)
    none_or true o = refl
    none_or false o = refl

pub not_so : (b : Bool) → not b ≡ true → b ≡ false
not_so true h = sym h
not_so false h = refl

-- whether one of these names is equal
abbrev pub is_among : List Name → Name → Bool
is_among names name = list_any (eq_by_cmp path_cmp name) names

has-set_of : (names : List Name) (name : Name) → has (set_of names) name ≡ is_among names name
has-set_of [] name = ap is_some (map.get-empty path_cmp name)
has-set_of (first ∷ names) name = has-insert (set_of names) first name ∙ ap (λ b. eq_by_cmp path_cmp name first || b) (has-set_of names name)

-- a set with these names too, except one
abbrev pub without : (left_out : Name) → NameSet → List Name → NameSet
without left_out names [] = names
without left_out names (name ∷ more) = without left_out (if bytes_eq name left_out then names else map.insert names name tt) more

in_without : (left_out : Name) (names : NameSet) (more : List Name) (name : Name) → has (without left_out names more) name ≡ (has names name || (not (eq_by_cmp path_cmp name left_out) && is_among more name))
in_without left_out names [] name = none_more (has names name) (eq_by_cmp path_cmp name left_out)
  where
    none_more : (a b : Bool) → a ≡ (a || (not b && false))
    none_more true b = refl
    none_more false true = refl
    none_more false false = refl
in_without left_out names (first ∷ more) name = elim (cases_Bool (bytes_eq first left_out)) [
  | inl out ↦
      ap (λ b. has (without left_out (if b then names else map.insert names first tt) more) name) out
      ∙ in_without left_out names more name
      ∙ ap (λ b. has names name || b) (left_twice (eq_by_cmp path_cmp name left_out) (is_among more name))
      ∙ ap (λ k. has names name || (not (eq_by_cmp path_cmp name left_out) && (eq_by_cmp path_cmp name k || is_among more name))) (sym (same_bytes first left_out out))
  | inr kept ↦
      ap (λ b. has (without left_out (if b then names else map.insert names first tt) more) name) kept
      ∙ in_without left_out (map.insert names first tt) more name
      ∙ ap (λ b. b || (not (eq_by_cmp path_cmp name left_out) && is_among more name)) (has-insert names first name)
      ∙ one_more (eq_by_cmp path_cmp name first) (has names name) (eq_by_cmp path_cmp name left_out) (is_among more name)
      (λ here. ap (λ k. eq_by_cmp path_cmp k left_out) (same_key name first here) ∙ at_bytes first left_out ∙ kept)
]
  where
    left_twice : (e a : Bool) → (not e && a) ≡ (not e && (e || a))
    left_twice true a = refl
    left_twice false a = refl

    one_more : (p c e a : Bool) → (p ≡ true → e ≡ false) → ((p || c) || (not e && a)) ≡ (c || (not e && (p || a)))
    one_more true true e a apart = refl
    one_more true false e a apart = ap (λ e. not e && true) (sym (apart refl))
    one_more false c e a apart = refl

-- all names except one
pub all_without : (left_out : Name) (names : List Name) → without left_out map.empty names ≡ map.remove (set_of names) left_out
all_without left_out names = same_set _ _ (λ name.
    in_without left_out map.empty names name
    ∙ ap (λ b. b || (not (eq_by_cmp path_cmp name left_out) && is_among names name)) (ap is_some (map.get-empty path_cmp name))
    ∙ ap (λ b. not (eq_by_cmp path_cmp name left_out) && b) (sym (has-set_of names name))
    ∙ sym (has-remove (set_of names) left_out name))

-- one name is added to the names of a set
pub one_joins : (old new : BTreeSet Name) (name : Name) → ((q : Name) → contains path_cmp new q ≡ cond (is_at name q) true (contains path_cmp old q)) → set_of new.keys ≡ map.insert (set_of old.keys) name tt
one_joins old new name h = same_set _ _ (λ q.
    has-set_of new.keys q ∙ h q ∙ or_cond (is_at name q) (contains path_cmp old q)
    ∙ ap (λ b. b || contains path_cmp old q) ((eq_by_cmp_equiv nat_list_cmp_total).symm name q)
    ∙ ap (λ b. eq_by_cmp path_cmp q name || b) (sym (has-set_of old.keys q))
    ∙ sym (has-insert (set_of old.keys) name q))
  where
    or_cond : (b c : Bool) → cond b true c ≡ (b || c)
    or_cond true c = refl
    or_cond false c = refl

-- sorted names are those of their set
abbrev entry : Name → Name × Unit {0}
entry name = (name, tt)

as_entries : (names : List Name) → set_of names ≡ map.from_entries (list_map entry names)
as_entries [] = refl
as_entries (name ∷ names) = ap (λ m. map.insert m name tt) (as_entries names)

plain : (names : List Name) → list_map (λ e. e.0) (list_map entry names) ≡ names
plain [] = refl
plain (name ∷ names) = ap (λ rest. name ∷ rest) (plain names)

pub names_again : (names : List Name) → IsStrictlySortedBy path_cmp names → map.keys (set_of names) ≡ names
names_again names sorted =
    ap (λ m. map.keys m) (as_entries names)
    ∙ ap (list_map (λ e. e.0)) (entries_again (list_map entry names) (subst (IsStrictlySortedBy path_cmp) (sym (plain names)) sorted))
    ∙ plain names

-- the same names make the same set
pub same_sets : (names others : List Name) → AreSame names others → set_of names ≡ set_of others
same_sets names others same = same_set _ _ (λ name.
    has-set_of names name ∙ same_any name ∙ sym (has-set_of others name))
  where
    to_any : (name : Name) (names others : List Name) → (Contains names name → Contains others name) → is_among names name ≡ true → is_among others name ≡ true
    to_any name names others all here = list_any-from_Contains (eq_by_cmp_equiv nat_list_cmp_total) name others (all (Contains-from_any same_key name names here))

    both_ways : (a b : Bool) → (a ≡ true → b ≡ true) → (b ≡ true → a ≡ true) → a ≡ b
    both_ways true b there back = sym (there refl)
    both_ways false true there back = back refl
    both_ways false false there back = refl

    same_any : (name : Name) → is_among names name ≡ is_among others name
    same_any name = both_ways (is_among names name) (is_among others name) (to_any name names others (same name).0) (to_any name others names (same name).1)

-- A name is among the sorted ones if it is one of the names, and not the one left out.
pub Contains-names_but : (names : List Name) (left_out name : Name) → Contains (names_but names left_out) name ↔ (Contains names name × (name ≡ left_out → ⊥))
Contains-names_but names left_out name = (
  λ here. let both = and_parts (not (eq_by_cmp path_cmp name left_out)) (is_among names name) (sym is ∙ list_any-from_Contains (eq_by_cmp_equiv nat_list_cmp_total) name (names_but names left_out) here) in (
    Contains-from_any same_key name names both.1,
    λ same. false≢true (sym (ap not (at_bytes name left_out ∙ ap (bytes_eq name) (sym same) ∙ nat_list_eq_equiv.refl name)) ∙ both.0),
  ),
  λ both. Contains-from_any same_key name (names_but names left_out) (is ∙ and_from (not (eq_by_cmp path_cmp name left_out)) (is_among names name)
      (apart (eq_by_cmp path_cmp name left_out) (λ here. both.1 (same_key name left_out here))) (list_any-from_Contains (eq_by_cmp_equiv nat_list_cmp_total) name names both.0)),
)
  where
    is : is_among (names_but names left_out) name ≡ (not (eq_by_cmp path_cmp name left_out) && is_among names name)
    is =
        sym (map.contains_key-keys (map.remove (set_of names) left_out) name) ∙ has-remove (set_of names) left_out name
        ∙ ap (λ b. not (eq_by_cmp path_cmp name left_out) && b) (has-set_of names name)

    apart : (b : Bool) → (b ≡ true → ⊥) → not b ≡ true
    apart true none = absurd (none refl)
    apart false none = refl
