-- Which names are listed.
use Rattle.std.proofs.Common.{◌≡◌, ℕ, Bool, true, false, cond, not, ◌&&◌, ◌||◌, ◌==◌, List, [], ◌∷◌, ◌++◌, Contains, Option, Some, None, refl, sym, ap, subst, ◌∙◌, inl, inr, map as list_map}
use Rattle.std.specs.FinMap as map
use Rattle.std.specs.Cmp.Lexicographic.{nat_list_cmp_total}
use Rattle.std.specs.Cmp.{eq_by_cmp_equiv}
use Rattle.std.specs.Char.{to_ascii_lowercase}
use Rattle.std.specs.List.{list_all, list_any}
use Rattle.std.specs.Option.{option_map}
use Rattle.std.proofs.lemmas.Bool.{cases_Bool, and_parts}
use Rattle.std.proofs.lemmas.List.Elements.{All-contains}
use Rattle.std.proofs.lemmas.Map.Views.{Contains-from_any, list_any-from_Contains}
use Rattle.unit_name.specs.Name.{is_unit_name}
use Rattle.unit_name.proofs.Cuts.{last_seam}
use Rattle.unit_paths.specs.Kinds.{is_unit_slot}
use Rattle.unit_paths.specs.Paths.{is_slash, is_text_byte, name_at}
use Rattle.unit_paths.specs.Places.{unit_directory}
use Rattle.unit_paths.specs.Slots.{slot_of, unit_slot}
use Rattle.unit_paths.specs.declared.place.Place.{Place}
use Rattle.unit_paths.specs.declared.slot.Slot.{Slot}
use Rattle.unit_paths.specs.declared.slot.Slot.TheVariants as slots
use Rattle.unit_paths.proofs.Slashes.{is_part_byte, name-seam}
use Rattle.unit_paths.proofs.Spelled.{slots_are_spelled}
use Rattle.unit_paths.proofs.UnitSlots.{no_slash, name_facts, unit_slot_is}
use Rattle.link_tree.specs.Trees.{Entries}
use Rattle.link_tree.proofs.Maps.{all_standing, all_listed}
use Rattle.link_tree.proofs.Shapes.{same_key}
use Rattle.load_path.specs.RealNames.{named}
use Rattle.states.specs.Dependencies.{set_of}
use Rattle.states.proofs.Members.{in_filter_map, of_filter_map}
use Rattle.unit_lists.specs.Order.{type_in, order_text, is_nul, last_name}
use Rattle.unit_lists.specs.UnitFiles.{is_hidden, listed_name, order_texts, unit_files}
use Rattle.unit_lists.specs.Laws.{HasEntry, NamesWithEntriesAreListed}
use Rattle.unit_lists.proofs.Texts.{Standing, text_of, has-set_of}

-- a name of a unit is read back
some_named : (text name : List ℕ) → named text ≡ Some name → (is_unit_name text ≡ true) × (text ≡ name)
some_named text name is = elim (cases_Bool (is_unit_name text)) [
  | inl here ↦ (let same : Some text ≡ Some name = sym (ap (λ b. cond b (Some text) None) here) ∙ is in (here, cc))
  | inr none ↦ (let same : None ≡ Some name = sym (ap (λ b. cond b (Some text) None) none) ∙ is in absurd (cc))
]

is_named : (name : List ℕ) → is_unit_name name ≡ true → named name ≡ Some name
is_named name here = ap (λ b. cond b (Some name) None) here

some_mapped : (o : Option (List ℕ)) (text : List ℕ) → option_map order_text o ≡ Some text → (name : List ℕ) × (o ≡ Some name) × (order_text name ≡ text)
some_mapped None text is = absurd (cc)
some_mapped (Some name) text is = (name, refl, cc)

-- no name has a NUL,
first_not : (a b c : Bool) → not (a || b || c) ≡ true → a ≡ false
first_not true b c h = sym h
first_not false b c h = refl

no_nul : (name : List ℕ) → list_all is_part_byte name ≡ true → list_any is_nul name ≡ false
unfolding is_text_byte
no_nul [] h = refl
no_nul (b ∷ bs) h =
    let here = and_parts (is_part_byte b) (list_all is_part_byte bs) h in
    rw (first_not (b == 0) (b == 9) (b == 10) (and_parts (is_text_byte b) (not (is_slash b)) here.0).0) (no_nul bs here.1)

-- so that it is the end of what it is listed by
last_of : (name : List ℕ) → is_unit_name name ≡ true → last_name (order_text name) ≡ name
unfolding order_text
last_of name here = (last_seam is_nul 0 (type_in name ++ 0 ∷ list_map to_ascii_lowercase name) 0 name refl (no_nul name (name_facts name here).bytes)).2

-- the name of a slot
slot_name : (place : Place) (name : List ℕ) → is_unit_name name ≡ true → name_at (unit_slot place name) ≡ name
slot_name place name here = name-seam (unit_directory place) name (no_slash name (name_facts name here).bytes)

unit_place : (o : Option Slot) → is_unit_slot o ≡ true → (place : Place) × (o ≡ Some (slots.Unit place))
unit_place None h = absurd (cc)
unit_place (Some (slots.Unit place)) h = (place, refl)
unit_place (Some (slots.Wants place)) h = absurd (cc)
unit_place (Some (slots.Requires place)) h = absurd (cc)
unit_place (Some (slots.Upholds place)) h = absurd (cc)
unit_place (Some (slots.Preset place)) h = absurd (cc)

not_so : (b : Bool) → not b ≡ true → b ≡ false
not_so true h = sym h
not_so false h = refl

-- what is listed of an entry
record IsListedAs (path name : List ℕ) : Type 0 where
  unit : is_unit_name name ≡ true
  shown : is_hidden name ≡ false
  place : Place
  at : path ≡ unit_slot place name

listed_as : (path name : List ℕ) → listed_name path ≡ Some name → IsListedAs path name
unfolding listed_name
listed_as path name is = elim (cases_Bool (is_unit_slot (slot_of path) && not (is_hidden (name_at path)))) [
  | inl both ↦ (
      let parts = and_parts (is_unit_slot (slot_of path)) (not (is_hidden (name_at path))) both in
      let read = some_named (name_at path) name (sym (ap (λ b. cond b (named (name_at path)) None) both) ∙ is) in
      let slot = unit_place (slot_of path) parts.0 in
      let spelled = (slots_are_spelled path (slots.Unit slot.0)).0 slot.1 in
      let same : spelled.0 ≡ name = sym (ap name_at spelled.2 ∙ slot_name slot.0 spelled.0 spelled.1) ∙ read.1 in
      record {
        unit = ap is_unit_name (sym read.1) ∙ read.0;
        shown = ap is_hidden (sym read.1) ∙ not_so (is_hidden (name_at path)) parts.1;
        place = slot.0;
        at = spelled.2 ∙ ap (unit_slot slot.0) same;
      })
  | inr none ↦ (let no : None ≡ Some name = sym (ap (λ b. cond b (named (name_at path)) None) none) ∙ is in absurd (cc))
]

listed_at : (place : Place) (name : List ℕ) → is_unit_name name ≡ true → is_hidden name ≡ false → listed_name (unit_slot place name) ≡ Some name
unfolding listed_name
listed_at place name here shown =
    let path = unit_slot place name in
    ap (λ slot. cond (is_unit_slot slot && not (is_hidden (name_at path))) (named (name_at path)) None) (unit_slot_is place name here)
    ∙ ap (λ n. cond (not (is_hidden n)) (named n) None) (slot_name place name here)
    ∙ ap (λ b. cond (not b) (named name) None) shown
    ∙ is_named name here

-- the keys of a set are what it was made of
from_keys : (texts : List (List ℕ)) (text : List ℕ) → Contains (map.keys (set_of texts)) text → Contains texts text
from_keys texts text here = Contains-from_any same_key text texts
    (sym (has-set_of texts text) ∙ map.contains_key-keys (set_of texts) text ∙ list_any-from_Contains (eq_by_cmp_equiv nat_list_cmp_total) text (map.keys (set_of texts)) here)

to_keys : (texts : List (List ℕ)) (text : List ℕ) → Contains texts text → Contains (map.keys (set_of texts)) text
to_keys texts text here = Contains-from_any same_key text (map.keys (set_of texts))
    (sym (map.contains_key-keys (set_of texts) text) ∙ has-set_of texts text ∙ list_any-from_Contains (eq_by_cmp_equiv nat_list_cmp_total) text texts here)

abbrev name_read : List ℕ → Option (List ℕ)
name_read text = named (last_name text)

there : (t : Entries) (name : List ℕ) → Contains (unit_files t) name → HasEntry t name
unfolding unit_files
there t name here =
    let one = of_filter_map name_read (map.keys (set_of (order_texts t))) name here in
    let found = of_filter_map text_of (map.entries t) one.0 (from_keys (order_texts t) one.0 one.1) in
    let mine = some_mapped (listed_name (found.0).0) one.0 found.2 in
    let facts = listed_as (found.0).0 mine.0 mine.1 in
    let again : Some mine.0 ≡ Some name = sym (ap name_read (sym mine.2) ∙ ap named (last_of mine.0 facts.unit) ∙ is_named mine.0 facts.unit) ∙ one.2 in
    let same : mine.0 ≡ name = cc in
    let stands = All-contains (λ (e : Standing). map.get t e.0 ≡ Some e.1) (map.entries t) found.0 (all_standing t) found.1 in
    subst (HasEntry t) same (facts.unit, facts.shown, (facts.place, (found.0).1, ap (map.get t) (sym facts.at) ∙ stands))

back : (t : Entries) (name : List ℕ) → HasEntry t name → Contains (unit_files t) name
unfolding unit_files
back t name facts =
    let path = unit_slot facts.2.0 name in
    let text = in_filter_map text_of (map.entries t) (path, facts.2.1) (order_text name) (all_listed t path facts.2.1 facts.2.2) (ap (option_map order_text) (listed_at facts.2.0 name facts.0 facts.1)) in
    in_filter_map name_read (map.keys (set_of (order_texts t))) (order_text name) name (to_keys (order_texts t) (order_text name) text) (ap named (last_of name facts.0) ∙ is_named name facts.0)

pub names_with_entries : NamesWithEntriesAreListed
names_with_entries t name = (there t name, back t name)
