-- Which word is answered.
use Rattle.std.proofs.Common.{◌≡◌, ◌≢◌, ◌⊎◌, ℕ, Bool, true, false, List, [], ◌∷◌, Contains, Option, Some, None, refl, sym, ap, subst, ◌∙◌, inl, inr}
use Rattle.std.specs.Prelude.{not}
use Rattle.std.specs.FinMap as map
use Rattle.std.specs.List.{list_any}
use Rattle.std.specs.Str.{bytes_eq}
use Rattle.std.proofs.lemmas.Bool.{cases_Bool, false≢true, or_left, or_right}
use Rattle.std.proofs.lemmas.List.Elements.{All-contains}
use Rattle.std.proofs.lemmas.Slice.Eq.{bytes_eq-Decides}
use Rattle.unit_paths.specs.declared.place.Place.{Place}
use Rattle.unit_paths.specs.declared.place.Place.TheVariants as places
use Rattle.unit_paths.specs.declared.place.Scope.{Scope}
use Rattle.unit_paths.specs.declared.place.Scope.TheVariants.{Etc, Run}
use Rattle.unit_paths.specs.Places.{scope_place}
use Rattle.unit_paths.specs.Slots.{slot_of, unit_slot}
use Rattle.unit_paths.specs.Kinds.{is_unit_slot}
use Rattle.link_tree.specs.declared.entry.Entry.{Entry}
use Rattle.link_tree.specs.Trees.{Entries}
use Rattle.link_tree.proofs.Changed.{same_bytes}
use Rattle.link_tree.proofs.Maps.{all_standing, all_listed}
use Rattle.load_path.specs.declared.finding.Found.{Found}
use Rattle.load_path.specs.declared.finding.Found.TheVariants as founds
use Rattle.load_path.specs.Find.{find}
use Rattle.install_section.specs.declared.section.Section.{Section}
use Rattle.install_section.specs.Sections.{section_of, is_empty}
use Rattle.install_section.proofs.Least.{some_is, is_first, is_later, first_or_later, none_of}
use Rattle.footprint.specs.declared.answer.StateWord.{StateWord}
use Rattle.footprint.specs.declared.answer.StateWord.TheVariants as words
use Rattle.tree_access.specs.declared.key.Key.TheVariants.{Marked}
use Rattle.tree_access.specs.Keys.{part, selects, shown}
use Rattle.tree_access.proofs.KeyLaws.{get-part}
use Rattle.tree_access.proofs.Those.{shown_there, shown_chosen}
use Rattle.states.specs.IsEnabled.{by_place, has_other, asks_for_none, by_lists, by_file, by_links, found_word, state_word}
use Rattle.states.specs.Laws.{IsFound, IsLinkedIn, IsFree, LiesInside, Tells, WordsAreTold}
use Rattle.states.specs.Laws.Tells.{Missing, Dangling, MaskedInRun, MaskedElsewhere, AnotherName, LinkedInEtc, LinkedInRun, OutsideFoundInRun, OutsideFoundElsewhere, NothingListed, UnitsListedAlone, LinksListed}
use Rattle.states.proofs.Others.{is_other}

abbrev Standing : Type 0
Standing = List ℕ × Entry

other_of : (own : List ℕ) (xs : List Standing) → list_any (is_other own) xs ≡ true → (x : Standing) × Contains xs x × (is_other own x ≡ true)
other_of own [] is = absurd (false≢true is)
other_of own (x ∷ xs) is = elim (cases_Bool (is_other own x)) [
  | inl here ↦ (x, is_first x xs x refl, here)
  | inr away ↦ (let later = other_of own xs (rw away at is) in (later.0, is_later x xs later.0 later.1, later.2))
]

has_other_of : (own : List ℕ) (xs : List Standing) (x : Standing) → Contains xs x → is_other own x ≡ true → list_any (is_other own) xs ≡ true
has_other_of own [] x here is = absurd (none_of [] x refl here)
has_other_of own (first ∷ xs) x here is = elim (first_or_later first xs x here.0 here.1 here.2) [
  | inl same ↦ or_left (is_other own first) (list_any (is_other own) xs) (subst (λ x. is_other own x ≡ true) same is)
  | inr later ↦ or_right (is_other own first) (list_any (is_other own) xs) (has_other_of own xs x later is)
]

module _ (scope : Scope) (unit : List ℕ) (t : Entries) where
  abbrev own : List ℕ
  own = unit_slot (scope_place scope) unit

  abbrev links : Entries
  links = part (Marked scope unit) t

  linked_of : has_other own links ≡ true → IsLinkedIn scope t unit
  linked_of is =
      let other = other_of own (map.entries links) is in
      let stands = All-contains (λ (x : Standing). map.get links x.0 ≡ Some x.1) (map.entries links) other.0 (all_standing links) other.1 in
      let there = shown_there (selects (Marked scope unit)) other.0.0 (map.get t other.0.0) other.0.1 (sym (get-part (Marked scope unit) t other.0.0) ∙ stands) in
      (other.0.0, other.0.1, there.0, there.1, λ same. false≢true (sym (ap not ((bytes_eq-Decides other.0.0 own).1 same)) ∙ other.2))

  other_path : (path : List ℕ) → path ≢ own → not (bytes_eq path own) ≡ true
  other_path path away = elim (cases_Bool (bytes_eq path own)) [
    | inl same ↦ absurd (away (same_bytes path own same))
    | inr other ↦ ap not other
  ]

  has_linked : IsLinkedIn scope t unit → has_other own links ≡ true
  has_linked linked =
      let there : map.get links linked.0 ≡ Some linked.1 =
      get-part (Marked scope unit) t linked.0 ∙ ap (shown (Marked scope unit) linked.0) linked.2 ∙ shown_chosen (selects (Marked scope unit)) linked.0 linked.1 linked.3 in
      has_other_of own (map.entries links) (linked.0, linked.1) (all_listed links linked.0 linked.1 there) (other_path linked.0 linked.4)

abbrev Linked : (scope : Scope) → (unit : List ℕ) → Entries → Bool
Linked scope unit t = has_other (unit_slot (scope_place scope) unit) (part (Marked scope unit) t)

not_linked : (scope : Scope) (unit : List ℕ) (t : Entries) → Linked scope unit t ≡ false → ¬ IsLinkedIn scope t unit
not_linked scope unit t none linked = false≢true (sym none ∙ has_linked scope unit t linked)

is_free : (scope : Scope) (unit : List ℕ) (t : Entries) → ¬ IsLinkedIn scope t unit → Linked scope unit t ≡ false
is_free scope unit t none = elim (cases_Bool (Linked scope unit t)) [
  | inl linked ↦ absurd (none (linked_of scope unit t linked))
  | inr free ↦ free
]

run_or_not : (place : Place) → (place ≡ places.Run) ⊎ (place ≢ places.Run)
run_or_not places.Run = inl refl
run_or_not places.Etc = inr (λ same. cc)
run_or_not places.Local = inr (λ same. cc)
run_or_not places.Vendor = inr (λ same. cc)

elsewhere : (place : Place) (in_run other : StateWord) → place ≢ places.Run → by_place place in_run other ≡ other
elsewhere places.Run in_run other away = absurd (away refl)
elsewhere places.Etc in_run other away = refl
elsewhere places.Local in_run other away = refl
elsewhere places.Vendor in_run other away = refl

module _ (name : List ℕ) (t : Entries) where
  abbrev section : Option Section
  section = (section_of name).conclusion t

  by_found : (found : Found) → IsFound t name found → (state_word name).conclusion t ≡ (found_word name found).conclusion t
  by_found found is = ap (λ found. (found_word name found).conclusion t) is

  -- a unit with its own name
  by_own : (file : List ℕ) (place : Place) → IsFound t name (founds.Unit name file place)
      → (state_word name).conclusion t ≡ by_links name file place section (part (Marked Etc name) t) (part (Marked Run name) t)
  by_own file place is = by_found (founds.Unit name file place) is ∙ (let same = (bytes_eq-Decides name name).1 refl in rw same refl)

  by_its_file : (file : List ℕ) (place : Place) → IsFound t name (founds.Unit name file place) → IsFree t name → (state_word name).conclusion t ≡ by_file file place section
  by_its_file file place is free = by_own file place is ∙ rw (is_free Etc name t free.0, is_free Run name t free.1) refl

  by_its_lists : (place : Place) → LiesInside true t name place → IsFree t name → (state_word name).conclusion t ≡ by_lists section
  by_its_lists place (file, is, inside) free = by_its_file file place is free ∙ rw inside refl

  by_its_place : (place : Place) → LiesInside false t name place → IsFree t name → (state_word name).conclusion t ≡ by_place place words.LinkedRuntime words.Linked
  by_its_place place (file, is, outside) free = by_its_file file place is free ∙ rw outside refl

  nothing_listed : (o : Option Section) → ((section : Section) → o ≡ Some section → is_empty section ≡ true) → by_lists o ≡ words.Static
  nothing_listed None empty = refl
  nothing_listed (Some section) empty = rw (empty section refl) refl

  told : (word : StateWord) → Tells t name word → (state_word name).conclusion t ≡ word
  told _ (Missing is) = by_found founds.Missing is
  told _ (Dangling link is) = by_found (founds.Dangling link) is
  told _ (MaskedInRun is) = by_found (founds.Masked places.Run) is
  told _ (MaskedElsewhere place is away) = by_found (founds.Masked place) is ∙ elsewhere place words.MaskedRuntime words.Masked away
  told _ (AnotherName real file place is other) = by_found (founds.Unit real file place) is ∙ (let apart = other_bytes real other in rw apart refl)
    where
      other_bytes : (real : List ℕ) → real ≢ name → bytes_eq real name ≡ false
      other_bytes real other = elim (cases_Bool (bytes_eq real name)) [
        | inl same ↦ absurd (other (same_bytes real name same))
        | inr apart ↦ apart
      ]
  told _ (LinkedInEtc own linked) = by_own own.0 own.1 own.2 ∙ rw (has_linked Etc name t linked) refl
  told _ (LinkedInRun own none linked) = by_own own.0 own.1 own.2 ∙ rw (is_free Etc name t none, has_linked Run name t linked) refl
  told _ (OutsideFoundInRun outside free) = by_its_place places.Run outside free
  told _ (OutsideFoundElsewhere place outside away free) = by_its_place place outside free ∙ elsewhere place words.LinkedRuntime words.Linked away
  told _ (NothingListed place inside free empty) = by_its_lists place inside free ∙ nothing_listed section empty
  told _ (UnitsListedAlone place section inside free is some none) = by_its_lists place inside free ∙ ap by_lists is ∙ rw (some, none) refl
  told _ (LinksListed place section inside free is some asks) = by_its_lists place inside free ∙ ap by_lists is ∙ rw (some, asks) refl

  abbrev Some_word : Type 0
  Some_word = (word : StateWord) × Tells t name word

  of_section : (place : Place) → LiesInside true t name place → IsFree t name → (o : Option Section) → section ≡ o → Some_word
  of_section place inside free None is = (words.Static, NothingListed place inside free (λ listed there. none_some (sym is ∙ there)))
    where
      none_some : {P : Type 0} {listed : Section} → None ≡ Some listed → P
      none_some h = cc
  of_section place inside free (Some listed) is = elim (cases_Bool (is_empty listed)) [
    | inl empty ↦ (words.Static, NothingListed place inside free (λ other there. ap is_empty (sym (some_is listed other (sym is ∙ there))) ∙ empty))
    | inr some ↦ elim (cases_Bool (asks_for_none listed)) [
      | inl none ↦ (words.Indirect, UnitsListedAlone place listed inside free is some none)
      | inr asks ↦ (words.Disabled, LinksListed place listed inside free is some asks)
    ]
  ]

  of_file : (file : List ℕ) (place : Place) → IsFound t name (founds.Unit name file place) → IsFree t name → Some_word
  of_file file place is free = elim (cases_Bool (is_unit_slot (slot_of file))) [
    | inl inside ↦ of_section place (file, is, inside) free section refl
    | inr outside ↦ elim (run_or_not place) [
      | inl run ↦ (words.LinkedRuntime, OutsideFoundInRun (file, is ∙ ap (founds.Unit name file) run, outside) free)
      | inr away ↦ (words.Linked, OutsideFoundElsewhere place (file, is, outside) away free)
    ]
  ]

  of_unit : (file : List ℕ) (place : Place) → IsFound t name (founds.Unit name file place) → Some_word
  of_unit file place is = elim (cases_Bool (Linked Etc name t)) [
    | inl linked ↦ (words.Enabled, LinkedInEtc (file, place, is) (linked_of Etc name t linked))
    | inr none ↦ elim (cases_Bool (Linked Run name t)) [
      | inl linked ↦ (words.EnabledRuntime, LinkedInRun (file, place, is) (not_linked Etc name t none) (linked_of Run name t linked))
      | inr free ↦ of_file file place is (not_linked Etc name t none, not_linked Run name t free)
    ]
  ]

  of_found : (found : Found) → IsFound t name found → Some_word
  of_found founds.Missing is = (words.NotFound, Missing is)
  of_found (founds.Dangling link) is = (words.NotFound, Dangling link is)
  of_found (founds.Masked place) is = elim (run_or_not place) [
    | inl run ↦ (words.MaskedRuntime, MaskedInRun (is ∙ ap founds.Masked run))
    | inr away ↦ (words.Masked, MaskedElsewhere place is away)
  ]
  of_found (founds.Unit real file place) is = elim (cases_Bool (bytes_eq real name)) [
    | inl same ↦ of_unit file place (is ∙ ap (λ real. founds.Unit real file place) (same_bytes real name same))
    | inr other ↦ (words.Alias, AnotherName real file place is (λ same. false≢true (sym other ∙ (bytes_eq-Decides real name).1 same)))
  ]

  tells : (word : StateWord) → (state_word name).conclusion t ≡ word → Tells t name word
  tells word is = let some = of_found ((find name).conclusion t) refl in subst (Tells t name) (sym (told some.0 some.1) ∙ is) some.1

pub words_are_told : WordsAreTold
words_are_told name t word = (tells name t word, told name t word)
