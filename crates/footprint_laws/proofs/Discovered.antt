-- The paths that a closure looks at, in the order of discovery.
use Rattle.std.proofs.Common.{◌≡◌, ◌≤◌, ◌<◌, ◌+◌, ℕ, zero, suc, List, [], ◌∷◌, ◌++◌, Option, Some, None, Result, Ok, Err, nat_lt, length, length-append, Contains, refl, sym, ap, subst, ◌∙◌, inl, inr, arith}
use Rattle.std.specs.FinMap as map
use Rattle.std.specs.Cmp.Lexicographic.{nat_list_eq_equiv}
use Rattle.std.specs.List.{list_any}
use Rattle.std.specs.Prelude.{slice_get}
use Rattle.std.specs.Str.{bytes_eq}
use Rattle.std.proofs.lemmas.Bool.{cases_Bool}
use Rattle.std.proofs.lemmas.Bool.Decides.{nat_tests}
use Rattle.std.proofs.lemmas.Option.{slice_get_cases}
use Rattle.std.proofs.lemmas.List.Elements.{Contains-append_left, Contains-append_right, Contains-append_cases}
use Rattle.unit_file.specs.declared.notice.NoticeKey.TheVariants.{Also}
use Rattle.unit_file.specs.declared.notice.Reason.{Reason}
use Rattle.unit_file.specs.Notices.{with_notice}
use Rattle.unit_paths.specs.declared.place.Place.{Place}
use Rattle.link_tree.specs.Trees.{Entries}
use Rattle.load_path.specs.declared.finding.Found.{Found}
use Rattle.load_path.specs.declared.finding.Found.TheVariants as founds
use Rattle.load_path.specs.Search.{Search}
use Rattle.load_path.specs.Find.{find}
use Rattle.install_section.specs.declared.section.Section.{Section}
use Rattle.install_section.specs.declared.closed.Closed.{Closed}
use Rattle.install_section.specs.declared.closed.ClosureFault.{ClosureFault}
use Rattle.install_section.specs.declared.closed.ClosureFault.TheVariants.{TooMany}
use Rattle.install_section.specs.Words.{named_by, skipped}
use Rattle.install_section.specs.Sections.{section_of}
use Rattle.install_section.specs.Closure.{IsUnit, why_not, joined, and_then, all_joined, closed_with, joined_unless, with_name, unless_too_many, with_words, with_section, with_unit, with_unit_at, closed_from, closure}
use Rattle.install_section.proofs.Least.{none_of}
use Rattle.install_section.proofs.LooksAsFind.{looks_as_find}
use Rattle.footprint_laws.specs.Discovery.{also_of, identity_by, WordLeaves, WordsLeave, WordsLook, UnitsLook, IsDiscoveredAt, ClosureLooksInOrder}
use Rattle.footprint_laws.specs.Discovery.WordLeaves.{Joins, Skips}
use Rattle.footprint_laws.specs.Discovery.WordsLeave.{NoWord, OneWord}
use Rattle.footprint_laws.specs.Discovery.WordsLook.{Now, Later}
use Rattle.footprint_laws.specs.Discovery.UnitsLook.{Itself, ItsWord, Behind}
use Rattle.footprint_laws.proofs.Closures.{itself}

abbrev Came : Type 0
Came = Result Closed ClosureFault

abbrev Units : Type 0
Units = Result (List (List ℕ)) ClosureFault

abbrev fine : Closed → Came
fine closed = Ok closed

abbrev these : List (List ℕ) → Units
these units = Ok units

fine_units : (one more : Closed) → fine one ≡ fine more → one.units ≡ more.units
fine_units one more is = let same : one ≡ more = cc in ap (λ (c : Closed). c.units) same

same_units : (one more : List (List ℕ)) → these one ≡ these more → one ≡ more
same_units one more is = cc

its_own : (name : List ℕ) (found : Found) (file : List ℕ) (place : Place) → found ≡ founds.Unit name file place → why_not name found ≡ None
its_own name found file place is = ap (why_not name) is ∙ rw (nat_list_eq_equiv.refl name) refl

-- the units that a name joins
units_joined : (closed more : Closed) (units : Units) → and_then (closed_with closed.notices) units ≡ fine more → units ≡ these more.units
units_joined closed more (Ok units) is = ap (λ units. these units) (fine_units (record { units = units; notices = closed.notices }) more is)
units_joined closed more (Err fault) is = cc

joined_within : (units more : List (List ℕ)) (name : List ℕ) → joined units name ≡ these more → length units ≤ 1024 → length more ≤ 1024
unfolding joined
joined_within units more name is within = elim (cases_Bool (list_any (bytes_eq name) units)) [
  | inl there ↦ subst (λ units. length units ≤ 1024) (same_units units more (rw there at is)) within
  | inr new ↦ elim (cases_Bool (nat_lt (length units) 1024)) [
    | inl room ↦
        let less : length units < 1024 = grind (arith, nat_tests) in
        let long : length (units ++ name ∷ []) ≡ length units + 1 = length-append units (name ∷ []) in
        let most : length (units ++ name ∷ []) ≤ 1024 = omega arith in
        subst (λ units. length units ≤ 1024) (same_units (units ++ name ∷ []) more (rw (new, room) at is)) most
    | inr full ↦ (let none : Err TooMany ≡ these more = rw (new, full) at is in cc)
  ]
]

module _ (t : Entries) where
  module _ (unit identity : List ℕ) where
    module _ (word : List ℕ) where
      -- what one word leaves
      abbrev come : Closed → Result (List ℕ) Reason → Came
      come closed named = (with_name unit word closed named).conclusion t

      abbrev skipping_it : Closed → Reason → Closed
      skipping_it closed reason = record { units = closed.units; notices = with_notice closed.notices (skipped unit Also word reason) }

      by_reason : (closed more : Closed) (name : List ℕ) (why : Option Reason) → named_by identity word ≡ Ok name → why_not name ((find name).conclusion t) ≡ why
          → joined_unless unit word name closed why ≡ fine more → WordLeaves t identity word closed.units more.units
      by_reason closed more name None is why comes = Joins name more.units is (itself name ((find name).conclusion t) why) (units_joined closed more (joined closed.units name) comes)
      by_reason closed more name (Some reason) is why comes =
          subst (WordLeaves t identity word closed.units) (fine_units (skipping_it closed reason) more comes) (Skips none)
        where
          none : (other : List ℕ) → named_by identity word ≡ Ok other → IsUnit t other → ⊥
          none other named own =
              let both : Ok other ≡ Ok name = sym named ∙ is in
              let same : other ≡ name = cc in
              let its : IsUnit t name = subst (IsUnit t) same own in
              let never : Some reason ≡ None = sym why ∙ its_own name ((find name).conclusion t) its.0 its.1 its.2 in
              cc

      word_leaves : (closed more : Closed) (named : Result (List ℕ) Reason) → named_by identity word ≡ named → come closed named ≡ fine more → WordLeaves t identity word closed.units more.units
      word_leaves closed more (Ok name) is comes = by_reason closed more name (why_not name ((find name).conclusion t)) is refl comes
      word_leaves closed more (Err reason) is comes =
          subst (WordLeaves t identity word closed.units) (fine_units (skipping_it closed reason) more comes) (Skips (λ other named own. let both : Err reason ≡ Ok other = sym is ∙ named in cc))

      -- a word that joins no unit leaves them as they are
      abbrev Skipped : Closed → Result (List ℕ) Reason → Type 0
      Skipped closed named = (next : Closed) × (come closed named ≡ fine next) × (next.units ≡ closed.units)

      skips : (closed : Closed) → ((name : List ℕ) → named_by identity word ≡ Ok name → IsUnit t name → ⊥) → (named : Result (List ℕ) Reason) → named_by identity word ≡ named → Skipped closed named
      skips closed none (Err reason) is = (skipping_it closed reason, refl, refl)
      skips closed none (Ok name) is = by_why (why_not name ((find name).conclusion t)) refl
        where
          by_why : (why : Option Reason) → why_not name ((find name).conclusion t) ≡ why → Skipped closed (Ok name)
          by_why None why = absurd (none name is (itself name ((find name).conclusion t) why))
          by_why (Some reason) why = (skipping_it closed reason, ap (joined_unless unit word name closed) why, refl)

      word_comes : (closed : Closed) (units more : List (List ℕ)) → closed.units ≡ units → WordLeaves t identity word units more
          → (next : Closed) × (come closed (named_by identity word) ≡ fine next) × (next.units ≡ more)
      word_comes closed units more same (Joins name _ named own joins) = (
        record { units = more; notices = closed.notices },
        ap (come closed) named
            ∙ ap (joined_unless unit word name closed) (its_own name ((find name).conclusion t) own.0 own.1 own.2)
            ∙ ap (λ units. and_then (closed_with closed.notices) (joined units name)) same
            ∙ ap (and_then (closed_with closed.notices)) joins,
        refl,
      )
      word_comes closed units _ same (Skips none) = let next = skips closed none (named_by identity word) refl in (next.0, next.1, next.2 ∙ same)

    -- one word after another
    abbrev behind : (words : List (List ℕ)) → Came → Search Came
    behind words grown = unless_too_many (with_words unit identity words) grown

    words_leave : (words : List (List ℕ)) (closed more : Closed) → (with_words unit identity words closed).conclusion t ≡ fine more → WordsLeave t identity words closed.units more.units
    words_leave [] closed more is = subst (WordsLeave t identity [] closed.units) (fine_units closed more is) (NoWord closed.units)
    words_leave (word ∷ words) closed more is = by_come (λ mid. words_leave words mid more) (come word closed (named_by identity word)) refl is
      where
        by_come : ((mid : Closed) → (with_words unit identity words mid).conclusion t ≡ fine more → WordsLeave t identity words mid.units more.units) → (grown : Came)
            → come word closed (named_by identity word) ≡ grown → (behind words grown).conclusion t ≡ fine more → WordsLeave t identity (word ∷ words) closed.units more.units
        by_come on (Ok mid) at is = OneWord word words closed.units mid.units more.units (word_leaves word closed mid (named_by identity word) refl at) (on mid is)
        by_come on (Err fault) at is = cc

    words_come : (words units more : List (List ℕ)) (closed : Closed) → closed.units ≡ units → WordsLeave t identity words units more
        → (last : Closed) × ((with_words unit identity words closed).conclusion t ≡ fine last) × (last.units ≡ more)
    words_come [] units _ closed same (NoWord _) = (closed, refl, same)
    words_come (word ∷ words) units more closed same (OneWord _ _ _ mid _ leaves rest) =
        let next = word_comes word closed units mid same leaves in
        let last = words_come words mid more next.0 next.2 rest in
        (last.0, ap (λ grown. (behind words grown).conclusion t) next.1 ∙ last.1, last.2)

    word_within : (word : List ℕ) (units more : List (List ℕ)) → WordLeaves t identity word units more → length units ≤ 1024 → length more ≤ 1024
    word_within word units more (Joins name _ named own joins) within = joined_within units more name joins within
    word_within word units _ (Skips none) within = within

    words_within : (words units more : List (List ℕ)) → WordsLeave t identity words units more → length units ≤ 1024 → length more ≤ 1024
    words_within [] units _ (NoWord _) within = within
    words_within (word ∷ words) units more (OneWord _ _ _ mid _ leaves rest) within = words_within words mid more rest (word_within word units mid leaves within)

    words_only : (words : List (List ℕ)) (closed : Closed) (path : List ℕ) → Contains ((with_words unit identity words closed).cells t) path → WordsLook t identity path words closed.units
    words_only [] closed path here = absurd (none_of [] path refl here)
    words_only (word ∷ words) closed path here = elim (Contains-append_cases ((with_name unit word closed (named_by identity word)).cells t) ((behind words (come word closed (named_by identity word))).cells t) path here) [
      | inl own ↦ by_named (named_by identity word) refl own
      | inr later ↦ by_come (λ mid. words_only words mid path) (come word closed (named_by identity word)) refl later
    ]
      where
        by_named : (named : Result (List ℕ) Reason) → named_by identity word ≡ named → Contains ((with_name unit word closed named).cells t) path → WordsLook t identity path (word ∷ words) closed.units
        by_named (Ok name) is own = Now word name words closed.units is own
        by_named (Err reason) is own = absurd (none_of [] path refl own)

        by_come : ((mid : Closed) → Contains ((with_words unit identity words mid).cells t) path → WordsLook t identity path words mid.units) → (grown : Came)
            → come word closed (named_by identity word) ≡ grown → Contains ((behind words grown).cells t) path → WordsLook t identity path (word ∷ words) closed.units
        by_come on (Ok mid) at later = Later word words closed.units mid.units (word_leaves word closed mid (named_by identity word) refl at) (on mid later)
        by_come on (Err fault) at later = absurd (none_of [] path refl later)

    words_all : (words units : List (List ℕ)) (closed : Closed) (path : List ℕ) → closed.units ≡ units → WordsLook t identity path words units → Contains ((with_words unit identity words closed).cells t) path
    words_all [] units closed path same look = elim look [ ]
    words_all (word ∷ words) units closed path same (Now _ name _ _ is up) =
        Contains-append_left ((with_name unit word closed (named_by identity word)).cells t) ((behind words (come word closed (named_by identity word))).cells t) path
        (subst (λ named. Contains ((with_name unit word closed named).cells t) path) (sym is) up)
    words_all (word ∷ words) units closed path same (Later _ _ _ mid leaves rest) =
        let next = word_comes word closed units mid same leaves in
        Contains-append_right ((with_name unit word closed (named_by identity word)).cells t) ((behind words (come word closed (named_by identity word))).cells t) path
        (subst (λ grown. Contains ((behind words grown).cells t) path) (sym next.1) (words_all words mid next.0 path next.2 rest))

  -- a unit, by its section
  section_words : (unit : List ℕ) (closed : Closed) (section : Option Section) → with_section unit closed section ≡ with_words unit (identity_by unit section) (also_of section) closed
  section_words unit closed None = refl
  section_words unit closed (Some section) = refl

  module _ (unit : List ℕ) where
    abbrev its_section : Option Section
    its_section = (section_of unit).conclusion t

    abbrev its_identity : List ℕ
    its_identity = identity_by unit its_section

    abbrev its_words : List (List ℕ)
    its_words = also_of its_section

    unit_cells : (closed : Closed) → (with_unit unit closed).cells t ≡ (section_of unit).cells t ++ (with_words unit its_identity its_words closed).cells t
    unfolding with_unit
    unit_cells closed = ap (λ (s : Search Came). (section_of unit).cells t ++ s.cells t) (section_words unit closed its_section)

    unit_comes : (closed : Closed) → (with_unit unit closed).conclusion t ≡ (with_words unit its_identity its_words closed).conclusion t
    unfolding with_unit
    unit_comes closed = ap (λ (s : Search Came). s.conclusion t) (section_words unit closed its_section)

  -- one unit after another
  abbrev rest_from : (more place : ℕ) → Came → Search Came
  rest_from more place grown = unless_too_many (closed_from more (place + 1)) grown

  units_only : (more place : ℕ) (closed : Closed) (path : List ℕ) → Contains ((closed_from more place closed).cells t) path → UnitsLook t path closed.units place
  unfolding closed_from
  units_only zero place closed path here = absurd (none_of [] path refl here)
  units_only (suc more) place closed path here = by_at (λ mid. units_only more (place + 1) mid path) (slice_get closed.units place) refl here
    where
      by_grown : ((mid : Closed) → Contains ((closed_from more (place + 1) mid).cells t) path → UnitsLook t path mid.units (place + 1)) → (unit : List ℕ) → slice_get closed.units place ≡ Some unit → (grown : Came)
          → (with_unit unit closed).conclusion t ≡ grown → Contains ((rest_from more place grown).cells t) path → UnitsLook t path closed.units place
      by_grown on unit is (Ok mid) at later =
          Behind unit (its_section unit) closed.units mid.units place is refl (words_leave unit (its_identity unit) (its_words unit) closed mid (sym (unit_comes unit closed) ∙ at)) (on mid later)
      by_grown on unit is (Err fault) at later = absurd (none_of [] path refl later)

      by_at : ((mid : Closed) → Contains ((closed_from more (place + 1) mid).cells t) path → UnitsLook t path mid.units (place + 1)) → (at : Option (List ℕ)) → slice_get closed.units place ≡ at
          → Contains ((with_unit_at (closed_from more (place + 1)) closed at).cells t) path → UnitsLook t path closed.units place
      by_at on None is here = absurd (none_of [] path refl here)
      by_at on (Some unit) is here = elim (Contains-append_cases ((with_unit unit closed).cells t) ((rest_from more place ((with_unit unit closed).conclusion t)).cells t) path here) [
        | inl own ↦ elim (Contains-append_cases ((section_of unit).cells t) ((with_words unit (its_identity unit) (its_words unit) closed).cells t) path (subst (λ cells. Contains cells path) (unit_cells unit closed) own)) [
          | inl up ↦ Itself unit closed.units place is ((looks_as_find unit t path).0 up)
          | inr word ↦ ItsWord unit (its_section unit) closed.units place is refl (words_only unit (its_identity unit) (its_words unit) closed path word)
        ]
        | inr later ↦ by_grown on unit is ((with_unit unit closed).conclusion t) refl later
      ]

  place_within : (units : List (List ℕ)) (place : ℕ) (unit : List ℕ) → slice_get units place ≡ Some unit → place < length units
  place_within units place unit is = elim (slice_get_cases units place).1 [
    | inl at ↦ at.1
    | inr past ↦ (let both : None ≡ Some unit = sym past.1 ∙ is in cc)
  ]

  unit_at : (units : List (List ℕ)) (place : ℕ) (path : List ℕ) → UnitsLook t path units place → (unit : List ℕ) × (slice_get units place ≡ Some unit)
  unit_at units place path (Itself unit _ _ is up) = (unit, is)
  unit_at units place path (ItsWord unit section _ _ is at words) = (unit, is)
  unit_at units place path (Behind unit section _ more _ is at leave rest) = (unit, is)

  -- what is looked at of one unit
  in_unit : (more place : ℕ) (closed : Closed) (path unit : List ℕ) → slice_get closed.units place ≡ Some unit
      → Contains ((section_of unit).cells t ++ (with_words unit (its_identity unit) (its_words unit) closed).cells t) path → Contains ((closed_from (suc more) place closed).cells t) path
  unfolding closed_from
  in_unit more place closed path unit is here =
      subst (λ at. Contains ((with_unit_at (closed_from more (place + 1)) closed at).cells t) path) (sym is)
      (Contains-append_left ((with_unit unit closed).cells t) ((rest_from more place ((with_unit unit closed).conclusion t)).cells t) path
      (subst (λ cells. Contains cells path) (sym (unit_cells unit closed)) here))

  -- and of those after it
  in_rest : (more place : ℕ) (closed last : Closed) (path unit : List ℕ) → slice_get closed.units place ≡ Some unit
      → (with_words unit (its_identity unit) (its_words unit) closed).conclusion t ≡ fine last → Contains ((closed_from more (place + 1) last).cells t) path → Contains ((closed_from (suc more) place closed).cells t) path
  unfolding closed_from
  in_rest more place closed last path unit is comes here =
      subst (λ at. Contains ((with_unit_at (closed_from more (place + 1)) closed at).cells t) path) (sym is)
      (Contains-append_right ((with_unit unit closed).cells t) ((rest_from more place ((with_unit unit closed).conclusion t)).cells t) path
      (subst (λ grown. Contains ((rest_from more place grown).cells t) path) (sym (unit_comes unit closed ∙ comes)) here))

  units_all : (more place : ℕ) (units : List (List ℕ)) (closed : Closed) (path : List ℕ) → closed.units ≡ units → more + place ≡ 1024 → length units ≤ 1024 → UnitsLook t path units place
      → Contains ((closed_from more place closed).cells t) path
  units_all zero place units closed path same sum within look =
      let at = unit_at units place path look in
      let less : place < length units = place_within units place at.0 at.1 in
      absurd (omega arith)
  units_all (suc more) place units closed path same sum within (Itself unit _ _ is up) =
      in_unit more place closed path unit (ap (λ units. slice_get units place) same ∙ is)
      (Contains-append_left ((section_of unit).cells t) ((with_words unit (its_identity unit) (its_words unit) closed).cells t) path ((looks_as_find unit t path).1 up))
  units_all (suc more) place units closed path same sum within (ItsWord unit section _ _ is at words) =
      in_unit more place closed path unit (ap (λ units. slice_get units place) same ∙ is)
      (Contains-append_right ((section_of unit).cells t) ((with_words unit (its_identity unit) (its_words unit) closed).cells t) path
      (words_all unit (its_identity unit) (its_words unit) units closed path same (subst (λ section. WordsLook t (identity_by unit section) path (also_of section) units) (sym at) words)))
  units_all (suc more) place units closed path same sum within (Behind unit section _ next _ is at leave rest) =
      let leaves : WordsLeave t (its_identity unit) (its_words unit) units next = subst (λ section. WordsLeave t (identity_by unit section) (also_of section) units next) (sym at) leave in
      let last = words_come unit (its_identity unit) (its_words unit) units next closed same leaves in
      in_rest more place closed last.0 path unit (ap (λ units. slice_get units place) same ∙ is) last.1
      (units_all more (place + 1) next last.0 path last.2 (omega arith) (words_within unit (its_identity unit) (its_words unit) units next leaves within) rest)

-- the given units aren't too many
given_within : (names units more : List (List ℕ)) → all_joined names units ≡ these more → length units ≤ 1024 → length more ≤ 1024
given_within [] units more is within = subst (λ units. length units ≤ 1024) (same_units units more is) within
given_within (name ∷ names) units more is within = by_joined (λ mid. given_within names mid more) (joined units name) refl is
  where
    by_joined : ((mid : List (List ℕ)) → all_joined names mid ≡ these more → length mid ≤ 1024 → length more ≤ 1024) → (one : Units) → joined units name ≡ one
        → and_then (all_joined names) one ≡ these more → length more ≤ 1024
    by_joined on (Ok mid) at is = on mid is (joined_within units mid name at within)
    by_joined on (Err fault) at is = cc

abbrev begun : List (List ℕ) → Closed
begun units = record { units = units; notices = map.empty }

abbrev from_given : Units → Search Came
from_given units = unless_too_many (closed_from 1024 0) (and_then (closed_with map.empty) units)

pub closure_looks_in_order : ClosureLooksInOrder
unfolding closure
closure_looks_in_order given t path = (
  by_given (all_joined given []) refl,
  λ at. subst (λ units. Contains ((from_given units).cells t) path) (sym at.1)
      (units_all t 1024 0 at.0 (begun at.0) path refl refl (given_within given [] at.0 at.1 (omega arith)) at.2),
)
  where
    by_given : (units : Units) → all_joined given [] ≡ units → Contains ((from_given units).cells t) path → IsDiscoveredAt given t path
    by_given (Ok units) is here = (units, is, units_only t 1024 0 (begun units) path here)
    by_given (Err fault) is here = absurd (none_of [] path refl here)
