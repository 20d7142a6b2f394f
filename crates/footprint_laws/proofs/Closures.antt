-- The paths that a closure looks at.
use Rattle.std.proofs.Common.{◌≡◌, ◌≤◌, ◌<◌, ◌+◌, ℕ, zero, suc, List, [], ◌∷◌, ◌++◌, Option, Some, None, Result, Ok, Err, get_or, nat_lt, length, length-append, All, Contains, refl, sym, ap, subst, ◌∙◌, inl, inr, arith, ◌⊎◌}
use Rattle.std.specs.FinMap as map
use Rattle.std.specs.List.{list_any}
use Rattle.std.specs.Str.{bytes_eq}
use Rattle.std.proofs.lemmas.Bool.{cases_Bool}
use Rattle.std.proofs.lemmas.Bool.Decides.{nat_tests}
use Rattle.std.proofs.lemmas.List.{append-nil, append_assoc, get_or_append_left, get_or_default}
use Rattle.std.proofs.lemmas.Option.{slice_get_cases}
use Rattle.std.proofs.lemmas.List.Elements.{All-nil, All-cons, All-append, All-contains, Contains-append_left, Contains-append_right, Contains-append_cases}
use Rattle.unit_file.specs.declared.notice.Reason.{Reason}
use Rattle.unit_file.specs.declared.notice.Reason.TheVariants.{IsAlias}
use Rattle.unit_paths.specs.declared.place.Place.{Place}
use Rattle.link_tree.specs.Trees.{Entries}
use Rattle.link_tree.proofs.Changed.{same_bytes}
use Rattle.load_path.specs.declared.finding.Found.{Found}
use Rattle.load_path.specs.declared.finding.Found.TheVariants as founds
use Rattle.load_path.specs.Search.{Search}
use Rattle.load_path.specs.Find.{find}
use Rattle.install_section.specs.declared.section.Section.{Section}
use Rattle.install_section.specs.declared.closed.Closed.{Closed}
use Rattle.install_section.specs.declared.closed.ClosureFault.{ClosureFault}
use Rattle.install_section.specs.Words.{named_by}
use Rattle.install_section.specs.Sections.{section_of, identity_in}
use Rattle.install_section.specs.Closure.{IsUnit, Reached, why_not, joined, and_then, all_joined, closed_with, joined_unless, with_name, unless_too_many, with_words, with_section, with_unit, with_unit_at, closed_from, closure}
use Rattle.install_section.specs.Closure.Reached.{Given, Named}
use Rattle.install_section.proofs.Least.{some_is, none_of, first_or_later, is_first, is_later, closure_least}
use Rattle.install_section.proofs.LooksAsFind.{looks_as_find}
use Rattle.footprint_laws.specs.Sets.{IsLookedUp, Mentions, IsLookedUpWith}
use Rattle.footprint_laws.specs.Sets.IsLookedUpWith.{Itself, ItsWord}

-- a name is a unit's where there is no reason why not
pub itself : (name : List ℕ) (found : Found) → why_not name found ≡ None → (file : List ℕ) × (place : Place) × (found ≡ founds.Unit name file place)
itself name founds.Missing h = absurd (cc)
itself name (founds.Masked place) h = absurd (cc)
itself name (founds.Dangling link) h = absurd (cc)
itself name (founds.Unit real file place) h = elim (cases_Bool (bytes_eq real name)) [
  | inl same ↦ (file, place, ap (λ real. founds.Unit real file place) (same_bytes real name same))
  | inr other ↦ (let e : Some IsAlias ≡ None = rw other at h in absurd (cc))
]

-- `Looks` has the paths at which may be looked, and `In` the units that may join.
module _ (t : Entries) (In : List ℕ → Type 0) (Looks : List ℕ → Type 0) where
  -- units of the set, not too many
  record Held (units : List (List ℕ)) : Type 0 where
    all_in : All In units
    within : length units ≤ 1024

  -- a step is through: all that it sees has been looked at, and the units are as before, or more
  record Seen (Sees : List ℕ → Type 0) (closed more : Closed) (cells : List (List ℕ)) : Type 0 where
    kept : (extra : List (List ℕ)) × (more.units ≡ closed.units ++ extra)
    held : Held more.units
    sees : (path : List ℕ) → Sees path → Contains cells path

  abbrev Comes : (Sees : List ℕ → Type 0) → Closed → List (List ℕ) → Result Closed ClosureFault → Type 0
  Comes Sees closed cells (Ok more) = Seen Sees closed more cells
  Comes Sees closed cells (Err fault) = Unit {0}

  -- A step looks at no other paths, and at all that it sees unless the units are too many.
  record Walks (Sees : List ℕ → Type 0) (closed : Closed) (s : Search (Result Closed ClosureFault)) : Type 0 where
    only : (path : List ℕ) → Contains (s.cells t) path → Looks path
    comes : Comes Sees closed (s.cells t) (s.conclusion t)

  -- nothing is seen
  stays : (Sees : List ℕ → Type 0) (closed more : Closed) → more.units ≡ closed.units → Held closed.units → ((path : List ℕ) → Sees path → ⊥) → Seen Sees closed more []
  stays Sees closed more same held none = record {
    kept = ([], same ∙ sym (append-nil closed.units));
    held = subst Held (sym same) held;
    sees = λ path sees. absurd (none path sees);
  }

  module _ (A B Both : List ℕ → Type 0) (closed : Closed) (next : Closed → Search (Result Closed ClosureFault)) (either : (path : List ℕ) → Both path → A path ⊎ B path)
      (later : (mid : Closed) → Held mid.units → Walks B mid (next mid)) where
    then_only : (cells : List (List ℕ)) (r : Result Closed ClosureFault) → Comes A closed cells r → ((path : List ℕ) → Contains cells path → Looks path)
        → (path : List ℕ) → Contains (cells ++ (unless_too_many next r).cells t) path → Looks path
    then_only cells (Ok mid) seen only path here = elim (Contains-append_cases cells ((next mid).cells t) path here) [
      | inl before ↦ only path before
      | inr after ↦ (later mid seen.held).only path after
    ]
    then_only cells (Err fault) seen only path here = only path (subst (λ cells. Contains cells path) (append-nil cells) here)

    then_more : (cells : List (List ℕ)) (mid : Closed) (more : List (List ℕ)) (r : Result Closed ClosureFault) → Seen A closed mid cells → Comes B mid more r → Comes Both closed (cells ++ more) r
    then_more cells mid more (Ok last) first second = record {
      kept = (first.kept.0 ++ second.kept.0, second.kept.1 ∙ ap (λ units. units ++ second.kept.0) first.kept.1 ∙ append_assoc closed.units first.kept.0 second.kept.0);
      held = second.held;
      sees = λ path both. elim (either path both) [
        | inl a ↦ Contains-append_left cells more path (first.sees path a)
        | inr b ↦ Contains-append_right cells more path (second.sees path b)
      ];
    }
    then_more cells mid more (Err fault) first second = tt

    then_comes : (cells : List (List ℕ)) (r : Result Closed ClosureFault) → Comes A closed cells r → Comes Both closed (cells ++ (unless_too_many next r).cells t) ((unless_too_many next r).conclusion t)
    then_comes cells (Ok mid) first = then_more cells mid ((next mid).cells t) ((next mid).conclusion t) first (later mid first.held).comes
    then_comes cells (Err fault) first = tt

  -- the same set in other words
  comes_as : (A B : List ℕ → Type 0) (closed : Closed) (cells : List (List ℕ)) (r : Result Closed ClosureFault) → ((path : List ℕ) → B path → A path) → Comes A closed cells r → Comes B closed cells r
  comes_as A B closed cells (Ok more) back seen = record { kept = seen.kept; held = seen.held; sees = λ path b. seen.sees path (back path b) }
  comes_as A B closed cells (Err fault) back seen = tt

  -- a name of the set joins
  joins : (Sees : List ℕ → Type 0) (cells : List (List ℕ)) (closed : Closed) (name : List ℕ) → Held closed.units → In name → ((path : List ℕ) → Sees path → Contains cells path)
      → Comes Sees closed cells (and_then (closed_with closed.notices) (joined closed.units name))
  unfolding joined
  joins Sees cells closed name held in_set sees = elim (cases_Bool (list_any (bytes_eq name) closed.units)) [
    | inl there ↦ rw there (record { kept = ([], sym (append-nil closed.units)); held = held; sees = sees })
    | inr new ↦ elim (cases_Bool (nat_lt (length closed.units) 1024)) [
      | inl room ↦
          let less : length closed.units < 1024 = grind (arith, nat_tests) in
          let long : length (closed.units ++ name ∷ []) ≡ length closed.units + 1 = length-append closed.units (name ∷ []) in
          rw new (rw room (record {
            kept = (name ∷ [], refl);
            held = record { all_in = All-append In closed.units (name ∷ []) held.all_in (All-cons In name [] in_set (All-nil In)); within = omega arith };
            sees = sees;
          }))
      | inr full ↦ rw new (rw full tt)
    ]
  ]

  module _ (unit identity : List ℕ) where
    -- where a word is looked up
    abbrev WordSees : (word path : List ℕ) → Type 0
    WordSees word path = (name : List ℕ) × (named_by identity word ≡ Ok name) × IsLookedUp t name path

    module _ (word : List ℕ) (closed : Closed) (held : Held closed.units) (looks : (path : List ℕ) → WordSees word path → Looks path)
        (names : (name : List ℕ) → named_by identity word ≡ Ok name → IsUnit t name → In name) where
      by_reason : (name : List ℕ) (why : Option Reason) → named_by identity word ≡ Ok name → why_not name ((find name).conclusion t) ≡ why → ((path : List ℕ) → WordSees word path → IsLookedUp t name path)
          → Comes (WordSees word) closed ((find name).cells t) (joined_unless unit word name closed why)
      by_reason name None is why sees = joins (WordSees word) ((find name).cells t) closed name held (names name is (itself name ((find name).conclusion t) why)) sees
      by_reason name (Some reason) is why sees = record { kept = ([], sym (append-nil closed.units)); held = held; sees = sees }

      word_walks : (named : Result (List ℕ) Reason) → named_by identity word ≡ named → Walks (WordSees word) closed (with_name unit word closed named)
      word_walks (Ok name) is = record {
        only = λ path here. looks path (name, is, here);
        comes = by_reason name (why_not name ((find name).conclusion t)) is refl
            (λ path seen. let same : Ok seen.0 ≡ Ok name = sym seen.1 ∙ is in let at : seen.0 ≡ name = cc in subst (λ name. IsLookedUp t name path) at seen.2);
      }
      word_walks (Err reason) is = record {
        only = λ path here. absurd (none_of [] path refl here);
        comes = stays (WordSees word) closed _ refl held (λ path seen. let never : Ok seen.0 ≡ Err reason = sym seen.1 ∙ is in cc);
      }

    abbrev WordsSee : (words : List (List ℕ)) (path : List ℕ) → Type 0
    WordsSee words path = (word : List ℕ) × Contains words word × WordSees word path

    words_walk : (words : List (List ℕ)) (closed : Closed) → Held closed.units → ((path : List ℕ) → WordsSee words path → Looks path)
        → ((word name : List ℕ) → Contains words word → named_by identity word ≡ Ok name → IsUnit t name → In name) → Walks (WordsSee words) closed (with_words unit identity words closed)
    words_walk [] closed held looks names = record {
      only = λ path here. absurd (none_of [] path refl here);
      comes = stays (WordsSee []) closed closed refl held (λ path seen. none_of [] seen.0 refl seen.1);
    }
    words_walk (word ∷ words) closed held looks names =
        let first = word_walks word closed held (λ path seen. looks path (word, is_first word words word refl, seen)) (λ name. names word name (is_first word words word refl)) (named_by identity word) refl in
        let later : (mid : Closed) → Held mid.units → Walks (WordsSee words) mid (with_words unit identity words mid) =
        λ mid held. words_walk words mid held (λ path seen. looks path (seen.0, is_later word words seen.0 seen.1, seen.2)) (λ other name here. names other name (is_later word words other here)) in
        let either : (path : List ℕ) → WordsSee (word ∷ words) path → WordSees word path ⊎ WordsSee words path = λ path seen. elim (first_or_later word words seen.0 seen.1.0 seen.1.1 seen.1.2) [
          | inl at ↦ inl (subst (λ word. WordSees word path) at seen.2)
          | inr behind ↦ inr (seen.0, behind, seen.2)
        ] in
        let s = with_name unit word closed (named_by identity word) in
        record {
          only = then_only (WordSees word) (WordsSee words) (WordsSee (word ∷ words)) closed (with_words unit identity words) either later (s.cells t) (s.conclusion t) first.comes first.only;
          comes = then_comes (WordSees word) (WordsSee words) (WordsSee (word ∷ words)) closed (with_words unit identity words) either later (s.cells t) (s.conclusion t) first.comes;
        }

  -- where a unit is looked up with its words
  abbrev UnitSees : (unit path : List ℕ) → Type 0
  UnitSees unit path = IsLookedUp t unit path ⊎ ((name : List ℕ) × Mentions t unit name × IsLookedUp t name path)

  module _ (reaches : (unit name : List ℕ) → In unit → Mentions t unit name → IsUnit t name → In name) (looks : (unit path : List ℕ) → In unit → UnitSees unit path → Looks path) where
    section_walks : (unit : List ℕ) (closed : Closed) (section : Option Section) → In unit → Held closed.units → (section_of unit).conclusion t ≡ section
        → Walks (λ path. (name : List ℕ) × Mentions t unit name × IsLookedUp t name path) closed (with_section unit closed section)
    section_walks unit closed None in_set held is = record {
      only = λ path here. absurd (none_of [] path refl here);
      comes = stays _ closed closed refl held (λ path seen. let none : None ≡ Some seen.1.1 = sym is ∙ seen.1.2.0 in cc);
    }
    section_walks unit closed (Some section) in_set held is =
        let identity : List ℕ = identity_in unit section in
        let walks = words_walk unit identity section.text.also closed held
        (λ path seen. looks unit path in_set (inr (seen.2.0, (seen.0, section, (is, seen.1), seen.2.1), seen.2.2)))
        (λ word name here named own. reaches unit name in_set (word, section, (is, here), named) own) in
        record {
          only = walks.only;
          comes = comes_as (WordsSee unit identity section.text.also) (λ path. (name : List ℕ) × Mentions t unit name × IsLookedUp t name path) closed
              ((with_words unit identity section.text.also closed).cells t) ((with_words unit identity section.text.also closed).conclusion t)
              (λ path seen.
              let at : seen.1.1 ≡ section = some_is seen.1.1 section (sym seen.1.2.0 ∙ is) in
              (seen.1.0, subst (λ (s : Section). Contains s.text.also seen.1.0) at seen.1.2.1, (seen.0, subst (λ (s : Section). named_by (identity_in unit s) seen.1.0 ≡ Ok seen.0) at seen.1.3, seen.2)))
              walks.comes;
        }

    unit_walks : (unit : List ℕ) (closed : Closed) → In unit → Held closed.units → Walks (UnitSees unit) closed (with_unit unit closed)
    unfolding with_unit
    unit_walks unit closed in_set held =
        let section = (section_of unit).conclusion t in
        let its = (section_of unit).cells t in
        let rest = section_walks unit closed section in_set held refl in
        record {
          only = λ path here. elim (Contains-append_cases its ((with_section unit closed section).cells t) path here) [
            | inl before ↦ looks unit path in_set (inl ((looks_as_find unit t path).0 before))
            | inr after ↦ rest.only path after
          ];
          comes = with_its ((with_section unit closed section).conclusion t) rest.comes;
        }
      where
        with_its : (r : Result Closed ClosureFault) → Comes (λ path. (name : List ℕ) × Mentions t unit name × IsLookedUp t name path) closed ((with_section unit closed ((section_of unit).conclusion t)).cells t) r
            → Comes (UnitSees unit) closed ((section_of unit).cells t ++ (with_section unit closed ((section_of unit).conclusion t)).cells t) r
        with_its (Ok more) seen = record {
          kept = seen.kept;
          held = seen.held;
          sees = λ path sees. elim sees [
            | inl own ↦ Contains-append_left ((section_of unit).cells t) _ path ((looks_as_find unit t path).1 own)
            | inr word ↦ Contains-append_right ((section_of unit).cells t) _ path (seen.sees path word)
          ];
        }
        with_its (Err fault) seen = tt

    -- all is seen of each unit from a place on
    record SeenFrom (place : ℕ) (closed more : Closed) (cells : List (List ℕ)) : Type 0 where
      kept : (extra : List (List ℕ)) × (more.units ≡ closed.units ++ extra)
      sees : (k : ℕ) (unit path : List ℕ) → place ≤ k → k < length more.units → get_or more.units k unit ≡ unit → UnitSees unit path → Contains cells path

    abbrev Ends : ℕ → Closed → List (List ℕ) → Result Closed ClosureFault → Type 0
    Ends place closed cells (Ok more) = SeenFrom place closed more cells
    Ends place closed cells (Err fault) = Unit {0}

    record WalksOn (place : ℕ) (closed : Closed) (s : Search (Result Closed ClosureFault)) : Type 0 where
      only : (path : List ℕ) → Contains (s.cells t) path → Looks path
      ends : Ends place closed (s.cells t) (s.conclusion t)

    none_left : (place : ℕ) (closed : Closed) → length closed.units ≤ place → SeenFrom place closed closed []
    none_left place closed all = record { kept = ([], sym (append-nil closed.units)); sees = λ k unit path from within. absurd (omega arith) }

    -- one unit, and those after it
    module _ (place : ℕ) (closed : Closed) (unit : List ℕ) (inside : place < length closed.units) (is : get_or closed.units place unit ≡ unit) where
      its : (mid more : Closed) → ((extra : List (List ℕ)) × (mid.units ≡ closed.units ++ extra)) → ((extra : List (List ℕ)) × (more.units ≡ mid.units ++ extra)) → (other : List ℕ) → get_or more.units place other ≡ other → other ≡ unit
      its mid more kept later other at =
          let all : more.units ≡ closed.units ++ (kept.0 ++ later.0) = later.1 ∙ ap (λ units. units ++ later.0) kept.1 ∙ append_assoc closed.units kept.0 later.0 in
          let here : get_or closed.units place other ≡ other = sym (ap (λ units. get_or units place other) all ∙ get_or_append_left closed.units (kept.0 ++ later.0) other place inside) ∙ at in
          sym here ∙ get_or_default closed.units place other unit inside ∙ is

      both_end : (cells more_cells : List (List ℕ)) (mid : Closed) (r : Result Closed ClosureFault) → Seen (UnitSees unit) closed mid cells → Ends (place + 1) mid more_cells r → Ends place closed (cells ++ more_cells) r
      both_end cells more_cells mid (Ok more) first rest = record {
        kept = (first.kept.0 ++ rest.kept.0, rest.kept.1 ∙ ap (λ units. units ++ rest.kept.0) first.kept.1 ∙ append_assoc closed.units first.kept.0 rest.kept.0);
        sees = λ k other path from within at sees. elim (cases_Bool (nat_lt place k)) [
          | inl less ↦ (let behind : place + 1 ≤ k = grind (arith, nat_tests) in Contains-append_right cells more_cells path (rest.sees k other path behind within at sees))
          | inr not_less ↦
              let same : place ≡ k = grind (arith, nat_tests) in
              let own : other ≡ unit = its mid more first.kept rest.kept other (subst (λ k. get_or more.units k other ≡ other) (sym same) at) in
              Contains-append_left cells more_cells path (first.sees path (subst (λ unit. UnitSees unit path) own sees))
        ];
      }
      both_end cells more_cells mid (Err fault) first rest = tt

      on_from : (next : Closed → Search (Result Closed ClosureFault)) → ((mid : Closed) → Held mid.units → WalksOn (place + 1) mid (next mid)) → (cells : List (List ℕ)) (r : Result Closed ClosureFault)
          → Comes (UnitSees unit) closed cells r → ((path : List ℕ) → Contains cells path → Looks path)
          → ((path : List ℕ) → Contains (cells ++ (unless_too_many next r).cells t) path → Looks path) × Ends place closed (cells ++ (unless_too_many next r).cells t) ((unless_too_many next r).conclusion t)
      on_from next later cells (Ok mid) first only = let rest = later mid first.held in (
        λ path here. elim (Contains-append_cases cells ((next mid).cells t) path here) [ inl before ↦ only path before | inr after ↦ rest.only path after ],
        both_end cells ((next mid).cells t) mid ((next mid).conclusion t) first rest.ends,
      )
      on_from next later cells (Err fault) first only = (λ path here. only path (subst (λ cells. Contains cells path) (append-nil cells) here), tt)

    walks_on : (more place : ℕ) (closed : Closed) → more + place ≡ 1024 → Held closed.units → WalksOn place closed (closed_from more place closed)
    unfolding closed_from
    walks_on zero place closed sum held = let within = held.within in record { only = λ path here. absurd (none_of [] path refl here); ends = none_left place closed (omega arith) }
    walks_on (suc more) place closed sum held = elim (slice_get_cases closed.units place).1 [
      | inr past ↦ subst (λ o. WalksOn place closed (with_unit_at (closed_from more (place + 1)) closed o)) (sym past.1)
          (record { only = λ path here. absurd (none_of [] path refl here); ends = none_left place closed past.0 })
      | inl at ↦
          let unit : List ℕ = at.0 in
          let in_set : In unit = All-contains In closed.units unit held.all_in (place, at.1, at.3) in
          let first = unit_walks unit closed in_set held in
          let both = on_from place closed unit at.1 at.3 (closed_from more (place + 1)) (λ mid held. walks_on more (place + 1) mid (omega arith) held)
          ((with_unit unit closed).cells t) ((with_unit unit closed).conclusion t) first.comes first.only in
          subst (λ o. WalksOn place closed (with_unit_at (closed_from more (place + 1)) closed o)) (sym at.2) (record { only = both.0; ends = both.1 })
    ]

  -- the given names join
  given_join : (names : List (List ℕ)) (closed : Closed) → Held closed.units → ((name : List ℕ) → Contains names name → In name) → Comes (λ path. ⊥) closed [] (and_then (closed_with closed.notices) (all_joined names closed.units))
  given_join [] closed held in_set = stays (λ path. ⊥) closed _ refl held (λ path no. no)
  given_join (name ∷ names) closed held in_set =
      by_joined (joined closed.units name) (joins (λ path. ⊥) [] closed name held (in_set name (is_first name names name refl)) (λ path no. absurd no))
      (λ units held. given_join names (record { units = units; notices = closed.notices }) held (λ other here. in_set other (is_later name names other here)))
    where
      after : (units : List (List ℕ)) → Seen (λ path. ⊥) closed (record { units = units; notices = closed.notices }) [] → (r : Result Closed ClosureFault)
          → Comes (λ path. ⊥) (record { units = units; notices = closed.notices }) [] r → Comes (λ path. ⊥) closed [] r
      after units first (Ok more) second = record {
        kept = (first.kept.0 ++ second.kept.0, second.kept.1 ∙ ap (λ units. units ++ second.kept.0) first.kept.1 ∙ append_assoc closed.units first.kept.0 second.kept.0);
        held = second.held;
        sees = λ path no. absurd no;
      }
      after units first (Err fault) second = tt

      by_joined : (r : Result (List (List ℕ)) ClosureFault) → Comes (λ path. ⊥) closed [] (and_then (closed_with closed.notices) r)
          → ((units : List (List ℕ)) → Held units → Comes (λ path. ⊥) (record { units = units; notices = closed.notices }) [] (and_then (closed_with closed.notices) (all_joined names units)))
          → Comes (λ path. ⊥) closed [] (and_then (closed_with closed.notices) (and_then (all_joined names) r))
      by_joined (Ok units) first rest = after units first (and_then (closed_with closed.notices) (all_joined names units)) (rest units first.held)
      by_joined (Err fault) first rest = tt

module _ (t : Entries) (given : List (List ℕ)) where
  -- where the closure looks
  abbrev Paths : List ℕ → Type 0
  Paths path = IsLookedUpWith t (Reached t given) path

  reaches : (unit name : List ℕ) → Reached t given unit → Mentions t unit name → IsUnit t name → Reached t given name
  reaches unit name reached word own = Named unit name reached (word.0, word.1, word.2, word.3, own)

  looks : (unit path : List ℕ) → Reached t given unit → UnitSees t (Reached t given) Paths unit path → Paths path
  looks unit path reached (inl own) = Itself unit reached own
  looks unit path reached (inr word) = ItsWord unit word.0 reached word.1 word.2

  abbrev nothing : Closed
  nothing = record { units = []; notices = map.empty }

  -- a closure that was refused has looked at no other paths, and one that wasn't at all of them
  abbrev Whole : List (List ℕ) → Result Closed ClosureFault → Type 0
  Whole cells r = ((path : List ℕ) → Contains cells path → Paths path)
      × ((closed : Closed) → r ≡ Ok closed → (unit path : List ℕ) → Contains closed.units unit → UnitSees t (Reached t given) Paths unit path → Contains cells path)

  whole : Whole ((closure given).cells t) ((closure given).conclusion t)
  unfolding closure
  whole = by_given (and_then (closed_with map.empty) (all_joined given []))
      (given_join t (Reached t given) Paths given nothing (record { all_in = All-nil (Reached t given); within = omega arith }) (λ name here. Given name here))
    where
      by_end : (mid : Closed) (cells : List (List ℕ)) (r : Result Closed ClosureFault) → Ends t (Reached t given) Paths reaches looks 0 mid cells r
          → (closed : Closed) → r ≡ Ok closed → (unit path : List ℕ) → Contains closed.units unit → UnitSees t (Reached t given) Paths unit path → Contains cells path
      by_end mid cells (Ok more) ends closed is unit path here sees =
          let same : more ≡ closed = cc in
          let at : Contains more.units unit = subst (λ (c : Closed). Contains c.units unit) (sym same) here in
          ends.sees at.0 unit path (omega arith) at.1 at.2 sees
      by_end mid cells (Err fault) ends closed is unit path here sees = cc

      by_given : (r : Result Closed ClosureFault) → Comes t (Reached t given) Paths (λ path. ⊥) nothing [] r
          → Whole ((unless_too_many (closed_from 1024 0) r).cells t) ((unless_too_many (closed_from 1024 0) r).conclusion t)
      by_given (Ok mid) first =
          let walk = walks_on t (Reached t given) Paths reaches looks 1024 0 mid refl first.held in
          (walk.only, by_end mid ((closed_from 1024 0 mid).cells t) ((closed_from 1024 0 mid).conclusion t) walk.ends)
      by_given (Err fault) first = (λ path here. absurd (none_of [] path refl here), λ closed is. cc)

  pub closure_looks_only : (path : List ℕ) → Contains ((closure given).cells t) path → IsLookedUpWith t (Reached t given) path
  closure_looks_only = whole.0

  pub closure_looks_all : (closed : Closed) → (closure given).conclusion t ≡ Ok closed → (path : List ℕ) → IsLookedUpWith t (Reached t given) path → Contains ((closure given).cells t) path
  closure_looks_all closed is path (Itself unit reached own) = whole.1 closed is unit path (((closure_least given t closed is).1 unit).1 reached) (inl own)
  closure_looks_all closed is path (ItsWord unit name reached word own) = whole.1 closed is unit path (((closure_least given t closed is).1 unit).1 reached) (inr (name, word, own))
