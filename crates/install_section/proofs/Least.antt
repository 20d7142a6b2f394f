-- The closure is the least set.
use Rattle.std.proofs.Common.{◌≡◌, ◌≤◌, ◌<◌, ◌+◌, ℕ, zero, suc, Bool, true, false, cond, List, [], ◌∷◌, ◌++◌, Option, Some, None, Result, Ok, Err, is_some, get_or, nat_lt, length, length-append, All, Contains, refl, sym, ap, subst, ◌∙◌, inl, inr, arith, ◌⊎◌, ◌↔◌}
use Rattle.std.specs.FinMap as map
use Rattle.std.specs.Cmp.Lexicographic.{nat_list_eq_equiv, nat_list_cmp_total}
use Rattle.std.specs.Cmp.{tied_itself}
use Rattle.std.specs.Ordering.{is_eq}
use Rattle.std.specs.List.{list_any, IsDistinct}
use Rattle.std.specs.Str.{bytes_eq}
use Rattle.std.proofs.lemmas.Bool.{cases_Bool, false≢true}
use Rattle.std.proofs.lemmas.Bool.Decides.{nat_tests}
use Rattle.std.proofs.lemmas.List.{append-nil, append_assoc, get_or_append_left, get_or_default}
use Rattle.std.proofs.lemmas.Option.{slice_get_cases}
use Rattle.std.proofs.lemmas.List.Elements.{All-nil, All-cons, All-append, All-contains, Contains-append_left, Contains-push}
use Rattle.std.proofs.lemmas.Map.Keys.{IsDistinct-push}
use Rattle.std.proofs.lemmas.Map.Views.{Contains-from_any, list_any-from_Contains}
use Rattle.std.proofs.lemmas.Map.Made.{length-le_from_is_member}
use Rattle.unit_file.specs.declared.notice.Notice.{Notice}
use Rattle.unit_file.specs.declared.notice.NoticeKey.TheVariants.{Also}
use Rattle.unit_file.specs.declared.notice.Reason.{Reason}
use Rattle.unit_file.specs.declared.notice.Reason.TheVariants.{IsAlias}
use Rattle.unit_file.specs.Notices.{NoticeMap, line_cmp, notice_line, with_notice}
use Rattle.unit_paths.specs.declared.place.Place.{Place}
use Rattle.link_tree.specs.Trees.{Entries}
use Rattle.link_tree.proofs.Changed.{same_bytes, is_at}
use Rattle.link_tree.proofs.Shapes.{same_key}
use Rattle.load_path.specs.declared.finding.Found.{Found}
use Rattle.load_path.specs.declared.finding.Found.TheVariants.{Missing, Masked, Dangling, Unit}
use Rattle.load_path.specs.Search.{Search}
use Rattle.load_path.specs.Find.{find}
use Rattle.install_section.specs.declared.section.Section.{Section}
use Rattle.install_section.specs.declared.closed.Closed.{Closed}
use Rattle.install_section.specs.declared.closed.ClosureFault.{ClosureFault}
use Rattle.install_section.specs.declared.closed.ClosureFault.TheVariants.{TooMany}
use Rattle.install_section.specs.Words.{named_by, skipped}
use Rattle.install_section.specs.Sections.{section_of, identity_in}
use Rattle.install_section.specs.Closure.{IsUnit, Names, Reached, why_not, joined, and_then, all_joined, closed_with, skipping, joined_unless, with_name, unless_too_many, with_words, with_section, with_unit, with_unit_at, closed_from, closure}
use Rattle.install_section.specs.ClosureLaws.{IsNone, IsSkipped, ClosureIsLeast, RefusedWhereTooMany, NoticesAreOfSkippedWords, ComeToSame, AnyOrder}
use Rattle.install_section.specs.Closure.Reached.{Given, Named}

-- a name is a unit's exactly if there is no reason why it isn't
itself : (name : List ℕ) (found : Found) → why_not name found ≡ None → (file : List ℕ) × (place : Place) × (found ≡ Unit name file place)
itself name Missing h = absurd (cc)
itself name (Masked place) h = absurd (cc)
itself name (Dangling link) h = absurd (cc)
itself name (Unit real file place) h = elim (cases_Bool (bytes_eq real name)) [
  | inl same ↦ (file, place, ap (λ real. Unit real file place) (same_bytes real name same))
  | inr other ↦ (let e : Some IsAlias ≡ None = rw other at h in absurd (cc))
]

own_bytes : (text : List ℕ) → bytes_eq text text ≡ true
own_bytes text = nat_list_eq_equiv.refl text

its_own : (name file : List ℕ) (place : Place) (found : Found) → found ≡ Unit name file place → why_not name found ≡ None
its_own name file place found is = ap (why_not name) is ∙ rw (own_bytes name) refl

pub some_is : {X : Type 0} (x y : X) → Some x ≡ Some y → x ≡ y
some_is x y h = cc

pub none_of : {X : Type 0} (xs : List X) (x : X) → xs ≡ [] → Contains xs x → ⊥
none_of xs x none here = let lt = here.1 in omega (arith, ap length none)

pub first_or_later : {X : Type 0} (y : X) (ys : List X) (x : X) (k : ℕ) → k < length (y ∷ ys) → get_or (y ∷ ys) k x ≡ x → (x ≡ y) ⊎ Contains ys x
first_or_later y ys x zero lt is = inl (sym is)
first_or_later y ys x (suc k) lt is = inr (k, omega arith, is)

pub is_first : {X : Type 0} (y : X) (ys : List X) (x : X) → x ≡ y → Contains (y ∷ ys) x
is_first y ys x is = (0, omega arith, sym is)

pub is_later : {X : Type 0} (y : X) (ys : List X) (x : X) → Contains ys x → Contains (y ∷ ys) x
is_later y ys x h = let lt = h.1 in (suc h.0, omega arith, h.2)

-- Whether a line is in the notices.
abbrev pub IsTold : NoticeMap → List ℕ → Type 0
IsTold notices line = is_some (map.get notices line) ≡ true

pub still_told : (notices : NoticeMap) (notice : Notice) (line : List ℕ) → IsTold notices line → IsTold (with_notice notices notice) line
still_told notices notice line told = elim (cases_Bool (is_at line (notice_line notice))) [
  | inl at ↦ ap is_some (map.get-insert nat_list_cmp_total notices (notice_line notice) notice line ∙ ap (λ b. cond b (Some notice) (map.get notices line)) at)
  | inr away ↦ ap is_some (map.get-insert nat_list_cmp_total notices (notice_line notice) notice line ∙ ap (λ b. cond b (Some notice) (map.get notices line)) away) ∙ told
]

pub own_line : (line : List ℕ) → is_at line line ≡ true
own_line line = ap is_eq (tied_itself nat_list_cmp_total line)

pub now_told : (notices : NoticeMap) (notice : Notice) → IsTold (with_notice notices notice) (notice_line notice)
now_told notices notice = ap is_some (map.get-insert nat_list_cmp_total notices (notice_line notice) notice (notice_line notice) ∙ ap (λ b. cond b (Some notice) (map.get notices (notice_line notice))) (own_line (notice_line notice)))

module _ (In : List ℕ → Type 0) (Told : Notice → Type 0) where
  -- every notice is one of these, at its own line
  abbrev OnlyTold : NoticeMap → Type 0
  OnlyTold notices = (line : List ℕ) (notice : Notice) → map.get notices line ≡ Some notice → Told notice × (line ≡ notice_line notice)

  one_told : (notices : NoticeMap) (notice : Notice) → Told notice → OnlyTold notices → OnlyTold (with_notice notices notice)
  one_told notices notice told only line other there = elim (cases_Bool (is_at line (notice_line notice))) [
    | inl at ↦
        let same : notice ≡ other = some_is notice other (sym (map.get-insert nat_list_cmp_total notices (notice_line notice) notice line ∙ ap (λ b. cond b (Some notice) (map.get notices line)) at) ∙ there) in
        (subst Told same told, same_key line (notice_line notice) at ∙ ap notice_line same)
    | inr away ↦ only line other (sym (map.get-insert nat_list_cmp_total notices (notice_line notice) notice line ∙ ap (λ b. cond b (Some notice) (map.get notices line)) away) ∙ there)
  ]

  -- what is true before: the units are in the set, each once, not too many, and the notices are
  -- valid, too
  record Holds (closed : Closed) : Type 0 where
    all_in : All In closed.units
    once : IsDistinct bytes_eq closed.units
    within : length closed.units ≤ 1024
    only : OnlyTold closed.notices

  -- More units and notices than before: the result has the units that join and the notices about
  -- skipped words.
  record Grown (Joins : List ℕ → Type 0) (Skips : Notice → Type 0) (closed more : Closed) : Type 0 where
    kept : (extra : List (List ℕ)) × (more.units ≡ closed.units ++ extra)
    still : (line : List ℕ) → IsTold closed.notices line → IsTold more.notices line
    joins : (name : List ℕ) → Joins name → Contains more.units name
    skips : (notice : Notice) → Skips notice → IsTold more.notices (notice_line notice)
    holds : Holds more

  -- over 1,024 different names in the set
  abbrev TooManyIn : Type 0
  TooManyIn = (names : List (List ℕ)) × IsDistinct bytes_eq names × (length names ≡ 1025) × All In names

  -- the result of a step, by what joins and what is skipped: more units, or too many
  abbrev Comes : (Joins : List ℕ → Type 0) (Skips : Notice → Type 0) (closed : Closed) → Result Closed ClosureFault → Type 0
  Comes Joins Skips closed (Ok more) = Grown Joins Skips closed more
  Comes Joins Skips closed (Err TooMany) = TooManyIn

  still_in : (closed more : Closed) → ((extra : List (List ℕ)) × (more.units ≡ closed.units ++ extra)) → (name : List ℕ) → Contains closed.units name → Contains more.units name
  still_in closed more kept name here = subst (λ units. Contains units name) (sym kept.1) (Contains-append_left closed.units kept.0 name here)

  nothing_new : (Joins : List ℕ → Type 0) (Skips : Notice → Type 0) (closed : Closed) → Holds closed → ((name : List ℕ) → Joins name → Contains closed.units name)
      → ((notice : Notice) → Skips notice → ⊥) → Grown Joins Skips closed closed
  nothing_new Joins Skips closed holds there none = record {
    kept = ([], sym (append-nil closed.units));
    still = λ line told. told;
    joins = there;
    skips = λ notice skip. absurd (none notice skip);
    holds = holds;
  }

  -- first one step, and then another
  then_grown : (J K Both : List ℕ → Type 0) (S T AlsoBoth : Notice → Type 0) (closed mid more : Closed) → Grown J S closed mid → Grown K T mid more
      → ((name : List ℕ) → Both name → J name ⊎ K name) → ((notice : Notice) → AlsoBoth notice → S notice ⊎ T notice) → Grown Both AlsoBoth closed more
  then_grown J K Both S T AlsoBoth closed mid more f s by_name by_notice = record {
    kept = (f.kept.0 ++ s.kept.0, s.kept.1 ∙ ap (λ units. units ++ s.kept.0) f.kept.1 ∙ append_assoc closed.units f.kept.0 s.kept.0);
    still = λ line told. s.still line (f.still line told);
    joins = λ name both. elim (by_name name both) [ inl j ↦ still_in mid more s.kept name (f.joins name j) | inr k ↦ s.joins name k ];
    skips = λ notice both. elim (by_notice notice both) [ inl j ↦ s.still (notice_line notice) (f.skips notice j) | inr k ↦ s.skips notice k ];
    holds = s.holds;
  }

  then_more : (J K Both : List ℕ → Type 0) (S T AlsoBoth : Notice → Type 0) (closed mid : Closed) (r : Result Closed ClosureFault) → Grown J S closed mid → Comes K T mid r
      → ((name : List ℕ) → Both name → J name ⊎ K name) → ((notice : Notice) → AlsoBoth notice → S notice ⊎ T notice) → Comes Both AlsoBoth closed r
  then_more J K Both S T AlsoBoth closed mid (Ok more) f s by_name by_notice = then_grown J K Both S T AlsoBoth closed mid more f s by_name by_notice
  then_more J K Both S T AlsoBoth closed mid (Err TooMany) f s by_name by_notice = s

  then_comes : (t : Entries) (J K Both : List ℕ → Type 0) (S T AlsoBoth : Notice → Type 0) (closed : Closed) (r : Result Closed ClosureFault) (next : Closed → Search (Result Closed ClosureFault))
      → Comes J S closed r → ((mid : Closed) → Holds mid → Comes K T mid ((next mid).conclusion t))
      → ((name : List ℕ) → Both name → J name ⊎ K name) → ((notice : Notice) → AlsoBoth notice → S notice ⊎ T notice)
      → Comes Both AlsoBoth closed ((unless_too_many next r).conclusion t)
  then_comes t J K Both S T AlsoBoth closed (Ok mid) next f s by_name by_notice = then_more J K Both S T AlsoBoth closed mid ((next mid).conclusion t) f (s mid f.holds) by_name by_notice
  then_comes t J K Both S T AlsoBoth closed (Err TooMany) next f s by_name by_notice = f

  -- the same for equal sets
  comes_as : (J K : List ℕ → Type 0) (S T : Notice → Type 0) (closed : Closed) (r : Result Closed ClosureFault) → ((name : List ℕ) → K name → J name) → ((notice : Notice) → T notice → S notice)
      → Comes J S closed r → Comes K T closed r
  comes_as J K S T closed (Ok more) names notices g = record { kept = g.kept; still = g.still; joins = λ name k. g.joins name (names name k); skips = λ notice k. g.skips notice (notices notice k); holds = g.holds }
  comes_as J K S T closed (Err TooMany) names notices g = g

  -- a name of the set joins
  joins_one : (closed : Closed) (name : List ℕ) → Holds closed → In name → Comes (λ other. other ≡ name) (λ notice. ⊥) closed (and_then (closed_with closed.notices) (joined closed.units name))
  unfolding joined
  joins_one closed name holds in_set =
      let J : List ℕ → Type 0 = λ other. other ≡ name in
      let Goal : Result Closed ClosureFault → Type 0 = Comes J (λ notice. ⊥) closed in
      let full : Bool = nat_lt (length closed.units) 1024 in
      elim (list_any (bytes_eq name) closed.units) as (λ b. list_any (bytes_eq name) closed.units ≡ b → Goal (and_then (closed_with closed.notices) (cond b (Ok closed.units) (cond full (Ok (closed.units ++ name ∷ [])) (Err TooMany))))) [
        | true ↦ (λ there. nothing_new J (λ notice. ⊥) closed holds (λ other is. subst (Contains closed.units) (sym is) (Contains-from_any same_bytes name closed.units there)) (λ notice no. no))
        | false ↦ (λ new. elim full as (λ b. full ≡ b → Goal (and_then (closed_with closed.notices) (cond b (Ok (closed.units ++ name ∷ [])) (Err TooMany)))) [
          | true ↦ (λ room.
              let less : length closed.units < 1024 = grind (arith, nat_tests) in
              let long : length (closed.units ++ name ∷ []) ≡ length closed.units + 1 = length-append closed.units (name ∷ []) in
              record {
                kept = (name ∷ [], refl);
                still = λ line told. told;
                joins = λ other is. subst (Contains (closed.units ++ name ∷ [])) (sym is) (Contains-push closed.units name);
                skips = λ notice no. absurd no;
                holds = record {
                  all_in = All-append In closed.units (name ∷ []) holds.all_in (All-cons In name [] in_set (All-nil In));
                  once = IsDistinct-push nat_list_eq_equiv closed.units name holds.once new;
                  within = omega arith;
                  only = holds.only;
                };
              })
          | false ↦ (λ none.
              let most : 1024 ≤ length closed.units = grind (arith, nat_tests) in
              let within = holds.within in (
                closed.units ++ name ∷ [],
                IsDistinct-push nat_list_eq_equiv closed.units name holds.once new,
                length-append closed.units (name ∷ []) ∙ omega arith,
                All-append In closed.units (name ∷ []) holds.all_in (All-cons In name [] in_set (All-nil In)),
              ))
        ] refl)
      ] refl

  -- a word is skipped
  skips_one : (closed : Closed) (unit word : List ℕ) (reason : Reason) → Holds closed → Told (skipped unit Also word reason) → Comes (λ name. ⊥) (λ notice. notice ≡ skipped unit Also word reason) closed (skipping unit word closed reason)
  skips_one closed unit word reason holds told =
      let one : Notice = skipped unit Also word reason in
      record {
        kept = ([], sym (append-nil closed.units));
        still = λ line before. still_told closed.notices one line before;
        joins = λ name no. absurd no;
        skips = λ notice is. subst (λ notice. IsTold (with_notice closed.notices one) (notice_line notice)) (sym is) (now_told closed.notices one);
        holds = record { all_in = holds.all_in; once = holds.once; within = holds.within; only = one_told closed.notices one told holds.only };
      }

  module _ (t : Entries) (unit identity : List ℕ) where
    -- what a word adds, and how it is skipped
    abbrev WordJoins : (word : List ℕ) → List ℕ → Type 0
    WordJoins word name = (named_by identity word ≡ Ok name) × IsUnit t name

    abbrev WordSkips : (word : List ℕ) → Notice → Type 0
    WordSkips word notice = (reason : Reason) × IsNone t identity word reason × (notice ≡ skipped unit Also word reason)

    ok_err : {X Y P : Type 0} (x : X) (y : Y) → Ok x ≡ Err y → P
    ok_err x y h = cc

    module _ (word : List ℕ) (closed : Closed) (holds : Holds closed) (names : (name : List ℕ) → WordJoins word name → In name) (tells : (notice : Notice) → WordSkips word notice → Told notice) where
      by_reason : (name : List ℕ) (why : Option Reason) → named_by identity word ≡ Ok name → why_not name ((find name).conclusion t) ≡ why
          → Comes (WordJoins word) (WordSkips word) closed (joined_unless unit word name closed why)
      by_reason name None is why =
          let joins : WordJoins word name = (is, itself name ((find name).conclusion t) why) in
          comes_as (λ other. other ≡ name) (WordJoins word) (λ notice. ⊥) (WordSkips word) closed (and_then (closed_with closed.notices) (joined closed.units name))
          (λ other j. let same : Ok name ≡ Ok other = sym is ∙ j.0 in cc)
          (λ notice s. elim s.1 [
            | inl err ↦ ok_err name s.0 (sym is ∙ err)
            | inr found ↦ (let same : Ok name ≡ Ok found.0 = sym is ∙ found.1 in
                let at : name ≡ found.0 = cc in let none : None ≡ Some s.0 = sym why ∙ ap (λ name. why_not name ((find name).conclusion t)) at ∙ found.2 in absurd (cc))
          ])
          (joins_one closed name holds (names name joins))
      by_reason name (Some reason) is why =
          let none : IsNone t identity word reason = inr (name, is, why) in
          comes_as (λ name. ⊥) (WordJoins word) (λ notice. notice ≡ skipped unit Also word reason) (WordSkips word) closed (skipping unit word closed reason)
          (λ other j. let same : Ok name ≡ Ok other = sym is ∙ j.0 in let at : name ≡ other = cc in
          let none : Some reason ≡ None = sym why ∙ ap (λ name. why_not name ((find name).conclusion t)) at ∙ its_own other j.1.0 j.1.1 ((find other).conclusion t) j.1.2 in absurd (cc))
          (λ notice s. s.2 ∙ ap (λ r. skipped unit Also word r) (elim s.1 [
            | inl err ↦ ok_err name s.0 (sym is ∙ err)
            | inr found ↦ (let same : Ok name ≡ Ok found.0 = sym is ∙ found.1 in
                let at : name ≡ found.0 = cc in let both : Some reason ≡ Some s.0 = sym why ∙ ap (λ name. why_not name ((find name).conclusion t)) at ∙ found.2 in cc)
          ]))
          (skips_one closed unit word reason holds (tells (skipped unit Also word reason) (reason, none, refl)))

      by_name : (named : Result (List ℕ) Reason) → named_by identity word ≡ named → Comes (WordJoins word) (WordSkips word) closed ((with_name unit word closed named).conclusion t)
      by_name (Ok name) is = by_reason name (why_not name ((find name).conclusion t)) is refl
      by_name (Err reason) is =
          comes_as (λ name. ⊥) (WordJoins word) (λ notice. notice ≡ skipped unit Also word reason) (WordSkips word) closed (skipping unit word closed reason)
          (λ other j. ok_err other reason (sym j.0 ∙ is))
          (λ notice s. s.2 ∙ ap (λ r. skipped unit Also word r) (elim s.1 [ inl err ↦ (let same : Err s.0 ≡ Err reason = sym err ∙ is in cc) | inr found ↦ ok_err found.0 reason (sym found.1 ∙ is) ]))
          (skips_one closed unit word reason holds (tells (skipped unit Also word reason) (reason, inl is, refl)))

    abbrev WordsJoin : (words : List (List ℕ)) → List ℕ → Type 0
    WordsJoin words name = (word : List ℕ) × Contains words word × WordJoins word name

    abbrev WordsSkip : (words : List (List ℕ)) → Notice → Type 0
    WordsSkip words notice = (word : List ℕ) × Contains words word × WordSkips word notice

    with_words_comes : (words : List (List ℕ)) (closed : Closed) → Holds closed → ((name : List ℕ) → WordsJoin words name → In name) → ((notice : Notice) → WordsSkip words notice → Told notice)
        → Comes (WordsJoin words) (WordsSkip words) closed ((with_words unit identity words closed).conclusion t)
    with_words_comes [] closed holds names tells =
        nothing_new (WordsJoin []) (WordsSkip []) closed holds (λ name j. absurd (none_of [] j.0 refl j.1)) (λ notice s. none_of [] s.0 refl s.1)
    with_words_comes (word ∷ words) closed holds names tells =
        then_comes t (WordJoins word) (WordsJoin words) (WordsJoin (word ∷ words)) (WordSkips word) (WordsSkip words) (WordsSkip (word ∷ words)) closed ((with_name unit word closed (named_by identity word)).conclusion t) (with_words unit identity words)
        (by_name word closed holds (λ name j. names name (word, is_first word words word refl, j)) (λ notice s. tells notice (word, is_first word words word refl, s)) (named_by identity word) refl)
        (λ mid holds. with_words_comes words mid holds (λ name j. names name (j.0, is_later word words j.0 j.1, j.2)) (λ notice s. tells notice (s.0, is_later word words s.0 s.1, s.2)))
        (λ name j. elim (first_or_later word words j.0 j.1.0 j.1.1 j.1.2) [ inl at ↦ inl (subst (λ word. WordJoins word name) at j.2) | inr later ↦ inr (j.0, later, j.2) ])
        (λ notice s. elim (first_or_later word words s.0 s.1.0 s.1.1 s.1.2) [ inl at ↦ inl (subst (λ word. WordSkips word notice) at s.2) | inr later ↦ inr (s.0, later, s.2) ])

  module _ (t : Entries) (reaches : (unit name : List ℕ) → In unit → Names t unit name → In name) (tells : (unit : List ℕ) (notice : Notice) → In unit → IsSkipped t unit notice → Told notice) where
    -- by the section of a unit
    section_comes : (unit : List ℕ) (closed : Closed) (section : Option Section) → In unit → Holds closed → (section_of unit).conclusion t ≡ section
        → Comes (Names t unit) (IsSkipped t unit) closed ((with_section unit closed section).conclusion t)
    section_comes unit closed None in_set holds is =
        nothing_new (Names t unit) (IsSkipped t unit) closed holds (λ name j. let none : None ≡ Some j.1 = sym is ∙ j.2.0 in absurd (cc)) (λ notice s. let none : None ≡ Some s.1 = sym is ∙ s.3.0 in cc)
    section_comes unit closed (Some section) in_set holds is =
        let identity : List ℕ = identity_in unit section in
        comes_as (WordsJoin t unit identity section.text.also) (Names t unit) (WordsSkip t unit identity section.text.also) (IsSkipped t unit) closed ((with_words unit identity section.text.also closed).conclusion t)
        (λ name j.
        let at : j.1 ≡ section = some_is j.1 section (sym j.2.0 ∙ is) in
        (j.0, subst (λ (s : Section). Contains s.text.also j.0) at j.2.1, (subst (λ (s : Section). named_by (identity_in unit s) j.0 ≡ Ok name) at j.3, j.4)))
        (λ notice s.
        let at : s.1 ≡ section = some_is s.1 section (sym s.3.0 ∙ is) in
        (s.0, subst (λ (o : Section). Contains o.text.also s.0) at s.3.1, (s.2, subst (λ (o : Section). IsNone t (identity_in unit o) s.0 s.2) at s.4, s.5)))
        (with_words_comes t unit identity section.text.also closed holds
        (λ name j. reaches unit name in_set (j.0, section, (is, j.1), j.2.0, j.2.1))
        (λ notice s. tells unit notice in_set (s.0, section, s.2.0, (is, s.1), s.2.1, s.2.2)))

    with_unit_comes : (unit : List ℕ) (closed : Closed) → In unit → Holds closed → Comes (Names t unit) (IsSkipped t unit) closed ((with_unit unit closed).conclusion t)
    unfolding with_unit
    with_unit_comes unit closed in_set holds = section_comes unit closed ((section_of unit).conclusion t) in_set holds refl

    -- what is true of each unit up to a position: what it names is there, and its skipped words are
    -- reported
    record DoneTo (closed : Closed) (place : ℕ) : Type 0 where
      names : (k : ℕ) (unit name : List ℕ) → k < place → k < length closed.units → get_or closed.units k unit ≡ unit → Names t unit name → Contains closed.units name
      skips : (k : ℕ) (unit : List ℕ) (notice : Notice) → k < place → k < length closed.units → get_or closed.units k unit ≡ unit → IsSkipped t unit notice → IsTold closed.notices (notice_line notice)

    -- all units are done
    record Done (closed result : Closed) : Type 0 where
      kept : (extra : List (List ℕ)) × (result.units ≡ closed.units ++ extra)
      names : (unit name : List ℕ) → Contains result.units unit → Names t unit name → Contains result.units name
      skips : (unit : List ℕ) (notice : Notice) → Contains result.units unit → IsSkipped t unit notice → IsTold result.notices (notice_line notice)
      holds : Holds result

    abbrev Ends : Closed → Result Closed ClosureFault → Type 0
    Ends closed (Ok result) = Done closed result
    Ends closed (Err TooMany) = TooManyIn

    done_here : (closed : Closed) (place : ℕ) → length closed.units ≤ place → Holds closed → DoneTo closed place → Done closed closed
    done_here closed place all holds to = record {
      kept = ([], sym (append-nil closed.units));
      names = λ unit name at names. let within = at.1 in to.names at.0 unit name (omega arith) at.1 at.2 names;
      skips = λ unit notice at skip. let within = at.1 in to.skips at.0 unit notice (omega arith) at.1 at.2 skip;
      holds = holds;
    }

    -- one more unit is done
    done_more : (closed more : Closed) (place : ℕ) (unit : List ℕ) → place < length closed.units → get_or closed.units place unit ≡ unit → Grown (Names t unit) (IsSkipped t unit) closed more → DoneTo closed place → DoneTo more (place + 1)
    done_more closed more place unit inside is grown to = record {
      names = λ k other name before long at names. elim (cases_Bool (nat_lt k place)) [
        | inl less ↦
            let early : k < place = grind (arith, nat_tests) in
            still_in closed more grown.kept name (to.names k other name early (omega arith) (old k other (omega arith) at) names)
        | inr not_less ↦
            let same : place ≡ k = grind (arith, nat_tests) in
            grown.joins name (subst (λ u. Names t u name) (its k other same at) names)
      ];
      skips = λ k other notice before long at skip. elim (cases_Bool (nat_lt k place)) [
        | inl less ↦
            let early : k < place = grind (arith, nat_tests) in
            grown.still (notice_line notice) (to.skips k other notice early (omega arith) (old k other (omega arith) at) skip)
        | inr not_less ↦
            let same : place ≡ k = grind (arith, nat_tests) in
            grown.skips notice (subst (λ u. IsSkipped t u notice) (its k other same at) skip)
      ];
    }
      where
        old : (k : ℕ) (other : List ℕ) → k < length closed.units → get_or more.units k other ≡ other → get_or closed.units k other ≡ other
        old k other within at = sym (ap (λ units. get_or units k other) grown.kept.1 ∙ get_or_append_left closed.units grown.kept.0 other k within) ∙ at

        its : (k : ℕ) (other : List ℕ) → place ≡ k → get_or more.units k other ≡ other → other ≡ unit
        its k other same at =
            let here : get_or closed.units place other ≡ other = old place other inside (subst (λ j. get_or more.units j other ≡ other) (sym same) at) in
            sym here ∙ get_or_default closed.units place other unit inside ∙ is

    then_done : (closed mid : Closed) (r : Result Closed ClosureFault) → ((extra : List (List ℕ)) × (mid.units ≡ closed.units ++ extra)) → Ends mid r → Ends closed r
    then_done closed mid (Ok result) kept done = record {
      kept = (kept.0 ++ done.kept.0, done.kept.1 ∙ ap (λ units. units ++ done.kept.0) kept.1 ∙ append_assoc closed.units kept.0 done.kept.0);
      names = done.names;
      skips = done.skips;
      holds = done.holds;
    }
    then_done closed mid (Err TooMany) kept done = done

    -- up to the end
    ends : (more place : ℕ) (closed : Closed) → more + place ≡ 1024 → Holds closed → DoneTo closed place → Ends closed ((closed_from more place closed).conclusion t)
    unfolding closed_from
    ends zero place closed sum holds to = let within = holds.within in done_here closed place (omega arith) holds to
    ends (suc more) place closed sum holds to = elim (slice_get_cases closed.units place).1 [
      | inr past ↦ subst (λ o. Ends closed ((with_unit_at (closed_from more (place + 1)) closed o).conclusion t)) (sym past.1) (done_here closed place past.0 holds to)
      | inl at ↦
          let unit : List ℕ = at.0 in
          let in_set : In unit = All-contains In closed.units unit holds.all_in (place, at.1, at.3) in
          subst (λ o. Ends closed ((with_unit_at (closed_from more (place + 1)) closed o).conclusion t)) (sym at.2)
          (by_grown unit at.1 at.3 ((with_unit unit closed).conclusion t) (with_unit_comes unit closed in_set holds) (λ mid holds to. ends more (place + 1) mid (omega arith) holds to))
    ]
      where
        by_grown : (unit : List ℕ) → place < length closed.units → get_or closed.units place unit ≡ unit → (r : Result Closed ClosureFault) → Comes (Names t unit) (IsSkipped t unit) closed r
            → ((mid : Closed) → Holds mid → DoneTo mid (place + 1) → Ends mid ((closed_from more (place + 1) mid).conclusion t)) → Ends closed ((unless_too_many (closed_from more (place + 1)) r).conclusion t)
        by_grown unit inside is (Ok mid) grown rest =
            then_done closed mid ((closed_from more (place + 1) mid).conclusion t) grown.kept (rest mid grown.holds (done_more closed mid place unit inside is grown to))
        by_grown unit inside is (Err TooMany) many rest = many

  -- the given names join
  all_join : (names : List (List ℕ)) (closed : Closed) → Holds closed → ((name : List ℕ) → Contains names name → In name)
      → Comes (Contains names) (λ notice. ⊥) closed (and_then (closed_with closed.notices) (all_joined names closed.units))
  all_join [] closed holds in_set = nothing_new (Contains []) (λ notice. ⊥) closed holds (λ name here. absurd (none_of [] name refl here)) (λ notice no. no)
  all_join (name ∷ names) closed holds in_set =
      by_joined (joined closed.units name) (joins_one closed name holds (in_set name (is_first name names name refl)))
      (λ units holds. all_join names (record { units = units; notices = closed.notices }) holds (λ other here. in_set other (is_later name names other here)))
    where
      by_joined : (r : Result (List (List ℕ)) ClosureFault) → Comes (λ other. other ≡ name) (λ notice. ⊥) closed (and_then (closed_with closed.notices) r)
          → ((units : List (List ℕ)) → Holds (record { units = units; notices = closed.notices }) → Comes (Contains names) (λ notice. ⊥) (record { units = units; notices = closed.notices }) (and_then (closed_with closed.notices) (all_joined names units)))
          → Comes (Contains (name ∷ names)) (λ notice. ⊥) closed (and_then (closed_with closed.notices) (and_then (all_joined names) r))
      by_joined (Ok units) first rest =
          then_more (λ other. other ≡ name) (Contains names) (Contains (name ∷ names)) (λ notice. ⊥) (λ notice. ⊥) (λ notice. ⊥) closed (record { units = units; notices = closed.notices })
          (and_then (closed_with closed.notices) (all_joined names units)) first (rest units first.holds)
          (λ other here. first_or_later name names other here.0 here.1 here.2) (λ notice no. absurd no)
      by_joined (Err TooMany) first rest = first

none_distinct : IsDistinct bytes_eq []
unfolding IsDistinct
none_distinct = tt

-- the notices of the units that are reached
abbrev Tells : Entries → List (List ℕ) → Notice → Type 0
Tells t given notice = (unit : List ℕ) × Reached t given unit × IsSkipped t unit notice

-- the result of a closure
record Whole (t : Entries) (given : List (List ℕ)) (result : Closed) : Type 0 where
  pub given_in : (name : List ℕ) → Contains given name → Contains result.units name
  pub names : (unit name : List ℕ) → Contains result.units unit → Names t unit name → Contains result.units name
  pub skips : (unit : List ℕ) (notice : Notice) → Contains result.units unit → IsSkipped t unit notice → IsTold result.notices (notice_line notice)
  pub all_in : All (Reached t given) result.units
  pub once : IsDistinct bytes_eq result.units
  pub within : length result.units ≤ 1024
  pub only : (line : List ℕ) (notice : Notice) → map.get result.notices line ≡ Some notice → Tells t given notice × (line ≡ notice_line notice)

abbrev Comes_to : Entries → List (List ℕ) → Result Closed ClosureFault → Type 0
Comes_to t given (Ok result) = Whole t given result
Comes_to t given (Err TooMany) = TooManyIn (Reached t given) (Tells t given)

module _ (t : Entries) (given : List (List ℕ)) where
  abbrev In : List ℕ → Type 0
  In = Reached t given

  abbrev Told : Notice → Type 0
  Told = Tells t given

  abbrev nothing : Closed
  nothing = record { units = []; notices = map.empty }

  whole : Comes_to t given ((closure given).conclusion t)
  unfolding closure
  whole = by_given (and_then (closed_with map.empty) (all_joined given [])) (all_join In Told given nothing begun (λ name here. Given name here))
    where
      begun : Holds In Told nothing
      begun = record {
        all_in = All-nil In;
        once = none_distinct;
        within = omega arith;
        only = λ line notice there. let none : None ≡ Some notice = sym (map.get-empty line_cmp line) ∙ there in absurd (cc);
      }

      finish : (mid : Closed) → Grown In Told (Contains given) (λ notice. ⊥) nothing mid → (r : Result Closed ClosureFault)
          → Ends In Told t (λ unit name r n. Named unit name r n) (λ unit notice r s. (unit, r, s)) mid r → Comes_to t given r
      finish mid grown (Ok result) done = record {
        given_in = λ name here. subst (λ units. Contains units name) (sym done.kept.1) (Contains-append_left mid.units done.kept.0 name (grown.joins name here));
        names = done.names;
        skips = done.skips;
        all_in = done.holds.all_in;
        once = done.holds.once;
        within = done.holds.within;
        only = done.holds.only;
      }
      finish mid grown (Err TooMany) many = many

      by_given : (r : Result Closed ClosureFault) → Comes In Told (Contains given) (λ notice. ⊥) nothing r → Comes_to t given ((unless_too_many (closed_from 1024 0) r).conclusion t)
      by_given (Ok mid) grown =
          finish mid grown ((closed_from 1024 0 mid).conclusion t)
          (ends In Told t (λ unit name r n. Named unit name r n) (λ unit notice r s. (unit, r, s)) 1024 0 mid refl grown.holds
          (record { names = λ k unit name before. absurd (omega arith); skips = λ k unit notice before. absurd (omega arith) }))
      by_given (Err TooMany) many = many

reached_in : (t : Entries) (given units : List (List ℕ)) → ((name : List ℕ) → Contains given name → Contains units name)
    → ((unit name : List ℕ) → Contains units unit → Names t unit name → Contains units name) → (name : List ℕ) → Reached t given name → Contains units name
reached_in t given units start step name (Given same here) = start same here
reached_in t given units start step name (Named unit other r names) = step unit other (reached_in t given units start step unit r) names

all_reached : (t : Entries) (given : List (List ℕ)) (result : Closed) → Whole t given result → (name : List ℕ) → Reached t given name → Contains result.units name
all_reached t given result w = reached_in t given result.units w.given_in w.names

at_whole : (t : Entries) (given : List (List ℕ)) (closed : Closed) → (closure given).conclusion t ≡ Ok closed → Whole t given closed
at_whole t given closed is = subst (Comes_to t given) is (whole t given)

pub closure_least : ClosureIsLeast
closure_least = λ given t closed is.
    let w = at_whole t given closed is in
    (w.once, λ name. (λ here. All-contains (Reached t given) closed.units name w.all_in here, all_reached t given closed w name))

pub tells_of_skipped : NoticesAreOfSkippedWords
tells_of_skipped = λ given t closed is.
    let w = at_whole t given closed is in
    record {
      all_told = λ unit notice here skip. w.skips unit notice here skip;
      only = λ line notice there. let told = w.only line notice there in ((told.0.0, all_reached t given closed w told.0.0 told.0.1, told.0.2), told.1);
    }

-- more than 1,024 different names can't all be among 1,024
too_many_for : (names units : List (List ℕ)) → IsDistinct bytes_eq names → length names ≡ 1025 → length units ≤ 1024 → ((name : List ℕ) → Contains names name → Contains units name) → ⊥
too_many_for names units once many few all =
    let le = length-le_from_is_member nat_list_eq_equiv names units once (λ name here. list_any-from_Contains nat_list_eq_equiv name units (all name (Contains-from_any same_bytes name names here))) in
    omega (arith, le)

pub refused_exactly : RefusedWhereTooMany
refused_exactly = λ given t. (
  λ is. subst (Comes_to t given) is (whole t given),
  λ many. by_conclusion given t ((closure given).conclusion t) refl many,
)
  where
    by_conclusion : (given : List (List ℕ)) (t : Entries) (r : Result Closed ClosureFault) → (closure given).conclusion t ≡ r → TooManyIn (Reached t given) (Tells t given) → r ≡ Err TooMany
    by_conclusion given t (Err TooMany) is many = refl
    by_conclusion given t (Ok closed) is many =
        let w = at_whole t given closed is in
        absurd (too_many_for many.0 closed.units many.1 many.2 w.within (λ name here. all_reached t given closed w name (All-contains (Reached t given) many.0 name many.3 here)))

reached_too : (t : Entries) (given other : List (List ℕ)) → ((name : List ℕ) → Contains given name → Contains other name) → (name : List ℕ) → Reached t given name → Reached t other name
reached_too t given other all name (Given same here) = Given same (all same here)
reached_too t given other all name (Named unit next r names) = Named unit next (reached_too t given other all unit r) names

some_of : {X : Type 0} (o : Option X) → is_some o ≡ true → (x : X) × (o ≡ Some x)
some_of None h = absurd (false≢true h)
some_of (Some x) h = (x, refl)

lines_too : (t : Entries) (given other : List (List ℕ)) (one two : Closed) → Whole t given one → Whole t other two → ((name : List ℕ) → Contains given name → Contains other name)
    → (line : List ℕ) → IsTold one.notices line → IsTold two.notices line
lines_too t given other one two v w all line told =
    let there = some_of (map.get one.notices line) told in
    let tells = v.only line there.0 there.1 in
    subst (IsTold two.notices) (sym tells.1) (w.skips tells.0.0 there.0 (all_reached t other two w tells.0.0 (reached_too t given other all tells.0.0 tells.0.1)) tells.0.2)

names_too : (t : Entries) (given other : List (List ℕ)) (one two : Closed) → Whole t given one → Whole t other two → ((name : List ℕ) → Contains given name → Contains other name)
    → (name : List ℕ) → Contains one.units name → Contains two.units name
names_too t given other one two v w all name here = all_reached t other two w name (reached_too t given other all name (All-contains (Reached t given) one.units name v.all_in here))

both_ways : (a b : Bool) → (a ≡ true → b ≡ true) → (b ≡ true → a ≡ true) → a ≡ b
both_ways true b f g = sym (f refl)
both_ways false true f g = g refl
both_ways false false f g = refl

not_both : (t : Entries) (given other : List (List ℕ)) (two : Closed) → TooManyIn (Reached t given) (Tells t given) → Whole t other two → ((name : List ℕ) → Contains given name → Contains other name) → ⊥
not_both t given other two many w all =
    too_many_for many.0 two.units many.1 many.2 w.within (λ name here. all_reached t other two w name (reached_too t given other all name (All-contains (Reached t given) many.0 name many.3 here)))

pub any_order : AnyOrder
any_order = λ given other t same. by_both given other t same ((closure given).conclusion t) ((closure other).conclusion t) (whole t given) (whole t other)
  where
    by_both : (given other : List (List ℕ)) (t : Entries) → ((name : List ℕ) → Contains given name ↔ Contains other name) → (r s : Result Closed ClosureFault)
        → Comes_to t given r → Comes_to t other s → ComeToSame r s
    by_both given other t same (Ok one) (Ok two) v w = record {
      units = λ name. (names_too t given other one two v w (λ name. (same name).0) name, names_too t other given two one w v (λ name. (same name).1) name);
      lines = λ line. both_ways (is_some (map.get one.notices line)) (is_some (map.get two.notices line))
          (lines_too t given other one two v w (λ name. (same name).0) line) (lines_too t other given two one w v (λ name. (same name).1) line);
    }
    by_both given other t same (Ok one) (Err TooMany) v w = not_both t other given one w v (λ name. (same name).1)
    by_both given other t same (Err TooMany) (Ok two) v w = not_both t given other two v w (λ name. (same name).0)
    by_both given other t same (Err TooMany) (Err TooMany) v w = tt
