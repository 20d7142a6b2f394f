-- The wanted links are those that units ask for by the rules.
use Rattle.std.proofs.Common.{◌≡◌, ◌≢◌, ℕ, Bool, true, false, cond, List, Option, Some, None, Result, Ok, Err, is_some, Contains, refl, sym, ap, subst, ◌∙◌, inl, inr, ◌⊎◌}
use Rattle.std.specs.FinMap as map
use Rattle.std.specs.Cmp.Lexicographic.{nat_list_eq_equiv, nat_list_cmp_total}
use Rattle.std.specs.Ordering.{is_le, ordering_reverse}
use Rattle.std.specs.declared.cmp.Ordering.{Ordering}
use Rattle.std.specs.declared.cmp.Ordering.TheVariants.{Less, Equal, Greater}
use Rattle.std.specs.Str.{bytes_eq}
use Rattle.std.proofs.lemmas.Bool.{cases_Bool, false≢true}
use Rattle.std.proofs.lemmas.Map.Lookups.{exact_bytes}
use Rattle.unit_name.specs.declared.kind.Kind.{Kind}
use Rattle.unit_name.specs.declared.kind.Kind.TheVariants.{Plain, Template, Instance}
use Rattle.unit_name.specs.Parts.{kind_of}
use Rattle.unit_name.specs.Name.{instance_of}
use Rattle.unit_file.specs.declared.notice.Notice.{Notice}
use Rattle.unit_file.specs.declared.notice.Reason.{Reason}
use Rattle.unit_file.specs.declared.notice.Reason.TheVariants.{BadAlias}
use Rattle.unit_file.specs.Notices.{notice_line}
use Rattle.unit_paths.specs.declared.place.Place.{Place}
use Rattle.unit_paths.specs.declared.slot.Dependency.{Dependency}
use Rattle.unit_paths.specs.declared.slot.Dependency.TheVariants as dependencies
use Rattle.unit_paths.specs.Places.{scope_place}
use Rattle.unit_paths.specs.Slots.{unit_slot, dependency_slot}
use Rattle.link_tree.specs.Trees.{Entries, path_cmp}
use Rattle.link_tree.proofs.Changed.{same_bytes}
use Rattle.install_section.specs.declared.section.Section.{Section}
use Rattle.install_section.specs.declared.wish.LinkKey.{LinkKey}
use Rattle.install_section.specs.declared.wish.LinkKey.TheVariants.{WantedBy, RequiredBy, UpheldBy, Alias}
use Rattle.install_section.specs.declared.wish.Wish.{Wish}
use Rattle.install_section.specs.declared.wish.Wish.TheVariants.{Link, Skip, NoInstance}
use Rattle.install_section.specs.declared.wants.Wants.{Wants}
use Rattle.install_section.specs.declared.wants.Wanted.{Wanted}
use Rattle.install_section.specs.declared.wants.WantedFault.TheVariants.{NeedsInstance, Clash}
use Rattle.install_section.specs.Words.{named_by, skipped}
use Rattle.install_section.specs.Sections.{section_of, identity_in}
use Rattle.unit_file.specs.Listed.{stands_for_instance, as_instance, listed_name}
use Rattle.install_section.specs.Wishes.{listed_under, listing, alias_meant, may_have, aliased, aliasing, wish, words_for, notice_key}
use Rattle.install_section.specs.Wanted.{all_wants, no_wants, settled, wanted}
use Rattle.install_section.specs.WantedLaws.{key_of, IsListed, HasInstanceListed, HasAlias, IsAskedFor, LacksInstance, NeedsName, HasTwoTargets, IsLeast, LinksAreAskedFor, NeedsLeastInstance, ClashIsLeast, IsSkipped, NoticesAreOfSkippedWords}
use Rattle.install_section.proofs.Asked.{LeastOf, TwoAt, Stands, WishAsks, UnitAsks, UnitsAsk, all_stand}
use Rattle.install_section.proofs.Asked.Asked.{AsksLink, AsksInstance, AsksNotice}

-- which wish asks for a link, for an instance, or for a notice
link_wish : (skip : Bool) (unit file : List ℕ) (key : LinkKey) (word : List ℕ) (its : Wish) (path f : List ℕ) → WishAsks skip unit file key word its (AsksLink path f) → (its ≡ Link path) × (f ≡ file)
link_wish skip unit file key word (Link p) path f asks = let at : path ≡ p = cc in let same : f ≡ file = cc in (ap (λ p. Link p) (sym at), same)
link_wish skip unit file key word (Skip reason) path f asks = absurd (cc)
link_wish skip unit file key word NoInstance path f asks = let is = asks.1 in absurd (cc)

instance_wish : (skip : Bool) (unit file : List ℕ) (key : LinkKey) (word : List ℕ) (its : Wish) (u : List ℕ) → WishAsks skip unit file key word its (AsksInstance u) → (its ≡ NoInstance) × (skip ≡ false) × (u ≡ unit)
instance_wish skip unit file key word (Link p) u asks = absurd (cc)
instance_wish skip unit file key word (Skip reason) u asks = absurd (cc)
instance_wish skip unit file key word NoInstance u asks = let is = asks.1 in let same : u ≡ unit = cc in (refl, asks.0, same)

notice_wish : (skip : Bool) (unit file : List ℕ) (key : LinkKey) (word : List ℕ) (its : Wish) (notice : Notice) → WishAsks skip unit file key word its (AsksNotice notice)
    → (reason : Reason) × (its ≡ Skip reason) × (notice ≡ skipped unit (notice_key key) word reason)
notice_wish skip unit file key word (Link p) notice asks = absurd (cc)
notice_wish skip unit file key word (Skip reason) notice asks = let same : notice ≡ skipped unit (notice_key key) word reason = cc in (reason, refl, same)
notice_wish skip unit file key word NoInstance notice asks = let is = asks.1 in absurd (cc)

as_kind : (kind : Kind) (identity name : List ℕ) → as_instance kind identity ≡ Some name → (kind ≡ Instance) × (name ≡ identity)
as_kind Plain identity name h = absurd (cc)
as_kind Template identity name h = absurd (cc)
as_kind Instance identity name h = let same : name ≡ identity = cc in (refl, same)

as_no_kind : (kind : Kind) (identity : List ℕ) → as_instance kind identity ≡ None → kind ≢ Instance
as_no_kind Plain identity h is = cc
as_no_kind Template identity h is = cc
as_no_kind Instance identity h is = cc

no_instance : (kind : Kind) (identity : List ℕ) → kind ≢ Instance → as_instance kind identity ≡ None
no_instance Plain identity other = refl
no_instance Template identity other = refl
no_instance Instance identity other = absurd (other refl)

-- the name under which a unit is listed
listed_cases : (by unit identity name : List ℕ) → listed_name by unit identity ≡ Some name
    → ((stands_for_instance by unit ≡ false) × (name ≡ unit)) ⊎ ((stands_for_instance by unit ≡ true) × (kind_of (instance_of identity) ≡ Instance) × (name ≡ identity))
unfolding listed_name
listed_cases by unit identity name h =
    elim (stands_for_instance by unit) as (λ b. stands_for_instance by unit ≡ b → cond b (as_instance (kind_of (instance_of identity)) identity) (Some unit) ≡ Some name
    → ((stands_for_instance by unit ≡ false) × (name ≡ unit)) ⊎ ((stands_for_instance by unit ≡ true) × (kind_of (instance_of identity) ≡ Instance) × (name ≡ identity))) [
      | true ↦ (λ is h. let its = as_kind (kind_of (instance_of identity)) identity name h in inr (is, its.0, its.1))
      | false ↦ (λ is h. inl (is, let same : name ≡ unit = cc in same))
    ] refl h

listed_none : (by unit identity : List ℕ) → listed_name by unit identity ≡ None → (stands_for_instance by unit ≡ true) × (kind_of (instance_of identity) ≢ Instance)
unfolding listed_name
listed_none by unit identity h =
    elim (stands_for_instance by unit) as (λ b. stands_for_instance by unit ≡ b → cond b (as_instance (kind_of (instance_of identity)) identity) (Some unit) ≡ None
    → (stands_for_instance by unit ≡ true) × (kind_of (instance_of identity) ≢ Instance)) [
      | true ↦ (λ is h. (is, as_no_kind (kind_of (instance_of identity)) identity h))
      | false ↦ (λ is h. absurd (cc))
    ] refl h

own_listed : (by unit identity : List ℕ) → stands_for_instance by unit ≡ false → listed_name by unit identity ≡ Some unit
unfolding listed_name
own_listed by unit identity is = rw is refl

instance_listed : (by unit identity : List ℕ) → stands_for_instance by unit ≡ true → kind_of (instance_of identity) ≡ Instance → listed_name by unit identity ≡ Some identity
unfolding listed_name
instance_listed by unit identity is kind = rw (is, kind) refl

none_listed : (by unit identity : List ℕ) → stands_for_instance by unit ≡ true → (kind_of (instance_of identity) ≢ Instance) → listed_name by unit identity ≡ None
unfolding listed_name
none_listed by unit identity is other = rw is (no_instance (kind_of (instance_of identity)) identity other)

-- what a word of a list of other units asks for
listing_link : (place : Place) (dependency : Dependency) (unit identity : List ℕ) (named : Result (List ℕ) Reason) (path : List ℕ) → listing place dependency unit identity named ≡ Link path
    → (by name : List ℕ) × (named ≡ Ok by) × (listed_name by unit identity ≡ Some name) × (path ≡ dependency_slot place dependency by name)
listing_link place dependency unit identity (Err reason) path h = absurd (cc)
listing_link place dependency unit identity (Ok by) path h = let its = by_name (listed_name by unit identity) refl h in (by, its.0, refl, its.1, its.2)
  where
    by_name : (o : Option (List ℕ)) → listed_name by unit identity ≡ o → listed_under place dependency by o ≡ Link path
        → (name : List ℕ) × (listed_name by unit identity ≡ Some name) × (path ≡ dependency_slot place dependency by name)
    by_name None is h = absurd (cc)
    by_name (Some name) is h = (name, is, let same : path ≡ dependency_slot place dependency by name = cc in same)

listing_none : (place : Place) (dependency : Dependency) (unit identity : List ℕ) (named : Result (List ℕ) Reason) → listing place dependency unit identity named ≡ NoInstance
    → (by : List ℕ) × (named ≡ Ok by) × (listed_name by unit identity ≡ None)
listing_none place dependency unit identity (Err reason) h = absurd (cc)
listing_none place dependency unit identity (Ok by) h = (by, refl, by_name (listed_name by unit identity) refl h)
  where
    by_name : (o : Option (List ℕ)) → listed_name by unit identity ≡ o → listed_under place dependency by o ≡ NoInstance → listed_name by unit identity ≡ None
    by_name None is h = is
    by_name (Some name) is h = absurd (cc)

aliased_link : (place : Place) (unit alias path : List ℕ) → aliased place unit (Some alias) ≡ Link path → (may_have unit alias ≡ true) × (path ≡ unit_slot place alias)
aliased_link place unit alias path h =
    elim (may_have unit alias) as (λ b. may_have unit alias ≡ b → cond b (Link (unit_slot place alias)) (Skip BadAlias) ≡ Link path → (may_have unit alias ≡ true) × (path ≡ unit_slot place alias)) [
      | true ↦ (λ is h. (is, let same : path ≡ unit_slot place alias = cc in same))
      | false ↦ (λ is h. absurd (cc))
    ] refl h

aliasing_link : (place : Place) (unit : List ℕ) (named : Result (List ℕ) Reason) (path : List ℕ) → aliasing place unit named ≡ Link path
    → (name alias : List ℕ) × (named ≡ Ok name) × (alias_meant unit name ≡ Some alias) × (may_have unit alias ≡ true) × (path ≡ unit_slot place alias)
aliasing_link place unit (Err reason) path h = absurd (cc)
aliasing_link place unit (Ok name) path h = let its = by_alias (alias_meant unit name) refl h in (name, its.0, refl, its.1, its.2, its.3)
  where
    by_alias : (o : Option (List ℕ)) → alias_meant unit name ≡ o → aliased place unit o ≡ Link path
        → (alias : List ℕ) × (alias_meant unit name ≡ Some alias) × (may_have unit alias ≡ true) × (path ≡ unit_slot place alias)
    by_alias None is h = absurd (cc)
    by_alias (Some alias) is h = let its = aliased_link place unit alias path h in (alias, is, its.0, its.1)

aliasing_some : (place : Place) (unit : List ℕ) (named : Result (List ℕ) Reason) → aliasing place unit named ≡ NoInstance → ⊥
aliasing_some place unit (Err reason) h = cc
aliasing_some place unit (Ok name) h = by_alias (alias_meant unit name) h
  where
    by_may : (alias : List ℕ) (b : Bool) → cond b (Link (unit_slot place alias)) (Skip BadAlias) ≡ NoInstance → ⊥
    by_may alias true h = cc
    by_may alias false h = cc

    by_alias : (o : Option (List ℕ)) → aliased place unit o ≡ NoInstance → ⊥
    by_alias None h = cc
    by_alias (Some alias) h = by_may alias (may_have unit alias) h

module _ (place : Place) (skip : Bool) (t : Entries) (unit : List ℕ) where
  abbrev Ruled : (path file : List ℕ) → Type 0
  Ruled path file = IsListed t place unit path file ⊎ (HasInstanceListed t place unit path file ⊎ HasAlias t place unit path file)

  -- by a word of a list
  module _ (section : Section) (is : (section_of unit).conclusion t ≡ Some section) (word : List ℕ) (path file : List ℕ) (at : file ≡ section.file) where
    by_dependency : (dependency : Dependency) → Contains (words_for (key_of dependency) section.text) word
        → listing place dependency unit (identity_in unit section) (named_by (identity_in unit section) word) ≡ Link path → Ruled path file
    by_dependency dependency here its =
        let its = listing_link place dependency unit (identity_in unit section) (named_by (identity_in unit section) word) path its in
        elim (listed_cases its.0 unit (identity_in unit section) its.1 its.3) [
          | inl own ↦ inl (section, dependency, its.0, (word, (is, here), its.2), own.0, its.4 ∙ ap (dependency_slot place dependency its.0) own.1, at)
          | inr other ↦ inr (inl (section, dependency, its.0, (word, (is, here), its.2), other.0, other.1, its.4 ∙ ap (dependency_slot place dependency its.0) other.2, at))
        ]

    ruled_by : (key : LinkKey) → Contains (words_for key section.text) word → wish place key unit (identity_in unit section) word ≡ Link path → Ruled path file
    ruled_by WantedBy here its = by_dependency dependencies.Wants here its
    ruled_by RequiredBy here its = by_dependency dependencies.Requires here its
    ruled_by UpheldBy here its = by_dependency dependencies.Upholds here its
    ruled_by Alias here its =
        let its = aliasing_link place unit (named_by (identity_in unit section) word) path its in
        inr (inr (section, word, its.0, its.1, (is, here), its.2, its.3, its.4, its.5, at))

  ruled : (path file : List ℕ) → UnitAsks place skip t unit (AsksLink path file) → Ruled path file
  ruled path file asks =
      let section : Section = asks.0 in
      let key : LinkKey = asks.2.0 in
      let word : List ℕ = asks.2.1.0 in
      let its = link_wish skip unit section.file key word (wish place key unit (identity_in unit section) word) path file asks.2.1.2 in
      ruled_by section asks.1 word path file its.1 key asks.2.1.1 its.0

  -- the wish of a word
  module _ (section : Section) (is : (section_of unit).conclusion t ≡ Some section) (key : LinkKey) (word : List ℕ) (here : Contains (words_for key section.text) word) where
    asks_link : (path file : List ℕ) → file ≡ section.file → wish place key unit (identity_in unit section) word ≡ Link path → UnitAsks place skip t unit (AsksLink path file)
    asks_link path file at its =
        (section, is, (key, (word, here, subst (λ w. WishAsks skip unit section.file key word w (AsksLink path file)) (sym its) (ap (λ f. AsksLink path f) at))))

    asks_instance : skip ≡ false → wish place key unit (identity_in unit section) word ≡ NoInstance → UnitAsks place skip t unit (AsksInstance unit)
    asks_instance strict its = (section, is, (key, (word, here, subst (λ w. WishAsks skip unit section.file key word w (AsksInstance unit)) (sym its) (strict, refl))))

    asks_notice : (reason : Reason) → wish place key unit (identity_in unit section) word ≡ Skip reason → UnitAsks place skip t unit (AsksNotice (skipped unit (notice_key key) word reason))
    asks_notice reason its = (section, is, (key, (word, here, subst (λ w. WishAsks skip unit section.file key word w (AsksNotice (skipped unit (notice_key key) word reason))) (sym its) refl)))

  wish_of : (dependency : Dependency) (section : Section) (word : List ℕ)
      → wish place (key_of dependency) unit (identity_in unit section) word ≡ listing place dependency unit (identity_in unit section) (named_by (identity_in unit section) word)
  wish_of dependencies.Wants section word = refl
  wish_of dependencies.Requires section word = refl
  wish_of dependencies.Upholds section word = refl

  listed_wish : (dependency : Dependency) (section : Section) (word by : List ℕ) (name : Option (List ℕ)) → named_by (identity_in unit section) word ≡ Ok by → listed_name by unit (identity_in unit section) ≡ name
      → wish place (key_of dependency) unit (identity_in unit section) word ≡ listed_under place dependency by name
  listed_wish dependency section word by name named listed =
      wish_of dependency section word ∙ ap (listing place dependency unit (identity_in unit section)) named ∙ ap (listed_under place dependency by) listed

  asked_by_rule : (path file : List ℕ) → Ruled path file → UnitAsks place skip t unit (AsksLink path file)
  asked_by_rule path file (inl (section, dependency, by, listed, own, at, its)) =
      asks_link section listed.1.0 (key_of dependency) listed.0 listed.1.1 path file its
      (listed_wish dependency section listed.0 by (Some unit) listed.2 (own_listed by unit (identity_in unit section) own) ∙ ap (λ p. Link p) (sym at))
  asked_by_rule path file (inr (inl (section, dependency, by, listed, stands, kind, at, its))) =
      asks_link section listed.1.0 (key_of dependency) listed.0 listed.1.1 path file its
      (listed_wish dependency section listed.0 by (Some (identity_in unit section)) listed.2 (instance_listed by unit (identity_in unit section) stands kind) ∙ ap (λ p. Link p) (sym at))
  asked_by_rule path file (inr (inr (section, word, name, alias, has, named, meant, may, at, its))) =
      asks_link section has.0 Alias word has.1 path file its
      (ap (aliasing place unit) named ∙ ap (aliased place unit) meant ∙ ap (λ b. cond b (Link (unit_slot place alias)) (Skip BadAlias)) may ∙ ap (λ p. Link p) (sym at))

  lacks_by : (section : Section) → (section_of unit).conclusion t ≡ Some section → (word : List ℕ) (dependency : Dependency) → Contains (words_for (key_of dependency) section.text) word
      → listing place dependency unit (identity_in unit section) (named_by (identity_in unit section) word) ≡ NoInstance → LacksInstance t unit
  lacks_by section is word dependency here its =
      let its = listing_none place dependency unit (identity_in unit section) (named_by (identity_in unit section) word) its in
      let none = listed_none its.0 unit (identity_in unit section) its.2 in
      (section, dependency, its.0, (word, (is, here), its.1), none.0, none.1)

  lacks_word : (section : Section) → (section_of unit).conclusion t ≡ Some section → (word : List ℕ) (key : LinkKey) → Contains (words_for key section.text) word
      → wish place key unit (identity_in unit section) word ≡ NoInstance → LacksInstance t unit
  lacks_word section is word WantedBy here its = lacks_by section is word dependencies.Wants here its
  lacks_word section is word RequiredBy here its = lacks_by section is word dependencies.Requires here its
  lacks_word section is word UpheldBy here its = lacks_by section is word dependencies.Upholds here its
  lacks_word section is word Alias here its = absurd (aliasing_some place unit (named_by (identity_in unit section) word) its)

  lacks : (u : List ℕ) → UnitAsks place skip t unit (AsksInstance u) → (skip ≡ false) × (u ≡ unit) × LacksInstance t unit
  lacks u asks =
      let section : Section = asks.0 in
      let its = instance_wish skip unit section.file asks.2.0 asks.2.1.0 (wish place asks.2.0 unit (identity_in unit section) asks.2.1.0) u asks.2.1.2 in
      (its.1, its.2, lacks_word section asks.1 asks.2.1.0 asks.2.0 asks.2.1.1 its.0)

  asked_if_lacks : skip ≡ false → LacksInstance t unit → UnitAsks place skip t unit (AsksInstance unit)
  asked_if_lacks strict (section, dependency, by, listed, stands, other) =
      asks_instance section listed.1.0 (key_of dependency) listed.0 listed.1.1 strict
      (listed_wish dependency section listed.0 by None listed.2 (none_listed by unit (identity_in unit section) stands other))

  skips : (notice : Notice) → UnitAsks place skip t unit (AsksNotice notice) → IsSkipped t place unit notice
  skips notice asks =
      let section : Section = asks.0 in
      let its = notice_wish skip unit section.file asks.2.0 asks.2.1.0 (wish place asks.2.0 unit (identity_in unit section) asks.2.1.0) notice asks.2.1.2 in
      (asks.2.0, asks.2.1.0, section, its.0, (asks.1, asks.2.1.1), its.1, its.2)

  asked_if_skipped : (notice : Notice) → IsSkipped t place unit notice → UnitAsks place skip t unit (AsksNotice notice)
  asked_if_skipped notice (key, word, section, reason, has, its, at) = subst (λ n. UnitAsks place skip t unit (AsksNotice n)) (sym at) (asks_notice section has.0 key word has.1 reason its)

module _ (units : List (List ℕ)) (place : Place) (skip : Bool) (t : Entries) where
  link_asked : (path file : List ℕ) → UnitsAsk place skip t units (AsksLink path file) → IsAskedFor t place units path file
  link_asked path file asks = (asks.0, asks.1, ruled place skip t asks.0 path file asks.2)

  asked_link : (path file : List ℕ) → IsAskedFor t place units path file → UnitsAsk place skip t units (AsksLink path file)
  asked_link path file asked = (asked.0, asked.1, asked_by_rule place skip t asked.0 path file asked.2)

  instance_asked : (unit : List ℕ) → UnitsAsk place skip t units (AsksInstance unit) → NeedsName t units skip unit
  instance_asked unit asks =
      let its = lacks place skip t asks.0 unit asks.2 in
      (its.0, subst (Contains units) (sym its.1) asks.1, subst (LacksInstance t) (sym its.1) its.2)

  asked_instance : (unit : List ℕ) → NeedsName t units skip unit → UnitsAsk place skip t units (AsksInstance unit)
  asked_instance unit needs = (unit, needs.1, asked_if_lacks place skip t unit needs.0 needs.2)

  pub two_asked : (path : List ℕ) → TwoAt (UnitsAsk place skip t units) path → HasTwoTargets t place units path
  two_asked path two = (two.0, two.1, two.2, link_asked path two.0 two.3, link_asked path two.1 two.4)

  asked_two : (path : List ℕ) → HasTwoTargets t place units path → TwoAt (UnitsAsk place skip t units) path
  asked_two path two = (two.0, two.1, two.2, asked_link path two.0 two.3, asked_link path two.1 two.4)

  -- what the units want
  abbrev all : Wants
  all = (all_wants place skip units no_wants).conclusion t

  abbrev standing : Stands (UnitsAsk place skip t units) all
  standing = all_stand place skip t units

  is_least_unit : (o : Option (List ℕ)) (unit : List ℕ) → LeastOf (λ u. UnitsAsk place skip t units (AsksInstance u)) o → o ≡ Some unit → IsLeast (NeedsName t units skip) unit
  is_least_unit None unit h is = absurd (cc)
  is_least_unit (Some least) unit h is =
      let same : least ≡ unit = cc in
      subst (IsLeast (NeedsName t units skip)) same (instance_asked least h.0, λ other needs. h.1 other (asked_instance other needs))

  no_unit : (o : Option (List ℕ)) → LeastOf (λ u. UnitsAsk place skip t units (AsksInstance u)) o → o ≡ None → (unit : List ℕ) → ¬ NeedsName t units skip unit
  no_unit None h is unit needs = h unit (asked_instance unit needs)
  no_unit (Some least) h is unit needs = cc

  is_least_path : (o : Option (List ℕ)) (path : List ℕ) → LeastOf (TwoAt (UnitsAsk place skip t units)) o → o ≡ Some path → IsLeast (HasTwoTargets t place units) path
  is_least_path None path h is = absurd (cc)
  is_least_path (Some least) path h is =
      let same : least ≡ path = cc in
      subst (IsLeast (HasTwoTargets t place units)) same (two_asked least h.0, λ other two. h.1 other (asked_two other two))

  no_clash : (o : Option (List ℕ)) → LeastOf (TwoAt (UnitsAsk place skip t units)) o → o ≡ None → (path : List ℕ) → ¬ HasTwoTargets t place units path
  no_clash None h is path two = h path (asked_two path two)
  no_clash (Some least) h is path two = cc

-- what follows from the final result
ok_settled : (w : Wants) (given : Wanted) (nameless clash : Option (List ℕ)) → settled w nameless clash ≡ Ok given → (nameless ≡ None) × (clash ≡ None) × (given ≡ record { links = w.links; notices = w.notices })
ok_settled w given (Some unit) clash h = absurd (cc)
ok_settled w given None (Some path) h = absurd (cc)
ok_settled w given None None h = let same : given ≡ record { links = w.links; notices = w.notices } = cc in (refl, refl, same)

needs_settled : (w : Wants) (unit : List ℕ) (nameless clash : Option (List ℕ)) → settled w nameless clash ≡ Err (NeedsInstance unit) → nameless ≡ Some unit
needs_settled w unit (Some least) clash h = let same : least ≡ unit = cc in ap (λ x. Some x) same
needs_settled w unit None (Some path) h = absurd (cc)
needs_settled w unit None None h = absurd (cc)

clash_settled : (w : Wants) (path : List ℕ) (nameless clash : Option (List ℕ)) → settled w nameless clash ≡ Err (Clash path) → (nameless ≡ None) × (clash ≡ Some path)
clash_settled w path (Some least) clash h = absurd (cc)
clash_settled w path None (Some least) h = let same : least ≡ path = cc in (refl, ap (λ x. Some x) same)
clash_settled w path None None h = absurd (cc)

-- two texts that are both the least are the same
both_le : (x y : List ℕ) → is_le (path_cmp x y) ≡ true → is_le (path_cmp y x) ≡ true → x ≡ y
both_le x y le ge = by_order (path_cmp x y) refl le (sym (ap is_le (nat_list_cmp_total.antisymm y x)) ∙ ge)
  where
    by_order : (r : Ordering) → path_cmp x y ≡ r → is_le r ≡ true → is_le (ordering_reverse (path_cmp x y)) ≡ true → x ≡ y
    by_order Less is le ge = let never : false ≡ true = sym (ap (λ r. is_le (ordering_reverse r)) is) ∙ ge in absurd (false≢true never)
    by_order Equal is le ge = exact_bytes x y is
    by_order Greater is le ge = absurd (false≢true le)

one_least : (P : List ℕ → Type 0) (x y : List ℕ) → IsLeast P x → IsLeast P y → x ≡ y
one_least P x y a b = both_le x y (a.1 y b.0) (b.1 x a.0)

pub links_asked_for : LinksAreAskedFor
unfolding wanted
links_asked_for = λ units scope skip t given is path file.
    let place : Place = scope_place scope in
    let w : Wants = all units place skip t in
    let s : Stands (UnitsAsk place skip t units) w = all_stand place skip t units in
    let known = ok_settled w given w.nameless w.clash is in
    let same : map.get given.links path ≡ map.get w.links path = ap (λ (given : Wanted). map.get given.links path) known.2 in (
      λ there. link_asked units place skip t path file (s.only path file (sym same ∙ there)),
      λ asked. same ∙ by_other units place skip t path file asked w s known.1 (s.there path file (asked_link units place skip t path file asked)),
    )
  where
    by_other : (units : List (List ℕ)) (place : Place) (skip : Bool) (t : Entries) (path file : List ℕ) → IsAskedFor t place units path file → (w : Wants) → Stands (UnitsAsk place skip t units) w → w.clash ≡ None
        → ((other : List ℕ) × (map.get w.links path ≡ Some other)) → map.get w.links path ≡ Some file
    by_other units place skip t path file asked w s clash found = elim (cases_Bool (bytes_eq found.0 file)) [
      | inl is ↦ found.1 ∙ ap (λ x. Some x) (same_bytes found.0 file is)
      | inr apart ↦ absurd (no_clash units place skip t w.clash s.clash clash path
          (found.0, file, (λ same. false≢true (sym apart ∙ subst (λ x. bytes_eq found.0 x ≡ true) same (nat_list_eq_equiv.refl found.0))), link_asked units place skip t path found.0 (s.only path found.0 found.1), asked))
    ]

pub needs_least : NeedsLeastInstance
unfolding wanted
needs_least = λ units scope skip t unit.
    let place : Place = scope_place scope in
    let w : Wants = all units place skip t in
    let s : Stands (UnitsAsk place skip t units) w = all_stand place skip t units in (
      λ is. is_least_unit units place skip t w.nameless unit s.nameless (needs_settled w unit w.nameless w.clash is),
      λ least. by_nameless units place skip t unit w s least w.nameless refl,
    )
  where
    by_nameless : (units : List (List ℕ)) (place : Place) (skip : Bool) (t : Entries) (unit : List ℕ) (w : Wants) → Stands (UnitsAsk place skip t units) w → IsLeast (NeedsName t units skip) unit
        → (o : Option (List ℕ)) → w.nameless ≡ o → settled w o w.clash ≡ Err (NeedsInstance unit)
    by_nameless units place skip t unit w s least None is = absurd (no_unit units place skip t w.nameless s.nameless is unit least.0)
    by_nameless units place skip t unit w s least (Some found) is =
        let same : found ≡ unit = one_least (NeedsName t units skip) found unit (is_least_unit units place skip t w.nameless found s.nameless is) least in
        ap (λ u. Err (NeedsInstance u)) same

pub clash_least : ClashIsLeast
unfolding wanted
clash_least = λ units scope skip t path.
    let place : Place = scope_place scope in
    let w : Wants = all units place skip t in
    let s : Stands (UnitsAsk place skip t units) w = all_stand place skip t units in (
      λ is. let known = clash_settled w path w.nameless w.clash is in
          (no_unit units place skip t w.nameless s.nameless known.0, is_least_path units place skip t w.clash path s.clash known.1),
      λ least. by_both units place skip t path w s least.0 least.1 w.nameless w.clash refl refl,
    )
  where
    by_both : (units : List (List ℕ)) (place : Place) (skip : Bool) (t : Entries) (path : List ℕ) (w : Wants) → Stands (UnitsAsk place skip t units) w → ((unit : List ℕ) → ¬ NeedsName t units skip unit)
        → IsLeast (HasTwoTargets t place units) path → (o p : Option (List ℕ)) → w.nameless ≡ o → w.clash ≡ p → settled w o p ≡ Err (Clash path)
    by_both units place skip t path w s none least (Some unit) p is at = absurd (none unit (is_least_unit units place skip t w.nameless unit s.nameless is).0)
    by_both units place skip t path w s none least None None is at = absurd (no_clash units place skip t w.clash s.clash at path least.0)
    by_both units place skip t path w s none least None (Some found) is at =
        let same : found ≡ path = one_least (HasTwoTargets t place units) found path (is_least_path units place skip t w.clash found s.clash at) least in
        ap (λ u. Err (Clash u)) same

pub tells_of_skipped : NoticesAreOfSkippedWords
unfolding wanted
tells_of_skipped = λ units scope skip t given is.
    let place : Place = scope_place scope in
    let w : Wants = all units place skip t in
    let s : Stands (UnitsAsk place skip t units) w = all_stand place skip t units in
    let known = ok_settled w given w.nameless w.clash is in
    let same : (line : List ℕ) → map.get given.notices line ≡ map.get w.notices line = λ line. ap (λ (given : Wanted). map.get given.notices line) known.2 in
    record {
      all_told = λ unit notice here skipped. ap is_some (same (notice_line notice)) ∙ s.told notice (unit, here, asked_if_skipped place skip t unit notice skipped);
      only = λ line notice there.
          let told = s.only_told line notice (sym (same line) ∙ there) in
          ((told.0.0, told.0.1, skips place skip t told.0.0 notice told.0.2), told.1);
    }
