-- Why words are skipped, as relations.
use Rattle.std.proofs.Common.{◌≡◌, ◌≢◌, ℕ, Bool, true, false, not, ◌&&◌, cond, List, [], ◌⊎◌, Option, Some, None, Result, Ok, Err, refl, sym, ap, subst, ◌∙◌, inl, inr}
use Rattle.std.specs.Str.{bytes_eq}
use Rattle.std.proofs.lemmas.Bool.{cases_Bool, false≢true, true≢false, and_cases, and_left, and_right}
use Rattle.std.proofs.lemmas.Slice.Eq.{bytes_eq-Decides}
use Rattle.unit_name.specs.Name.{is_unit_name, instance_of, type_of}
use Rattle.unit_name.specs.Specifiers.{expansion}
use Rattle.unit_file.specs.declared.notice.Reason.{Reason}
use Rattle.unit_file.specs.declared.notice.Reason.TheVariants as reasons
use Rattle.unit_file.specs.Listed.{listed_name}
use Rattle.unit_paths.specs.declared.place.Place.{Place}
use Rattle.unit_paths.specs.declared.place.Place.TheVariants.{Etc}
use Rattle.unit_paths.specs.declared.slot.Dependency.{Dependency}
use Rattle.unit_paths.specs.declared.slot.Dependency.TheVariants.{Wants}
use Rattle.link_tree.specs.Trees.{Entries}
use Rattle.link_tree.proofs.Changed.{same_bytes}
use Rattle.load_path.specs.declared.finding.Found.{Found}
use Rattle.load_path.specs.declared.finding.Found.TheVariants as founds
use Rattle.load_path.specs.Find.{find}
use Rattle.load_path.specs.RealNames.{is_same_type}
use Rattle.install_section.specs.Closure.{why_not}
use Rattle.install_section.specs.ClosureLaws.{IsNone}
use Rattle.install_section.specs.Wishes.{alias_meant, aliased, aliasing, are_alike, has_aliases, listed_under, listing, may_have}
use Rattle.install_section.specs.Words.{name_or_reason, named_by}
use Rattle.notice_laws.specs.Skipped.{IsNoName, IncludesNone, MeansAlias, GivesNone}
use Rattle.notice_laws.specs.Skipped.IsNoName.{UnknownSpecifier, InvalidName}
use Rattle.notice_laws.proofs.Private.{Made}

-- what a word asks for; the enum is private
abbrev pub Wish : Type 0
Wish = Made (listing Etc Wants [] [])

-- that it is skipped
abbrev pub Skip : Reason → Wish
Skip reason = listing Etc Wants [] [] (Err reason)

by_cond : {X : Type 0} (b : Bool) (x y z : X) → cond b x y ≡ z → ((b ≡ true) × (x ≡ z)) ⊎ ((b ≡ false) × (y ≡ z))
by_cond true x y z is = inl (refl, is)
by_cond false x y z is = inr (refl, is)

module _ (identity word : List ℕ) where
  by_text : (text : List ℕ) (reason : Reason) (valid : Bool) → expansion identity word ≡ Some text → is_unit_name text ≡ valid → cond valid (Ok text) (Err reasons.BadName) ≡ Err reason → IsNoName identity word reason
  by_text text reason true at is ends = cc
  by_text text reason false at is ends = let same : reasons.BadName ≡ reason = cc in subst (IsNoName identity word) same (InvalidName text at is)

  by_expansion : (reason : Reason) (text : Option (List ℕ)) → expansion identity word ≡ text → name_or_reason text ≡ Err reason → IsNoName identity word reason
  by_expansion reason None at ends = let same : reasons.BadSpecifier ≡ reason = cc in subst (IsNoName identity word) same (UnknownSpecifier at)
  by_expansion reason (Some text) at ends = by_text text reason (is_unit_name text) at refl ends

  -- a word is no unit's name exactly if it has a reason
  pub no_name : (reason : Reason) → named_by identity word ≡ Err reason → IsNoName identity word reason
  no_name reason is = by_expansion reason (expansion identity word) refl is

  pub not_named : (reason : Reason) → IsNoName identity word reason → named_by identity word ≡ Err reason
  not_named reason (UnknownSpecifier none) = ap name_or_reason none
  not_named reason (InvalidName text at bad) = ap name_or_reason at ∙ ap (λ b. cond b (Ok text) (Err reasons.BadName)) bad

  -- a word of `WantedBy=`, `RequiredBy=` or `UpheldBy=`
  module _ (place : Place) (dependency : Dependency) (unit : List ℕ) where
    by_listed : (by : List ℕ) (reason : Reason) (name : Option (List ℕ)) → listed_under place dependency by name ≡ Skip reason → IsNoName identity word reason
    by_listed by reason None ends = cc
    by_listed by reason (Some name) ends = cc

    by_list : (reason : Reason) (name : Result (List ℕ) Reason) → named_by identity word ≡ name → listing place dependency unit identity name ≡ Skip reason → IsNoName identity word reason
    by_list reason (Ok by) at ends = by_listed by reason (listed_name by unit identity) ends
    by_list reason (Err other) at ends = let same : other ≡ reason = cc in no_name reason (at ∙ ap (λ (r : Reason). Err r) same)

    pub not_listed : (reason : Reason) → listing place dependency unit identity (named_by identity word) ≡ Skip reason → IsNoName identity word reason
    not_listed reason is = by_list reason (named_by identity word) refl is

    pub list_skips : (reason : Reason) → IsNoName identity word reason → listing place dependency unit identity (named_by identity word) ≡ Skip reason
    list_skips reason bad = ap (listing place dependency unit identity) (not_named reason bad)

  -- a word of `Also=`
  module _ (t : Entries) where
    by_own : (name real file : List ℕ) (place : Place) (reason : Reason) (own : Bool) → named_by identity word ≡ Ok name → (find name).conclusion t ≡ founds.Unit real file place → bytes_eq real name ≡ own
        → cond own None (Some reasons.IsAlias) ≡ Some reason → IncludesNone t identity word reason
    by_own name real file place reason true named at own ends = cc
    by_own name real file place reason false named at own ends =
        let same : reasons.IsAlias ≡ reason = cc in
        subst (IncludesNone t identity word) same (IncludesNone.OtherName name real file place (named, at) (λ is. false≢true (sym own ∙ (bytes_eq-Decides real name).1 is)))

    by_found : (name : List ℕ) (reason : Reason) (found : Found) → named_by identity word ≡ Ok name → (find name).conclusion t ≡ found → why_not name found ≡ Some reason → IncludesNone t identity word reason
    by_found name reason founds.Missing named at ends = let same : reasons.NotFound ≡ reason = cc in subst (IncludesNone t identity word) same (IncludesNone.Missing name (named, at))
    by_found name reason (founds.Masked place) named at ends = let same : reasons.Masked ≡ reason = cc in subst (IncludesNone t identity word) same (IncludesNone.Masked name place (named, at))
    by_found name reason (founds.Dangling link) named at ends = let same : reasons.Dangling ≡ reason = cc in subst (IncludesNone t identity word) same (IncludesNone.Dangling name link (named, at))
    by_found name reason (founds.Unit real file place) named at ends = by_own name real file place reason (bytes_eq real name) named at refl ends

    pub includes_none : (reason : Reason) → IsNone t identity word reason → IncludesNone t identity word reason
    includes_none reason none = elim none [
      | inl bad ↦ IncludesNone.NoName reason (no_name reason bad)
      | inr found ↦ by_found found.0 reason ((find found.0).conclusion t) found.1 refl found.2
    ]

    not_own : (name real : List ℕ) → real ≢ name → bytes_eq real name ≡ false
    not_own name real other = elim (cases_Bool (bytes_eq real name)) [ inl same ↦ absurd (other (same_bytes real name same)) | inr away ↦ away ]

    pub none_included : (reason : Reason) → IncludesNone t identity word reason → IsNone t identity word reason
    none_included reason (IncludesNone.NoName _ bad) = inl (not_named reason bad)
    none_included reason (IncludesNone.Missing name names) = inr (name, names.0, ap (why_not name) names.1)
    none_included reason (IncludesNone.Masked name place names) = inr (name, names.0, ap (why_not name) names.1)
    none_included reason (IncludesNone.Dangling name link names) = inr (name, names.0, ap (why_not name) names.1)
    none_included reason (IncludesNone.OtherName name real file place names other) =
        inr (name, names.0, ap (why_not name) names.1 ∙ ap (λ b. cond b None (Some reasons.IsAlias)) (not_own name real other))

  -- a word of `Alias=`
  module _ (place : Place) (unit : List ℕ) where
    was_true : (b : Bool) → not b ≡ false → b ≡ true
    was_true true is = refl
    was_true false is = absurd (true≢false is)

    bad_alias : (alias : List ℕ) → MeansAlias unit identity word alias → may_have unit alias ≡ false → GivesNone unit identity word reasons.BadAlias
    unfolding may_have
    bad_alias alias means may = elim (and_cases (is_same_type (type_of alias) (type_of unit)) (has_aliases (type_of unit) && (not (bytes_eq alias unit) && are_alike (instance_of alias) (instance_of unit))) may) [
      | inl type ↦ GivesNone.OtherType alias means type
      | inr rest ↦ elim (and_cases (has_aliases (type_of unit)) (not (bytes_eq alias unit) && are_alike (instance_of alias) (instance_of unit)) rest) [
        | inl none ↦ GivesNone.NoAliases alias means none
        | inr more ↦ elim (and_cases (not (bytes_eq alias unit)) (are_alike (instance_of alias) (instance_of unit)) more) [
          | inl own ↦ GivesNone.OwnName (subst (MeansAlias unit identity word) (same_bytes alias unit (was_true (bytes_eq alias unit) own)) means)
          | inr kind ↦ GivesNone.OtherKind alias means kind
        ]
      ]
    ]

    by_may : (alias : List ℕ) (reason : Reason) → MeansAlias unit identity word alias → aliased place unit (Some alias) ≡ Skip reason → GivesNone unit identity word reason
    by_may alias reason means ends = elim (by_cond (may_have unit alias) _ _ _ ends) [
      | inl so ↦ (let never = so.1 in absurd (cc))
      | inr so ↦ (let never = so.1 in let same : reasons.BadAlias ≡ reason = cc in subst (GivesNone unit identity word) same (bad_alias alias means so.0))
    ]

    by_meant : (name : List ℕ) (reason : Reason) (alias : Option (List ℕ)) → named_by identity word ≡ Ok name → alias_meant unit name ≡ alias → aliased place unit alias ≡ Skip reason → GivesNone unit identity word reason
    by_meant name reason None named meant ends = let same : reasons.BadName ≡ reason = cc in subst (GivesNone unit identity word) same (GivesNone.NoInstance name named meant)
    by_meant name reason (Some alias) named meant ends = by_may alias reason (name, named, meant) ends

    by_alias : (reason : Reason) (name : Result (List ℕ) Reason) → named_by identity word ≡ name → aliasing place unit name ≡ Skip reason → GivesNone unit identity word reason
    by_alias reason (Ok name) at ends = by_meant name reason (alias_meant unit name) at refl ends
    by_alias reason (Err other) at ends = let same : other ≡ reason = cc in GivesNone.NoName reason (no_name reason (at ∙ ap (λ (r : Reason). Err r) same))

    pub gives_none : (reason : Reason) → aliasing place unit (named_by identity word) ≡ Skip reason → GivesNone unit identity word reason
    gives_none reason is = by_alias reason (named_by identity word) refl is

    refused_alias : (alias : List ℕ) → MeansAlias unit identity word alias → may_have unit alias ≡ false → aliasing place unit (named_by identity word) ≡ Skip reasons.BadAlias
    refused_alias alias means may = ap (aliasing place unit) means.1 ∙ ap (aliased place unit) means.2 ∙ rw may refl

    own_bytes : bytes_eq unit unit ≡ true
    own_bytes = (bytes_eq-Decides unit unit).1 refl

    pub none_given : (reason : Reason) → GivesNone unit identity word reason → aliasing place unit (named_by identity word) ≡ Skip reason
    unfolding may_have
    none_given reason (GivesNone.NoName _ bad) = ap (aliasing place unit) (not_named reason bad)
    none_given reason (GivesNone.NoInstance name named none) = ap (aliasing place unit) named ∙ ap (aliased place unit) none
    none_given reason (GivesNone.OtherType alias means type) = refused_alias alias means (and_left _ _ type)
    none_given reason (GivesNone.NoAliases alias means none) = refused_alias alias means (and_right (is_same_type (type_of alias) (type_of unit)) _ (and_left _ _ none))
    none_given reason (GivesNone.OwnName means) =
        refused_alias unit means (and_right (is_same_type (type_of unit) (type_of unit)) _ (and_right (has_aliases (type_of unit)) _ (and_left _ (are_alike (instance_of unit) (instance_of unit)) (ap not own_bytes))))
    none_given reason (GivesNone.OtherKind alias means kind) =
        refused_alias alias means (and_right (is_same_type (type_of alias) (type_of unit)) _ (and_right (has_aliases (type_of unit)) _ (and_right (not (bytes_eq alias unit)) _ kind)))
