-- The notices of enable.
use Rattle.std.proofs.Common.{◌≡◌, ℕ, Bool, false, List, ◌⊎◌, ◌↔◌, Contains, Result, Ok, Err, refl, sym, subst, ◌∙◌, inl, inr}
use Rattle.unit_file.specs.declared.notice.Notice.{Notice}
use Rattle.unit_file.specs.declared.notice.NoticeKey.{NoticeKey}
use Rattle.unit_file.specs.declared.notice.NoticeKey.TheVariants as keys
use Rattle.unit_file.specs.declared.notice.Reason.{Reason}
use Rattle.unit_file.specs.Notices.{joined}
use Rattle.unit_paths.specs.declared.place.Place.{Place}
use Rattle.unit_paths.specs.declared.place.Scope.{Scope}
use Rattle.unit_paths.specs.declared.slot.Dependency.TheVariants.{Wants, Requires, Upholds}
use Rattle.unit_paths.specs.Places.{scope_place}
use Rattle.link_tree.specs.Trees.{Entries}
use Rattle.install_section.specs.declared.closed.Closed.{Closed}
use Rattle.install_section.specs.declared.closed.ClosureFault.{ClosureFault}
use Rattle.install_section.specs.declared.closed.ClosureFault.TheVariants as closure_faults
use Rattle.install_section.specs.declared.section.Section.{Section}
use Rattle.install_section.specs.declared.wants.Wanted.{Wanted}
use Rattle.install_section.specs.declared.wants.WantedFault.{WantedFault}
use Rattle.install_section.specs.declared.wants.WantedFault.TheVariants as wanted_faults
use Rattle.install_section.specs.Closure.{Reached, closure}
use Rattle.install_section.specs.ClosureLaws.{IsNone, IsSkipped as IsSkippedAlso}
use Rattle.install_section.specs.Sections.{identity_in}
use Rattle.install_section.specs.Wanted.{wanted}
use Rattle.install_section.specs.WantedLaws.{HasWord as Lists, IsSkipped as IsSkippedLink, key_of}
use Rattle.install_section.specs.Wishes.{notice_key, wish, words_for}
use Rattle.install_section.specs.Words.{skipped}
use Rattle.install_section.proofs.Least.{closure_least, tells_of_skipped as closure_tells}
use Rattle.install_section.proofs.WantedSets.{tells_of_skipped as wanted_tells}
use Rattle.tree_access.specs.declared.refusal.Refusal.{Refusal}
use Rattle.footprint.specs.Commands.{carried_out}
use Rattle.install_commands.specs.Check.{going_on, checked}
use Rattle.install_commands.specs.Enable.{unless_too_many, unless_at_odds, closed_want, units_want, links_made, checked_want, units_enabled}
use Rattle.notice_laws.specs.Installs.{EnableNotices, EnableReports, HasSection}
use Rattle.notice_laws.specs.Reports.{Reports}
use Rattle.notice_laws.specs.Skipped.{GivesNone}
use Rattle.notice_laws.proofs.LinkKeys.{LinkKey, not_also, not_preset, wanted_words, required_words, upheld_words, alias_words, wanted_wish, required_wish, upheld_wish, alias_wish, alias_key}
use Rattle.notice_laws.proofs.Reasons.{Skip, includes_none, none_included, not_listed, list_skips, gives_none, none_given}
use Rattle.notice_laws.proofs.Told.{AreTold, told_as, both_told, unless_reports}

module _ (t : Entries) where
  -- a word of `Also=` of one of these units is skipped
  abbrev pub AlsoOf : (Units : List ℕ → Type 0) → Notice → Type 0
  AlsoOf Units notice = (unit : List ℕ) × Units unit × IsSkippedAlso t unit notice

  -- a closure reports those of its units
  pub closure_told : (given : List (List ℕ)) (closed : Closed) → (closure given).conclusion t ≡ Ok closed → AreTold closed.notices (AlsoOf (Reached t given))
  closure_told given closed closes =
      let tells = closure_tells given t closed closes in
      let least = (closure_least given t closed closes).1 in
      record {
        all = λ notice told. tells.all_told told.0 notice ((least told.0).1 told.1) told.2;
        only = λ line notice there. let told = tells.only line notice there in ((told.0.0, (least told.0.0).0 told.0.1, told.0.2), told.1);
      }

  pub also_skipped : (unit word : List ℕ) (section : Section) (reason : Reason) → HasSection t unit section → Contains section.text.also word → IsNone t (identity_in unit section) word reason
      → IsSkippedAlso t unit (skipped unit keys.Also word reason)
  also_skipped unit word section reason has here none = (word, section, reason, (has, here), none, refl)

module _ (scope : Scope) (skip : Bool) (units : List (List ℕ)) (t : Entries) where
  abbrev Told : Notice → Type 0
  Told = EnableNotices units t

  abbrev place : Place
  place = scope_place scope

  -- a word of one of the lists that ask for links is skipped
  abbrev LinkOf : Notice → Type 0
  LinkOf notice = (unit : List ℕ) × Reached t units unit × IsSkippedLink t place unit notice

  wanted_told : (closed : Closed) (found : Wanted) → (closure units).conclusion t ≡ Ok closed → (wanted closed.units scope skip).conclusion t ≡ Ok found → AreTold found.notices LinkOf
  wanted_told closed found closes finds =
      let tells = wanted_tells closed.units scope skip t found finds in
      let least = (closure_least units t closed closes).1 in
      record {
        all = λ notice told. tells.all_told told.0 notice ((least told.0).1 told.1) told.2;
        only = λ line notice there. let told = tells.only line notice there in ((told.0.0, (least told.0.0).0 told.0.1, told.0.2), told.1);
      }

  also_told : (unit : List ℕ) (notice : Notice) → Reached t units unit → IsSkippedAlso t unit notice → Told notice
  also_told unit notice reached is = subst Told (sym is.5) (EnableNotices.Also unit is.0 is.1 is.2 reached is.3.0 is.3.1 (includes_none (identity_in unit is.1) is.0 t is.2 is.4))

  -- a word of the list with this key
  module _ (unit : List ℕ) (key : LinkKey) (word : List ℕ) (section : Section) (reason : Reason) (reached : Reached t units unit) (has : Lists t unit key word section)
      (is : wish place key unit (identity_in unit section) word ≡ Skip reason) where
    abbrev identity : List ℕ
    identity = identity_in unit section

    by_notice : (its : NoticeKey) → notice_key key ≡ its → Told (skipped unit its word reason)
    by_notice keys.Also at = absurd (not_also key at)
    by_notice keys.WantedBy at =
        EnableNotices.WantedBy unit word section reason reached has.0 (subst (λ words. Contains words word) (wanted_words key section.text at) has.1)
        (not_listed identity word place Wants unit reason (sym (wanted_wish key place unit identity word at) ∙ is))
    by_notice keys.RequiredBy at =
        EnableNotices.RequiredBy unit word section reason reached has.0 (subst (λ words. Contains words word) (required_words key section.text at) has.1)
        (not_listed identity word place Requires unit reason (sym (required_wish key place unit identity word at) ∙ is))
    by_notice keys.UpheldBy at =
        EnableNotices.UpheldBy unit word section reason reached has.0 (subst (λ words. Contains words word) (upheld_words key section.text at) has.1)
        (not_listed identity word place Upholds unit reason (sym (upheld_wish key place unit identity word at) ∙ is))
    by_notice keys.Alias at =
        EnableNotices.Alias unit word section reason reached has.0 (subst (λ words. Contains words word) (alias_words key section.text at) has.1)
        (gives_none identity word place unit reason (sym (alias_wish key place unit identity word at) ∙ is))
    by_notice keys.Preset at = absurd (not_preset key at)

    by_key : Told (skipped unit (notice_key key) word reason)
    by_key = by_notice (notice_key key) refl

  link_told : (unit : List ℕ) (notice : Notice) → Reached t units unit → IsSkippedLink t place unit notice → Told notice
  link_told unit notice reached is = subst Told (sym is.6) (by_key unit is.0 is.1 is.2 is.3 reached is.4 is.5)

  link_skipped : (unit : List ℕ) (key : LinkKey) (word : List ℕ) (section : Section) (reason : Reason) → HasSection t unit section → Contains (words_for key section.text) word
      → wish place key unit (identity_in unit section) word ≡ Skip reason → IsSkippedLink t place unit (skipped unit (notice_key key) word reason)
  link_skipped unit key word section reason has here is = (key, word, section, reason, (has, here), is, refl)

  alias_skipped : (unit word : List ℕ) (section : Section) (reason : Reason) → HasSection t unit section → Contains section.text.alias word → GivesNone unit (identity_in unit section) word reason
      → IsSkippedLink t place unit (skipped unit keys.Alias word reason)
  alias_skipped unit word section reason has here none =
      let key : LinkKey = (alias_key section).0 in
      let at : notice_key key ≡ keys.Alias = (alias_key section).1 in
      subst (λ its. IsSkippedLink t place unit (skipped unit its word reason)) at
      (link_skipped unit key word section reason has (subst (λ words. Contains words word) (sym (alias_words key section.text at)) here)
      (alias_wish key place unit (identity_in unit section) word at ∙ none_given (identity_in unit section) word place unit reason none))

  either : (notice : Notice) → Told notice → AlsoOf t (Reached t units) notice ⊎ LinkOf notice
  either notice (EnableNotices.Also unit word section reason reached has here none) =
      inl (unit, reached, also_skipped t unit word section reason has here (none_included (identity_in unit section) word t reason none))
  either notice (EnableNotices.WantedBy unit word section reason reached has here bad) =
      inr (unit, reached, link_skipped unit (key_of Wants) word section reason has here (list_skips (identity_in unit section) word place Wants unit reason bad))
  either notice (EnableNotices.RequiredBy unit word section reason reached has here bad) =
      inr (unit, reached, link_skipped unit (key_of Requires) word section reason has here (list_skips (identity_in unit section) word place Requires unit reason bad))
  either notice (EnableNotices.UpheldBy unit word section reason reached has here bad) =
      inr (unit, reached, link_skipped unit (key_of Upholds) word section reason has here (list_skips (identity_in unit section) word place Upholds unit reason bad))
  either notice (EnableNotices.Alias unit word section reason reached has here none) = inr (unit, reached, alias_skipped unit word section reason has here none)

  same : (notice : Notice) → (AlsoOf t (Reached t units) notice ⊎ LinkOf notice) ↔ Told notice
  same notice = (
    λ so. elim so [ inl also ↦ also_told also.0 notice also.1 also.2 | inr link ↦ link_told link.0 notice link.1 link.2 ],
    either notice,
  )

  by_found : (given : Wanted) (closed : Closed) → (closure units).conclusion t ≡ Ok closed → (found : Result Wanted WantedFault)
      → (wanted closed.units scope skip).conclusion t ≡ found → unless_at_odds closed.notices found ≡ Ok given → AreTold given.notices Told
  by_found given closed closes (Ok found) finds is =
      let notices : record { links = found.links; notices = joined closed.notices found.notices } ≡ given = cc in
      subst (λ (w : Wanted). AreTold w.notices Told) notices
      (told_as (joined closed.notices found.notices) (λ notice. AlsoOf t (Reached t units) notice ⊎ LinkOf notice) Told same
      (both_told closed.notices found.notices (AlsoOf t (Reached t units)) LinkOf (closure_told t units closed closes) (wanted_told closed found closes finds)))
  by_found given closed closes (Err (wanted_faults.NeedsInstance unit)) finds is = cc
  by_found given closed closes (Err (wanted_faults.Clash path)) finds is = cc

  by_closed : (given : Wanted) (closed : Result Closed ClosureFault) → (closure units).conclusion t ≡ closed → (going_on (closed_want scope skip) (unless_too_many closed)).conclusion t ≡ Ok given → AreTold given.notices Told
  by_closed given (Ok closed) closes is = by_found given closed closes ((wanted closed.units scope skip).conclusion t) refl is
  by_closed given (Err closure_faults.TooMany) closes is = cc

  by_check : (given : Wanted) (fine : Result (Unit {0}) Refusal) → (going_on (λ fine. units_want scope skip units) fine).conclusion t ≡ Ok given → AreTold given.notices Told
  by_check given (Ok fine) is = by_closed given ((closure units).conclusion t) refl is
  by_check given (Err refusal) is = cc

  pub enabling : Reports ((carried_out (units_enabled scope skip units)).conclusion t).answer Told
  enabling = unless_reports Told links_made t ((checked_want scope skip units).conclusion t) (λ given is. by_check given ((checked units).conclusion t) is)

pub enable_reports : EnableReports
enable_reports enable t = enabling enable.scope false enable.units t
