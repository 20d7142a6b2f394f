-- The notices of an answer, as a set.
use Rattle.std.proofs.Common.{◌≡◌, ℕ, true, cond, List, [], ◌⊎◌, ◌↔◌, Option, Some, None, Result, Ok, Err, Contains, refl, sym, ap, subst, ◌∙◌, inl, inr}
use Rattle.std.specs.Prelude.{is_some}
use Rattle.std.specs.Option.{option_or}
use Rattle.std.specs.Cmp.{eq_by_cmp_equiv}
use Rattle.std.specs.Cmp.Lexicographic.{nat_list_cmp_total}
use Rattle.std.specs.FinMap as map
use Rattle.std.proofs.lemmas.Bool.{cases_Bool, false≢true, true≢false}
use Rattle.std.proofs.lemmas.Map.Views.{Contains-from_any, list_any-from_Contains}
use Rattle.unit_file.specs.declared.notice.Notice.{Notice}
use Rattle.unit_file.specs.Notices.{NoticeMap, notice_line, with_notice, joined}
use Rattle.unit_file.proofs.NoticeMaps.{get-joined}
use Rattle.link_tree.specs.Trees.{Entries}
use Rattle.link_tree.proofs.Changed.{is_at}
use Rattle.link_tree.proofs.Shapes.{same_key}
use Rattle.install_section.proofs.Least.{none_of, some_is}
use Rattle.footprint.specs.declared.answer.Answer.{Answer}
use Rattle.footprint.specs.declared.answer.Answer.TheVariants.{Done, Refused}
use Rattle.tree_access.specs.declared.refusal.Refusal.{Refusal}
use Rattle.footprint.specs.Commands.{Command, taken, unless_refused, effect}
use Rattle.tree_access.specs.Placing.{Ruling}
use Rattle.footprint.specs.Steps.{Step}
use Rattle.notice_laws.specs.Reports.{Reports}

-- the notices are exactly these, each at its own line
pub record AreTold (notices : NoticeMap) (Told : Notice → Type 0) : Type 0 where
  pub all : (notice : Notice) → Told notice → is_some (map.get notices (notice_line notice)) ≡ true
  pub only : (line : List ℕ) (notice : Notice) → map.get notices line ≡ Some notice → Told notice × (line ≡ notice_line notice)

some_of : {X : Type 0} (found : Option X) → is_some found ≡ true → (x : X) × (found ≡ Some x)
some_of None is = absurd (false≢true is)
some_of (Some x) is = (x, refl)

line_among : (notices : NoticeMap) (line : List ℕ) → is_some (map.get notices line) ≡ true → Contains (map.keys notices) line
line_among notices line is = Contains-from_any same_key line (map.keys notices) (sym (map.contains_key-keys notices line) ∙ is)

pub among_lines : (notices : NoticeMap) (line : List ℕ) → Contains (map.keys notices) line → is_some (map.get notices line) ≡ true
among_lines notices line here = map.contains_key-keys notices line ∙ list_any-from_Contains (eq_by_cmp_equiv nat_list_cmp_total) line (map.keys notices) here

module _ (Told : Notice → Type 0) where
  -- an accepted command reports its notices
  pub reports_done : (notices : NoticeMap) → AreTold notices Told → Reports (Done notices) Told
  reports_done notices are = record {
    lines = λ line. (
      λ here.
          let found = some_of (map.get notices line) (among_lines notices line here) in
          let told = are.only line found.0 found.1 in
          (refl, found.0, told.0, told.1),
      λ told. line_among notices line (ap (λ line. is_some (map.get notices line)) told.3 ∙ are.all told.1 told.2),
    );
    notices = λ others line notice is there.
        let same : notices ≡ others = cc in
        are.only line notice (ap (λ notices. map.get notices line) same ∙ there);
  }

  -- a refused one reports nothing
  pub reports_refused : (refusal : Refusal) → Reports (Refused refusal) Told
  reports_refused refusal = record {
    lines = λ line. (λ here. absurd (none_of [] line refl here), λ told. absurd (true≢false told.0));
    notices = λ notices line notice is there. cc;
  }

  pub told_of : (notices : NoticeMap) → Reports (Done notices) Told → AreTold notices Told
  told_of notices reports = record {
    all = λ notice told. among_lines notices (notice_line notice) ((reports.lines (notice_line notice)).1 (refl, notice, told, refl));
    only = λ line notice there. reports.notices notices line notice refl there;
  }

  pub ruling_reports : (t : Entries) (notices : NoticeMap) → AreTold notices Told → (ruling : Ruling) → Reports (effect t notices ruling).answer Told
  ruling_reports t notices are (Ok placed) = reports_done notices are
  ruling_reports t notices are (Err refusal) = reports_refused refusal

  -- a command that is carried out reports its notices, unless its step is refused
  pub taken_reports : (t : Entries) (told : NoticeMap × Step) → AreTold told.0 Told → Reports ((taken told).conclusion t).answer Told
  taken_reports t told are = ruling_reports t told.0 are (told.1.conclusion t)

  -- so does one that depends on what was found
  pub unless_reports : {X : Type 0} (on : X → Command) (t : Entries) (given : Result X Refusal) → ((x : X) → given ≡ Ok x → AreTold ((on x).conclusion t).0 Told)
      → Reports ((taken ((unless_refused on given).conclusion t)).conclusion t).answer Told
  unless_reports on t (Ok x) are = taken_reports t ((on x).conclusion t) (are x refl)
  unless_reports on t (Err refusal) are = reports_refused refusal

-- the same notices in other words
pub told_as : (notices : NoticeMap) (One Other : Notice → Type 0) → ((notice : Notice) → One notice ↔ Other notice) → AreTold notices One → AreTold notices Other
told_as notices One Other same are = record {
  all = λ notice told. are.all notice ((same notice).1 told);
  only = λ line notice there. let told = are.only line notice there in ((same notice).0 told.0, told.1);
}

pub reports_as : (answer : Answer) (One Other : Notice → Type 0) → ((notice : Notice) → One notice ↔ Other notice) → Reports answer One → Reports answer Other
reports_as answer One Other same reports = record {
  lines = λ line. (
    λ here. let told = (reports.lines line).0 here in (told.0, told.1, (same told.1).0 told.2, told.3),
    λ told. (reports.lines line).1 (told.0, told.1, (same told.1).1 told.2, told.3),
  );
  notices = λ notices line notice is there. let told = reports.notices notices line notice is there in ((same notice).0 told.0, told.1);
}

first_some : (one other : Option Notice) → is_some one ≡ true → is_some (option_or one other) ≡ true
first_some None other is = absurd (false≢true is)
first_some (Some notice) other is = refl

second_some : (one other : Option Notice) → is_some other ≡ true → is_some (option_or one other) ≡ true
second_some None other is = is
second_some (Some notice) other is = refl

-- joined notices are those of both
module _ (notices others : NoticeMap) (One Other : Notice → Type 0) (one : AreTold notices One) (other : AreTold others Other) where
  by_other : (line : List ℕ) (notice : Notice) (found : Option Notice) → map.get others line ≡ found → option_or found (map.get notices line) ≡ Some notice → (One notice ⊎ Other notice) × (line ≡ notice_line notice)
  by_other line notice None at is = let told = one.only line notice is in (inl told.0, told.1)
  by_other line notice (Some found) at is = let told = other.only line notice (at ∙ is) in (inr told.0, told.1)

  told_in : (line : List ℕ) → is_some (option_or (map.get others line) (map.get notices line)) ≡ true → is_some (map.get (joined notices others) line) ≡ true
  told_in line is = ap is_some (get-joined notices others line) ∙ is

  pub both_told : AreTold (joined notices others) (λ notice. One notice ⊎ Other notice)
  both_told = record {
    all = λ notice told. elim told [
      | inl first ↦ told_in (notice_line notice) (second_some (map.get others (notice_line notice)) (map.get notices (notice_line notice)) (one.all notice first))
      | inr second ↦ told_in (notice_line notice) (first_some (map.get others (notice_line notice)) (map.get notices (notice_line notice)) (other.all notice second))
    ];
    only = λ line notice there. by_other line notice (map.get others line) refl (sym (get-joined notices others line) ∙ there);
  }

-- one more notice
pub one_only : (Told : Notice → Type 0) (notices : NoticeMap) (notice : Notice) → Told notice
    → ((line : List ℕ) (other : Notice) → map.get notices line ≡ Some other → Told other × (line ≡ notice_line other))
    → (line : List ℕ) (other : Notice) → map.get (with_notice notices notice) line ≡ Some other → Told other × (line ≡ notice_line other)
one_only Told notices notice told only line other there = elim (cases_Bool (is_at line (notice_line notice))) [
  | inl at ↦
      let same : notice ≡ other = some_is notice other (sym (map.get-insert nat_list_cmp_total notices (notice_line notice) notice line ∙ ap (λ b. cond b (Some notice) (map.get notices line)) at) ∙ there) in
      (subst Told same told, same_key line (notice_line notice) at ∙ ap notice_line same)
  | inr away ↦ only line other (sym (map.get-insert nat_list_cmp_total notices (notice_line notice) notice line ∙ ap (λ b. cond b (Some notice) (map.get notices line)) away) ∙ there)
]
