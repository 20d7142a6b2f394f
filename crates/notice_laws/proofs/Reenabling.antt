-- The notices of reenable.
use Rattle.std.proofs.Common.{◌≡◌, false, ◌⊎◌, ◌↔◌, Result, Ok, Err, inl, inr}
use Rattle.unit_file.specs.declared.notice.Notice.{Notice}
use Rattle.link_tree.specs.Trees.{Entries}
use Rattle.tree_access.specs.declared.refusal.Refusal.{Refusal}
use Rattle.footprint.specs.Commands.{carried_out}
use Rattle.install_commands.specs.declared.reenable.Reenable.{Reenable}
use Rattle.install_commands.specs.Check.{going_on, checked}
use Rattle.install_commands.specs.Disable.{units_named}
use Rattle.install_commands.specs.Laws.{Leaves}
use Rattle.install_commands.specs.Reenable.{checked_named, links_cleared, reenable_disables, reenable_enables, reenable_meaning}
use Rattle.notice_laws.specs.Installs.{DisableNotices, EnableNotices, ReenableNotices, ReenableReports}
use Rattle.notice_laws.specs.Installs.ReenableNotices.{Disabling, Enabling}
use Rattle.notice_laws.specs.Reports.{Reports}
use Rattle.notice_laws.proofs.Disabling.{Names, names_told}
use Rattle.notice_laws.proofs.Enabling.{enabling}
use Rattle.notice_laws.proofs.InTurn.{both_report}
use Rattle.notice_laws.proofs.Told.{AreTold, reports_as, unless_reports}

module _ (reenable : Reenable) (t : Entries) where
  abbrev One : Notice → Type 0
  One = DisableNotices reenable.units t

  abbrev Other : Entries → Notice → Type 0
  Other v = EnableNotices reenable.units v

  abbrev Later : Notice → Type 0
  Later notice = (v : Entries) × Leaves (carried_out (reenable_disables reenable)) t v × Other v notice

  by_check : (named : Names) (fine : Result (Unit {0}) Refusal) → (going_on (λ fine. units_named reenable.units) fine).conclusion t ≡ Ok named → AreTold named.notices One
  by_check named (Ok fine) is = names_told reenable.units t named is
  by_check named (Err refusal) is = cc

  first : Reports ((carried_out (reenable_disables reenable)).conclusion t).answer One
  first = unless_reports One (links_cleared reenable.scope) t ((checked_named reenable.units).conclusion t) (λ named is. by_check named ((checked reenable.units).conclusion t) is)

  second : (v : Entries) → Leaves (carried_out (reenable_disables reenable)) t v → Reports ((carried_out (reenable_enables reenable)).conclusion v).answer (Other v)
  second v leaves = enabling reenable.scope false reenable.units v

  apart : (notice : Notice) → ReenableNotices reenable t notice → One notice ⊎ Later notice
  apart notice (Disabling tells) = inl tells
  apart notice (Enabling v leaves tells) = inr (v, leaves, tells)

  same : (notice : Notice) → (One notice ⊎ Later notice) ↔ ReenableNotices reenable t notice
  same notice = (λ so. elim so [ inl now ↦ Disabling now | inr later ↦ Enabling later.0 later.1 later.2 ], apart notice)

  pub reenabling : Reports ((reenable_meaning reenable).conclusion t).answer (ReenableNotices reenable t)
  reenabling = reports_as ((reenable_meaning reenable).conclusion t).answer (λ notice. One notice ⊎ Later notice) (ReenableNotices reenable t) same
      (both_report (reenable_disables reenable) (reenable_enables reenable) t One Other first second)

pub reenable_reports : ReenableReports
reenable_reports reenable t = reenabling reenable t
