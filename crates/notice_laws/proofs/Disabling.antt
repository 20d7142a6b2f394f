-- The notices of disable.
use Rattle.std.proofs.Common.{◌≡◌, ℕ, List, ◌++◌, ◌↔◌, Result, Ok, Err, refl, sym, subst}
use Rattle.unit_file.specs.declared.notice.Notice.{Notice}
use Rattle.unit_paths.specs.declared.place.Scope.TheVariants.{Etc}
use Rattle.link_tree.specs.Trees.{Entries}
use Rattle.load_path.specs.Search.{each_once}
use Rattle.install_section.specs.declared.closed.Closed.{Closed}
use Rattle.install_section.specs.declared.closed.ClosureFault.{ClosureFault}
use Rattle.install_section.specs.declared.closed.ClosureFault.TheVariants as closure_faults
use Rattle.install_section.specs.Closure.{Reached, closure}
use Rattle.install_section.specs.ClosureLaws.{IsSkipped}
use Rattle.install_section.specs.Sections.{identity_in}
use Rattle.install_commands.specs.Disable.{named_with, units_named, links_removed}
use Rattle.install_commands.specs.Enable.{unless_too_many}
use Rattle.install_commands.proofs.Named.{reals, selves, reached_goes, goes_reached}
use Rattle.notice_laws.specs.Installs.{DisableNotices, DisableReports}
use Rattle.notice_laws.specs.Installs.DisableNotices.{Also}
use Rattle.notice_laws.proofs.Enabling.{AlsoOf, closure_told, also_skipped}
use Rattle.notice_laws.proofs.Private.{Given}
use Rattle.notice_laws.proofs.Reasons.{includes_none, none_included}
use Rattle.notice_laws.proofs.Told.{AreTold, told_as, unless_reports}

-- the names of a disable, with their notices; the struct is private
abbrev pub Names : Type 0
Names = Given (links_removed Etc)

module _ (units : List (List ℕ)) (t : Entries) where
  abbrev Told : Notice → Type 0
  Told = DisableNotices units t

  told : (unit : List ℕ) (notice : Notice) → Reached t (selves t units) unit → IsSkipped t unit notice → Told notice
  told unit notice reached is = subst Told (sym is.5) (Also unit is.0 is.1 is.2 (reached_goes t units unit reached) is.3.0 is.3.1 (includes_none (identity_in unit is.1) is.0 t is.2 is.4))

  skips : (notice : Notice) → Told notice → AlsoOf t (Reached t (selves t units)) notice
  skips notice (Also unit word section reason goes has here none) =
      (unit, goes_reached t units unit goes, also_skipped t unit word section reason has here (none_included (identity_in unit section) word t reason none))

  same : (notice : Notice) → AlsoOf t (Reached t (selves t units)) notice ↔ Told notice
  same notice = (λ also. told also.0 notice also.1 also.2, skips notice)

  by_closed : (named : Names) (closed : Result Closed ClosureFault) → (closure (selves t units)).conclusion t ≡ closed → named_with (units ++ reals t units) (unless_too_many closed) ≡ Ok named → AreTold named.notices Told
  by_closed named (Ok closed) closes is =
      let given : record { names = each_once ((units ++ reals t units) ++ closed.units); notices = closed.notices } ≡ named = cc in
      subst (λ (n : Names). AreTold n.notices Told) given (told_as closed.notices (AlsoOf t (Reached t (selves t units))) Told same (closure_told t (selves t units) closed closes))
  by_closed named (Err closure_faults.TooMany) closes is = cc

  -- the names have these notices
  pub names_told : (named : Names) → (units_named units).conclusion t ≡ Ok named → AreTold named.notices Told
  names_told named is = by_closed named ((closure (selves t units)).conclusion t) refl is

pub disable_reports : DisableReports
disable_reports disable t = unless_reports (DisableNotices disable.units t) (links_removed disable.scope) t ((units_named disable.units).conclusion t) (names_told disable.units t)
