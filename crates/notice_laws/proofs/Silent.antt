-- Commands that report nothing.
use Rattle.std.proofs.Common.{◌≡◌, List, [], ◌∷◌, Result, Ok, Err, Contains, refl, sym, ap, ◌∙◌}
use Rattle.std.specs.Prelude.{is_some}
use Rattle.std.specs.FinMap as map
use Rattle.std.proofs.lemmas.Bool.{false≢true}
use Rattle.unit_file.specs.declared.notice.Notice.{Notice}
use Rattle.unit_file.specs.Notices.{line_cmp, NoticeMap}
use Rattle.link_tree.specs.Trees.{Entries}
use Rattle.install_section.proofs.Least.{is_first}
use Rattle.tree_access.specs.declared.refusal.Refusal.{Refusal}
use Rattle.footprint.specs.Commands.{silent, taken, unless_refused, carried_out, effect}
use Rattle.tree_access.specs.Placing.{Ruling}
use Rattle.footprint.specs.Steps.{Step, nothing}
use Rattle.install_commands.specs.Check.{checked}
use Rattle.slot_commands.specs.AddTo.{add_steps}
use Rattle.slot_commands.specs.ByHand.{place_steps, remove_steps}
use Rattle.slot_commands.specs.LinkUnits.{link_steps}
use Rattle.slot_commands.specs.Masks.{mask_steps, unmask_steps}
use Rattle.slot_commands.specs.SetDefault.{default_steps}
use Rattle.notice_laws.specs.Reports.{lines_in, AddIsSilent, CheckIsSilent, LinkIsSilent, MaskIsSilent, PlaceIsSilent, RemoveIsSilent, SetDefaultIsSilent, UnmaskIsSilent}
use Rattle.notice_laws.proofs.Told.{among_lines}

nil_of : {X : Type 0} (xs : List X) → ((x : X) → Contains xs x → ⊥) → xs ≡ []
nil_of [] none = refl
nil_of (x ∷ xs) none = absurd (none x (is_first x xs x refl))

abbrev no_notices : NoticeMap
no_notices = map.empty

no_lines : map.keys no_notices ≡ []
no_lines = nil_of (map.keys no_notices) (λ line here. false≢true (sym (ap is_some (map.get-empty {X = Notice} line_cmp line)) ∙ among_lines no_notices line here))

ruling_silent : (t : Entries) (ruling : Ruling) → lines_in (effect t no_notices ruling).answer ≡ []
ruling_silent t (Ok placed) = no_lines
ruling_silent t (Err refusal) = refl

step_silent : (step : Step) (t : Entries) → lines_in ((carried_out (silent step)).conclusion t).answer ≡ []
step_silent step t = ruling_silent t (step.conclusion t)

pub mask_silent : MaskIsSilent
mask_silent mask t = step_silent (mask_steps mask) t

pub unmask_silent : UnmaskIsSilent
unmask_silent unmask t = step_silent (unmask_steps unmask) t

pub link_silent : LinkIsSilent
link_silent link t = step_silent (link_steps link) t

pub add_silent : AddIsSilent
add_silent add t = step_silent (add_steps add) t

pub default_silent : SetDefaultIsSilent
default_silent set_default t = step_silent (default_steps set_default) t

pub place_silent : PlaceIsSilent
place_silent place t = step_silent (place_steps place) t

pub remove_silent : RemoveIsSilent
remove_silent remove t = step_silent (remove_steps remove) t

pub check_silent : CheckIsSilent
check_silent check t = by_fine ((checked check.units).conclusion t)
  where
    by_fine : (fine : Result (Unit {0}) Refusal) → lines_in ((taken ((unless_refused (λ fine. silent nothing) fine).conclusion t)).conclusion t).answer ≡ []
    by_fine (Ok fine) = no_lines
    by_fine (Err refusal) = refl
