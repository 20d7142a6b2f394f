-- What an answer reports: words for it, and the commands that report nothing.
use Rattle.std.specs.Prelude.{◌≡◌, ℕ, ◌↔◌, false, List, [], Contains, Some}
use Rattle.std.specs.FinMap as map
use Rattle.unit_file.specs.declared.notice.Notice.{Notice}
use Rattle.unit_file.specs.Notices.{NoticeMap, notice_line}
use Rattle.link_tree.specs.Trees.{Entries}
use Rattle.footprint.specs.declared.answer.Answer.{Answer}
use Rattle.footprint.specs.declared.answer.Answer.TheVariants.{Done}
use Rattle.footprint.specs.Inquiry.{Inquiry}
use Rattle.footprint.specs.Operations.{Effect, is_refused, outcome_of}
use Rattle.install_commands.specs.Check.{check_meaning}
use Rattle.slot_commands.specs.AddTo.{add_meaning}
use Rattle.slot_commands.specs.ByHand.{place_meaning, remove_meaning}
use Rattle.slot_commands.specs.LinkUnits.{link_meaning}
use Rattle.slot_commands.specs.Masks.{mask_meaning, unmask_meaning}
use Rattle.slot_commands.specs.SetDefault.{default_meaning}

-- The lines of the notices of an answer. Only that of an accepted command has any.
abbrev pub lines_in : Answer → List (List ℕ)
lines_in (Done notices) = map.keys notices
lines_in answer = []

-- An answer reports exactly these notices.
pub record Reports (answer : Answer) (These : Notice → Type 0) : Type 0 where
  -- It has a line exactly if the command is accepted, and the line is that of one of them,
  pub lines : (line : List ℕ) → Contains (lines_in answer) line ↔ ((is_refused answer ≡ false) × (notice : Notice) × These notice × (line ≡ notice_line notice))
  -- and what a line of it reports is one of them, too.
  pub notices : (notices : NoticeMap) (line : List ℕ) (notice : Notice) → answer ≡ Done notices → map.get notices line ≡ Some notice → These notice × (line ≡ notice_line notice)

-- An operation reports exactly these, in any tree, with any arguments.
abbrev pub AlwaysReports : {O : Type 0} → (O → Inquiry Effect) → (These : O → Entries → Notice → Type 0) → Type 0
AlwaysReports {O} meaning These = (c : O) (t : Entries) → Reports (outcome_of meaning c t).answer (These c t)

-- It never reports anything.
abbrev pub IsSilent : {O : Type 0} → (O → Inquiry Effect) → Type 0
IsSilent {O} meaning = (c : O) (t : Entries) → lines_in (outcome_of meaning c t).answer ≡ []

abbrev pub CheckIsSilent : Type 0
CheckIsSilent = IsSilent check_meaning

abbrev pub MaskIsSilent : Type 0
MaskIsSilent = IsSilent mask_meaning

abbrev pub UnmaskIsSilent : Type 0
UnmaskIsSilent = IsSilent unmask_meaning

abbrev pub LinkIsSilent : Type 0
LinkIsSilent = IsSilent link_meaning

-- add-wants and add-requires
abbrev pub AddIsSilent : Type 0
AddIsSilent = IsSilent add_meaning

abbrev pub SetDefaultIsSilent : Type 0
SetDefaultIsSilent = IsSilent default_meaning

abbrev pub PlaceIsSilent : Type 0
PlaceIsSilent = IsSilent place_meaning

abbrev pub RemoveIsSilent : Type 0
RemoveIsSilent = IsSilent remove_meaning
