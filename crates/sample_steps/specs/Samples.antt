-- The meaning of the operations that the tests run: a step, and an operation that looks by a key of
-- any kind, reports a word, and links a file.
use Rattle.std.specs.Prelude.{ℕ, Bool, true, false, if◌then◌else◌, List, [], ◌∷◌, Option, Some, None, Ok, Err}
use Rattle.std.specs.FinMap as map
use Rattle.unit_file.specs.declared.notice.NoticeKey.TheVariants.{Also}
use Rattle.unit_file.specs.declared.notice.Reason.TheVariants.{NotFound}
use Rattle.unit_file.specs.Notices.{NoticeMap, with_notice}
use Rattle.unit_paths.specs.Slots.{is_slot}
use Rattle.link_tree.specs.declared.entry.Entry.TheVariants.{File}
use Rattle.footprint.specs.declared.answer.Answer.TheVariants.{State}
use Rattle.footprint.specs.declared.answer.StateWord.TheVariants.{Static}
use Rattle.tree_access.specs.declared.key.Key.{Key}
use Rattle.tree_access.specs.declared.key.Key.TheVariants.{Cell}
use Rattle.tree_access.specs.declared.refusal.Refusal.TheVariants.{Exists, Absent, NotASlot}
use Rattle.footprint.specs.Inquiry.{Inquiry, look, beside, giving, ◌>>=◌}
use Rattle.footprint.specs.Operations.{Effect}
use Rattle.tree_access.specs.Rules.{Rule, link_at}
use Rattle.footprint.specs.Commands.{Command, silent, telling, carried_out}
use Rattle.footprint.specs.Steps.{Step as OneStep, refuse, ruled}

-- an empty file is put at an empty slot, or the entry there is removed, or it is only looked at
abbrev pub left : Option Bool → Rule
left None slot there = Ok there
left (Some true) slot None = Ok (Some (File []))
left (Some true) slot (Some entry) = Err (Exists slot)
left (Some false) slot None = Err (Absent slot)
left (Some false) slot (Some entry) = Ok None

abbrev pub commanded : Option Bool → List ℕ → Inquiry Effect
commanded how slot = carried_out (silent (ruled (left how) slot))

-- a step that is a question changes nothing
abbrev pub step_meaning : Bool → Option Bool → List ℕ → Inquiry Effect
step_meaning true how slot = giving (look (Cell slot)) (λ seen. record { answer = State Static; changes = [] })
step_meaning false how slot = commanded how slot

-- what is reported about a word of a unit, if it is reported
abbrev pub told_of : Option (List ℕ) → NoticeMap
told_of None = map.empty
told_of (Some unit) = with_notice map.empty (record { unit = unit; key = Also; word = unit; reason = NotFound })

-- a file is linked at a path that is a slot
abbrev pub linked_at : (file path : List ℕ) → OneStep
linked_at file path = if is_slot path then ruled (link_at file) path else refuse (NotASlot path)

-- the operation looks by the key, and links a file
abbrev pub watch_command : (key : Key) (told : Option (List ℕ)) → (file path : List ℕ) → Command
watch_command key told file path = do
  looked ← beside (key ∷ [])
  telling (told_of told) (linked_at file path)
