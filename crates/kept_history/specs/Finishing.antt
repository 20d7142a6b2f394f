-- What the call for recovery does.
use Rattle.std.specs.Prelude.{◌≡◌, ◌≢◌, ◌⊎◌, ℕ, List, [], ◌∷◌, Option, Some, Result, Ok, Err, IfSome}
use Rattle.std.specs.FinMap as map
use Rattle.std.specs.Option.{option_map}
use Rattle.link_tree.specs.declared.change.Change.{Change}
use Rattle.link_tree.specs.declared.entry.Entry.{Entry}
use Rattle.link_tree.specs.Trees.{Entries}
use Rattle.tree_steps.specs.Steps.{steps_between}
use Rattle.disk.specs.declared.disk.Oddity.{Oddity}
use Rattle.disk.specs.Disks.{Held, Stands, StandsOddly, of_disk}
use Rattle.disk.specs.Steps.{failures_with}
use Rattle.disk.specs.Applied.{Stops, after_steps}
use Rattle.disk.specs.Events.{Event}
use Rattle.kept_history.specs.Recovery.{due_steps, foreign_steps, finishing}
use Rattle.kept_history.specs.Doing.{Does}
use Rattle.kept_history.specs.declared.recovery.FinishError.{FinishError}
use Rattle.kept_history.specs.declared.recovery.FinishError.TheVariants.{DiskFailed, NotMade}

-- Nothing odd is at the path: no directory, no device.
abbrev pub IsPlain : Held → List ℕ → Type 0
IsPlain h path = (oddity : Oddity) → StandsOddly h path oddity → ⊥

-- Nothing odd is at the paths of these steps.
abbrev pub HasNothingOdd : Held → List Change → Type 0
HasNothingOdd h [] = Unit {0}
HasNothingOdd h (step ∷ steps) = IsPlain h step.path × HasNothingOdd h steps

-- Something else than this entry, or than none, is at the path: something odd always is.
abbrev pub IsOther : Held → List ℕ → Option Entry → Type 0
IsOther h path entry = (map.get h.entries path ≢ entry) ⊎ ((oddity : Oddity) × StandsOddly h path oddity)

-- Steps, by what is at their paths. One is due if its old entry is there. If neither its old nor its
-- new entry is there, somebody else has changed that. Otherwise it was made.
pub data AreSorted (h : Held) : (steps due foreign : List Change) → Type 0 where
  NoSteps : AreSorted h [] [] []
  Due : (step : Change) (steps due foreign : List Change) → Stands h step.path step.before
      → AreSorted h steps due foreign → AreSorted h (step ∷ steps) (step ∷ due) foreign
  Foreign : (step : Change) (steps due foreign : List Change)
      → IsOther h step.path step.before → IsOther h step.path step.after
      → AreSorted h steps due foreign → AreSorted h (step ∷ steps) due (step ∷ foreign)
  Made : (step : Change) (steps due foreign : List Change)
      → IsOther h step.path step.before → Stands h step.path step.after
      → AreSorted h steps due foreign → AreSorted h (step ∷ steps) due foreign

abbrev pub AreAllSorted : Option Held → (steps due foreign : List Change) → Type 0
AreAllSorted held steps due foreign = IfSome held (λ h. AreSorted h steps due foreign)

-- A step that was not made has a reason.
abbrev pub HasCause : {T : Type 0} → Option Held → Result T FinishError → (due : List Change) → Type 0
HasCause held (Ok x) due = Unit {0}
HasCause held (Err (DiskFailed why)) due = Unit {0}
HasCause held (Err (NotMade why)) due = (step : ℕ) × Stops held due step why

-- The steps that are due are made, and the new history replaces the old one, or an error ends that
-- after the first n events.
abbrev pub Finishes : {T : Type 0} → (held : Option Held) (old new : Option (List Event)) → Result T FinishError → (before after : Entries) → Type 0
Finishes held old new result before after =
    (due : List Change)
    × IfSome held (λ h. HasNothingOdd h (steps_between before after) → due ≡ due_steps before after h.entries)
    × Does old new result (finishing (steps_between before after) due)
    × HasCause held result due
    × (foreign : List Change)
    × AreAllSorted held (steps_between before after) due foreign

-- The steps that are due are made, whatever is at the paths, and those are returned at whose paths
-- somebody else has changed what is there.
abbrev pub FinishesAll : (old new : Option Held) → (foreign : List Change) → (before after : Entries) → Type 0
FinishesAll old new foreign before after =
    (due : List Change) × AreAllSorted old (steps_between before after) due foreign
    × (new ≡ option_map (after_steps due) old)

-- Each failure that ended a recovery is counted, and there is no other.
abbrev pub failures_after_finish : {T : Type 0} → ℕ → Result T FinishError → ℕ
failures_after_finish old (Ok x) = old
failures_after_finish old (Err (DiskFailed why)) = failures_with old (of_disk why)
failures_after_finish old (Err (NotMade why)) = failures_with old why

-- The steps that were due are made, if nothing odd is at the paths of the steps.
abbrev pub IsFinished : (old new : Option Held) → (before after : Entries) → Type 0
IsFinished old new before after =
    IfSome old (λ h. HasNothingOdd h (steps_between before after)
    → new ≡ Some (after_steps (due_steps before after h.entries) h))

-- These are the steps at whose paths somebody else has changed what is there, if nothing odd is.
abbrev pub AreForeign : Option Held → (foreign : List Change) → (before after : Entries) → Type 0
AreForeign held foreign before after =
    IfSome held (λ h. HasNothingOdd h (steps_between before after)
    → foreign ≡ foreign_steps before after h.entries)
