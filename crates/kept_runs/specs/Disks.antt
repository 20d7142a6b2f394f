-- How a kept history reaches a disk.
use Rattle.std.specs.Prelude.{◌≡◌, ℕ, List, Option, Some, IfSome}
use Rattle.link_tree.specs.Trees.{Entries}
use Rattle.tree_steps.specs.Steps.{steps_between}
use Rattle.disk.specs.Disks.{Held}
use Rattle.disk.specs.Events.{Event, with_events}
use Rattle.kept_history.specs.Laws.{NeverHalf}
use Rattle.kept_history.specs.Recovery.{recovery}
use Rattle.kept_history.specs.Finishing.{HasNothingOdd}
use Rattle.kept_rows.specs.Texts.{replay_of}

-- Whatever a call did, no failure from its beginning on leaves a half, if the history on the disk
-- has the tree that was there: recovery leaves the old history with the old tree, or this text with
-- its own tree.
abbrev pub RunsWhole : (old new : Option (List Event)) → (before : Entries) → List ℕ → Type 0
RunsWhole old new before text = (history : List ℕ) → replay_of history ≡ before
    → (events : List Event) × (new ≡ with_events old events) × NeverHalf replay_of history text before events

-- The same of a text that has rows of what others did: the root already has its tree, and recovery
-- leaves the old history or this text.
abbrev pub WritesWhole : (old new : Option (List Event)) → List ℕ → Type 0
WritesWhole old new text = (history : List ℕ)
    → (events : List Event) × (new ≡ with_events old events) × NeverHalf replay_of history text (replay_of text) events

-- What was done is the recovery of a root with this history and this promised one.
abbrev pub Recovers : (held : Option Held) (old new : Option (List Event)) → (history next : List ℕ) → Type 0
Recovers held old new history next =
    IfSome held (λ h. HasNothingOdd h (steps_between (replay_of history) (replay_of next))
    → new ≡ with_events old (recovery replay_of (record { history = history; next = Some next; entries = h.entries })))
