-- A root with a kept history, what events change in it, and what a power failure may leave of them.
use Rattle.std.specs.Prelude.{◌≡◌, ◌⊎◌, ℕ, Bool, true, false, List, [], ◌∷◌, Option, Some, None}
use Rattle.std.specs.List.{list_any}
use Rattle.std.specs.Str.{bytes_eq}
use Rattle.link_tree.specs.declared.change.Change.{Change}
use Rattle.link_tree.specs.Trees.{Entries, after_change}
use Rattle.disk.specs.Events.{Event, Promise, Commit, Withdraw, SyncHistory, Make, SyncSteps, Clear}

-- The text of the file `history`, that of `history.next` if that file exists, and the entries of
-- the root.
pub record KeptRoot : Type 0 where
  pub history : List ℕ
  pub next : Option (List ℕ)
  pub entries : Entries

-- At rest: there is no `history.next`.
abbrev pub at_rest : List ℕ → Entries → KeptRoot
at_rest text entries = record { history = text; next = None; entries = entries }

-- after a rename of `history.next`, if that file exists
abbrev pub committed : KeptRoot → Option (List ℕ) → KeptRoot
committed root None = root
committed root (Some text) = at_rest text root.entries

-- the root after an event
abbrev pub after : Event → KeptRoot → KeptRoot
after (Promise text) root = record { history = root.history; next = Some text; entries = root.entries }
after Commit root = committed root root.next
after Withdraw root = at_rest root.history root.entries
after SyncHistory root = root
after (Make step) root = record { history = root.history; next = root.next; entries = after_change step root.entries }
after (SyncSteps steps) root = root
after (Clear steps) root = root

-- and after all of them, in order
abbrev pub after_all : List Event → KeptRoot → KeptRoot
after_all [] root = root
after_all (event ∷ events) root = after_all events (after event root)

abbrev pub syncs_history : Event → Bool
syncs_history SyncHistory = true
syncs_history (Promise text) = false
syncs_history Commit = false
syncs_history Withdraw = false
syncs_history (Make step) = false
syncs_history (SyncSteps steps) = false
syncs_history (Clear steps) = false

-- whether one of the changes is at this path
abbrev pub has_path : List ℕ → List Change → Bool
has_path path steps = list_any (λ step. bytes_eq path step.path) steps

abbrev pub syncs_path : List ℕ → Event → Bool
syncs_path path (SyncSteps steps) = has_path path steps
syncs_path path SyncHistory = false
syncs_path path (Promise text) = false
syncs_path path Commit = false
syncs_path path Withdraw = false
syncs_path path (Make step) = false
syncs_path path (Clear steps) = false

-- whether one of the later events syncs what this one wrote
abbrev pub is_synced : Event → List Event → Bool
is_synced (Make step) later = list_any (syncs_path step.path) later
is_synced (Promise text) later = list_any syncs_history later
is_synced Commit later = list_any syncs_history later
is_synced Withdraw later = list_any syncs_history later
is_synced SyncHistory later = true
is_synced (SyncSteps steps) later = true
is_synced (Clear steps) later = true

-- What a power failure may leave right after these events: each of them reached the disk, or it was
-- not synced and is missing, whatever came after it. A process that is killed loses nothing.
abbrev pub MayLeave : KeptRoot → List Event → KeptRoot → Type 0
MayLeave root [] left = left ≡ root
MayLeave root (event ∷ events) left =
    MayLeave (after event root) events left
    ⊎ ((is_synced event events ≡ false) × MayLeave root events left)
