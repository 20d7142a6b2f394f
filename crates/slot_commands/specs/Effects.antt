-- What a command does to a tree, in the terms that the laws use.
use Rattle.std.specs.Prelude.{◌≡◌, ℕ, List, [], Option, Some, None}
use Rattle.std.specs.FinMap as map
use Rattle.link_tree.specs.declared.entry.Entry.{Entry}
use Rattle.link_tree.specs.Trees.{Entries, after_changes}
use Rattle.footprint.specs.declared.answer.Answer.TheVariants.{Done, Refused}
use Rattle.tree_access.specs.declared.refusal.Refusal.{Refusal}
use Rattle.footprint.specs.Operations.{Effect}

-- A command is refused, and changes nothing.
abbrev pub Refuses : Effect → Refusal → Type 0
Refuses done refusal = (done.answer ≡ Refused refusal) × (done.changes ≡ [])

-- A command is accepted, and after its changes this is at each path of the tree.
abbrev pub Leaves : Effect → Entries → (List ℕ → Option Entry) → Type 0
Leaves done t there = (done.answer ≡ Done map.empty) × ((path : List ℕ) → map.get (after_changes done.changes t) path ≡ there path)

-- What is in the first tree is also in the second.
abbrev pub Keeps : Entries → Entries → Type 0
Keeps t u = (path : List ℕ) (entry : Entry) → map.get t path ≡ Some entry → map.get u path ≡ Some entry

-- Each entry that is only in the second tree is of this kind.
abbrev pub AddsOnly : (List ℕ → Entry → Type 0) → Entries → Entries → Type 0
AddsOnly IsNew t u = (path : List ℕ) (entry : Entry) → map.get t path ≡ None → map.get u path ≡ Some entry → IsNew path entry
