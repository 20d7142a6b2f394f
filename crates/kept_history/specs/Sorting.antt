-- For the proofs of this crate: no public contract cites it. One step, by what is at its path.
use Rattle.std.specs.Prelude.{◌≡◌, ◌⊎◌, ℕ, Bool, true, false, List, [], ◌∷◌, ◌++◌, Option, IfSome}
use Rattle.link_tree.specs.declared.change.Change.{Change}
use Rattle.link_tree.specs.declared.entry.Entry.{Entry}
use Rattle.disk.specs.Disks.{Held, Stands}
use Rattle.kept_history.specs.Finishing.{IsOther}

-- whether an entry, or none, was found at a path
abbrev pub WasFound : Option Held → List ℕ → Option Entry → Bool → Type 0
WasFound held path entry true = IfSome held (λ h. Stands h path entry)
WasFound held path entry false = IfSome held (λ h. IsOther h path entry)

-- One step was added to those that are due, or to those of others, or to none.
abbrev pub SortsOne : Held → (due foreign due_now foreign_now : List Change) → Change → Type 0
SortsOne h due foreign due_now foreign_now step =
    (Stands h step.path step.before × (due_now ≡ due ++ step ∷ []) × (foreign_now ≡ foreign))
    ⊎ (IsOther h step.path step.before × IsOther h step.path step.after × (due_now ≡ due) × (foreign_now ≡ foreign ++ step ∷ []))
    ⊎ (IsOther h step.path step.before × Stands h step.path step.after × (due_now ≡ due) × (foreign_now ≡ foreign))
