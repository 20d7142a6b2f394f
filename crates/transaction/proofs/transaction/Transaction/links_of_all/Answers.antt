use Rattle.std.proofs.Common.{◌≡◌, false, All, sym, subst}
use Rattle.link_tree.specs.Trees.{Entries}
use Rattle.tree_access.specs.declared.key.Key.{Key}
use Rattle.tree_access.specs.Keys.{is_cell, StandAtSlots}
use Rattle.tree_access.proofs.Parts.{any_stand_at_slots}
use Rattle.transaction.proofs.Marks.{none_is_cell}
use Rattle.transaction.proofs.transaction.Transaction.links_of_all.Goals as goal

pub entries_of-requires : goal.entries_of-requires
entries_of-requires c =
    subst (λ keys. All (λ (key : Key). is_cell key ≡ false) keys) (sym c.in_ok-marks.ensures) (none_is_cell _ _)

pub returns-clause-slots : goal.returns-clause-slots
returns-clause-slots c =
    subst (λ (t : Entries). StandAtSlots t) (sym c.in_ok-links.ensures)
    (any_stand_at_slots _ _ (subst (λ keys. All (λ (key : Key). is_cell key ≡ false) keys) (sym c.in_ok-marks.ensures) (none_is_cell _ _)))
