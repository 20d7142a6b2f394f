-- A tree with entries at slots alone has the same slots as it has entries.
use Rattle.std.proofs.Common.{◌≡◌, ℕ, true, false, List, [], ◌∷◌, Option, None, Some, refl, sym, ap, ◌∙◌}
use Rattle.std.specs.List.{AllByRecursion}
use Rattle.std.specs.FinMap as map
use Rattle.std.proofs.lemmas.Bool.{false≢true}
use Rattle.std.proofs.lemmas.List.Elements.{recursion_from_All}
use Rattle.unit_paths.specs.Slots.{is_slot}
use Rattle.link_tree.specs.declared.change.Change.{Change}
use Rattle.link_tree.specs.declared.entry.Entry.{Entry}
use Rattle.link_tree.specs.Trees.{Entries, path_cmp, after_changes}
use Rattle.link_tree.specs.Differences.{changes_between, DifferAtSlots}
use Rattle.link_tree.proofs.Leads.{leads, changes_at_slots}
use Rattle.tree_steps.specs.Steps.{at_slots}
use Rattle.kept_texts.specs.Texts.{slots_of, IsOfSlots}

all_kept : (changes : List Change) → AllByRecursion (λ change. is_slot change.path ≡ true) changes → at_slots changes ≡ changes
all_kept [] all = refl
all_kept (c ∷ cs) all = rw all.0 (ap (λ rest. c ∷ rest) (all_kept cs all.1))

none_off : (found : Option Entry) (path : List ℕ) → is_slot path ≡ false → ((entry : Entry) → found ≡ Some entry → is_slot path ≡ true) → None ≡ found
none_off None path off here = refl
none_off (Some entry) path off here = absurd (false≢true (sym off ∙ here entry refl))

apart_at_slots : (tree : Entries) → IsOfSlots tree → DifferAtSlots map.empty tree
apart_at_slots tree slots path off = map.get-empty path_cmp path ∙ none_off (map.get tree path) path off (slots path)

pub slots_are_all : (tree : Entries) → IsOfSlots tree → tree ≡ slots_of tree
slots_are_all tree slots =
    sym (ap (λ changes. after_changes changes map.empty) (all_kept (changes_between map.empty tree)
    (recursion_from_All (λ change. is_slot change.path ≡ true) (changes_between map.empty tree) (changes_at_slots map.empty tree (apart_at_slots tree slots))))
    ∙ (leads map.empty tree).to)
