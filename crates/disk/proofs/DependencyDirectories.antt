-- The directories of dependencies: what is found there, and which of them are listed.
use Rattle.std.proofs.Common.{◌≡◌, ℕ, true, false, if◌then◌else◌, List, [], ◌∷◌, Option, Some, None, Contains, refl, sym, ap, ◌∙◌, inl, inr, ◌⊎◌}
use Rattle.std.specs.Prelude.{is_some, IfSome}
use Rattle.std.proofs.lemmas.Bool.{false≢true}
use Rattle.unit_paths.specs.Kinds.{is_dependency}
use Rattle.unit_paths.specs.Paths.{parent, parent_of, is_root}
use Rattle.unit_paths.specs.Shape.{is_bad_shape}
use Rattle.unit_paths.specs.Slots.{slots_in, is_slot}
use Rattle.unit_paths.specs.declared.slot.Slot.{Slot}
use Rattle.disk.specs.Capturing.{Paths, AtSome, IsSlotIn}
use Rattle.disk.specs.Disks.{Held, Stands, StandsAs, StandsOddly, IsThere, IsInTheWay, Sees}
use Rattle.disk.specs.Partials.{IsNoneOrDirectory, can_contain_slots}
use Rattle.disk.specs.declared.disk.Found.{Found}
use Rattle.disk.specs.declared.disk.Found.TheVariants as founds
use Rattle.disk.specs.declared.disk.Oddity.{Oddity}
use Rattle.disk.specs.declared.disk.Oddity.TheVariants as oddities
use Rattle.disk.proofs.Covering.{stands_or_not}
use Rattle.disk.proofs.Directories.{beneath_own, in_slots, no_slots, shape_above}

no_some : {X P : Type 0} (x : X) → None ≡ Some x → P
no_some x h = cc

-- if slots can be in what was found, it is nothing or a directory
none_or_directory : (t : Held) (path : List ℕ) (found : Found) → StandsAs t path found → can_contain_slots found ≡ true → IsNoneOrDirectory t path
none_or_directory t path founds.Nothing there can = inl there
none_or_directory t path (founds.Entry entry) there can = absurd (false≢true can)
none_or_directory t path (founds.Odd oddities.Directory) there can = inr there
none_or_directory t path (founds.Odd oddities.Special) there can = absurd (false≢true can)
none_or_directory t path (founds.Odd oddities.TooLarge) there can = absurd (false≢true can)
none_or_directory t path (founds.Odd oddities.BadTarget) there can = absurd (false≢true can)

not_special : oddities.Special ≡ oddities.Directory → ⊥
not_special h = absurd (cc)

not_too_large : oddities.TooLarge ≡ oddities.Directory → ⊥
not_too_large h = absurd (cc)

not_bad_target : oddities.BadTarget ≡ oddities.Directory → ⊥
not_bad_target h = absurd (cc)

-- an odd thing that is no directory is in the way of slots
odd_in_the_way : (t : Held) (path : List ℕ) (oddity : Oddity) → (oddity ≡ oddities.Directory → ⊥) → StandsOddly t path oddity → IsInTheWay t path
odd_in_the_way t path oddity other (none, inl here) = inr (oddity, here, other)
odd_in_the_way t path oddity other (none, inr directory) = absurd (other directory.0)

-- so is everything else that can't contain slots
in_the_way : (t : Held) (path : List ℕ) (found : Found) → StandsAs t path found → can_contain_slots found ≡ false → IsInTheWay t path
in_the_way t path founds.Nothing there can = absurd (false≢true (sym can))
in_the_way t path (founds.Entry entry) there can = inl (λ none. no_some entry (sym none ∙ there))
in_the_way t path (founds.Odd oddities.Directory) there can = absurd (false≢true (sym can))
in_the_way t path (founds.Odd oddities.Special) there can = odd_in_the_way t path oddities.Special not_special there
in_the_way t path (founds.Odd oddities.TooLarge) there can = odd_in_the_way t path oddities.TooLarge not_too_large there
in_the_way t path (founds.Odd oddities.BadTarget) there can = odd_in_the_way t path oddities.BadTarget not_bad_target there

pub if_none_or_directory : (tree : Option Held) (path : List ℕ) (found : Found) (P : Type 0) → Sees tree path found → can_contain_slots found ≡ true → IfSome tree (λ t. P → IsNoneOrDirectory t path)
if_none_or_directory None path found P sees can = tt
if_none_or_directory (Some t) path found P sees can = λ p. none_or_directory t path found sees can

pub if_in_the_way : (tree : Option Held) (path : List ℕ) (found : Found) → Sees tree path found → can_contain_slots found ≡ false → IfSome tree (λ t. IsInTheWay t path)
if_in_the_way None path found sees can = tt
if_in_the_way (Some t) path found sees can = in_the_way t path found sees can

-- no slot is directly in the root
pub slot_not_in_root : (path : List ℕ) → is_slot path ≡ true → parent_of path ≡ None → ⊥
slot_not_in_root path slot root = by_directory (parent path) root (in_slots path slot)
  where
    by_directory : (directory : List ℕ) → (if is_root directory then None else Some directory) ≡ None → is_some (slots_in directory) ≡ true → ⊥
    by_directory [] root some = false≢true (sym no_slots ∙ some)
    by_directory (b ∷ bs) root some = no_some (b ∷ bs) (sym root)

-- the directory of each slot of a dependency is listed
module _ (t : Held) (directory : List ℕ) (paths : Paths) (lists : (path : List ℕ) → parent path ≡ directory → IsThere t path → Contains paths path) where
  pub dependency_slots_listed : (q : List ℕ) → (is_slot q ≡ true) × (parent (parent q) ≡ directory) → AtSome paths IsSlotIn q ⊎ Stands t q None
  dependency_slots_listed q at = elim (stands_or_not t q) [
    | inl none ↦ inr none
    | inr some ↦ inl (parent q, lists (parent q) at.1 (inr (q, some, beneath_own q at.0)), (at.0, refl))
  ]

-- no slots are directly in a path at which an entry may be
pub no_slots_in : (path q : List ℕ) → is_bad_shape path ≡ false → IsSlotIn path q → ⊥
no_slots_in path q good at = false≢true (sym good ∙ ap is_bad_shape (sym at.1) ∙ shape_above q at.0)

pub dependency_is_slot : (slot : Option Slot) → is_dependency slot ≡ true → is_some slot ≡ true
dependency_is_slot None h = absurd (false≢true h)
dependency_is_slot (Some slot) h = refl
