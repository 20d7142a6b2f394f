-- Paths that lie beneath others.
use Rattle.std.proofs.Common.{◌≡◌, ℕ, true, List, [], ◌∷◌, ◌++◌, sym, subst}
use Rattle.unit_paths.specs.Canonical.{begins_with_slash}
use Rattle.unit_paths.specs.Shape.{is_beneath, is_under_slot}
use Rattle.unit_paths.specs.Laws.{BeneathGoesOn, UnderIsBeneathSlot}
use Rattle.unit_paths.proofs.Unders.{under-slot}
use Rattle.unit_paths.proofs.Slots.{under_parts}
use Rattle.unit_paths.proofs.Shapes.{beneath-parts, beneath-after}

beneath : (path above rest : List ℕ) → path ≡ above ++ 47 ∷ rest → is_beneath path above ≡ true
unfolding begins_with_slash
beneath path above rest is = subst (λ (p : List ℕ). is_beneath p above ≡ true) (sym is) (beneath-after above (47 ∷ rest))

pub beneath_goes_on : BeneathGoesOn
beneath_goes_on path above = (beneath-parts path above, λ found. beneath path above found.0 found.1)

pub under_is_beneath_slot : UnderIsBeneathSlot
under_is_beneath_slot path = (
  (λ h. let found = under_parts [] path h in (found.0, found.3, beneath path found.0 found.1 found.2)),
  (λ found. let rest = beneath-parts path found.0 found.2 in
      subst (λ (p : List ℕ). is_under_slot [] p ≡ true) (sym rest.1) (under-slot [] found.0 rest.0 found.1)),
)
