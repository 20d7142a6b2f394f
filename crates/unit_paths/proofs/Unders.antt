-- Slots above a path, byte by byte.
use Rattle.std.proofs.Common.{◌≡◌, ℕ, ◌+◌, ◌<◌, Bool, true, false, ◌&&◌, ◌||◌, List, [], ◌∷◌, ◌++◌, length, get_or, take, drop, refl, sym, ◌∙◌, ap, arith, suc, append_assoc, append-nil}
use Rattle.std.proofs.Math.Seq.{take-suc}
use Rattle.std.proofs.lemmas.List.{drop_more}
use Rattle.std.proofs.lemmas.Bool.{eq-eqb}
use Rattle.unit_paths.specs.Paths.{is_slash}
use Rattle.unit_paths.specs.Shape.{is_under_slot}
use Rattle.unit_paths.specs.Slots.{is_slot}

pub under-step : (path : List ℕ) (i : ℕ) → i < length path → is_under_slot (take i path) (drop i path) ≡ (is_slash (get_or path i 0) && is_slot (take i path) || is_under_slot (take (i + 1) path) (drop (i + 1) path))
unfolding is_under_slot
under-step path i within =
    let one : i + 1 ≡ suc i = omega arith in
    let more : take (i + 1) path ≡ take i path ++ get_or path i 0 ∷ [] = ap (λ (n : ℕ). take n path) one ∙ take-suc path i 0 within in
    rw (drop_more path i 0 within, more) refl

pub under-none : (path : List ℕ) (done : List ℕ) → path ≡ [] → is_under_slot done path ≡ false
unfolding is_under_slot
under-none path done e = rw e refl

or_right : (x y : Bool) → y ≡ true → (x || y) ≡ true
or_right true y e = refl
or_right false y e = e

-- A path that consists of a slot, a slash and more is under the slot.
pub under-slot : (done front rest : List ℕ) → is_slot (done ++ front) ≡ true → is_under_slot done (front ++ 47 ∷ rest) ≡ true
unfolding is_under_slot
under-slot done [] rest slot = rw (ap is_slot (sym (append-nil done)) ∙ slot) refl
under-slot done (b ∷ bs) rest slot = or_right _ _ (under-slot (done ++ b ∷ []) bs rest (ap is_slot (append_assoc done (b ∷ []) bs) ∙ slot))

pub under-here : (path : List ℕ) (i : ℕ) → i < length path → get_or path i 0 ≡ 47 → is_slot (take i path) ≡ true → is_under_slot (take i path) (drop i path) ≡ true
under-here path i within slash slot = under-step path i within ∙ rw (eq-eqb (get_or path i 0) 47 slash, slot) refl

pub under-on : (path : List ℕ) (i : ℕ) → i < length path → (is_slash (get_or path i 0) && is_slot (take i path)) ≡ false → is_under_slot (take i path) (drop i path) ≡ is_under_slot (take (i + 1) path) (drop (i + 1) path)
under-on path i within none = under-step path i within ∙ rw none refl
