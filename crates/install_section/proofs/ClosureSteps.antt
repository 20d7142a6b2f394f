-- From unit to unit of a closure.
use Rattle.std.proofs.Common.{◌≡◌, ◌<◌, ◌+◌, ◌-◌, ℕ, zero, suc, List, Option, Some, None, Result, Ok, Err, slice_get, refl, sym, ap, ◌∙◌, arith}
use Rattle.link_tree.specs.Trees.{Entries}
use Rattle.load_path.specs.Search.{Search, Finds}
use Rattle.load_path.proofs.Steps.{Goes}
use Rattle.install_section.specs.declared.closed.Closed.{Closed}
use Rattle.install_section.specs.declared.closed.ClosureFault.{ClosureFault}
use Rattle.install_section.specs.Closure.{with_unit, unless_too_many, with_unit_at, closed_from}
use Rattle.install_section.proofs.Steps.{searched, finished, again}

closed_from-more : (more place : ℕ) (closed : Closed) → 0 < more → closed_from more place closed ≡ with_unit_at (closed_from (more - 1) (place + 1)) closed (slice_get closed.units place)
unfolding closed_from
closed_from-more zero place closed h = absurd (omega arith)
closed_from-more (suc more) place closed h = let e : suc more - 1 ≡ more = omega arith in rw e refl

module _ (t : Entries) (before : List (List ℕ)) (whole : Search (Result Closed ClosureFault)) (seen : List (List ℕ)) (more place : ℕ) (closed : Closed) where
  module _ (left : 0 < more) (h : Goes t seen (closed_from more place closed) before whole) where
    at_unit : (unit : Option (List ℕ)) → unit ≡ slice_get closed.units place → Goes t seen (with_unit_at (closed_from (more - 1) (place + 1)) closed unit) before whole
    at_unit unit is = again t before whole seen _ _ (closed_from-more more place closed left ∙ ap (with_unit_at (closed_from (more - 1) (place + 1)) closed) (sym is)) h

    -- there is no further unit
    pub past_the_last : None ≡ slice_get closed.units place → Finds t whole before seen (Ok closed)
    past_the_last is = finished t before whole seen (Ok closed) (at_unit None is)

    -- a unit's words have been looked up
    pub past_a_unit : (unit : List ℕ) (after : List (List ℕ)) (grown : Result Closed ClosureFault) → Some unit ≡ slice_get closed.units place
        → Finds t (with_unit unit closed) seen after grown → Goes t after (unless_too_many (closed_from (more - 1) (place + 1)) grown) before whole
    past_a_unit unit after grown is found = searched t before whole seen after (with_unit unit closed) (unless_too_many (closed_from (more - 1) (place + 1))) grown (at_unit (Some unit) is) found

    -- there are too many
    pub past_too_many : (unit : List ℕ) (after : List (List ℕ)) (fault : ClosureFault) → Some unit ≡ slice_get closed.units place
        → Finds t (with_unit unit closed) seen after (Err fault) → Finds t whole before after (Err fault)
    past_too_many unit after fault is found = finished t before whole after (Err fault) (past_a_unit unit after (Err fault) is found)

  -- the greatest allowed number of units has been looked at
  pub past_all : more ≡ 0 → Goes t seen (closed_from more place closed) before whole → Finds t whole before seen (Ok closed)
  unfolding closed_from
  past_all none h = finished t before whole seen (Ok closed) (rw none at h)
