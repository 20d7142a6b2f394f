-- Why enable is refused.
use Rattle.std.proofs.Common.{◌≡◌, ℕ, false, List, ◌↔◌, All, Contains, Option, Some, None, Result, Ok, Err, refl, sym, ap, subst, ◌∙◌}
use Rattle.std.specs.FinMap as map
use Rattle.unit_file.specs.Notices.{joined}
use Rattle.unit_paths.specs.declared.place.Scope.{Scope}
use Rattle.unit_paths.specs.Places.{scope_place}
use Rattle.link_tree.specs.Trees.{Entries}
use Rattle.install_section.specs.declared.closed.Closed.{Closed}
use Rattle.install_section.specs.declared.closed.ClosureFault.{ClosureFault}
use Rattle.install_section.specs.declared.closed.ClosureFault.TheVariants as closure_faults
use Rattle.install_section.specs.declared.wants.Wanted.{Wanted}
use Rattle.install_section.specs.declared.wants.WantedFault.{WantedFault}
use Rattle.install_section.specs.declared.wants.WantedFault.TheVariants as wanted_faults
use Rattle.install_section.specs.Closure.{IsUnit, Reached, closure}
use Rattle.install_section.specs.Wanted.{wanted}
use Rattle.install_section.specs.WantedLaws.{IsAskedFor, NeedsName, HasTwoTargets, IsLeast}
use Rattle.install_section.proofs.Least.{some_is, closure_least, refused_exactly}
use Rattle.install_section.proofs.WantedSets.{needs_least, clash_least}
use Rattle.footprint.specs.declared.answer.Answer.TheVariants.{Refused}
use Rattle.tree_access.specs.declared.refusal.Refusal.{Refusal}
use Rattle.tree_access.specs.declared.refusal.Refusal.TheVariants.{TooMany, NeedsInstance, Clash, Exists}
use Rattle.footprint.specs.Laws.{IsRefusedAt}
use Rattle.tree_access.specs.Placing.{wanted_at}
use Rattle.footprint.specs.Steps.{all_at_once}
use Rattle.footprint.proofs.Wishes.{refused_at_the_least}
use Rattle.install_commands.specs.declared.enable.Enable.{Enable}
use Rattle.install_commands.specs.Check.{going_on, checked}
use Rattle.install_commands.specs.Enable.{unless_too_many, unless_at_odds, closed_want, units_want, to_stand, enable_wants, enable_meaning}
use Rattle.install_commands.specs.Laws.{IsWantedBy}
use Rattle.install_commands.proofs.Checked.{check_passes, check_refuses_first}
use Rattle.install_commands.proofs.Enabled.{Wants, made_of, wants_of, wanted_is}
use Rattle.install_commands.proofs.Placed.{to_file, get-to_stand}
use Rattle.refusal_laws.specs.Enable.{AreTooMany, AreKnown, IsNameless, HasTwoFiles, IsWantedAndTaken, HasNone, WhyNotEnable, EnableRefused}
use Rattle.refusal_laws.specs.Enable.WhyNotEnable.{Amiss, Many, NoInstance, TwoFiles, Taken}
use Rattle.refusal_laws.proofs.Rulings.{same_refusal, ruling_refused, refused_ruling}
use Rattle.refusal_laws.proofs.Lookups.{amiss}
use Rattle.refusal_laws.proofs.Taking.{taken_only, taken_refused}
use Rattle.refusal_laws.proofs.Wanting.{none_lacks, none_twice}

least_as : (P Q : List ℕ → Type 0) → ((text : List ℕ) → P text → Q text) → ((text : List ℕ) → Q text → P text) → (text : List ℕ) → IsLeast P text → IsLeast Q text
least_as P Q there back text least = (there text least.0, λ other holds. least.1 other (back other holds))

-- what is wanted, if it is a refusal
abbrev asked : Refusal → Result Wanted Refusal
asked refusal = Err refusal

same_asked : (one other : Refusal) → asked one ≡ asked other → one ≡ other
same_asked one other is = cc

module _ (enable : Enable) (t : Entries) where
  abbrev scope : Scope
  scope = enable.scope

  abbrev units : List (List ℕ)
  units = enable.units

  abbrev Why : Refusal → Type 0
  Why refusal = WhyNotEnable enable t refusal

  abbrev wants : Result Wanted Refusal
  wants = (enable_wants enable).conclusion t

  -- a closure that isn't refused doesn't have too many units
  few : (closed : Closed) → (closure units).conclusion t ≡ Ok closed → ¬ AreTooMany t units
  few closed closes many = let both : Ok closed ≡ Err closure_faults.TooMany = sym closes ∙ (refused_exactly units t).1 many in cc

  -- what the units of the closure want is what those want that are reached
  module _ (closed : Closed) (closes : (closure units).conclusion t ≡ Ok closed) where
    reached : (name : List ℕ) → Contains closed.units name ↔ Reached t units name
    reached = (closure_least units t closed closes).1

    nameless : (unit : List ℕ) → NeedsName t closed.units false unit → IsNameless t units unit
    nameless unit needs = ((reached unit).0 needs.1, needs.2)

    needs_name : (unit : List ℕ) → IsNameless t units unit → NeedsName t closed.units false unit
    needs_name unit is = (refl, (reached unit).1 is.0, is.1)

    wanted_by : (path file : List ℕ) → IsAskedFor t (scope_place scope) closed.units path file → IsWantedBy scope units t path file
    wanted_by path file is = (is.0, (reached is.0).0 is.1, is.2)

    asked_by : (path file : List ℕ) → IsWantedBy scope units t path file → IsAskedFor t (scope_place scope) closed.units path file
    asked_by path file is = (is.0, (reached is.0).1 is.1, is.2)

    two_files : (path : List ℕ) → HasTwoTargets t (scope_place scope) closed.units path → HasTwoFiles scope t units path
    two_files path two = (two.0, two.1, two.2, wanted_by path two.0 two.3, wanted_by path two.1 two.4)

    two_targets : (path : List ℕ) → HasTwoFiles scope t units path → HasTwoTargets t (scope_place scope) closed.units path
    two_targets path is = (is.0, is.1, is.2, asked_by path is.0 is.3, asked_by path is.1 is.4)

    by_wanted : AreKnown t units → (refusal : Refusal) (found : Result Wanted WantedFault) → (wanted closed.units scope false).conclusion t ≡ found
        → unless_at_odds closed.notices found ≡ Err refusal → Why refusal
    by_wanted known refusal (Ok found) at is = cc
    by_wanted known refusal (Err (wanted_faults.NeedsInstance unit)) at is =
        subst Why (same_asked (NeedsInstance unit) refusal is)
        (NoInstance unit known (least_as (NeedsName t closed.units false) (IsNameless t units) nameless needs_name unit ((needs_least closed.units scope false t unit).0 at)))
    by_wanted known refusal (Err (wanted_faults.Clash path)) at is =
        let clash = (clash_least closed.units scope false t path).0 at in
        subst Why (same_asked (Clash path) refusal is)
        (TwoFiles path known (λ unit is. clash.0 unit (needs_name unit is)) (least_as (HasTwoTargets t (scope_place scope) closed.units) (HasTwoFiles scope t units) two_files two_targets path clash.1))

  by_closed : All (IsUnit t) units → (refusal : Refusal) (closed : Result Closed ClosureFault) → (closure units).conclusion t ≡ closed
      → (going_on (closed_want scope false) (unless_too_many closed)).conclusion t ≡ Err refusal → Why refusal
  by_closed fine refusal (Ok closed) closes is = by_wanted closed closes (fine, few closed closes) refusal ((wanted closed.units scope false).conclusion t) refl is
  by_closed fine refusal (Err closure_faults.TooMany) closes is = subst Why (same_asked TooMany refusal is) (Many fine ((refused_exactly units t).0 closes))

  -- what follows the check
  abbrev after_check : Result (Unit {0}) Refusal → Result Wanted Refusal
  after_check fine = (going_on (λ fine. units_want scope false units) fine).conclusion t

  by_check : (refusal : Refusal) (fine : Result (Unit {0}) Refusal) → (checked units).conclusion t ≡ fine → after_check fine ≡ Err refusal → Why refusal
  by_check refusal (Ok fine) at is = by_closed ((check_passes units t).0 at) refusal ((closure units).conclusion t) refl is
  by_check refusal (Err other) at is =
      let first = (check_refuses_first units t other).0 at in
      subst Why (same_asked other refusal is) (Amiss first.2 other (first.0, first.1, first.3, first.4) ((amiss t first.2 other).0 first.5))

  module _ (given : Wanted) (is : wants ≡ Ok given) where
    from : Wants scope false units t given
    from = (wants_of scope false units t given is).1

    are_known : AreKnown t units
    are_known = ((check_passes units t).0 (wants_of scope false units t given is).0, few from.closed from.closes)

    none_nameless : HasNone (IsNameless t units)
    none_nameless unit is = none_lacks scope t from.closed.units from.found from.finds unit ((reached from.closed from.closes unit).1 is.0) is.1

    no_two_files : HasNone (HasTwoFiles scope t units)
    no_two_files path is = none_twice scope t from.closed.units from.found from.finds path (two_targets from.closed from.closes path is)

    -- what is in the way of a link
    way_taken : (path : List ℕ) (refusal : Refusal) → IsRefusedAt (to_stand given.links) t path refusal → (refusal ≡ Exists path) × IsWantedAndTaken scope t units path
    way_taken path refusal way = by_file (map.get given.links path) refl way.0 (sym (get-to_stand given.links path) ∙ way.1) way.2
      where
        by_file : (file : Option (List ℕ)) → map.get given.links path ≡ file → (link : Option (List ℕ)) → to_file file ≡ Some link → wanted_at link path (map.get t path) ≡ Err refusal
            → (refusal ≡ Exists path) × IsWantedAndTaken scope t units path
        by_file None at link to way = cc
        by_file (Some file) at link to way =
            let taken = taken_only file path t refusal (ap (λ link. wanted_at link path (map.get t path)) (some_is (Some file) link to) ∙ way) in
            (taken.0, (file, (wanted_is scope false units t given is path file).0 at, taken.1))

    taken_way : (path : List ℕ) → IsWantedAndTaken scope t units path → IsRefusedAt (to_stand given.links) t path (Exists path)
    taken_way path taken =
        (Some taken.0, get-to_stand given.links path ∙ ap to_file ((wanted_is scope false units t given is path taken.0).1 taken.1), taken_refused taken.0 path t taken.2)

    by_links : (refusal : Refusal) → (all_at_once (to_stand given.links)).conclusion t ≡ Err refusal → Why refusal
    by_links refusal refused =
        let least = (refused_at_the_least (to_stand given.links) t refusal).0 refused in
        let way = way_taken least.0 refusal least.1 in
        subst Why (sym way.0) (Taken least.0 are_known none_nameless no_two_files (way.1, λ other taken. least.2 other (Exists other) (taken_way other taken)))

    links_refused : (path : List ℕ) → IsLeast (IsWantedAndTaken scope t units) path → (all_at_once (to_stand given.links)).conclusion t ≡ Err (Exists path)
    links_refused path least =
        (refused_at_the_least (to_stand given.links) t (Exists path)).1 (path, taken_way path least.0, λ other why way. least.1 other (way_taken other why way).1)

  by_wants : (refusal : Refusal) (given : Result Wanted Refusal) → wants ≡ given → (made_of scope false units t given).answer ≡ Refused refusal → Why refusal
  by_wants refusal (Ok given) at is = by_links given at refusal (ruling_refused t given.notices refusal ((all_at_once (to_stand given.links)).conclusion t) is)
  by_wants refusal (Err other) at is =
      by_check refusal ((checked units).conclusion t) refl (at ∙ ap asked (same_refusal other refusal (ruling_refused t map.empty refusal (Err other) is)))

  -- the other direction
  abbrev IsRefused : Refusal → Type 0
  IsRefused refusal = ((enable_meaning enable).conclusion t).answer ≡ Refused refusal

  refused_wants : (refusal : Refusal) → wants ≡ Err refusal → IsRefused refusal
  refused_wants refusal is = ap (λ given. (made_of scope false units t given).answer) is

  passed : All (IsUnit t) units → (closed : Result Closed ClosureFault) → (closure units).conclusion t ≡ closed → wants ≡ (going_on (closed_want scope false) (unless_too_many closed)).conclusion t
  passed fine closed closes = ap after_check ((check_passes units t).1 fine) ∙ ap (λ closed. (going_on (closed_want scope false) (unless_too_many closed)).conclusion t) closes

  module _ (known : AreKnown t units) where
    closes_to : (closed : Closed) × ((closure units).conclusion t ≡ Ok closed)
    closes_to = by_closure ((closure units).conclusion t) refl
      where
        by_closure : (closed : Result Closed ClosureFault) → (closure units).conclusion t ≡ closed → (closed : Closed) × ((closure units).conclusion t ≡ Ok closed)
        by_closure (Ok closed) at = (closed, at)
        by_closure (Err closure_faults.TooMany) at = absurd (known.1 ((refused_exactly units t).0 at))

    abbrev closed : Closed
    closed = closes_to.0

    closes : (closure units).conclusion t ≡ Ok closed
    closes = closes_to.1

    wants_are : (found : Result Wanted WantedFault) → (wanted closed.units scope false).conclusion t ≡ found → wants ≡ unless_at_odds closed.notices found
    wants_are found at = passed known.0 (Ok closed) closes ∙ ap (unless_at_odds closed.notices) at

    needed : (unit : List ℕ) → IsLeast (IsNameless t units) unit → IsRefused (NeedsInstance unit)
    needed unit least =
        refused_wants (NeedsInstance unit) (wants_are (Err (wanted_faults.NeedsInstance unit))
        ((needs_least closed.units scope false t unit).1 (least_as (IsNameless t units) (NeedsName t closed.units false) (needs_name closed closes) (nameless closed closes) unit least)))

    clashes : HasNone (IsNameless t units) → (path : List ℕ) → IsLeast (HasTwoFiles scope t units) path → IsRefused (Clash path)
    clashes none path least =
        refused_wants (Clash path) (wants_are (Err (wanted_faults.Clash path))
        ((clash_least closed.units scope false t path).1 (
          λ unit needs. none unit (nameless closed closes unit needs),
          least_as (HasTwoFiles scope t units) (HasTwoTargets t (scope_place scope) closed.units) (two_targets closed closes) (two_files closed closes) path least,
        )))

    blocked : HasNone (IsNameless t units) → HasNone (HasTwoFiles scope t units) → (path : List ℕ) → IsLeast (IsWantedAndTaken scope t units) path → IsRefused (Exists path)
    blocked none whole path least = by_found ((wanted closed.units scope false).conclusion t) refl
      where
        by_found : (found : Result Wanted WantedFault) → (wanted closed.units scope false).conclusion t ≡ found → IsRefused (Exists path)
        by_found (Err (wanted_faults.NeedsInstance unit)) at = absurd (none unit (nameless closed closes unit ((needs_least closed.units scope false t unit).0 at).0))
        by_found (Err (wanted_faults.Clash other)) at = absurd (whole other (two_files closed closes other ((clash_least closed.units scope false t other).0 at).1.0))
        by_found (Ok found) at =
            let given : Wanted = record { links = found.links; notices = joined closed.notices found.notices } in
            let are : wants ≡ Ok given = wants_are (Ok found) at in
            ap (λ given. (made_of scope false units t given).answer) are
            ∙ refused_ruling t given.notices (Exists path) ((all_at_once (to_stand given.links)).conclusion t) (links_refused given are path least)

  all : (refusal : Refusal) → Why refusal → IsRefused refusal
  all refusal (Amiss unit _ to why) =
      refused_wants refusal (ap after_check ((check_refuses_first units t refusal).1 (to.0, to.1, unit, to.2, to.3, (amiss t unit refusal).1 why)))
  all _ (Many fine many) = refused_wants TooMany (passed fine (Err closure_faults.TooMany) ((refused_exactly units t).1 many))
  all _ (NoInstance unit known least) = needed known unit least
  all _ (TwoFiles path known none least) = clashes known none path least
  all _ (Taken path known none whole least) = blocked known none whole path least

pub enable_refused : EnableRefused
enable_refused enable t refusal = (by_wants enable t refusal (wants enable t) refl, all enable t refusal)
