-- The tree that enable leaves.
use Rattle.std.proofs.Common.{◌≡◌, ℕ, Bool, false, List, [], ◌⊎◌, ◌↔◌, Option, Some, None, Result, Ok, Err, refl, sym, ap, subst, ◌∙◌, inl, inr}
use Rattle.std.specs.FinMap as map
use Rattle.unit_file.specs.Notices.{NoticeMap, joined}
use Rattle.unit_paths.specs.Canonical.{canonical}
use Rattle.unit_paths.specs.declared.place.Scope.{Scope}
use Rattle.link_tree.specs.declared.entry.Entry.{Entry}
use Rattle.link_tree.specs.declared.entry.Entry.TheVariants.{Link}
use Rattle.link_tree.specs.Trees.{Entries, after_changes}
use Rattle.link_tree.proofs.Maps.{none_some}
use Rattle.install_section.specs.declared.closed.Closed.{Closed}
use Rattle.install_section.specs.declared.closed.ClosureFault.{ClosureFault}
use Rattle.install_section.specs.declared.closed.ClosureFault.TheVariants as closure_faults
use Rattle.install_section.specs.declared.wants.Wanted.{Wanted}
use Rattle.install_section.specs.declared.wants.WantedFault.{WantedFault}
use Rattle.install_section.specs.declared.wants.WantedFault.TheVariants as wanted_faults
use Rattle.install_section.specs.Closure.{closure}
use Rattle.install_section.specs.Wanted.{wanted}
use Rattle.install_section.proofs.Least.{some_is, closure_least}
use Rattle.install_section.proofs.WantedSets.{links_asked_for}
use Rattle.footprint.specs.declared.answer.Answer.TheVariants.{Done}
use Rattle.tree_access.specs.declared.refusal.Refusal.{Refusal}
use Rattle.footprint.specs.Commands.{taken, unless_refused, carried_out, effect}
use Rattle.footprint.specs.Inquiry.{Inquiry}
use Rattle.tree_access.specs.Keys.{AgreeOn}
use Rattle.footprint.specs.Laws.{IsLeft}
use Rattle.footprint.specs.Operations.{Effect}
use Rattle.tree_access.specs.Placing.{Placed, placed_in, wanted_at}
use Rattle.tree_access.specs.Rules.{LeadsAs}
use Rattle.footprint.specs.Steps.{all_at_once}
use Rattle.footprint.proofs.Wishes.{left_all_at_once}
use Rattle.install_commands.specs.Check.{going_on, checked}
use Rattle.install_commands.specs.Enable.{unless_too_many, unless_at_odds, closed_want, units_want, to_stand, links_made, checked_want, units_enabled}
use Rattle.install_commands.specs.Laws.{Leaves, IsWantedBy, JoinedWith, EnableJoins, EnableAgain}
use Rattle.install_commands.proofs.Placed.{placed_leads, accepted, nothing_changes, to_file, get-to_stand, link_leaves}

-- how the wanted links result from the closure
pub record Wants (scope : Scope) (skip : Bool) (units : List (List ℕ)) (t : Entries) (given : Wanted) : Type 0 where
  pub closed : Closed
  pub closes : (closure units).conclusion t ≡ Ok closed
  pub found : Wanted
  pub finds : (wanted closed.units scope skip).conclusion t ≡ Ok found
  pub links : given.links ≡ found.links

module _ (scope : Scope) (skip : Bool) (units : List (List ℕ)) (t : Entries) where
  abbrev wants : Inquiry (Result Wanted Refusal)
  wants = checked_want scope skip units

  abbrev meaning : Inquiry Effect
  meaning = carried_out (units_enabled scope skip units)

  links_of : (given : Wanted) (closed : Closed) (found : Wanted) → unless_at_odds closed.notices (Ok found) ≡ Ok given → given.links ≡ found.links
  links_of given closed found is =
      let same : record { links = found.links; notices = joined closed.notices found.notices } ≡ given = cc in
      ap (λ (wanted : Wanted). wanted.links) (sym same)

  by_found : (given : Wanted) (closed : Closed) → (closure units).conclusion t ≡ Ok closed → (found : Result Wanted WantedFault)
      → (wanted closed.units scope skip).conclusion t ≡ found → unless_at_odds closed.notices found ≡ Ok given → Wants scope skip units t given
  by_found given closed closes (Ok found) finds is = record { closed = closed; closes = closes; found = found; finds = finds; links = links_of given closed found is }
  by_found given closed closes (Err (wanted_faults.NeedsInstance unit)) finds is = cc
  by_found given closed closes (Err (wanted_faults.Clash path)) finds is = cc

  by_closed : (given : Wanted) (closed : Result Closed ClosureFault) → (closure units).conclusion t ≡ closed
      → (going_on (closed_want scope skip) (unless_too_many closed)).conclusion t ≡ Ok given → Wants scope skip units t given
  by_closed given (Ok closed) closes is = by_found given closed closes ((wanted closed.units scope skip).conclusion t) refl is
  by_closed given (Err closure_faults.TooMany) closes is = cc

  by_check : (given : Wanted) (fine : Result (Unit {0}) Refusal) → (checked units).conclusion t ≡ fine
      → (going_on (λ fine. units_want scope skip units) fine).conclusion t ≡ Ok given → ((checked units).conclusion t ≡ Ok tt) × Wants scope skip units t given
  by_check given (Ok fine) at is = (at, by_closed given ((closure units).conclusion t) refl is)
  by_check given (Err refusal) at is = cc

  -- accepted units pass the check, and have these links
  pub wants_of : (given : Wanted) → wants.conclusion t ≡ Ok given → ((checked units).conclusion t ≡ Ok tt) × Wants scope skip units t given
  wants_of given is = by_check given ((checked units).conclusion t) refl is

  -- a link is among those exactly if it is wanted
  pub wanted_is : (given : Wanted) → wants.conclusion t ≡ Ok given → (path file : List ℕ) → (map.get given.links path ≡ Some file) ↔ IsWantedBy scope units t path file
  wanted_is given is path file =
      let from = (wants_of given is).1 in
      let least = (closure_least units t from.closed from.closes).1 in
      let asked = links_asked_for from.closed.units scope skip t from.found from.finds path file in (
        λ there. let by = asked.0 (ap (λ links. map.get links path) (sym from.links) ∙ there) in (by.0, (least by.0).0 by.1, by.2),
        λ by. ap (λ links. map.get links path) from.links ∙ asked.1 (by.0, (least by.0).1 by.1, by.2),
      )

  -- the result of the command, by the links
  abbrev pub made_of : Result Wanted Refusal → Effect
  made_of given = (taken ((unless_refused links_made given).conclusion t)).conclusion t

  -- links were made
  pub record Made (u : Entries) : Type 0 where
    pub given : Wanted
    pub are : wants.conclusion t ≡ Ok given
    pub placed : List Placed
    pub rules : (all_at_once (to_stand given.links)).conclusion t ≡ Ok placed
    pub leaves : u ≡ placed_in placed t

  by_wants : (notices : NoticeMap) (u : Entries) (given : Result Wanted Refusal) → wants.conclusion t ≡ given → (made_of given).answer ≡ Done notices
      → u ≡ after_changes (made_of given).changes t → Made u
  by_wants notices u (Ok given) at done is =
      let placed = accepted t given.notices notices ((all_at_once (to_stand given.links)).conclusion t) done in
      record {
        given = given;
        are = at;
        placed = placed.0;
        rules = placed.1;
        leaves = is ∙ ap (λ ruling. after_changes (effect t given.notices ruling).changes t) placed.1 ∙ placed_leads t given.notices placed.0;
      }
  by_wants notices u (Err refusal) at done is = cc

  pub made : (u : Entries) → Leaves meaning t u → Made u
  made u leaves = by_wants leaves.0 u (wants.conclusion t) refl leaves.1 leaves.2

  module _ (u : Entries) (links : Made u) where
    left : (path : List ℕ) → IsLeft (to_file (map.get links.given.links path)) path (map.get t path) (map.get u path)
    left path = subst (λ m. IsLeft (to_file (map.get links.given.links path)) path (map.get t path) (map.get m path)) (sym links.leaves)
        (subst (λ found. IsLeft found path (map.get t path) (map.get (placed_in links.placed t) path)) (get-to_stand links.given.links path)
        (left_all_at_once (to_stand links.given.links) t links.placed links.rules path))

    -- what is at a path where no link is wanted stays
    kept : (path : List ℕ) → map.get links.given.links path ≡ None → map.get u path ≡ map.get t path
    kept path none = subst (λ file. IsLeft (to_file file) path (map.get t path) (map.get u path)) none (left path)

    -- a wanted link is made if nothing is at its path; otherwise a link to the right file is there
    -- already
    pub led : (path file : List ℕ) → map.get links.given.links path ≡ Some file
        → ((map.get t path ≡ None) × (map.get u path ≡ Some (Link file)))
        ⊎ ((text : List ℕ) × (map.get t path ≡ Some (Link text)) × (canonical path text ≡ canonical path file) × (map.get u path ≡ map.get t path))
    led path file wanted = link_leaves file path (map.get t path) (map.get u path) (subst (λ file. IsLeft (to_file file) path (map.get t path) (map.get u path)) wanted (left path))

    new_or_old : (path : List ℕ) (entry : Entry) (file : Option (List ℕ)) → map.get links.given.links path ≡ file → map.get u path ≡ Some entry
        → (map.get t path ≡ Some entry) ⊎ ((map.get t path ≡ None) × (file : List ℕ) × IsWantedBy scope units t path file × (entry ≡ Link file))
    new_or_old path entry None at there = inl (sym (kept path at) ∙ there)
    new_or_old path entry (Some file) at there = elim (led path file at) [
      | inl new ↦ (let same : Some (Link file) ≡ Some entry = sym new.1 ∙ there in inr (new.0, file, (wanted_is links.given links.are path file).0 at, sym (some_is _ _ same)))
      | inr old ↦ inl (sym old.3 ∙ there)
    ]

    old_stays : (path : List ℕ) (entry : Entry) (file : Option (List ℕ)) → map.get links.given.links path ≡ file → map.get t path ≡ Some entry → map.get u path ≡ Some entry
    old_stays path entry None at there = kept path at ∙ there
    old_stays path entry (Some file) at there = elim (led path file at) [
      | inl new ↦ none_some entry (sym new.0 ∙ there)
      | inr old ↦ old.3 ∙ there
    ]

    wanted_stands : (path file : List ℕ) → map.get t path ≡ None → IsWantedBy scope units t path file → map.get u path ≡ Some (Link file)
    wanted_stands path file none wanted = elim (led path file ((wanted_is links.given links.are path file).1 wanted)) [
      | inl new ↦ new.1
      | inr old ↦ none_some (Link old.0) (sym none ∙ old.1)
    ]

    pub joins : JoinedWith (IsWantedBy scope units t) t u
    joins path entry = (
      new_or_old path entry (map.get links.given.links path) refl,
      λ there. elim there [
        | inl old ↦ old_stays path entry (map.get links.given.links path) refl old
        | inr new ↦ wanted_stands path new.1 new.0 new.2 ∙ ap (λ e. Some e) (sym new.3)
      ],
    )

    pub leads : (path file : List ℕ) → IsWantedBy scope units t path file → LeadsAs u path file
    leads path file wanted = elim (led path file ((wanted_is links.given links.are path file).1 wanted)) [
      | inl new ↦ (file, new.1, refl)
      | inr old ↦ (old.0, old.3 ∙ old.1, old.2)
    ]

    -- each wanted link leaves the entry at its path as it is
    stays : (path : List ℕ) (link : Option (List ℕ)) (after : Option Entry) → map.get (to_stand links.given.links) path ≡ Some link → wanted_at link path (map.get u path) ≡ Ok after → after ≡ map.get u path
    stays path link after at is = by_file (map.get links.given.links path) refl (sym (get-to_stand links.given.links path) ∙ at)
      where
        by_file : (file : Option (List ℕ)) → map.get links.given.links path ≡ file → to_file file ≡ Some link → after ≡ map.get u path
        by_file None wanted same = cc
        by_file (Some file) wanted same =
            let link_is : Some file ≡ link = some_is _ _ same in
            elim (link_leaves file path (map.get u path) after (ap (λ link. wanted_at link path (map.get u path)) link_is ∙ is)) [
              | inl new ↦ elim (led path file wanted) [
                | inl made ↦ none_some (Link file) (sym new.0 ∙ made.1)
                | inr old ↦ none_some (Link old.0) (sym new.0 ∙ old.3 ∙ old.1)
              ]
              | inr old ↦ old.3
            ]

    -- and so the same links change nothing the second time
    pub again : AgreeOn (wants.keys t) t u → (meaning.conclusion u).changes ≡ []
    again agree =
        let same : wants.conclusion u ≡ Ok links.given = sym ((wants.agreement t u agree).0) ∙ links.are in
        ap (λ given. ((taken ((unless_refused links_made given).conclusion u)).conclusion u).changes) same
        ∙ nothing_changes (to_stand links.given.links) u links.given.notices stays ((all_at_once (to_stand links.given.links)).conclusion u) refl

pub enable_joins : EnableJoins
enable_joins enable t u leaves = let links = made enable.scope false enable.units t u leaves in (joins enable.scope false enable.units t u links, leads enable.scope false enable.units t u links)

pub enable_again : EnableAgain
enable_again enable t u leaves agree = again enable.scope false enable.units t u (made enable.scope false enable.units t u leaves) agree
