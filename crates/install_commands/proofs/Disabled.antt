-- The tree that disable leaves.
use Rattle.std.proofs.Common.{◌≡◌, ℕ, false, List, [], ◌↔◌, All, Contains, Some, Result, Ok, Err, refl, sym, ap, subst, ◌∙◌, inl, inr}
use Rattle.std.specs.FinMap as map
use Rattle.std.proofs.lemmas.Bool.{cases_Bool, false≢true}
use Rattle.std.proofs.lemmas.List.Elements.{All-weaker}
use Rattle.unit_paths.specs.declared.place.Scope.{Scope}
use Rattle.link_tree.specs.declared.entry.Entry.{Entry}
use Rattle.link_tree.specs.Links.{belongs}
use Rattle.link_tree.specs.Trees.{Entries, after_changes}
use Rattle.install_section.specs.declared.closed.ClosureFault.TheVariants as closure_faults
use Rattle.install_section.specs.Closure.{IsUnit, Reached, closure}
use Rattle.install_section.proofs.Least.{refused_exactly}
use Rattle.footprint.specs.declared.answer.Answer.TheVariants.{Done, Refused}
use Rattle.tree_access.specs.declared.refusal.Refusal.{Refusal}
use Rattle.tree_access.specs.declared.refusal.Refusal.TheVariants.{TooMany}
use Rattle.footprint.specs.Commands.{taken, unless_refused, carried_out}
use Rattle.footprint.specs.Inquiry.{Inquiry}
use Rattle.tree_access.specs.Keys.{AgreeOn}
use Rattle.footprint.specs.Operations.{Effect}
use Rattle.install_commands.specs.declared.disable.Disable.{Disable}
use Rattle.install_commands.specs.declared.disable.Named.{Named}
use Rattle.install_commands.specs.declared.enable.Enable.{Enable}
use Rattle.install_commands.specs.Laws.IsNamed.{Also}
use Rattle.install_commands.specs.Disable.{units_named, links_removed, units_disabled, disable_meaning}
use Rattle.install_commands.specs.Enable.{enable_meaning}
use Rattle.install_commands.specs.Laws.{Leaves, ChangesNothing, GoesWith, IsNamed, IsGone, Without, DisableRemoves, DisableRefused, DisableAgain, disable_of, DisableAfterEnable}
use Rattle.install_commands.proofs.Checked.{check_passes}
use Rattle.install_commands.proofs.Enabled.{wants_of, made}
use Rattle.install_commands.proofs.Named.{selves, gathered_is, named_refused, reached_goes, goes_reached, selves_reach, reached_with}
use Rattle.install_commands.proofs.Removal.{is_marked, marked_by, marks, done_by, Removed, removal, remains, done_of, refused_of, none_goes}

module _ (scope : Scope) (units : List (List ℕ)) (t : Entries) where
  abbrev named_in : Result Named Refusal
  named_in = (units_named units).conclusion t

  abbrev meaning : Inquiry Effect
  meaning = carried_out (units_disabled scope units)

  abbrev pub none_kept : Named → List (List ℕ)
  none_kept named = []

  -- the result of the command, by the names
  pub by_names : (given : Result Named Refusal) → (taken ((unless_refused (links_removed scope) given).conclusion t)).conclusion t ≡ done_by scope none_kept t given
  by_names (Ok named) = refl
  by_names (Err refusal) = refl

  pub comes_to : meaning.conclusion t ≡ done_by scope none_kept t named_in
  comes_to = by_names named_in

  abbrev pub Gone : Entries → Type 0
  Gone u = Removed scope none_kept t named_in u

  pub removed : (u : Entries) → Leaves meaning t u → Gone u
  removed u leaves = removal scope none_kept t leaves.0 u named_in (ap (λ (e : Effect). e.answer) (sym comes_to) ∙ leaves.1) (leaves.2 ∙ ap (λ (e : Effect). after_changes e.changes t) comes_to)

  module _ (u : Entries) (links : Gone u) where
    abbrev names : List (List ℕ)
    names = links.named.names

    -- an entry that exists afterwards existed before, and belongs to none of the names
    stood : (path : List ℕ) (entry : Entry) → map.get u path ≡ Some entry → (map.get t path ≡ Some entry) × (is_marked scope path entry names ≡ false)
    stood path entry here = let is = (remains scope none_kept t named_in u links path entry).0 here in (is.0, elim is.1 [ inl keep ↦ absurd (false≢true keep) | inr away ↦ away ])

    -- afterwards no link belongs to one of the names
    pub none_left : (path : List ℕ) (entry : Entry) (name : List ℕ) → map.get u path ≡ Some entry → Contains names name → belongs scope name path entry ≡ false
    none_left path entry name here named = elim (cases_Bool (belongs scope name path entry)) [
      | inl is ↦ absurd (false≢true (sym (stood path entry here).1 ∙ marks scope path entry names name named is))
      | inr not ↦ not
    ]

    pub is_named : (name : List ℕ) → Contains names name ↔ IsNamed t units name
    is_named name = gathered_is t units links.named links.are name

    pub removes : Without (IsGone scope units t) t u
    removes path entry = (
      λ here. ((stood path entry here).0, λ gone. absurd (false≢true (sym (none_left path entry gone.0 here ((is_named gone.0).1 gone.1)) ∙ gone.2))),
      λ there. elim (cases_Bool (is_marked scope path entry names)) [
        | inl marked ↦ (let by = marked_by scope path entry names marked in absurd (there.1 (by.0, (is_named by.0).0 by.1, by.2)))
        | inr other ↦ (remains scope none_kept t named_in u links path entry).1 (there.0, inr other)
      ],
    )

  -- if the names are found, the command is accepted
  pub done_with : (named : Named) → named_in ≡ Ok named → (meaning.conclusion t).answer ≡ Done named.notices
  done_with named are = ap (λ (e : Effect). e.answer) comes_to ∙ ap (λ given. (done_by scope none_kept t given).answer) are ∙ done_of scope none_kept t named

  pub refused_with : (refusal : Refusal) → (meaning.conclusion t).answer ≡ Refused refusal → named_in ≡ Err refusal
  refused_with refusal is = refused_of scope none_kept t refusal named_in (ap (λ (e : Effect). e.answer) (sym comes_to) ∙ is)

  pub refuses : (refusal : Refusal) → named_in ≡ Err refusal → (meaning.conclusion t).answer ≡ Refused refusal
  refuses refusal is = ap (λ (e : Effect). e.answer) comes_to ∙ ap (λ given. (done_by scope none_kept t given).answer) is

  -- if no link belongs to one of them, it changes nothing
  pub changes_nothing : (named : Named) → named_in ≡ Ok named → ((path : List ℕ) (entry : Entry) → map.get t path ≡ Some entry → is_marked scope path entry named.names ≡ false) → ChangesNothing meaning t
  changes_nothing named are free = (
    named.notices,
    comes_to ∙ ap (done_by scope none_kept t) are ∙ none_goes scope none_kept t named (λ path entry there. inr (free path entry there)),
  )

pub disable_removes : DisableRemoves
disable_removes disable t u leaves = removes disable.scope disable.units t u (removed disable.scope disable.units t u leaves)

pub disable_refused : DisableRefused
disable_refused disable t refusal = (
  λ is.
      let why = named_refused t disable.units refusal (refused_with disable.scope disable.units t refusal is) in
      let many = (refused_exactly (selves t disable.units) t).0 why.1 in
      (why.0, many.0, many.1, many.2, All-weaker (Reached t (selves t disable.units)) (GoesWith t disable.units) (reached_goes t disable.units) many.0 many.3),
  λ many.
      let all = All-weaker (GoesWith t disable.units) (Reached t (selves t disable.units)) (goes_reached t disable.units) many.1 many.4 in
      let why = too_many disable.units t ((refused_exactly (selves t disable.units) t).1 (many.1, many.2, many.3, all)) in
      refuses disable.scope disable.units t TooMany why ∙ ap (λ (r : Refusal). Refused r) (sym many.0),
)
  where
    too_many : (units : List (List ℕ)) (t : Entries) → (closure (selves t units)).conclusion t ≡ Err closure_faults.TooMany → (units_named units).conclusion t ≡ Err TooMany
    too_many units t is = rw is refl

-- the same disable changes nothing, if the names are the same and no link belongs to them any more
pub again : (scope : Scope) (units : List (List ℕ)) (t u : Entries) → Leaves (carried_out (units_disabled scope units)) t u → AgreeOn ((units_named units).keys t) t u
    → ChangesNothing (carried_out (units_disabled scope units)) u
again scope units t u leaves agree =
    let links = removed scope units t u leaves in
    changes_nothing scope units u links.named (sym (((units_named units).agreement t u agree).0) ∙ links.are) (λ path entry there. (stood scope units t u links path entry there).1)

pub disable_again : DisableAgain
disable_again disable t u leaves agree = again disable.scope disable.units t u leaves agree

module _ (enable : Enable) (t u : Entries) (leaves : Leaves (enable_meaning enable) t u) where
  abbrev disable : Disable
  disable = disable_of enable

  abbrev fine : All (IsUnit t) enable.units
  fine = (check_passes enable.units t).0 (wants_of enable.scope false enable.units t _ (made enable.scope false enable.units t u leaves).are).0

  -- the names are found, since there aren't too many units
  names_are : (named : Result Named Refusal) → (units_named enable.units).conclusion t ≡ named → (named : Named) × ((units_named enable.units).conclusion t ≡ Ok named)
  names_are (Ok named) at = (named, at)
  names_are (Err refusal) at =
      let why = named_refused t enable.units refusal at in
      let many = (refused_exactly (selves t enable.units) t).0 why.1 in
      let all = All-weaker (Reached t (selves t enable.units)) (Reached t enable.units) (selves_reach t enable.units fine) many.0 many.3 in
      let refused = (refused_exactly enable.units t).1 (many.0, many.1, many.2, all) in
      let wants = (wants_of enable.scope false enable.units t _ (made enable.scope false enable.units t u leaves).are).1 in
      let both : Err closure_faults.TooMany ≡ Ok wants.closed = sym refused ∙ wants.closes in cc

  same_names : (named : Result Named Refusal) (one other : Named) → named ≡ Ok one → named ≡ Ok other → one ≡ other
  same_names named one other is also = cc

  after_enable : AgreeOn ((units_named enable.units).keys t) t u → (v : Entries) × Leaves (disable_meaning disable) u v
      × ((unit : List ℕ) → Reached t enable.units unit → (path : List ℕ) (entry : Entry) → map.get v path ≡ Some entry → belongs enable.scope unit path entry ≡ false)
  after_enable agree =
      let named = names_are ((units_named enable.units).conclusion t) refl in
      let are : (units_named enable.units).conclusion u ≡ Ok named.0 = sym (((units_named enable.units).agreement t u agree).0) ∙ named.1 in
      let v : Entries = after_changes ((disable_meaning disable).conclusion u).changes u in
      let left : Leaves (disable_meaning disable) u v = (named.0.notices, done_with enable.scope enable.units u named.0 are, refl) in
      let links = removed enable.scope enable.units u v left in (
        v,
        left,
        λ unit reached path entry there.
            none_left enable.scope enable.units u v links path entry unit there
            (subst (λ n. Contains n.names unit) (same_names ((units_named enable.units).conclusion u) named.0 links.named are links.are) ((gathered_is t enable.units named.0 named.1 unit).1 (Also (reached_with t enable.units fine unit reached)))),
      )

pub disable_after_enable : DisableAfterEnable
disable_after_enable enable t u leaves agree = after_enable enable t u leaves agree
