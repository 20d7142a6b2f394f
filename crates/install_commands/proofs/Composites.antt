-- The tree after two commands, one after the other.
use Rattle.std.proofs.Common.{◌≡◌, List, [], ◌⊎◌, Ok, Err, refl, sym, ap, subst, ◌∙◌, inl, inr}
use Rattle.std.specs.FinMap as map
use Rattle.unit_file.specs.Notices.{NoticeMap, joined}
use Rattle.unit_file.proofs.NoticeMaps.{none-joined, joined-none}
use Rattle.link_tree.specs.Differences.{changes_between}
use Rattle.link_tree.specs.Trees.{Entries, after_changes}
use Rattle.link_tree.proofs.Leads.{leads as led}
use Rattle.footprint.specs.declared.answer.Answer.TheVariants.{Done, Refused}
use Rattle.tree_access.specs.declared.refusal.Refusal.{Refusal}
use Rattle.footprint.specs.Commands.{Command, carried_out, effect}
use Rattle.footprint.specs.Inquiry.{Inquiry}
use Rattle.footprint.specs.Operations.{Effect}
use Rattle.tree_access.specs.Placing.{Placed, Ruling, placed_in}
use Rattle.install_commands.specs.CompositeLaws.{LeavesInTurn, IsRefusedInTurn}
use Rattle.install_commands.specs.Laws.{Leaves}
use Rattle.install_commands.proofs.InTurn.{net_effect, whole, told, more, rules_first, rules_second, left, whole_comes, whole_refused}
use Rattle.install_commands.proofs.Placed.{placed_leads, accepted}

-- an inquiry with the same result leaves the same tree
pub leaves_as : (one other : Inquiry Effect) (t u : Entries) → one.conclusion t ≡ other.conclusion t → Leaves one t u → Leaves other t u
leaves_as one other t u same leaves = (leaves.0, ap (λ (e : Effect). e.answer) (sym same) ∙ leaves.1, leaves.2 ∙ ap (λ (e : Effect). after_changes e.changes t) same)

-- a command leaves a tree in which things were placed
module _ (command : Command) (t : Entries) where
  abbrev tells : NoticeMap
  tells = (command.conclusion t).0

  abbrev rules : Ruling
  rules = (command.conclusion t).1.conclusion t

  pub placed_by : (u : Entries) → Leaves (carried_out command) t u → (placed : List Placed) × (rules ≡ Ok placed) × (u ≡ placed_in placed t)
  placed_by u leaves =
      let these = accepted t tells leaves.0 rules leaves.1 in
      (these.0, these.1, leaves.2 ∙ ap (λ ruling. after_changes (effect t tells ruling).changes t) these.1 ∙ placed_leads t tells these.0)

  pub leaves_placed : (placed : List Placed) → rules ≡ Ok placed → Leaves (carried_out command) t (placed_in placed t)
  leaves_placed placed at =
      (tells, ap (λ ruling. (effect t tells ruling).answer) at, sym (ap (λ ruling. after_changes (effect t tells ruling).changes t) at ∙ placed_leads t tells placed))

  refused_rules : (refusal : Refusal) (ruling : Ruling) → (effect t tells ruling).answer ≡ Refused refusal → ruling ≡ Err refusal
  refused_rules refusal (Ok placed) is = cc
  refused_rules refusal (Err other) is = let same : other ≡ refusal = cc in ap (λ (r : Refusal). Err r) same

  pub refused_by : (refusal : Refusal) → ((carried_out command).conclusion t).answer ≡ Refused refusal → rules ≡ Err refusal
  refused_by refusal is = refused_rules refusal rules is

  pub refuses : (refusal : Refusal) → rules ≡ Err refusal → ((carried_out command).conclusion t).answer ≡ Refused refusal
  refuses refusal at = ap (λ ruling. (effect t tells ruling).answer) at

module _ (first second : Command) (t : Entries) where
  abbrev both : Inquiry Effect
  both = whole first second t

  -- the second tree, and the last one
  record Parts (u : Entries) : Type 0 where
    placed : List Placed
    at_first : rules_first first second t ≡ Ok placed
    later : List Placed
    at_second : rules_second first second t (left first second t placed) ≡ Ok later
    leaves : u ≡ placed_in later (left first second t placed)

  by_second : (u : Entries) (placed : List Placed) → rules_first first second t ≡ Ok placed → (notices : NoticeMap) (ruling : Ruling)
      → rules_second first second t (left first second t placed) ≡ ruling
      → (net_effect t (left first second t placed) (told first second t) (more first second t (left first second t placed)) ruling).answer ≡ Done notices
      → u ≡ after_changes (net_effect t (left first second t placed) (told first second t) (more first second t (left first second t placed)) ruling).changes t → Parts u
  by_second u placed at notices (Ok later) rules done is = record { placed = placed; at_first = at; later = later; at_second = rules; leaves = is ∙ (led t (placed_in later (left first second t placed))).to }
  by_second u placed at notices (Err refusal) rules done is = cc

  by_first : (u : Entries) (ruling : Ruling) → rules_first first second t ≡ ruling → Leaves both t u → Parts u
  by_first u (Ok placed) at leaves =
      let v = left first second t placed in
      let comes = whole_comes first second t placed at in
      by_second u placed at leaves.0 (rules_second first second t v) refl (ap (λ (e : Effect). e.answer) (sym comes) ∙ leaves.1) (leaves.2 ∙ ap (λ (e : Effect). after_changes e.changes t) comes)
  by_first u (Err refusal) at leaves = let both : Refused refusal ≡ Done leaves.0 = ap (λ (e : Effect). e.answer) (sym (whole_refused first second t refusal at)) ∙ leaves.1 in cc

  parts_of : (u : Entries) → Leaves both t u → Parts u
  parts_of u leaves = by_first u (rules_first first second t) refl leaves

  -- the result of both, by their parts
  comes_by : (u : Entries) → Parts u → (notices : NoticeMap) × (both.conclusion t ≡ record { answer = Done notices; changes = changes_between t u })
  comes_by u parts =
      let v = left first second t parts.placed in (
        joined (told first second t) (more first second t v),
        whole_comes first second t parts.placed parts.at_first
            ∙ ap (net_effect t v (told first second t) (more first second t v)) parts.at_second
            ∙ ap (λ u. record { answer = Done (joined (told first second t) (more first second t v)); changes = changes_between t u }) (sym parts.leaves),
      )

  pub both_come_to_changes : (u : Entries) → Leaves both t u → (notices : NoticeMap) × (both.conclusion t ≡ record { answer = Done notices; changes = changes_between t u })
  both_come_to_changes u leaves = comes_by u (parts_of u leaves)

  joined_parts : (u v : Entries) → Leaves (carried_out first) t v → Leaves (carried_out second) v u → Parts u
  joined_parts u v one other =
      let placed = placed_by first t v one in
      let later = placed_by second v u other in
      record {
        placed = placed.0;
        at_first = placed.1;
        later = later.0;
        at_second = subst (λ v. rules_second first second t v ≡ Ok later.0) placed.2 later.1;
        leaves = later.2 ∙ ap (placed_in later.0) placed.2;
      }

  pub leaves_in_turn : LeavesInTurn both first second t
  leaves_in_turn u = (
    λ leaves.
        let parts = parts_of u leaves in
        let v = left first second t parts.placed in
        (v, leaves_placed first t parts.placed parts.at_first, subst (Leaves (carried_out second) v) (sym parts.leaves) (leaves_placed second v parts.later parts.at_second)),
    λ turns.
        let parts = joined_parts u turns.0 turns.1 turns.2 in
        let comes = comes_by u parts in
        (comes.0, ap (λ (e : Effect). e.answer) comes.1, sym (ap (λ (e : Effect). after_changes e.changes t) comes.1 ∙ (led t u).to)),
  )

  abbrev IsRefusedSo : Refusal → Type 0
  IsRefusedSo refusal = (((carried_out first).conclusion t).answer ≡ Refused refusal) ⊎ ((v : Entries) × Leaves (carried_out first) t v × (((carried_out second).conclusion v).answer ≡ Refused refusal))

  refused_second : (refusal : Refusal) (placed : List Placed) (ruling : Ruling)
      → (net_effect t (left first second t placed) (told first second t) (more first second t (left first second t placed)) ruling).answer ≡ Refused refusal → ruling ≡ Err refusal
  refused_second refusal placed (Ok later) is = cc
  refused_second refusal placed (Err other) is = let same : other ≡ refusal = cc in ap (λ (r : Refusal). Err r) same

  refused_so : (refusal : Refusal) (ruling : Ruling) → rules_first first second t ≡ ruling → (both.conclusion t).answer ≡ Refused refusal → IsRefusedSo refusal
  refused_so refusal (Ok placed) at is =
      let v = left first second t placed in
      let rules = refused_second refusal placed (rules_second first second t v) (ap (λ (e : Effect). e.answer) (sym (whole_comes first second t placed at)) ∙ is) in
      inr (v, leaves_placed first t placed at, refuses second v refusal rules)
  refused_so refusal (Err other) at is =
      let both : Refused other ≡ Refused refusal = ap (λ (e : Effect). e.answer) (sym (whole_refused first second t other at)) ∙ is in
      let same : other ≡ refusal = cc in inl (refuses first t refusal (at ∙ ap (λ (r : Refusal). Err r) same))

  pub refused_in_turn : IsRefusedInTurn both first second t
  refused_in_turn refusal = (
    refused_so refusal (rules_first first second t) refl,
    λ so. elim so [
      | inl one ↦ ap (λ (e : Effect). e.answer) (whole_refused first second t refusal (refused_by first t refusal one))
      | inr other ↦ (
          let placed = placed_by first t other.0 other.1 in
          let v = left first second t placed.0 in
          let at : rules_second first second t v ≡ Err refusal = subst (λ v. rules_second first second t v ≡ Err refusal) placed.2 (refused_by second other.0 refusal other.2) in
          ap (λ (e : Effect). e.answer) (whole_comes first second t placed.0 placed.1 ∙ ap (net_effect t v (told first second t) (more first second t v)) at))
    ],
  )

  net_of_told : (u : Entries) (notices : NoticeMap) (ruling : Ruling) → net_effect u u map.empty notices ruling ≡ effect u notices ruling
  net_of_told u notices (Ok placed) = ap (λ notices. record { answer = Done notices; changes = changes_between u (placed_in placed u) }) (none-joined notices)
  net_of_told u notices (Err refusal) = refl

  same_told : (one other : NoticeMap) (e : Effect) → e.answer ≡ Done one → e.answer ≡ Done other → one ≡ other
  same_told one other e is also = cc

  -- if the first changes nothing, the second alone decides
  pub after_nothing : (carried_out first).conclusion t ≡ record { answer = Done map.empty; changes = [] } → both.conclusion t ≡ (carried_out second).conclusion t
  after_nothing same =
      let leaves : Leaves (carried_out first) t t = (map.empty, ap (λ (e : Effect). e.answer) same, sym (ap (λ (e : Effect). after_changes e.changes t) same)) in
      let placed = placed_by first t t leaves in
      let none : told first second t ≡ map.empty = same_told _ _ ((carried_out first).conclusion t) (ap (λ ruling. (effect t (told first second t) ruling).answer) placed.1) leaves.1 in
      whole_comes first second t placed.0 placed.1
      ∙ ap (λ u. net_effect t u (told first second t) (more first second t u) (rules_second first second t u)) (sym placed.2)
      ∙ ap (λ told. net_effect t t told (more first second t t) (rules_second first second t t)) none
      ∙ net_of_told t (more first second t t) (rules_second first second t t)

  -- if the second changes nothing, the first alone does
  module _ (nothing : (v : Entries) → (carried_out second).conclusion v ≡ record { answer = Done map.empty; changes = [] }) where
    by_later : (v : Entries) (ruling : Ruling) → rules_second first second t v ≡ ruling → effect v (more first second t v) ruling ≡ record { answer = Done map.empty; changes = [] }
        → net_effect t v (told first second t) (more first second t v) ruling ≡ record { answer = Done (told first second t); changes = changes_between t v }
    by_later v (Ok later) at is =
        let none : more first second t v ≡ map.empty = same_told _ _ (effect v (more first second t v) (Ok later)) refl (ap (λ (e : Effect). e.answer) is) in
        let same : placed_in later v ≡ v = sym (led v (placed_in later v)).to ∙ ap (λ (e : Effect). after_changes e.changes v) is in
        (λ i. record { answer = Done (joined (told first second t) (none i)); changes = changes_between t (same i) })
        ∙ ap (λ told. record { answer = Done told; changes = changes_between t v }) (joined-none (told first second t))
    by_later v (Err refusal) at is = let both : Refused refusal ≡ Done map.empty = ap (λ (e : Effect). e.answer) is in cc

    by_ruling : (ruling : Ruling) → rules_first first second t ≡ ruling → both.conclusion t ≡ effect t (told first second t) ruling
    by_ruling (Ok placed) at =
        let v = left first second t placed in
        whole_comes first second t placed at ∙ by_later v (rules_second first second t v) refl (nothing v)
    by_ruling (Err refusal) at = whole_refused first second t refusal at

    pub before_nothing : both.conclusion t ≡ (carried_out first).conclusion t
    before_nothing = by_ruling (rules_first first second t) refl
