use Rattle.std.proofs.Common.{◌≡◌, ℕ, List, true, Some, All, sym, ap, subst, ◌∙◌}
use Rattle.std.specs.FinMap as map
use Rattle.std.proofs.lemmas.List.Elements.{All-head, All-tail}
use Rattle.unit_paths.specs.Slots.{is_slot}
use Rattle.install_commands.specs.Enable.{with_links}
use Rattle.install_commands.proofs.enable.to_stand.Goals as goal

abbrev Link : Type 0
Link = List ℕ × List ℕ

abbrev AreAtSlots : List Link → Type 0
AreAtSlots links = All (λ (link : Link). is_slot link.0 ≡ true) links

pub loop-path-init : goal.loop-path-init
loop-path-init c = (
  ap (λ wanted. with_links wanted c.into_iter-path-iterator.result) c.none-wanted.ensures,
  subst AreAtSlots (sym (c.into_iter-path-iterator.ensures.into_iter_gives ∙ c.iter-path-items.ensures.links)) c.iter-path-items.ensures.slots,
)

pub link-requires : goal.link-requires
link-requires c =
    subst (λ path. is_slot path ≡ true) (sym c.in_ok-copy.ensures)
    (All-head (λ (link : Link). is_slot link.0 ≡ true) (c.in-Some.path.now, c.in-Some.file.now) c.next.new.self (subst AreAtSlots c.in-Some.ensures.steps c.loop-path.invariant.1))

pub loop-path-preserved : goal.loop-path-preserved
loop-path-preserved c = (
  ap (λ wanted. with_links wanted c.next.new.self)
      (c.in_ok-link.ensures.ok ∙ (λ i. map.insert c.loop-path.wanted (c.in_ok-copy.ensures i) (Some (c.in_ok-copy-2.ensures i))))
      ∙ ap (with_links c.loop-path.wanted) (sym c.in-Some.ensures.steps) ∙ c.loop-path.invariant.0,
  All-tail (λ (link : Link). is_slot link.0 ≡ true) (c.in-Some.path.now, c.in-Some.file.now) c.next.new.self (subst AreAtSlots c.in-Some.ensures.steps c.loop-path.invariant.1),
)

pub returns : goal.returns
returns c =
    ap (with_links c.loop-path.wanted) (sym c.in-None.ensures.steps.0) ∙ c.loop-path.invariant.0
    ∙ ap (with_links map.empty) (c.into_iter-path-iterator.ensures.into_iter_gives ∙ c.iter-path-items.ensures.links)
