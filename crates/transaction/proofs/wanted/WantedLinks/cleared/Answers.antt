use Rattle.std.proofs.Common.{◌≡◌, true, None, All, sym, ap, subst, ◌∙◌}
use Rattle.std.specs.Prelude.{IsPermutation}
use Rattle.std.specs.FinMap as map
use Rattle.std.proofs.lemmas.List.Elements.{All-head, All-tail}
use Rattle.unit_paths.specs.Slots.{is_slot}
use Rattle.tree_access.proofs.Those.{Standing}
use Rattle.transaction.proofs.Cleared.{with_none, all_cleared, all_at_slots}
use Rattle.transaction.proofs.wanted.WantedLinks.cleared.Goals as goal

pub loop-path-init : goal.loop-path-init
loop-path-init c = (
  ap (λ wanted. with_none wanted c.into_iter-path-iterator.result) c.none-wanted.ensures,
  all_at_slots c.args.entries.now c.into_iter-path-iterator.result c.requires
      (subst (λ xs. IsPermutation xs (map.entries c.args.entries.now)) (sym c.into_iter-path-iterator.ensures.into_iter_gives) c.iter-path-items.ensures.entries),
)

pub clear-requires : goal.clear-requires
clear-requires c =
    subst (λ path. is_slot path ≡ true) (sym c.in_ok-copy.ensures)
    (All-head (λ (x : Standing). is_slot x.0 ≡ true) (c.in-Some.path.now, c.in-Some._entry.now) c.next.new.self
    (subst (λ (rest : _). All (λ (x : Standing). is_slot x.0 ≡ true) rest) c.in-Some.ensures.steps c.loop-path.invariant.1))

pub loop-path-preserved : goal.loop-path-preserved
loop-path-preserved c = (
  ap (λ wanted. with_none wanted c.next.new.self) (c.in_ok-clear.ensures.ok ∙ ap (λ path. map.insert c.loop-path.wanted path None) c.in_ok-copy.ensures)
      ∙ ap (with_none c.loop-path.wanted) (sym c.in-Some.ensures.steps) ∙ c.loop-path.invariant.0,
  All-tail (λ (x : Standing). is_slot x.0 ≡ true) (c.in-Some.path.now, c.in-Some._entry.now) c.next.new.self
      (subst (λ (rest : _). All (λ (x : Standing). is_slot x.0 ≡ true) rest) c.in-Some.ensures.steps c.loop-path.invariant.1),
)

pub returns : goal.returns
returns c =
    ap (with_none c.loop-path.wanted) (sym c.in-None.ensures.steps.0) ∙ c.loop-path.invariant.0
    ∙ all_cleared c.args.entries.now c.into_iter-path-iterator.result
    (subst (λ xs. IsPermutation xs (map.entries c.args.entries.now)) (sym c.into_iter-path-iterator.ensures.into_iter_gives) c.iter-path-items.ensures.entries)
