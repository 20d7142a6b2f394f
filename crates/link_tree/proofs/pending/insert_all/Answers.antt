use Rattle.std.proofs.Common.{rules, ◌≡◌, ℕ, Bool, true, false, List, ◌∷◌, Option, Some, None, All, refl, sym, ap, subst, ◌∙◌}
use Rattle.link_tree.specs.declared.pending.PendingEntry.{PendingEntry}
use Rattle.link_tree.specs.Trees.{Entries}
use Rattle.std.specs.Prelude.{is_some}
use Rattle.std.specs.FinMap as map
use Rattle.std.specs.Vec.Iter.{into_iter_items}
use Rattle.std.proofs.lemmas.List.{nil_from_length}
use Rattle.std.proofs.lemmas.List.Elements.{All-head, All-rest}
use Rattle.std.proofs.lemmas.List.Sorted.{All-permutation}
use Rattle.link_tree.specs.Pending.{IsAtSlot, sort_key}
use Rattle.link_tree.proofs.Flushing.{inserted, noted, inserted_as_read}
use Rattle.std.proofs.lemmas.Fn.{always_returns_same}
use Rattle.link_tree.proofs.Free.{slot_free}
use Rattle.link_tree.proofs.pending.insert_all.Goals as goal

pub loop-path-init : goal.loop-path-init
loop-path-init c = record {
  leads = refl;
  at_slots = subst (All IsAtSlot) (sym c.into_iter-path-iterator.ensures.into_iter_gives.0) (All-permutation IsAtSlot _ _ c.in_ok-sort_by_cached_key.ensures.permutation c.requires.slots);
}

pub insert-requires-clause-fits : goal.insert-requires-clause-fits
insert-requires-clause-fits c =
    let slots = subst (All IsAtSlot) c.in-Some.ensures.steps.0 c.loop-path.invariant.at_slots in
    (All-head IsAtSlot _ _ slots).1

pub insert-requires-clause-apart : goal.insert-requires-clause-apart
insert-requires-clause-apart c =
    let slots = subst (All IsAtSlot) c.in-Some.ensures.steps.0 c.loop-path.invariant.at_slots in
    slot_free c.loop-path.tree c.in-Some.field-0.path c.shape-in-loop-path.ensures (All-head IsAtSlot _ _ slots).0

-- one step, whether the path was taken or not
one_more : (taken : Option ℕ) (m new : Entries) (left rest : List PendingEntry) (a : PendingEntry) (t stood : Bool) → new ≡ map.insert m a.path a.entry → stood ≡ is_some (map.get m a.path) → stood ≡ t → left ≡ a ∷ rest → inserted (noted t taken a.number) new rest ≡ inserted taken m left
one_more taken m new left rest a t stood grown was test left_is =
    ap (λ x. inserted (noted t taken a.number) x rest) grown
    ∙ ap (λ s. inserted (noted s taken a.number) (map.insert m a.path a.entry) rest) (sym test ∙ was)
    ∙ ap (inserted taken m) (sym left_is)

pub loop-path-preserved : goal.loop-path-preserved
loop-path-preserved c = record {
  leads =
      one_more _ c.loop-path.tree c.insert.new.self _ _ c.in-Some.field-0 false c.in_ok-insert.field-0 c.in_ok-insert.ensures.ok c.in_ok-insert.ensures.stood c.if-branch.false c.in-Some.ensures.steps.0
      ∙ c.loop-path.invariant.leads;
  at_slots = All-rest IsAtSlot _ _ _ c.in-Some.ensures.steps.0 c.loop-path.invariant.at_slots;
}

pub loop-path-preserved-then-branch : goal.loop-path-preserved-then-branch
loop-path-preserved-then-branch c = record {
  leads =
      ap (λ (least : ℕ). inserted (Some least) c.insert.new.self (into_iter_items c.next.new.self)) c.earlier.ensures
      ∙ one_more c.loop-path.taken c.loop-path.tree c.insert.new.self _ _ c.in-Some.field-0 true c.in_ok-insert.field-0 c.in_ok-insert.ensures.ok c.in_ok-insert.ensures.stood c.if-branch.true c.in-Some.ensures.steps.0
      ∙ c.loop-path.invariant.leads;
  at_slots = All-rest IsAtSlot _ _ _ c.in-Some.ensures.steps.0 c.loop-path.invariant.at_slots;
}

pub returns : goal.returns
returns c =
    let left = c.loop-path.path-iterator in
    let none = nil_from_length (into_iter_items left) (sym left.rest.ok.0 ∙ c.in-None.ensures.steps.0) in
    inserted_as_read c.args.tree.now c.args.pending.items c.sort_by_cached_key.new.self.items c.loop-path.taken c.loop-path.tree c.shape.ensures c.requires.slots c.requires.rising (c.in_ok-sort_by_cached_key.ensures.stable (λ a. sort_key a.path) (always_returns_same _ (λ a r. r ≡ sort_key a.0.now.path) _ (λ a r f k. search rules)))
    (ap (inserted c.loop-path.taken c.loop-path.tree) (sym none) ∙ c.loop-path.invariant.leads ∙ ap (inserted None c.args.tree.now) c.into_iter-path-iterator.ensures.into_iter_gives.0)
