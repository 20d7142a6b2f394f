use Rattle.std.proofs.Common.{◌≡◌, true, false, rules, of_calls, ◌≤◌, length, subst, sym, T}
use Rattle.std.specs.List.Sorted.{IsPartitionPoint}
use Rattle.std.specs.FinMap.{is_sorted}
use Rattle.std.proofs.lemmas.Fn.{always_returns_same}
use Rattle.link_tree.specs.Trees.{path_cmp}
use Rattle.link_tree.proofs.Ends.{is_below, items_parted, taken_below, dropped_from}
use Rattle.link_tree.proofs.Spots.{holds}
use Rattle.link_tree.proofs.piece.Piece.place_of.Goals as goal

point : (c : goal.After-partition_point) → IsPartitionPoint (λ item. is_below c.args.path.now item ≡ true) (λ item. is_below c.args.path.now item ≡ false) c.args.self.now c.partition_point.result
point c =
    let path = c.args.path.now in
    subst (λ items. IsPartitionPoint (λ item. is_below path item ≡ true) (λ item. is_below path item ≡ false) items c.partition_point.result) c.items.ensures
    (c.partition_point.ensures.partitioned (is_below path) (always_returns_same _ _ _ (λ a r f called. search (rules, of_calls))) (items_parted path c.items.result.now (subst (λ items. T (is_sorted path_cmp items)) (sym c.items.ensures) (holds c.requires.sorted))))

pub returns-clause-below : goal.returns-clause-below
returns-clause-below c = taken_below c.args.path.now c.args.self.now c.partition_point.result (subst (λ items. c.partition_point.result ≤ length items) c.items.ensures c.partition_point.ensures.bound) (point c).0

pub returns-clause-from : goal.returns-clause-from
returns-clause-from c = dropped_from c.args.path.now c.args.self.now c.partition_point.result (point c).1
