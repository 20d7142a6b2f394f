use Rattle.std.proofs.Common.{List, ◌++◌, map as list_map, All, sym, ◌∙◌, ap, subst}
use Rattle.std.specs.FinMap as map
use Rattle.std.proofs.lemmas.List.{append-nil}
use Rattle.std.proofs.lemmas.List.Elements.{All-head, All-tail}
use Rattle.tree_access.specs.declared.reading.Observation.{Observation}
use Rattle.tree_access.specs.Readings.{observed}
use Rattle.tree_access.specs.Seeing.{SeesTheSame}
use Rattle.tree_access.proofs.Gathered.{one_read}
use Rattle.tree_access.proofs.KeySets.{keys_again}
use Rattle.tree_access.proofs.keys.KeySet.read.Goals as goal

pub loop-key-init : goal.loop-key-init
loop-key-init c =
    let seen = observed c.args.tree.now in
    let all = c.into_iter-key-iterator.ensures.into_iter_gives.0 ∙ sym (keys_again c.self.inside.keys.keys c.into_iter-key-iterator.ensures.into_iter_gives.4) ∙ ap (λ these. map.keys these) c.self.view_is in
    (ap (λ (reading : List Observation). reading ++ list_map seen c.into_iter-key-iterator.result) c.none-reading.ensures, subst (All (SeesTheSame c.args.gathered.now c.args.tree.now)) (sym all) c.requires)

pub seen_among-requires : goal.seen_among-requires
seen_among-requires c =
    let Sees = SeesTheSame c.args.gathered.now c.args.tree.now in
    All-head Sees c.in-Some.key c.next.new.self (subst (All Sees) c.in-Some.ensures.steps c.loop-key.invariant.1)

pub loop-key-preserved : goal.loop-key-preserved
loop-key-preserved c =
    let Sees = SeesTheSame c.args.gathered.now c.args.tree.now in (
      one_read c.args.tree.now c.loop-key.reading c.push.new.self (list_map (observed c.args.tree.now) c.into_iter-key-iterator.result) c.in-Some.key c.in_ok-seen.seen c.loop-key.key-iterator c.next.new.self
          c.in_ok-push.ensures.ok c.in_ok-seen.ensures c.in-Some.ensures.steps c.loop-key.invariant.0,
      All-tail Sees c.in-Some.key c.next.new.self (subst (All Sees) c.in-Some.ensures.steps c.loop-key.invariant.1),
    )

pub returns : goal.returns
returns c =
    let seen = observed c.args.tree.now in
    sym (append-nil c.loop-key.reading)
    ∙ ap (λ left. c.loop-key.reading ++ list_map seen left) (sym c.in-None.ensures.steps.0)
    ∙ c.loop-key.invariant.0
    ∙ ap (list_map seen) (c.into_iter-key-iterator.ensures.into_iter_gives.0 ∙ sym (keys_again c.self.inside.keys.keys c.into_iter-key-iterator.ensures.into_iter_gives.4) ∙ ap (λ these. map.keys these) c.self.view_is)
