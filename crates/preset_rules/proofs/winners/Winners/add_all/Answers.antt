use Rattle.std.proofs.Common.{sym, ap, ◌∙◌, subst}
use Rattle.std.specs.Prelude.{IsPermutation}
use Rattle.std.specs.FinMap as map
use Rattle.preset_rules.proofs.WinnersFound.{added, get-added_all}
use Rattle.preset_rules.proofs.winners.Winners.add_all.Goals as goal

pub returns : goal.returns
returns c = λ name.
    ap (λ m. map.get m name) (ap (added c.args.place c.loop-path.self) (sym c.in-None.ensures.steps.0) ∙ c.loop-path.invariant)
    ∙ get-added_all c.args.place c.args.self.now c.args.presets.now _ (subst (λ xs. IsPermutation xs (map.entries c.args.presets.now)) (sym c.into_iter-path-iterator.ensures.into_iter_gives) c.iter-path-items.ensures.entries) name
