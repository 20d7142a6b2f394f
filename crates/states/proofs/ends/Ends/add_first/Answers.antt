use Rattle.std.proofs.Common.{[], ◌∷◌, ◌++◌, ap, ◌∙◌}
use Rattle.std.specs.FinMap as map
use Rattle.states.proofs.Ended.{one_name_set}
use Rattle.states.proofs.ends.Ends.add_first.Goals as goal

pub returns : goal.returns
returns c =
    one_name_set c.self.inside.by_name.entries c.insert.new.self.entries c.args.from c.push.new.self c.in_ok-insert.ensures.updates.0
    ∙ ap (λ m. map.insert m c.args.from c.push.new.self) c.self.view_is
    ∙ ap (map.insert c.args.self.now c.args.from) (c.in_ok-push.ensures.ok ∙ ap (λ names. names ++ c.args.to ∷ []) c.none-ends.ensures)
