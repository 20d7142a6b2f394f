use Rattle.std.proofs.Common.{◌++◌, ap, ◌∙◌}
use Rattle.kept_rows.specs.Others.{calls_of_others}
use Rattle.kept_rows.proofs.Leading.{make_changes}
use Rattle.kept_rows.proofs.others.calls_of_others.Goals as goal

pub returns-clause-lead : goal.returns-clause-lead
returns-clause-lead c =
    make_changes c.args.changes.now c.push_changes.new.calls.items
    (c.in_ok-push_changes.ensures ∙ ap (λ calls. calls ++ calls_of_others c.args.changes.now) c.new-calls.ensures.items)
