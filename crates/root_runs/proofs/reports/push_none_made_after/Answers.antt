use Rattle.std.proofs.Common.{◌≡◌, ◌++◌, OnOk, codes, subst}
use Rattle.root_runs.specs.Reports.{refused_count}
use Rattle.root_runs.proofs.reports.push_none_made_after.Goals as goal

pub returns : goal.returns
returns c =
    subst (λ rows. OnOk c.push_none_made.result (c.push_none_made.new.out.items ≡ c.args.out.now.items ++ (codes "nothing was changed: " ++ refused_count rows (codes "\n"))))
    c.rows_after.ensures c.push_none_made.ensures
