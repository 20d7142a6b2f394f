use Rattle.std.proofs.Common.{◌≡◌, ◌↔◌, Some, sym, subst}
use Rattle.kept_log.specs.Runs.{HasRow}
use Rattle.kept_log.proofs.Walks.{has_row}
use Rattle.kept_log.proofs.runs.run_of_row.Goals as goal

pub returns-clause-both : goal.returns-clause-both
returns-clause-both c = λ run. subst (λ found. (found ≡ Some run) ↔ HasRow c.args.runs.now c.args.n run) (sym c.find_run.ensures) (has_row c.args.runs.now c.args.n run)
