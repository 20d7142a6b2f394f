use Rattle.std.proofs.Common.{drop}
use Rattle.load_path.proofs.Steps.{Goes}
use Rattle.install_section.specs.Wanted.{all_wants}
use Rattle.install_section.proofs.wants.Wants.add_all.Given as goal

abbrev pub invariant-loop-unit : goal.invariant-loop-unit
invariant-loop-unit l =
    Goes l.tree l.cells (all_wants l.place l.skip (drop l.unit-index l.units) l.self) l.fn.cells (all_wants l.place l.skip l.units l.fn.self)
